use Rattle.std.proofs.Common.{ℕ, ◌<◌, get_or, sym, ap, ◌∙◌, arith}
use Rattle.xn_bytes.specs.Checksum.{register_after}
use Rattle.xn_bytes.proofs.Registers.{register_after-eight, of_eight}
use Rattle.xn_bytes.proofs.checksum.after_eight.Goals as goal

pub returns : goal.returns
returns c =
    let b = c.args.eight.now in
    let t = c.type_inv.eight in
    let byte : (i : ℕ) → get_or b i 0 < 256 = λ i. omega (arith, t i) in
    let low = c.to_le_bytes-low.ensures in
    let e0 = rw low at c.after_64.ensures in
    let e1 = rw low at c.after_56.ensures in
    let e2 = rw low at c.after_48.ensures in
    let e3 = rw low at c.after_40.ensures in
    rw (e0, e1, e2, e3, c.after_32.ensures, c.after_24.ensures, c.after_16.ensures, c.after_8.ensures)
    (sym (ap (register_after c.args.register) (of_eight b c.requires)
    ∙ register_after-eight c.args.register (get_or b 0 0) (get_or b 1 0) (get_or b 2 0) (get_or b 3 0) (get_or b 4 0) (get_or b 5 0) (get_or b 6 0) (get_or b 7 0)
    (omega arith) (byte 0) (byte 1) (byte 2) (byte 3) (byte 4) (byte 5) (byte 6) (byte 7)))
