use Rattle.std.proofs.Common.{◌≡◌, true, ◌+◌, ◌*◌, ◌/◌, eqb, length, take, refl, arith}
use Rattle.std.proofs.lemmas.Bool.Decides.{nat_tests}
use Rattle.xn_transactions.proofs.NameTexts.{name_text_from_name}
use Rattle.xn_transactions.proofs.parent.parent_in.Goals as goal

pub returns-in-Ok : goal.returns-in-Ok
returns-in-Ok c =
    let text = name_text_from_name (take c.args.length c.args.name.now) c.in-Ok.ensures.1 in
    let size : eqb (length c.args.name.now) ((c.args.length + 3) / 4 * 4) ≡ true = grind (arith, nat_tests) in
    let value : eqb (length c.args.value.now) 12 ≡ true = grind (arith, nat_tests) in
    rw (size, text, value, c.u64_at.ensures, c.u32_at.ensures, c.in-Ok.ensures.0) refl
