use Rattle.std.proofs.Common.{ℕ, sym, ap, ◌∙◌, refl, arith}
use Rattle.std.specs.Prelude.{bit_xor}
use Rattle.std.proofs.lemmas.Grind.{and_numeral}
use Rattle.xn_bytes.specs.Checksum.{bit_steps}
use Rattle.xn_bytes.proofs.Registers.{byte_step_looked_up}
use Rattle.xn_bytes.proofs.checksum.after_byte.Goals as goal

pub returns : goal.returns
returns c =
    sym (byte_step_looked_up c.args.register c.args.byte c.after_8.result (omega arith)
    (c.after_8.ensures ∙ ap (λ (n : ℕ). bit_steps 8 (bit_xor n c.args.byte)) (and_numeral c.args.register 254 refl)))
