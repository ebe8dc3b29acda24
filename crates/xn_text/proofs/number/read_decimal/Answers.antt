use Rattle.std.proofs.Common.{subst, sym, ◌∙◌}
use Rattle.xn_bytes.proofs.TestLemmas.{holds, fails}
use Rattle.xn_text.specs.Numbers.{HasPlainFront}
use Rattle.xn_text.proofs.NumberLemmas.{parsed, decimal_front}
use Rattle.xn_text.proofs.number.read_decimal.Goals as goal

pub returns-then-not-has_plain_front : goal.returns-then-not-has_plain_front
returns-then-not-has_plain_front c = λ n small same.
    fails c.if-not-has_plain_front.ensures (subst HasPlainFront (sym (c.as_bytes.ensures.value ∙ same)) (decimal_front n small))

pub returns : goal.returns
returns c = rw c.ok.ensures.value
    (parsed c.args.text.now c.parse.result c.parse.ensures.value.0 (subst HasPlainFront c.as_bytes.ensures.value (holds c.if-not-has_plain_front.ensures)))
