use Rattle.std.proofs.Common.{◌<◌, ◌+◌, ◌∷◌, ◌∙◌, List, ℕ, ap, sym, take, length, arith}
use Rattle.std.proofs.lemmas.Bool.Decides.{nat_tests}
use Rattle.std.proofs.lemmas.List.{take_rest}
use Rattle.xn_meaning.specs.Manifests.{lines_in}
use Rattle.xn_text.proofs.PartLemmas.{line_to, whole_line}
use Rattle.xn_text.proofs.parts.first_line.Goals as goal

pub returns-in-Some-clause-lines : goal.returns-in-Some-clause-lines
returns-in-Some-clause-lines c =
    line_to c.in-Some.at c.args.text.now c.in-Some.ensures
    ∙ ap (λ (rest : List ℕ). take c.in-Some.at c.args.text.now ∷ lines_in rest) (sym (take_rest c.args.text.now (c.in-Some.at + 1)))

pub returns-in-None-clause-lines : goal.returns-in-None-clause-lines
returns-in-None-clause-lines c =
    let some : 0 < length c.args.text.now = grind (arith, nat_tests, c.if-is_empty.ensures) in
    whole_line c.args.text.now some c.in-None.ensures
