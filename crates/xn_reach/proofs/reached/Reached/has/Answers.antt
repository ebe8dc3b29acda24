use Rattle.std.proofs.Common.{◌∙◌, sym, subst, Contains, IsTrue, ◌↔◌, List, ℕ}
use Rattle.xn_reach.proofs.StepEnds.{has_from_test, test_from_has}
use Rattle.xn_reach.proofs.reached.Reached.has.Goals as goal

pub returns : goal.returns
returns c = subst (λ (numbers : List ℕ). IsTrue c.contains.result ↔ Contains numbers c.args.number) c.self.view_is (λ h. has_from_test c.self.inside.numbers c.args.number (sym c.contains.ensures ∙ h), λ has. c.contains.ensures ∙ test_from_has c.self.inside.numbers c.args.number has)
