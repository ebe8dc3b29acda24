use Rattle.std.proofs.Common.{List, ℕ, subst}
use Rattle.xn_pool.specs.Marks.{IsFirstOf}
use Rattle.xn_pool.proofs.Descents.{at_root, descended, least_found}
use Rattle.xn_pool.proofs.bits.Bits.least.Goals as goal

pub loop-start-init : goal.loop-start-init
loop-start-init c = at_root _ _ _ _ c.self.invariant c.self.view_is c.requires

pub loop-start-preserved : goal.loop-start-preserved
loop-start-preserved c =
    descended _ _ _ _ _ _ c.self.invariant c.loop-start.invariant c.loop-start-test.true
    (subst (λ (words : List ℕ). IsFirstOf words c.loop-start.word c.first_of-word.result) c.deref.ensures.value c.first_of-word.ensures)

pub returns : goal.returns
returns c =
    least_found _ _ _ _ _ _ _ c.self.invariant c.self.view_is c.loop-start.invariant c.loop-start-test.false
    (subst (λ (words : List ℕ). IsFirstOf words c.loop-start.word c.first_of.result) c.deref-2.ensures.value c.first_of.ensures)
