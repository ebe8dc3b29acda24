use Rattle.std.proofs.Common.{List, subst, ◌∙◌}
use Rattle.xn_bytes.specs.Extents.{Run, AreRuns}
use Rattle.xn_inode.proofs.Lasts.{last_of, none_behind, some_in_front}
use Rattle.xn_inode.proofs.extents.Extents.end.Goals as goal

pub returns-in-Some-clause-behind : goal.returns-in-Some-clause-behind
returns-in-Some-clause-behind c =
    let rise : AreRuns 0 c.args.self.now = subst (λ (runs : List Run). AreRuns 0 runs) c.self.view_is c.self.invariant in
    let item = c.in-Some.ensures.item in
    none_behind _ _ _ (λ limit ends. last_of _ _ limit c.in-Some.run'.now rise (c.deref.ensures.value ∙ c.self.view_is) item.3.0 item.3.1 ends) c.end.ensures

pub returns-in-Some-clause-last : goal.returns-in-Some-clause-last
returns-in-Some-clause-last c =
    let rise : AreRuns 0 c.args.self.now = subst (λ (runs : List Run). AreRuns 0 runs) c.self.view_is c.self.invariant in
    let item = c.in-Some.ensures.item in
    λ some. some_in_front _ _ _ (λ limit ends. last_of _ _ limit c.in-Some.run'.now rise (c.deref.ensures.value ∙ c.self.view_is) item.3.0 item.3.1 ends) c.end.ensures
