use Rattle.std.proofs.Common.{◌∙◌, arith}
use Rattle.xn_bytes.proofs.TestLemmas.{holds, fails}
use Rattle.xn_inode.proofs.Runs.{found, outside, behind_all}
use Rattle.xn_inode.proofs.extents.Extents.block_at.Goals as goal

pub returns-in_err-run : goal.returns-in_err-run
returns-in_err-run c =
    c.from_residual.ensures
    ∙ behind_all _ _ _ _ (c.deref.ensures.value ∙ c.self.view_is) (c.place-at.ensures.maps _ (omega arith) c.place-at.ensures.behind) c.in_err-run.ensures.lookup.3

pub returns-then-holds : goal.returns-then-holds
returns-then-holds c =
    let in_run = holds c.if-holds.ensures in
    rw (← c.run.view_is) at (found _ _ _ _ c.in_ok-run.run'.now (c.deref.ensures.value ∙ c.self.view_is) (c.place-at.ensures.maps _ (omega arith) c.place-at.ensures.behind)
    c.in_ok-run.ensures.lookup.3.0 c.in_ok-run.ensures.lookup.1 in_run.0 in_run.1)

pub returns-else-holds : goal.returns-else-holds
returns-else-holds c =
    outside _ _ _ _ c.in_ok-run.run'.now (c.deref.ensures.value ∙ c.self.view_is) (c.place-at.ensures.maps _ (omega arith) c.place-at.ensures.behind)
    c.in_ok-run.ensures.lookup.3.0 c.in_ok-run.ensures.lookup.1 (fails c.if-holds.ensures)
