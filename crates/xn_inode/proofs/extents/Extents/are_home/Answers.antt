use Rattle.std.proofs.Common.{arith}
use Rattle.xn_bytes.proofs.TestLemmas.{holds, fails}
use Rattle.xn_inode.proofs.HomeLists.{one_more_home, one_not_home, mapped_home}
use Rattle.xn_inode.proofs.extents.Extents.are_home.Goals as goal

pub returns-then-not-is_home_run-clause-home : goal.returns-then-not-is_home_run-clause-home
returns-then-not-is_home_run-clause-home c = (
  λ no. absurd cc,
  λ all. absurd
      (one_not_home c.args.geometry.now c.loop-at.at c.args.self.now c.run-block.result.0 c.run-block.result.1 c.run-block.result.2
      (omega (arith, c.loop-at-test.true, c.count-at-end.ensures.count)) c.run-block.ensures.run (fails c.if-not-is_home_run.ensures) all),
)

pub loop-at-preserved : goal.loop-at-preserved
loop-at-preserved c =
    one_more_home c.args.geometry.now c.loop-at.at c.args.self.now c.run-block.result.0 c.run-block.result.1 c.run-block.result.2
    c.run-block.ensures.run (holds c.if-not-is_home_run.ensures) c.loop-at.invariant

pub returns-clause-blocks : goal.returns-clause-blocks
returns-clause-blocks c = λ is file_block block there.
    (mapped_home c.args.geometry.now c.args.self.now file_block block (λ i d below. c.loop-at.invariant i d (omega (arith, below, c.loop-at-test.false, c.count-at-end.ensures.count))) there).place
