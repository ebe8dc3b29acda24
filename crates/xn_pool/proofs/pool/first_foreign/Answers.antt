use Rattle.std.proofs.Common.{ℕ, get_or, arith}
use Rattle.std.proofs.lemmas.List.{get_or_default}
use Rattle.xn_bytes.proofs.TestLemmas.{holds, fails}
use Rattle.xn_pool.proofs.HomeRuns.{run_fits, one_more_home, first_foreign}
use Rattle.xn_pool.proofs.pool.first_foreign.Goals as goal

pub is_home_run-requires : goal.is_home_run-requires
is_home_run-requires c =
    let none : ℕ × ℕ = (0, 0) in
    omega (arith, run_fits c.args.runs.now 0 c.loop-at.at none c.requires c.loop-at-test.true)

pub returns-then-not-is_home_run : goal.returns-then-not-is_home_run
returns-then-not-is_home_run c =
    let none : ℕ × ℕ = (0, 0) in
    let run : ℕ × ℕ = get_or c.args.runs.now c.loop-at.at none in
    first_foreign c.args.geometry.now c.args.runs.now c.loop-at.at run c.loop-at-test.true (get_or_default c.args.runs.now c.loop-at.at none run c.loop-at-test.true) (fails c.if-not-is_home_run.ensures) c.loop-at.invariant

pub loop-at-preserved : goal.loop-at-preserved
loop-at-preserved c =
    let none : ℕ × ℕ = (0, 0) in
    let run : ℕ × ℕ = get_or c.args.runs.now c.loop-at.at none in
    one_more_home c.args.geometry.now c.args.runs.now c.loop-at.at run c.loop-at-test.true (get_or_default c.args.runs.now c.loop-at.at none run c.loop-at-test.true) (holds c.if-not-is_home_run.ensures) c.loop-at.invariant
