use Rattle.std.proofs.Common.{◌≡◌, ◌∙◌, arith, length, ◌≤◌}
use Rattle.std.proofs.lemmas.Result.{err_from_is_err_and}
use Rattle.xn_data.proofs.Regions.{region_passed}
use Rattle.xn_data.proofs.Walk.{goes_on, stops, is_done, past_free, past_used, pairs_past}
use Rattle.xn_data.proofs.check.check_regions.Goals as goal
use Rattle.xn_data.proofs.check.check_regions.Goals.{then-behind_free, else-behind_free}

pub returns-in_err-size : goal.returns-in_err-size
returns-in_err-size c =
    let p = err_from_is_err_and c.from_residual.result c.from_residual.ensures.1 in
    rw (p.1, p.2) (stops _ _ _ _ _ _ _ c.loop-at.invariant c.loop-at-test.true c.in_err-size.ensures.fault)

pub overflow_add-at : goal.overflow_add-at
overflow_add-at c =
    let here = region_passed _ _ _ _ (omega arith) c.in_ok-size.ensures.fault in
    omega (arith, here.within, c.in_ok-size.ensures.length)

pub loop-at-smaller : goal.loop-at-smaller
loop-at-smaller c =
    let here = region_passed _ _ _ _ (omega arith) c.in_ok-size.ensures.fault in
    omega (arith, here.within, here.some, c.in_ok-size.ensures.length)

pub loop-at-preserved : goal.loop-at-preserved
loop-at-preserved c =
    let past : c.if-behind_free.pairs ≡ pairs_past c.is_free-behind_free.result c.loop-at.at c.loop-at.pairs c.args.bytes.now =
    elim c.if-behind_free.branch [
      | then-behind_free w ↦ past_free _ _ _ _ _ _ w.if-behind_free.true c.is_free-behind_free.ensures c.in_ok-size.ensures.length (w.pairs-is ∙ w.weigh.ensures)
      | else-behind_free w ↦ past_used _ _ _ _ _ w.if-behind_free.false w.pairs-is
    ] in
    let whole : c.args.end ≤ length c.args.bytes.now = omega arith in
    goes_on _ _ _ _ _ _ _ _ _ c.loop-at.invariant whole c.loop-at-test.true c.in_ok-size.ensures.fault c.in_ok-size.ensures.length c.is_free-behind_free.ensures past

pub returns : goal.returns
returns c = rw (is_done _ _ _ _ _ _ c.loop-at.invariant c.loop-at-test.false) c.check.ensures
