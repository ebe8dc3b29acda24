use Rattle.std.proofs.Common.{◌∙◌}
use Rattle.std.proofs.lemmas.List.{take_rest}
use Rattle.xn_attrleaf.proofs.ShortEnds.{goes_on, stops, is_done}
use Rattle.xn_attrleaf.proofs.short_check.end_of_attributes.Goals as goal

pub returns-in_err-at : goal.returns-in_err-at
returns-in_err-at c = c.from_residual.ensures ∙ stops _ c.loop.counter c.loop.at c.args.fork.now _ c.loop-test.true c.loop.invariant (take_rest c.args.fork.now c.loop.at) c.in_err-at.ensures

pub loop-preserved : goal.loop-preserved
loop-preserved c = goes_on _ c.loop.counter c.loop.at c.in_ok-at.field-0 c.args.fork.now _ c.loop-test.true c.loop.invariant (take_rest c.args.fork.now c.loop.at) c.in_ok-at.ensures

pub returns : goal.returns
returns c = is_done _ c.loop.counter c.loop.at c.args.fork.now c.loop-test.false c.loop.invariant
