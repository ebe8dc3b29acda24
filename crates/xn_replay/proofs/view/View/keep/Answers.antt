use Rattle.std.proofs.Common.{arith, rules}
use Rattle.xn_replay.proofs.Laying.{lays_more}
use Rattle.xn_replay.proofs.view.View.keep.Goals as goal

pub loop-k-preserved : goal.loop-k-preserved
loop-k-preserved c = record {
  others = search rules;
  laid = lays_more _ _ _ c.args.first c.loop-k.k c.args.bytes.now (omega arith) c.loop-k.invariant.laid c.in_ok-keep_one.ensures.ok;
}
