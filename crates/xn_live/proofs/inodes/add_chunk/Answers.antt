use Rattle.std.proofs.Common.{◌<◌, arith}
use Rattle.xn_live.proofs.Added.{added_more}
use Rattle.xn_live.proofs.inodes.add_chunk.Goals as goal

pub loop-k-preserved : goal.loop-k-preserved
loop-k-preserved c =
    let small : c.loop-k.k < 64 = omega (arith, c.loop-k-test.true) in
    rw c.in_ok-push.ensures.items
    (added_more c.args.geometry.now c.args.chunk c.loop-k.k c.args.live.now.items c.loop-k.live.items small c.loop-k.invariant (c.is_live_at.ensures.0 c.if-not-is_live_at.false))
