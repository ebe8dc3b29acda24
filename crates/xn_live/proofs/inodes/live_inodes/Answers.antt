use Rattle.xn_live.proofs.Gathered.{gathered_all, gathered_more, next_small}
use Rattle.xn_live.proofs.inodes.live_inodes.Goals as goal

pub add_chunk-requires : goal.add_chunk-requires
add_chunk-requires c =
    let next = next_small c.args.geometry.now c.chunks-chunks.result.now c.loop-chunk.chunk-index _ c.loop-chunk.live.items c.loop-chunk-test.true c.loop-chunk.invariant in
    record { small = next.0; behind = next.1 }

pub loop-chunk-preserved : goal.loop-chunk-preserved
loop-chunk-preserved c =
    gathered_more c.args.geometry.now c.chunks-chunks.result.now c.loop-chunk.chunk-index _ c.loop-chunk.live.items c.add_chunk.new.live.items c.loop-chunk-test.true c.loop-chunk.invariant c.in_ok-add_chunk.ensures

pub returns : goal.returns
returns c =
    gathered_all c.args.geometry.now c.args.manifest.now c.loop-chunk.chunk-index c.loop-chunk.live.items
    (rw c.chunks-chunks.ensures.chunks at c.loop-chunk-test.false)
    (rw c.chunks-chunks.ensures.chunks at c.loop-chunk.invariant)
