use Rattle.std.proofs.Common.{arith, ◌∙◌}
use Rattle.xn_make.proofs.SampleManifests.{chunks_more, is_manifest, manifest_is}
use Rattle.xn_make.proofs.samples.manifest.Goals as goal

pub loop-place-init : goal.loop-place-init
loop-place-init c = record { chunks = c.new-chunks.ensures.items }

pub loop-place-preserved : goal.loop-place-preserved
loop-place-preserved c = record { chunks = chunks_more c.loop-place.place c.from.result c.loop-place.chunks.items c.push.new.self.items c.loop-place.invariant.chunks c.from.ensures c.in_ok-push.ensures.items }

pub new-requires : goal.new-requires
new-requires c =
    is_manifest c.args.inodes c.args.pool c.loop-place.place c.from-2.result c.from-3.result c.loop-place.chunks.items c.in_ok-runs.runs.items
    c.requires.fit c.requires.pool c.requires.pool_fits (omega arith) c.from-2.ensures c.from-3.ensures c.loop-place.invariant.chunks c.in_ok-runs.ensures.items

pub returns : goal.returns
returns c = c.new.ensures ∙ manifest_is c.args.inodes c.args.pool c.loop-place.place c.from-2.result c.from-3.result c.loop-place.chunks.items c.in_ok-runs.runs.items
    (omega arith) c.from-2.ensures c.from-3.ensures c.loop-place.invariant.chunks c.in_ok-runs.ensures.items
