use Rattle.std.proofs.Common.{◌≡◌, ◌∙◌, ◌+◌, ◌%◌, ap, arith}
use Rattle.xn_log.specs.declared.outline.Outline.{Outline}
use Rattle.xn_ring.specs.Chains.{lsn_told}
use Rattle.xn_ring.proofs.Places.{none_behind, listed}
use Rattle.xn_ring.proofs.chain.follower.Goals as goal

pub returns-else-lsn : goal.returns-else-lsn
returns-else-lsn c =
    let found = c.in_ok-at.ensures in
    let first : Outline = c.args.outline.now in
    let beside : found.0.sector ≡ (first.sector + first.sectors) % c.args.ring_sectors = cc found.2 in
    let read : c.lsn-2.result ≡ lsn_told found.0 = c.lsn-2.ensures ∙ ap lsn_told (found.1.same _) in
    none_behind c.args.ring_sectors c.args.outlines.now first found.0 c.requires.by_sector (listed _ _ _ found.1) beside (omega arith)
