use Rattle.std.proofs.Common.{refl, ◌∙◌}
use Rattle.xn_bytes.proofs.TestLemmas.{holds, fails}
use Rattle.xn_data.specs.Viewed.{entry_of}
use Rattle.xn_dir.proofs.Indexes.{matches_first, matches_on, none_left_for, missing}
use Rattle.xn_dir.proofs.index.is_indexed.Goals as goal
use Rattle.xn_dir.proofs.index.is_indexed.Goals.{then-live-eq0-via-then-live-eq0, then-live-eq0-via-else-live-eq0+then-not-has_leaf}

pub loop-entry-init : goal.loop-entry-init
loop-entry-init c =
    matches_first c.args.first.now _ c.leaf_count.result c.stale.result _ c.requires.tail c.requires.placed c.leaf_count.ensures c.stale.ensures refl
    (c.into_iter-entry-iterator.ensures.into_iter_gives ∙ c.entries-entry-items.ensures.entries)

pub returns-then-live-eq0 : goal.returns-then-live-eq0
returns-then-live-eq0 c = (
  λ f. absurd cc,
  λ index. elim c.then-live-eq0.branch [
    | then-live-eq0-via-then-live-eq0 w ↦
        absurd (none_left_for c.args.first.now c.loop-entry.live (entry_of c.in-Some.entry) _ _ c.in-Some.ensures.steps w.if-live-eq0.true c.loop-entry.invariant index)
    | then-live-eq0-via-else-live-eq0+then-not-has_leaf w ↦
        absurd (missing c.args.first.now c.loop-entry.live (entry_of c.in-Some.entry) _ _ c.in-Some.ensures.steps (fails w.if-not-has_leaf.ensures) c.loop-entry.invariant index)
  ],
)

pub loop-entry-preserved : goal.loop-entry-preserved
loop-entry-preserved c =
    matches_on c.args.first.now c.loop-entry.live (entry_of c.in-Some.entry) _ _ c.in-Some.ensures.steps c.if-live-eq0.false (holds c.if-not-has_leaf.ensures) c.loop-entry.invariant
