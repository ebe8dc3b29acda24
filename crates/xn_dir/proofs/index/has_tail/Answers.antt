use Rattle.std.proofs.Common.{inl, inr}
use Rattle.std.proofs.lemmas.Bool.{eqb-true}
use Rattle.std.proofs.lemmas.Bool.Decides.{eqb_tells}
use Rattle.xn_data.specs.Viewed.{leaf_of}
use Rattle.xn_dir.proofs.Tails.{falls, gone_over, some_missing}
use Rattle.xn_dir.proofs.index.has_tail.Goals as goal

pub returns-then-hash-least : goal.returns-then-hash-least
returns-then-hash-least c = (
  λ f. absurd cc,
  λ tail. absurd (falls c.args.first.now c.loop-hash.least c.loop-hash.stale (leaf_of (c.in-Some.hash, c.in-Some.address)) _ _ c.in-Some.ensures.steps c.if-hash-least.true c.loop-hash.invariant tail),
)

pub returns : goal.returns
returns c = (
  λ t. gone_over c.args.first.now c.loop-hash.least c.loop-hash.stale _ c.in-None.ensures.steps.0 (eqb-true _ _ t) c.loop-hash.invariant,
  λ tail. elim (eqb_tells c.loop-hash.stale 0) [
    | inl same ↦ same.0
    | inr other ↦ absurd (some_missing c.args.first.now c.loop-hash.least c.loop-hash.stale _ c.in-None.ensures.steps.0 other.1 c.loop-hash.invariant tail)
  ],
)
