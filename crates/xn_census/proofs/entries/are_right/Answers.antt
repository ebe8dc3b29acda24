use Rattle.std.proofs.Common.{ℕ, sym, ◌∙◌, subst, below_more, get_or}
use Rattle.std.proofs.lemmas.List.{get_or_default}
use Rattle.xn_dir.specs.declared.listing.Listed.{Listed}
use Rattle.xn_dir.specs.Listings.{entry_of}
use Rattle.xn_census.specs.SortedOut.{RightBy}
use Rattle.xn_census.proofs.entries.are_right.Goals as goal

pub returns-then-not-is_right : goal.returns-then-not-is_right
returns-then-not-is_right c = (
  λ no. absurd (cc),
  λ all.
      let listed = c.entry-item.result in
      let right = subst (λ (one : Listed). RightBy c.args.nodes.now (entry_of one)) (sym c.entry-item.is) (all c.loop-entry.entry-index listed c.loop-entry-test.true) in
      let yes = c.is_right.ensures.1 right in
      absurd (cc),
)

pub loop-entry-preserved : goal.loop-entry-preserved
loop-entry-preserved c = λ k d low.
    let nodes = c.args.nodes.now in
    let entries = c.args.entries.now in
    let at = c.loop-entry.entry-index in
    let here = c.is_right.ensures.0 c.if-not-is_right.false in
    below_more (λ (k : ℕ). (d : Listed) → RightBy nodes (entry_of (get_or entries k d))) at (λ k low d. c.loop-entry.invariant k d low)
    (λ d. subst (λ (one : Listed). RightBy nodes (entry_of one)) (c.entry-item.is ∙ get_or_default entries at c.entry-item.result d c.loop-entry-test.true) here) k low d
