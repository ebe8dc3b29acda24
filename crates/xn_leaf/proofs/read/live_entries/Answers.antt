use Rattle.std.proofs.Common.{◌≡◌, ◌++◌, true, false, List, refl, sym, ap, ◌∙◌, arith, rules}
use Rattle.std.specs.Prelude.{filter}
use Rattle.std.proofs.lemmas.Bool.{eq-eqb, ne_eqb}
use Rattle.std.proofs.lemmas.List.{append-nil}
use Rattle.xn_bytes.specs.Numbers.{number_at}
use Rattle.xn_bytes.specs.DataBlock.{LeafEntry}
use Rattle.xn_bytes.specs.HashedTree.{dir_leaves, is_live, is_stale}
use Rattle.xn_leaf.proofs.Reading.{live_pushed, stale_passed, none_left}
use Rattle.xn_leaf.proofs.read.live_entries.Goals as goal
use Rattle.xn_leaf.proofs.read.live_entries.Goals.{then-entry-ne0+in_ok-push, else-entry-ne0}

pub loop-index-preserved : goal.loop-index-preserved
loop-index-preserved c =
    let bytes = c.args.block.now in
    let all = filter is_live (dir_leaves bytes) in
    let leaf = c.entry_in-entry.result in
    let address = ap (λ (one : LeafEntry). one.address) c.entry.view_is in
    elim c.if-entry-ne0.branch [
      | then-entry-ne0+in_ok-push w ↦
          let live : is_stale leaf ≡ false = ne_eqb leaf.address 0 (λ zero. w.if-entry-ne0.true (address ∙ zero)) in
          live_pushed all c.loop-index.entries.items c.if-entry-ne0.entries.items c.loop-index.index (number_at 2 56 bytes) leaf bytes (omega (arith, c.count_in-index-end.ensures.count)) c.entry_in-entry.ensures (rw live refl) (search rules) c.loop-index.invariant
      | else-entry-ne0 w ↦
          let stale : is_stale leaf ≡ true = eq-eqb leaf.address 0 (sym address ∙ (omega (arith, w.if-entry-ne0.false))) in
          rw w.entries-is (stale_passed all c.loop-index.entries.items c.loop-index.index (number_at 2 56 bytes) leaf bytes (omega (arith, c.count_in-index-end.ensures.count)) c.entry_in-entry.ensures (rw stale refl) c.loop-index.invariant)
    ]

pub returns : goal.returns
returns c =
    let gone = none_left c.loop-index.index (number_at 2 56 c.args.block.now) c.args.block.now (omega (arith, c.count_in-index-end.ensures.count)) in
    sym (append-nil c.loop-index.entries.items) ∙ ap (λ (xs : List LeafEntry). c.loop-index.entries.items ++ filter is_live xs) (sym gone) ∙ c.loop-index.invariant
