use Rattle.std.proofs.Common.{◌+◌, ◌≡◌, ◌≤◌, true, cond, false, refl, sym, ap, ◌∙◌, arith}
use Rattle.std.specs.Prelude.{count_by}
use Rattle.std.proofs.lemmas.Bool.{eq-eqb, ne_eqb}
use Rattle.xn_bytes.specs.DataBlock.{LeafEntry, leaves_at}
use Rattle.xn_bytes.specs.HashedTree.{is_stale}
use Rattle.xn_leaf.proofs.Reading.{stale_step, none_left}
use Rattle.xn_leaf.proofs.read.stale_among.Goals as goal
use Rattle.xn_leaf.proofs.read.stale_among.Goals.{then-entry_in-eq0, else-entry_in-eq0}

pub loop-index-preserved : goal.loop-index-preserved
loop-index-preserved c =
    let bytes = c.args.block.now in
    let all = count_by is_stale (leaves_at c.args.count 64 bytes) in
    let leaf = c.entry_in.result in
    let address = ap (λ (one : LeafEntry). one.address) c.entry_in-in-loop-index.view_is in
    elim c.if-entry_in-eq0.branch [
      | then-entry_in-eq0 w ↦
          let stale : is_stale leaf ≡ true = eq-eqb leaf.address 0 (sym address ∙ w.if-entry_in-eq0.true) in
          let few : c.if-entry_in-eq0.stale ≤ c.loop-index.index + 1 = omega (arith, w.stale-is, c.loop-index.invariant.few) in
          let one : 1 ≡ cond (is_stale leaf) 1 0 = rw stale refl in
          record {
            few = few;
            so_far = rw w.stale-is (stale_step all c.loop-index.index c.args.count c.loop-index.stale 1 leaf bytes c.loop-index-test.true c.entry_in.ensures one c.loop-index.invariant.so_far);
          }
      | else-entry_in-eq0 w ↦
          let live : is_stale leaf ≡ false = ne_eqb leaf.address 0 (λ none. w.if-entry_in-eq0.false (address ∙ none)) in
          let few : c.if-entry_in-eq0.stale ≤ c.loop-index.index + 1 = omega (arith, w.stale-is, c.loop-index.invariant.few) in
          let same : c.if-entry_in-eq0.stale ≡ c.loop-index.stale + 0 = omega (arith, w.stale-is) in
          let zero : 0 ≡ cond (is_stale leaf) 1 0 = rw live refl in
          record {
            few = few;
            so_far = rw same (stale_step all c.loop-index.index c.args.count c.loop-index.stale 0 leaf bytes c.loop-index-test.true c.entry_in.ensures zero c.loop-index.invariant.so_far);
          }
    ]

pub returns : goal.returns
returns c =
    let gone = ap (count_by is_stale) (none_left c.loop-index.index c.args.count c.args.block.now (omega arith)) in
    omega (arith, gone, c.loop-index.invariant.so_far)
