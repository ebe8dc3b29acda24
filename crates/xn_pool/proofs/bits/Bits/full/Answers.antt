use Rattle.std.proofs.Common.{◌+◌, ◌*◌, ◌<◌, ℕ, List, sym, subst, arith, rules}
use Rattle.std.proofs.lemmas.List.{with_items_is}
use Rattle.xn_pool.specs.Marks.{AreSummed, IsLeafFilled}
use Rattle.xn_pool.proofs.LeafFills.{AreFilled, none_filled, one_more_filled, filled_tree, filled_flags}
use Rattle.xn_pool.proofs.bits.Bits.full.Goals as goal

pub loop-leaf-init : goal.loop-leaf-init
loop-leaf-init c =
    none_filled _ (c.first_leaf_of-first_leaf.result + c.div_ceil-leaves.result) _ _ (c.in_ok-words.ensures.items_if_clones_equal (λ y h. search rules)) (omega (arith, c.div_ceil-leaves.ensures)) c.first_leaf_of-first_leaf.ensures.room

pub loop-leaf-preserved : goal.loop-leaf-preserved
loop-leaf-preserved c =
    let first : ℕ = c.first_leaf_of-first_leaf.result in
    let leaf : ℕ = c.loop-leaf.leaf in
    let low : 64 * leaf < c.args.count = omega (arith, c.loop-leaf-test.true, c.div_ceil-leaves.ensures) in
    let written = with_items_is c.loop-leaf.words c.fill.new.words (omega (arith, c.fill.auto.words, c.deref_mut.ensures.len)) in
    let filled = c.fill.ensures first (omega arith) (subst (λ (words : List ℕ). AreSummed first words) (sym c.deref_mut.ensures.value) c.loop-leaf.invariant.summed) in
    subst (λ (words : List ℕ). AreFilled words first c.args.count (leaf + 1)) (sym written)
    (one_more_filled c.loop-leaf.words.items c.fill.new.words first c.args.count leaf c.min.result c.loop-leaf.invariant low c.min.ensures
    (subst (λ (words : List ℕ). IsLeafFilled first words c.fill.new.words (first + leaf) c.min.result) c.deref_mut.ensures.value filled))

pub invariant_of-result : goal.invariant_of-result
invariant_of-result c = filled_tree _ _ _ _ c.loop-leaf.invariant c.first_leaf_of-first_leaf.ensures.level c.first_leaf_of-first_leaf.ensures.small c.requires

pub returns : goal.returns
returns c = filled_flags _ _ _ _ c.loop-leaf.invariant (omega (arith, c.loop-leaf-test.false, c.div_ceil-leaves.ensures))
