use Rattle.std.proofs.Common.{◌<◌, ℕ, List, length, sym, ap, subst, ◌∙◌, arith}
use Rattle.std.proofs.lemmas.List.{with_items_is}
use Rattle.xn_pool.specs.Trees.{IsTree, flags_of}
use Rattle.xn_pool.proofs.TreeFlags.{changed_tree, changed_flags, place_within, position_below}
use Rattle.xn_pool.proofs.bits.Bits.put.Goals as goal

pub overflow_add-place : goal.overflow_add-place
overflow_add-place c =
    let low : c.args.position < c.self.inside.count = position_below _ _ _ _ _ c.self.view_is c.requires in
    omega (arith, c.self.invariant.small, c.self.invariant.below)

pub set-requires-clause-within : goal.set-requires-clause-within
set-requires-clause-within c =
    let low : c.args.position < c.self.inside.count = position_below _ _ _ _ _ c.self.view_is c.requires in
    let within = place_within _ _ _ _ c.self.invariant low in
    omega (arith, ap length c.deref_mut.ensures.value, within)

pub invariant_of-self : goal.invariant_of-self
invariant_of-self c =
    let low : c.args.position < c.self.inside.count = position_below _ _ _ _ _ c.self.view_is c.requires in
    let written = with_items_is c.self.inside.words c.set.new.words (omega (arith, c.set.auto.words, c.deref_mut.ensures.len)) in
    subst (λ (words : List ℕ). IsTree words c.self.inside.first_leaf c.self.inside.count) (sym written)
    (changed_tree _ _ _ _ _ _ 1 c.deref_mut.ensures.value c.self.invariant low (c.set.ensures c.self.inside.first_leaf (omega arith)))

pub returns : goal.returns
returns c =
    let low : c.args.position < c.self.inside.count = position_below _ _ _ _ _ c.self.view_is c.requires in
    let written = with_items_is c.self.inside.words c.set.new.words (omega (arith, c.set.auto.words, c.deref_mut.ensures.len)) in
    ap (λ (words : List ℕ). flags_of words c.self.inside.first_leaf c.self.inside.count) written
    ∙ changed_flags _ _ _ _ _ _ 1 _ c.deref_mut.ensures.value c.self.invariant low c.self.view_is (c.set.ensures c.self.inside.first_leaf (omega arith))
