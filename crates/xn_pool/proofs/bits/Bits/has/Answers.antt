use Rattle.std.proofs.Common.{◌<◌, ℕ, List, Bool, Some, length, sym, ap, ◌∙◌, arith}
use Rattle.std.specs.Prelude.{slice_get}
use Rattle.xn_pool.specs.Trees.{flag_of}
use Rattle.xn_pool.proofs.TreeFlags.{slice_get-flags_of, flag_tested, place_within, position_below}
use Rattle.xn_pool.proofs.bits.Bits.has.Goals as goal

pub overflow_add-self-inside : goal.overflow_add-self-inside
overflow_add-self-inside c =
    let low : c.args.position < c.self.inside.count = position_below _ _ _ _ _ c.self.view_is c.requires in
    omega (arith, c.self.invariant.small, c.self.invariant.below)

pub is_marked-requires : goal.is_marked-requires
is_marked-requires c =
    let low : c.args.position < c.self.inside.count = position_below _ _ _ _ _ c.self.view_is c.requires in
    let within = place_within _ _ _ _ c.self.invariant low in
    omega (arith, ap length c.deref.ensures.value, within)

pub returns : goal.returns
returns c =
    let low : c.args.position < c.self.inside.count = position_below _ _ _ _ _ c.self.view_is c.requires in
    ap (λ (flags : List Bool). slice_get flags c.args.position) (sym c.self.view_is)
    ∙ slice_get-flags_of _ _ _ _ low
    ∙ ap Some
    (ap (λ (words : List ℕ). flag_of words c.self.inside.first_leaf c.args.position) (sym c.deref.ensures.value)
    ∙ flag_tested _ _ _ _ c.is_marked.ensures)
