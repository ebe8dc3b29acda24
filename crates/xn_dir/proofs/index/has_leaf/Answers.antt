use Rattle.std.proofs.Common.{sym, subst, ◌∙◌}
use Rattle.xn_bytes.specs.DirectoryForms.{leaf_of}
use Rattle.xn_data.specs.Viewed as viewed
use Rattle.xn_dir.proofs.Seeking.{Seeks, seeks_first, seeks_on}
use Rattle.xn_dir.proofs.index.has_leaf.Goals as goal

pub loop-address-init : goal.loop-address-init
loop-address-init c =
    let target = leaf_of (viewed.entry_of c.args.entry.now) in
    subst (Seeks c.args.first.now.leaves target) (sym c.into_iter-address-iterator.ensures.into_iter_gives)
    (seeks_first c.args.first.now.leaves target c.name_hash.result _ c.name_hash.ensures c.requires.sorted c.tail_with_hash-address-items.ensures.rising c.tail_with_hash-address-items.ensures.always)

pub loop-address-preserved : goal.loop-address-preserved
loop-address-preserved c =
    seeks_on c.args.first.now.leaves (leaf_of (viewed.entry_of c.args.entry.now)) (viewed.leaf_of (c.in-Some.field-0-0, c.in-Some.address)) _ _ c.in-Some.ensures.steps
    (λ same. c.if-from-entry.false (c.from.ensures ∙ same)) c.loop-address.invariant
