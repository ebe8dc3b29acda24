use Rattle.std.proofs.Common.{◌∙◌, refl, sym, inl}
use Rattle.std.proofs.lemmas.Option.{IfSome_then}
use Rattle.xn_dir.proofs.LeafEntries.{few_in_leaf}
use Rattle.xn_dir.proofs.leaves.read_single_leaf.Goals as goal

pub returns-in-Ok-Some-clause-few : goal.returns-in-Ok-Some-clause-few
returns-in-Ok-Some-clause-few g c =
    let is = rw c.in-Ok-Some.field-0-is at c.in-Ok-Some.ensures in
    few_in_leaf _ _ _ _ c.in-Ok-Some.leaf.live.items is.0

pub returns-in-Ok-None-clause-fault : goal.returns-in-Ok-None-clause-fault
returns-in-Ok-None-clause-fault g c =
    let read = c.in_ok-block.ensures in
    let wrong = rw (c.in-Ok-None.field-0-is, c.geometry.ensures ∙ read.shape) at c.in-Ok-None.ensures in
    IfSome_then (g.S.Store.image c.args.store.now) read.bytes (λ x shown. (refl, inl (c.requires.leaf_form, sym c.in-Some.ensures, rw shown at wrong)))
