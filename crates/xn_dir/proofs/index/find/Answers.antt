use Rattle.std.proofs.Common.{ℕ, ◌*◌, sym, subst, ap, ◌∙◌}
use Rattle.std.proofs.lemmas.Bool.{both_ways}
use Rattle.std.proofs.lemmas.Bool.Decides.{Decides-eqb}
use Rattle.std.proofs.lemmas.Slice.Eq.{slice_eq-Decides}
use Rattle.xn_bytes.specs.Hashes.{name_hash_of}
use Rattle.xn_bytes.specs.DataBlock.{entries_among}
use Rattle.xn_data.specs.Viewed.{leaf_of, entry_of}
use Rattle.xn_dir.specs.Finding.{HasPlace}
use Rattle.xn_dir.proofs.Indexes.{Looks, looks_first, front_leaf, past_stale, no_entry, past_other, stands_found, looks_none}
use Rattle.xn_dir.proofs.index.find.Goals as goal

pub loop-address-init : goal.loop-address-init
loop-address-init c =
    subst (Looks c.args.first.now c.args.name.now) (sym c.into_iter-address-iterator.ensures.into_iter_gives)
    (looks_first c.args.first.now c.args.name.now c.name_hash.result _ (c.name_hash.ensures ∙ ap name_hash_of c.bytes.ensures.value) c.tail_with_hash-address-items.ensures.rising c.tail_with_hash-address-items.ensures.always)

pub loop-address-preserved-then-address-eq0 : goal.loop-address-preserved-then-address-eq0
loop-address-preserved-then-address-eq0 c =
    past_stale c.args.first.now c.args.name.now (leaf_of (c.in-Some.field-0-0, c.in-Some.address)) _ _ c.in-Some.ensures.steps c.if-address-eq0.true c.loop-address.invariant

pub index_fault-requires : goal.index_fault-requires
index_fault-requires c =
    let leaf = leaf_of (c.in-Some.field-0-0, c.in-Some.address) in
    no_entry c.args.first.now leaf c.requires.placed (front_leaf c.args.first.now c.args.name.now leaf _ _ c.in-Some.ensures.steps c.loop-address.invariant) c.if-address-eq0.false
    (subst (λ (n : ℕ). HasPlace (entries_among c.args.first.now.regions) (n * 8) → ⊥) c.from.ensures c.in_default.ensures)

pub returns-then-eq : goal.returns-then-eq
returns-then-eq c =
    let same = slice_eq-Decides Decides-eqb c.in-Some-standing_at.entry.name.now c.bytes-in-loop-address.result.now c.eq.result c.eq.ensures in
    let stands =
    stands_found c.args.first.now c.args.name.now (entry_of c.in-Some-standing_at.entry) c.in-Some-standing_at.ensures.0
    (same.0 c.if-eq.true ∙ c.bytes-in-loop-address.ensures.value) c.bytes.ensures.name in
    record { there = stands; none = λ f. absurd cc; fault = tt }

pub loop-address-preserved : goal.loop-address-preserved
loop-address-preserved c =
    let same = slice_eq-Decides Decides-eqb c.in-Some-standing_at.entry.name.now c.bytes-in-loop-address.result.now c.eq.result c.eq.ensures in
    let stands = c.in-Some-standing_at.ensures in
    past_other c.args.first.now c.args.name.now (leaf_of (c.in-Some.field-0-0, c.in-Some.address)) _ _ (entry_of c.in-Some-standing_at.entry) c.in-Some.ensures.steps stands.0
    (stands.1 ∙ ap (λ (n : ℕ). n * 8) c.from.ensures) (λ e. both_ways c.eq.result c.if-eq.false (same.1 (e ∙ sym c.bytes-in-loop-address.ensures.value))) c.loop-address.invariant

pub returns : goal.returns
returns c = record { there = tt; none = λ _. looks_none c.args.first.now c.args.name.now _ c.in-None.ensures.steps.0 c.loop-address.invariant; fault = tt }
