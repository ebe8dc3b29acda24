use Rattle.std.proofs.Common.{sym, ◌∙◌, refl, inl, inr}
use Rattle.std.proofs.lemmas.Bool.{both_ways}
use Rattle.std.proofs.lemmas.Bool.Decides.{Decides-eqb}
use Rattle.std.proofs.lemmas.Option.{IfSome_then}
use Rattle.std.proofs.lemmas.Slice.Eq.{slice_eq-Decides}
use Rattle.xn_data.specs.Viewed.{entry_of}
use Rattle.xn_dir.specs.Hashed.{dir_fork}
use Rattle.xn_dir.proofs.Following.{every, unmapped_leads_nowhere, empty_leads_nowhere, no_data, found_in, leads_elsewhere}
use Rattle.xn_dir.proofs.hashed_form.follow.Goals as goal

pub returns-in_default-clause-fault : goal.returns-in_default-clause-fault
returns-in_default-clause-fault g c =
    let S = g.S.Store in
    rw c.of_rule.ensures (every (S.image c.args.store.now) _ (λ x. inr (
      refl,
      refl,
      unmapped_leads_nowhere (dir_fork (S.shape c.args.store.now) c.args.fork.now x) c.args.leaf (sym (rw c.number_of-number.ensures.number at c.in_default.ensures)),
    )))

pub returns-in_default-data_block-clause-fault : goal.returns-in_default-data_block-clause-fault
returns-in_default-data_block-clause-fault g c =
    let S = g.S.Store in
    let read = c.in_ok-block.ensures in
    let wrong = rw (c.geometry.ensures ∙ read.shape) at c.in_default-data_block.ensures in
    IfSome_then (S.image c.args.store.now) read.bytes
    (λ x shown. inl (refl, (c.number_of-number.result, no_data (dir_fork (S.shape c.args.store.now) c.args.fork.now x) c.number_of-number.result c.in-Some.block c.number_of-number.ensures.small (sym c.in-Some.ensures) (rw shown at wrong))))

pub returns-in_default-standing_at-clause-fault : goal.returns-in_default-standing_at-clause-fault
returns-in_default-standing_at-clause-fault g c =
    let S = g.S.Store in
    let read = c.in_ok-block.ensures in
    let holds = rw (c.geometry.ensures ∙ read.shape) at c.in-Some-data_block.ensures in
    rw c.of_rule-in_default-standing_at.ensures (IfSome_then (S.image c.args.store.now) read.bytes
    (λ x shown. inr (
      refl,
      refl,
      empty_leads_nowhere (dir_fork (S.shape c.args.store.now) c.args.fork.now x) c.args.leaf c.in-Some.block c.in-Some-data_block.held (sym (rw c.number_of-number.ensures.number at c.in-Some.ensures))
          (rw shown at holds.holds) (rw c.place_of.ensures at c.in_default-standing_at.ensures),
    )))

pub returns-then-eq-clause-there : goal.returns-then-eq-clause-there
returns-then-eq-clause-there g c =
    let S = g.S.Store in
    let read = c.in_ok-block.ensures in
    let holds = rw (c.geometry.ensures ∙ read.shape) at c.in-Some-data_block.ensures in
    let same = slice_eq-Decides Decides-eqb c.in-Some-standing_at.entry.name.now c.bytes.result.now c.eq.result c.eq.ensures in
    IfSome_then (S.image c.args.store.now) read.bytes
    (λ x shown. found_in (dir_fork (S.shape c.args.store.now) c.args.fork.now x) c.number_of-number.result c.in-Some.block c.in-Some-data_block.held (entry_of c.in-Some-standing_at.entry) c.args.name.now c.placed_entry.result
    c.number_of-number.ensures.small (sym c.in-Some.ensures) (rw shown at holds) c.in-Some-standing_at.ensures.0 (same.0 c.if-eq.true ∙ c.bytes.ensures.value) c.placed_entry.ensures)

pub returns-else-eq-clause-none : goal.returns-else-eq-clause-none
returns-else-eq-clause-none g c =
    let S = g.S.Store in
    let read = c.in_ok-block.ensures in
    let holds = rw (c.geometry.ensures ∙ read.shape) at c.in-Some-data_block.ensures in
    let same = slice_eq-Decides Decides-eqb c.in-Some-standing_at.entry.name.now c.bytes.result.now c.eq.result c.eq.ensures in
    let stands = c.in-Some-standing_at.ensures in
    λ _. IfSome_then (S.image c.args.store.now) read.bytes
    (λ x shown. leads_elsewhere (dir_fork (S.shape c.args.store.now) c.args.fork.now x) c.args.name.now c.args.leaf c.in-Some.block c.in-Some-data_block.held (entry_of c.in-Some-standing_at.entry)
    (rw c.number_of-number.ensures.number at c.number_of-number.ensures.small) (sym (rw c.number_of-number.ensures.number at c.in-Some.ensures)) (rw shown at holds) stands.0
    (stands.1 ∙ c.place_of.ensures) (λ e. both_ways c.eq.result c.if-eq.false (same.1 (e ∙ sym c.bytes.ensures.value))))
