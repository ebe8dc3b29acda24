use Rattle.std.proofs.Common.{◌∙◌, arith, refl, sym}
use Rattle.std.proofs.lemmas.Option.{IfSome_then}
use Rattle.xn_dir.specs.Hashed.{dir_fork}
use Rattle.xn_dir.proofs.Gatherings.{first_gathered, first_read, low_behind, no_dots}
use Rattle.xn_dir.proofs.gather.gather_first.Goals as goal

pub returns-in_err-block-clause-fetches : goal.returns-in_err-block-clause-fetches
returns-in_err-block-clause-fetches g c = first_read c.args.fork.now.extents _ _ c.in-Some.block (sym c.in-Some.ensures) (omega (arith, c.in_err-block.ensures.fetches))

pub returns-in_default-data_block-clause-fetches : goal.returns-in_default-data_block-clause-fetches
returns-in_default-data_block-clause-fetches g c = first_read c.args.fork.now.extents _ _ c.in-Some.block (sym c.in-Some.ensures) (omega (arith, c.in_ok-block.ensures.fetches))

pub returns-in_err-add-clause-fetches : goal.returns-in_err-add-clause-fetches
returns-in_err-add-clause-fetches g c = first_read c.args.fork.now.extents _ _ c.in-Some.block (sym c.in-Some.ensures) (omega (arith, c.in_ok-block.ensures.fetches))

pub returns-clause-fetches : goal.returns-clause-fetches
returns-clause-fetches g c = first_read c.args.fork.now.extents _ _ c.in-Some.block (sym c.in-Some.ensures) (omega (arith, c.in_ok-block.ensures.fetches))

pub returns-in_default-take_dots-clause-fetches : goal.returns-in_default-take_dots-clause-fetches
returns-in_default-take_dots-clause-fetches g c = first_read c.args.fork.now.extents _ _ c.in-Some.block (sym c.in-Some.ensures) (omega (arith, c.in_ok-block.ensures.fetches))

pub returns-in_default-take_dots-clause-fault : goal.returns-in_default-take_dots-clause-fault
returns-in_default-take_dots-clause-fault g c =
    let S = g.S.Store in
    let read = c.in_ok-block.ensures in
    let held = rw (c.geometry.ensures ∙ read.shape) at c.in-Some-data_block.ensures in
    rw c.no_data_block-in_default-take_dots.ensures (IfSome_then (S.image c.args.store.now) read.bytes
    (λ x shown. (
      refl,
      no_dots (dir_fork (S.shape c.args.store.now) c.args.fork.now x) c.in-Some.block c.in-Some-data_block.held c.entries-entries.result (sym c.in-Some.ensures) (rw shown at held.holds) c.entries-entries.ensures.entries c.in_default-take_dots.ensures,
    )))

pub add-requires-clause-listed : goal.add-requires-clause-listed
add-requires-clause-listed g c =
    low_behind _ c.in-Some-data_block.held c.entries-entries.result c.take_dots.new.entries c.in-Some-take_dots.field-0 c.in-Some-data_block.ensures.holds c.entries-entries.ensures.entries c.in-Some-take_dots.ensures

pub returns-clause-holds : goal.returns-clause-holds
returns-clause-holds g c =
    let S = g.S.Store in
    let read = c.in_ok-block.ensures in
    let held = rw (c.geometry.ensures ∙ read.shape) at c.in-Some-data_block.ensures in
    first_gathered (S.shape c.args.store.now) c.args.fork.now (S.image c.args.store.now) c.nothing-gathered.result c.add.new.gathered c.in-Some-data_block.held c.take_dots.new.entries c.in-Some-take_dots.field-0
    (rw c.entries-entries.ensures.entries at c.in-Some-take_dots.ensures) c.nothing-gathered.ensures c.in_ok-add.ensures.holds
    (IfSome_then (S.image c.args.store.now) read.bytes (λ x shown. (c.in-Some.block, sym c.in-Some.ensures, rw shown at held)))
