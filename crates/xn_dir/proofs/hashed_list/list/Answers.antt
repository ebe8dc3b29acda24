use Rattle.std.proofs.Common.{map, refl}
use Rattle.std.proofs.lemmas.Result.{err_from_is_err_and}
use Rattle.xn_bytes.specs.DirectoryRules.{BreaksHashed}
use Rattle.xn_dir.specs.Hashed.{dir_fork}
use Rattle.xn_dir.specs.Listings.{entry_of, name_of}
use Rattle.xn_dir.specs.Indexed.{BreaksIndex}
use Rattle.xn_dir.proofs.Collecting.{have_names}
use Rattle.xn_dir.proofs.BlockReads.{data_reads, list_reads}
use Rattle.xn_dir.proofs.HashedFaults.{fault_over}
use Rattle.xn_dir.proofs.ListOver.{ForGathered, index_breaks, names_break, list_holds}
use Rattle.xn_dir.proofs.GatheredHashes.{moved_hashes}
use Rattle.xn_dir.proofs.hashed_list.list.Goals as goal

pub returns-in_err-check_index-clause-fault : goal.returns-in_err-check_index-clause-fault
returns-in_err-check_index-clause-fault g c =
    let store = c.args.store.now in
    let S = g.S.Store in
    let T = dir_fork (S.shape store) c.args.fork.now in
    let gathered = c.in_ok-listed.field-0 in
    let read = c.in_ok-listed.ensures in
    let wanted = c.in_order-wanted.result.items in
    let moved = c.in_order-wanted.ensures.same in
    let p = err_from_is_err_and c.from_residual-in_err-check_index.result c.from_residual-in_err-check_index.ensures.1 in
    rw (p.1, p.2) (fault_over S (λ x rule block. ForGathered (T x) gathered wanted (λ first others. BreaksIndex (T x) first others rule block)) (λ x. BreaksHashed (T x)) store c.gather.new.store c.check_index.new.store c.in_err-check_index.field-0.0 read.stays
    (index_breaks (S.image store) T gathered wanted moved read.holds) (rw (read.stays.shape_stays, c.deref.ensures.value, c.deref-2.ensures.value) at c.in_err-check_index.ensures.fault))

pub returns-in_err-check_names-clause-fault : goal.returns-in_err-check_names-clause-fault
returns-in_err-check_names-clause-fault g c =
    let store = c.args.store.now in
    let S = g.S.Store in
    let T = dir_fork (S.shape store) c.args.fork.now in
    let gathered = c.in_ok-listed.field-0 in
    let read = c.in_ok-listed.ensures in
    let wanted = c.in_order-wanted.result.items in
    let moved = c.in_order-wanted.ensures.same in
    let p = err_from_is_err_and c.from_residual-in_err-check_names.result c.from_residual-in_err-check_names.ensures.1 in
    rw (p.1, p.2) (names_break S T gathered wanted store c.check_index.new.store c.in_err-check_names.field-0.0 moved read.holds
    (rw (read.stays.image_stays, read.stays.shape_stays, c.deref.ensures.value, c.deref-2.ensures.value) at c.in_ok-check_index.ensures.right) (rw c.deref-3.ensures.value at c.in_err-check_names.ensures))

pub returns-clause-holds : goal.returns-clause-holds
returns-clause-holds g c =
    let store = c.args.store.now in
    let S = g.S.Store in
    let T = dir_fork (S.shape store) c.args.fork.now in
    let gathered = c.in_ok-listed.field-0 in
    let read = c.in_ok-listed.ensures in
    let wanted = c.in_order-wanted.result.items in
    let moved = c.in_order-wanted.ensures.same in
    list_holds (S.image store) T gathered wanted moved read.holds (rw (read.stays.image_stays, read.stays.shape_stays, c.deref.ensures.value, c.deref-2.ensures.value) at c.in_ok-check_index.ensures.right) c.in_ok-check_names.ensures.0

pub returns-clause-names : goal.returns-clause-names
returns-clause-names g c =
    let gathered = c.in_ok-listed.field-0 in
    have_names (map entry_of gathered.listed.items) gathered.listed.items (refl, c.in_ok-listed.ensures.names c.in_ok-check_names.ensures.0) (rw c.deref-3.ensures.value at c.in_ok-check_names.ensures.1)

pub returns-in_err-listed-clause-fetches : goal.returns-in_err-listed-clause-fetches
returns-in_err-listed-clause-fetches g c = data_reads c.args.fork.now.extents (g.S.Store.fetches c.args.store.now) (g.S.Store.fetches c.gather.new.store) c.in_err-listed.ensures.fetches

pub returns-in_err-check_index-clause-fetches : goal.returns-in_err-check_index-clause-fetches
returns-in_err-check_index-clause-fetches g c = list_reads c.args.fork.now.extents (g.S.Store.fetches c.args.store.now) (g.S.Store.fetches c.gather.new.store) (g.S.Store.fetches c.check_index.new.store) c.in_ok-listed.ensures.fetches c.in_err-check_index.ensures.fetches

pub returns-in_err-check_names-clause-fetches : goal.returns-in_err-check_names-clause-fetches
returns-in_err-check_names-clause-fetches g c = list_reads c.args.fork.now.extents (g.S.Store.fetches c.args.store.now) (g.S.Store.fetches c.gather.new.store) (g.S.Store.fetches c.check_index.new.store) c.in_ok-listed.ensures.fetches c.in_ok-check_index.ensures.fetches

pub returns-clause-fetches : goal.returns-clause-fetches
returns-clause-fetches g c = list_reads c.args.fork.now.extents (g.S.Store.fetches c.args.store.now) (g.S.Store.fetches c.gather.new.store) (g.S.Store.fetches c.check_index.new.store) c.in_ok-listed.ensures.fetches c.in_ok-check_index.ensures.fetches

pub check_names-requires-clause-among : goal.check_names-requires-clause-among
check_names-requires-clause-among g c = λ named.
    let gathered = c.in_ok-listed.field-0 in
    rw (c.deref-3.ensures.value, c.deref-4.ensures.value) (moved_hashes gathered.leaves.items c.in_order-wanted.result.items (map name_of gathered.listed.items) c.in_order-wanted.ensures.same (c.in_ok-listed.ensures.hashes named))
