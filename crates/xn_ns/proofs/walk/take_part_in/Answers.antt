use Rattle.xn_bytes.specs.Hashes.{name_hash_of}
use Rattle.xn_ns.proofs.Fetches.{looked_up}
use Rattle.xn_ns.proofs.PartsTaken.{not_a_name, entry_found, none_found, look_up_fails}
use Rattle.xn_ns.proofs.walk.take_part_in.Goals as goal

pub returns-in-Err-clause-taken : goal.returns-in-Err-clause-taken
returns-in-Err-clause-taken g c =
    not_a_name (g.S.Store.shape c.args.store.now) (g.S.Store.image c.args.store.now) c.args.dir c.args.part.now _ _ c.refused.result (c.refused.ensures c.args.part.now c.in-Err.ensures)

pub returns-in-Ok-Some-clause-taken : goal.returns-in-Ok-Some-clause-taken
returns-in-Ok-Some-clause-taken g c =
    let found = rw (c.in-Ok-Some.field-0-is, c.in-Ok.ensures.0) at c.in-Ok-Some.ensures.found in
    let stands = rw (c.in-Ok-Some.field-0-is, c.in-Ok.ensures.0) at c.in-Ok-Some.ensures.stands in
    entry_found (g.S.Store.shape c.args.store.now) (g.S.Store.image c.args.store.now) c.args.dir c.args.part.now _ _ c.in-Ok-Some.entry c.in-Ok.ensures.1 c.in-Ok-Some.ensures.inode found stands

pub returns-in-Ok-None-clause-taken : goal.returns-in-Ok-None-clause-taken
returns-in-Ok-None-clause-taken g c =
    let found = rw (c.in-Ok-None.field-0-is, c.in-Ok.ensures.0) at c.in-Ok-None.ensures.found in
    let stands = rw (c.in-Ok-None.field-0-is, c.in-Ok.ensures.0) at c.in-Ok-None.ensures.stands in
    none_found (g.S.Store.shape c.args.store.now) (g.S.Store.image c.args.store.now) c.args.dir c.args.part.now _ _ c.in-Ok.ensures.1 c.in-Ok-None.ensures.inode found stands

pub returns-in-Ok-Some-clause-fetches : goal.returns-in-Ok-Some-clause-fetches
returns-in-Ok-Some-clause-fetches g c =
    looked_up (g.S.Store.shape c.args.store.now) (g.S.Store.image c.args.store.now) c.args.dir (name_hash_of c.args.part.now) (g.S.Store.fetches c.args.store.now) (g.S.Store.fetches c.lookup.new.store)
    (rw c.in-Ok.ensures.0 at c.in-Ok-Some.ensures.fetches) c.in-Ok-Some.ensures.most

pub returns-in-Ok-None-clause-fetches : goal.returns-in-Ok-None-clause-fetches
returns-in-Ok-None-clause-fetches g c =
    looked_up (g.S.Store.shape c.args.store.now) (g.S.Store.image c.args.store.now) c.args.dir (name_hash_of c.args.part.now) (g.S.Store.fetches c.args.store.now) (g.S.Store.fetches c.lookup.new.store)
    (rw c.in-Ok.ensures.0 at c.in-Ok-None.ensures.fetches) c.in-Ok-None.ensures.most

pub returns-clause-taken : goal.returns-clause-taken
returns-clause-taken g c =
    rw c.of_inode.ensures
    (look_up_fails (g.S.Store.shape c.args.store.now) (g.S.Store.image c.args.store.now) c.args.dir c.args.part.now _ _ c.in-Err-lookup.fault c.in-Ok.ensures.1 c.in-Err-lookup.ensures.fault)

pub returns-clause-fetches : goal.returns-clause-fetches
returns-clause-fetches g c =
    looked_up (g.S.Store.shape c.args.store.now) (g.S.Store.image c.args.store.now) c.args.dir (name_hash_of c.args.part.now) (g.S.Store.fetches c.args.store.now) (g.S.Store.fetches c.lookup.new.store)
    (rw c.in-Ok.ensures.0 at c.in-Err-lookup.ensures.fetches) c.in-Err-lookup.ensures.most
