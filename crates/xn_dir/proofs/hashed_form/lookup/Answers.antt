use Rattle.std.proofs.Common.{arith, ap, length, ◌∙◌}
use Rattle.std.specs.Prelude.{Contains}
use Rattle.std.proofs.lemmas.Option.{IfSome_then}
use Rattle.std.proofs.lemmas.Result.{IfErr-weaker}
use Rattle.xn_bytes.specs.Hashes.{name_hash_of}
use Rattle.xn_bytes.specs.DataBlock.{LeafEntry}
use Rattle.xn_bytes.specs.DirectoryRules.{FailsHashed}
use Rattle.xn_dir.specs.Hashed.{BreaksAtLeaf, dir_fork}
use Rattle.xn_dir.proofs.HashedFaults.{fault_over}
use Rattle.xn_dir.proofs.LookingUp.{found_over, fails_at_leaf}
use Rattle.xn_dir.proofs.hashed_form.lookup.Goals as goal

pub returns-clause-found : goal.returns-clause-found
returns-clause-found g c =
    let store = c.args.store.now in
    let S = g.S.Store in
    let leaves = c.in_ok-leaves.ensures in
    found_over (S.image store) (dir_fork (S.shape store) c.args.fork.now) c.args.name.now c.name_hash.result c.in_ok-leaves.leaves.items c.find_among.result (c.name_hash.ensures ∙ ap name_hash_of c.bytes.ensures.value) c.bytes.ensures.name leaves.found
    (rw (leaves.stays.image_stays, leaves.stays.shape_stays) at c.find_among.ensures.there) (rw (leaves.stays.image_stays, leaves.stays.shape_stays, c.deref.ensures.value) at c.find_among.ensures.none)

pub returns-clause-fault : goal.returns-clause-fault
returns-clause-fault g c =
    let store = c.args.store.now in
    let S = g.S.Store in
    let leaves = c.in_ok-leaves.ensures in
    let T = dir_fork (S.shape store) c.args.fork.now in
    IfErr-weaker c.find_among.result _ _
    (λ fault is. fault_over S (λ x rule block. (leaf : LeafEntry) × Contains c.in_ok-leaves.leaves.items leaf × BreaksAtLeaf (T x) leaf rule block) (λ x. FailsHashed (T x)) store c.with_hash.new.store c.find_among.new.store fault leaves.stays
    (IfSome_then (S.image store) leaves.found (λ x those rule block breaks. fails_at_leaf (T x) c.name_hash.result c.in_ok-leaves.leaves.items breaks.0 rule block those breaks.1 breaks.2)) is)
    (rw (leaves.stays.shape_stays, c.deref.ensures.value) at c.find_among.ensures.fault)

pub returns-in_err-leaves-clause-fetches : goal.returns-in_err-leaves-clause-fetches
returns-in_err-leaves-clause-fetches g c =
    let hash = c.name_hash.ensures ∙ ap name_hash_of c.bytes.ensures.value in
    rw hash at c.in_err-leaves.ensures.failed

pub returns-clause-fetches : goal.returns-clause-fetches
returns-clause-fetches g c =
    let store = c.args.store.now in
    let S = g.S.Store in
    let leaves = c.in_ok-leaves.ensures in
    let hash = c.name_hash.ensures ∙ ap name_hash_of c.bytes.ensures.value in
    let long = ap length c.deref.ensures.value in
    IfSome_then (S.image store) (rw hash at leaves.fetches) (λ x few cost is. let read = few cost is in omega (arith, read, c.find_among.ensures.fetches, long))

pub returns-clause-most : goal.returns-clause-most
returns-clause-most g c =
    let leaves = c.in_ok-leaves.ensures in
    omega (arith, leaves.most, leaves.few, c.find_among.ensures.fetches, ap length c.deref.ensures.value)
