use Rattle.std.proofs.lemmas.Result.{MatchResult-weaker, err_from_is_err_and}
use Rattle.xn_parent.proofs.OverImages.{fault_of_attributes, fault_of_records}
use Rattle.xn_parent.proofs.of_inode.parents_in_inode.Goals as goal

pub returns-in_err-attributes-clause-fault : goal.returns-in_err-attributes-clause-fault
returns-in_err-attributes-clause-fault g c =
    let p = err_from_is_err_and c.from_residual.result c.from_residual.ensures.1 in
    rw (p.1, p.2) (fault_of_attributes g.S.Store c.args.ino c.args.store.now c.list_in.new.store
    c.in_err-attributes.field-0.0 c.in_err-attributes.ensures.fault)

pub returns-clause-fault : goal.returns-clause-fault
returns-clause-fault g c =
    let told = rw c.deref.ensures.value at c.parents_in.ensures in
    let these = c.in_ok-attributes.ensures in
    MatchResult-weaker c.parents_in.result told (λ _ _. tt)
    (fault_of_records g.S.Store c.args.ino c.args.store.now c.list_in.new.store c.in_ok-attributes.attributes.items
    (record { holds = these.holds; inode = these.inode }))
