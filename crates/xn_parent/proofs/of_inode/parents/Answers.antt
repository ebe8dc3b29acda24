use Rattle.std.proofs.lemmas.Result.{MatchResult-weaker}
use Rattle.xn_parent.proofs.OverImages.{fault_of_records}
use Rattle.xn_parent.proofs.of_inode.parents.Goals as goal

pub returns-clause-fault : goal.returns-clause-fault
returns-clause-fault g c =
    let told = rw c.deref.ensures.value at c.parents_in.ensures in
    let these = c.in_ok-attributes.ensures in
    MatchResult-weaker c.parents_in.result told (λ _ _. tt)
    (fault_of_records g.S.Store c.args.ino c.args.store.now c.list.new.store c.in_ok-attributes.attributes.items (record { holds = these.holds; inode = these.inode }))
