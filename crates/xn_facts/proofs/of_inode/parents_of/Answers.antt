use Rattle.std.proofs.Common.{◌∙◌, sym}
use Rattle.xn_facts.proofs.ParentsOver.{records_broken_over}
use Rattle.xn_facts.proofs.of_inode.parents_of.Goals as goal

pub returns-in_ok-of_fault-in-Err-clause-verdict : goal.returns-in_ok-of_fault-in-Err-clause-verdict
returns-in_ok-of_fault-in-Err-clause-verdict g c =
    records_broken_over g.S.Store c.args.ino c.args.store.now c.parents_in_inode.new.store c.in-Err.fault c.in_ok-of_fault-in-Err.field-0
    (sym c.in_ok-of_fault-in-Err.was ∙ c.of_fault.ensures) c.in-Err.ensures.fault
