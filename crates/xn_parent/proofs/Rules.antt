-- A rule that is broken where one part of it is.
use Rattle.std.proofs.Common.{ℕ}
use Rattle.xn_inode.specs.declared.fork_fault.ForkFault.{ForkFault}
use Rattle.xn_inode.specs.declared.fork_fault.ForkFault.TheVariants.{Read, Memory, Broken}
use Rattle.xn_inode.specs.Faults.{IsRule}

pub rule_of_part : (rule : ℕ) (Part Fact : Type 0) → (Fact → Part) → (fault : ForkFault) → IsRule rule Part fault → IsRule rule Fact fault
rule_of_part rule Part Fact has Read broken = broken
rule_of_part rule Part Fact has Memory broken = broken
rule_of_part rule Part Fact has (Broken number block) broken = (broken.0, broken.1, λ fact. broken.2 (has fact))
