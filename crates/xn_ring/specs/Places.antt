-- Where the log lies on a machine, and what a call that reads it may answer.
use Rattle.std.specs.Prelude.{◌≡◌, ◌⊎◌, ℕ, ◌+◌, ◌*◌, ◌^◌, ◌<◌, ◌≤◌, List, length, Option, IfSome, Result, IfErr}
use Rattle.xn_bytes.specs.Causes.{Rose}
use Rattle.xn_bytes.specs.Superblock.{Geometry, sector_of_block}
use Rattle.xn_ring.specs.declared.fault.RingFault.{RingFault}
use Rattle.xn_ring.specs.declared.fault.RingFault.TheVariants.{Memory, NoRecord, Read}
use Rattle.xn_record.specs.declared.fault.RecFault.{RecFault}
use Rattle.xn_record.specs.declared.fault.RecFault.TheVariants.{Bad, Memory as NoMemory}

-- A machine has the ring of the log, whose size is accepted; and its counts are within their types.
pub record HasRing (g : Geometry) (image : Option (List ℕ)) (sectors read_faults reads : ℕ) : Type 0 where
  pub least : 512 ≤ g.log_blocks
  pub most : g.log_blocks ≤ 524288
  pub there : sector_of_block g g.log_start + 8 * g.log_blocks ≤ sectors
  pub length : IfSome image (λ x. length x ≡ 512 * sectors)
  pub small : (sectors < 2 ^ 64) × (read_faults < 2 ^ 64) × (reads < 2 ^ 64)

-- The count of faults never falls; memory ran out, or reading failed and the count rose.
pub record HasReadCause {T : Type 0} (before now : ℕ) (result : Result T RingFault) : Type 0 where
  pub later : before ≤ now
  pub small : now < 2 ^ 64
  pub failed : IfErr result (λ fault. (fault ≡ Memory) ⊎ ((fault ≡ Read) × Rose before now))

-- The count of faults never falls, and reading failed only where it rose.
pub record HasRingCause {T : Type 0} (before now : ℕ) (result : Result T RingFault) : Type 0 where
  pub later : before ≤ now
  pub small : now < 2 ^ 64
  pub failed : IfErr result (λ fault. fault ≡ Read → Rose before now)

-- what is answered where the bytes of a record were not read as one
abbrev pub fault_of_record : RecFault → RingFault
fault_of_record (Bad at) = NoRecord
fault_of_record NoMemory = Memory
