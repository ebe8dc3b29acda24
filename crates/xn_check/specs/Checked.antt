-- What the checker answers of an image, and what it leaves of the pool.
use Rattle.std.specs.Prelude.{ℕ, List, Option, Some, None, IfSome, Result, Ok, Err}
use Rattle.xn_bytes.specs.Superblock.{Geometry}
use Rattle.xn_bytes.specs.Extents.{Run}
use Rattle.xn_meaning.specs.Manifests.{Manifest}
use Rattle.xn_meaning.specs.NameSpace.{End, Sums, Breaks}
use Rattle.xn_rules.specs.Namings.{Naming}
use Rattle.xn_rules.specs.Checking.{AreFreeBlocks, CheckEnds}
use Rattle.xn_rules.specs.Sound.{Sound}
use Rattle.xn_inode.specs.declared.store.StoreFault.{StoreFault}
use Rattle.xn_inode.specs.declared.store.StoreFault.TheVariants as store
use Rattle.xn_text.specs.declared.told.Summary.{Summary}
use Rattle.xn_text.specs.Viewed.{summary_of}
use Rattle.xn_check.specs.declared.fault.CheckFault.{CheckFault}
use Rattle.xn_check.specs.declared.fault.CheckFault.TheVariants as faults

-- a store's fault as one of the checker
abbrev pub check_fault_of : StoreFault → CheckFault
check_fault_of store.Read = faults.Read
check_fault_of store.Memory = faults.Memory

-- how a check ended, if it was not given up
abbrev pub check_end : Result Summary CheckFault → Option End
check_end (Ok summary) = Some (Sums (summary_of summary))
check_end (Err faults.Read) = None
check_end (Err faults.Memory) = None
check_end (Err (faults.Broken rule inode block)) = Some (Breaks inode rule block)

-- where it was not given up, it ended as it does over the image
abbrev pub Checks : Geometry → Manifest → List ℕ → Result Summary CheckFault → Type 0
Checks g m image result = IfSome (check_end result) (CheckEnds g m image)

-- the free blocks of an image that was accepted are those of the pool that no fork maps
abbrev pub FreesRest : Geometry → Manifest → List ℕ → List ℕ → Type 0
FreesRest g m image free =
    (live : List ℕ) × (namings : List Naming) × (runs : List Run) × Sound g m image live namings runs × AreFreeBlocks m runs free
