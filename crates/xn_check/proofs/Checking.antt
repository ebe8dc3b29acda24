-- From what was examined to the answer of the checker, and to the blocks that are free then.
use Rattle.std.proofs.Common.{◌≡◌, ℕ, List, length, map, Option, Some, None, Ok, Err, refl, inl, inr}
use Rattle.std.specs.Prelude.{◌↔◌, Any, Contains, IfSome}
use Rattle.xn_bytes.specs.Superblock.{Geometry}
use Rattle.xn_meaning.specs.Manifests.{Manifest, InPool}
use Rattle.xn_rules.specs.Checking.{AreFreeBlocks}
use Rattle.xn_rules.specs.Sound.{Maps}
use Rattle.xn_inode.specs.Stores.{AreFree}
use Rattle.xn_facts.specs.Facts.{mapped_of}
use Rattle.xn_check.specs.Checked.{Checks, FreesRest}
use Rattle.xn_check.specs.Examined.{IsExamined, Refuses}
use Rattle.xn_check.specs.declared.examine.Examined.{Examined}
use Rattle.xn_check.specs.declared.fault.CheckFault.{CheckFault}
use Rattle.xn_check.specs.declared.fault.CheckFault.TheVariants as faults
use Rattle.xn_check.proofs.FreeLemmas.{free_blocks}

module _ (g : Geometry) (m : Manifest) where
  refused : (image : List ℕ) (fault : CheckFault) → Refuses g m image fault → Checks g m image (Err fault)
  refused image faults.Read refuses = tt
  refused image faults.Memory refuses = tt
  refused image (faults.Broken rule inode block) refuses = inl (rule, inode, block, refl, refuses)

  pub refused_over : {I : Type 0} (image : Option I) (see : I → List ℕ) (fault : CheckFault) → IfSome image (λ x. Refuses g m (see x) fault) → IfSome image (λ x. Checks g m (see x) (Err fault))
  refused_over None see fault refuses = tt
  refused_over (Some x) see fault refuses = refused (see x) fault refuses

  module _ (examined : Examined) (blocks old free : List ℕ) (set : AreFree blocks free) (pool : (block : ℕ) → Contains blocks block ↔ InPool m block) (all_free : old ≡ blocks)
      (marked : (block : ℕ) → Contains free block ↔ (Contains old block × ¬ Any (Maps block) (map mapped_of examined.runs.items))) where
    are_free : AreFreeBlocks m (map mapped_of examined.runs.items) free
    are_free = free_blocks m (map mapped_of examined.runs.items) blocks old free set pool all_free marked

    frees : (image : List ℕ) → IsExamined g m image examined → FreesRest g m image free
    frees image is = (is.live, is.namings, map mapped_of examined.runs.items, is.sound, are_free)

    pub frees_over : {I : Type 0} (image : Option I) (see : I → List ℕ) → IfSome image (λ x. IsExamined g m (see x) examined) → IfSome image (λ x. FreesRest g m (see x) free)
    frees_over None see is = tt
    frees_over (Some x) see is = frees (see x) is

    accepted : (image : List ℕ) (count : ℕ) → count ≡ length free → IsExamined g m image examined
        → Checks g m image (Ok (record { inodes = examined.inodes; directories = examined.directories; entries = examined.entries; pending = 0; free = count }))
    accepted image count counted is = inr (
      record { inodes = examined.inodes; directories = examined.directories; entries = examined.entries; pending = 0; free = count },
      refl,
      record {
        live = is.live;
        namings = is.namings;
        runs = map mapped_of examined.runs.items;
        free = free;
        sound = is.sound;
        are_free = are_free;
        inodes = is.inodes;
        directories = is.directories;
        entries = is.entries;
        pending = refl;
        blocks = counted;
      },
    )

    pub accepted_over : {I : Type 0} (image : Option I) (see : I → List ℕ) (count : ℕ) → count ≡ length free → IfSome image (λ x. IsExamined g m (see x) examined)
        → IfSome image (λ x. Checks g m (see x) (Ok (record { inodes = examined.inodes; directories = examined.directories; entries = examined.entries; pending = 0; free = count })))
    accepted_over None see count counted is = tt
    accepted_over (Some x) see count counted is = accepted (see x) count counted is
