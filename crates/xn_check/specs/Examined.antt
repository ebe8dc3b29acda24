-- What was found of an image, or what is broken.
use Rattle.std.specs.Prelude.{◌≡◌, ℕ, List, length, map}
use Rattle.xn_bytes.specs.Superblock.{Geometry}
use Rattle.xn_meaning.specs.Manifests.{Manifest}
use Rattle.xn_rules.specs.Namings.{Naming}
use Rattle.xn_rules.specs.Checking.{directories_among}
use Rattle.xn_rules.specs.Sound.{FirstBroken, Sound}
use Rattle.xn_facts.specs.Facts.{mapped_of}
use Rattle.xn_check.specs.declared.examine.Examined.{Examined}
use Rattle.xn_check.specs.declared.fault.CheckFault.{CheckFault}
use Rattle.xn_check.specs.declared.fault.CheckFault.TheVariants as faults

-- all rules from 5 on hold, and so many inodes, directories and entries are there
pub record IsExamined (g : Geometry) (m : Manifest) (image : List ℕ) (examined : Examined) : Type 0 where
  pub live : List ℕ
  pub namings : List Naming
  pub sound : Sound g m image live namings (map mapped_of examined.runs.items)
  pub inodes : examined.inodes ≡ length live
  pub directories : examined.directories ≡ directories_among g image live
  pub entries : examined.entries ≡ length namings

-- the first rule that is broken, where one is told
abbrev pub Refuses : Geometry → Manifest → List ℕ → CheckFault → Type 0
Refuses g m image faults.Read = Unit {0}
Refuses g m image faults.Memory = Unit {0}
Refuses g m image (faults.Broken rule inode block) = FirstBroken g m image rule inode block
