-- What an inode is to a command that needs a directory.
use Rattle.std.specs.Prelude.{ℕ, List}
use Rattle.xn_bytes.specs.Superblock.{Geometry, IsInode}
use Rattle.xn_meaning.specs.Manifests.{Manifest, IsLive}
use Rattle.xn_meaning.specs.Reading.{IsNoDirectory, IsDetached, IsAttached, BreaksCore}
use Rattle.xn_ns.specs.declared.sight.Sight.{Sight}
use Rattle.xn_ns.specs.declared.sight.Sight.TheVariants as sights

-- what is seen of an inode, by its bytes where it is live
abbrev pub IsSightOf : Geometry → Manifest → List ℕ → ℕ → Sight → Type 0
IsSightOf g m inode ino sights.Gone = ¬ IsLive g m ino
IsSightOf g m inode ino (sights.Broken rule) = BreaksCore g m inode ino rule
IsSightOf g m inode ino sights.Other = IsNoDirectory g m inode ino
IsSightOf g m inode ino sights.Detached = IsDetached g m inode ino
IsSightOf g m inode ino sights.Attached = IsAttached g m inode ino

-- a directory that is seen has its place in the image
abbrev pub HasPlace : Geometry → ℕ → Sight → Type 0
HasPlace g ino sights.Gone = Unit {0}
HasPlace g ino (sights.Broken rule) = Unit {0}
HasPlace g ino sights.Other = Unit {0}
HasPlace g ino sights.Detached = IsInode g ino
HasPlace g ino sights.Attached = IsInode g ino
