-- Which name space an accepted image means.
use Rattle.std.specs.Prelude.{◌≡◌, ◌↔◌, ℕ, List, Any, Some}
use Rattle.xn_bytes.specs.Numbers.{number_at}
use Rattle.xn_bytes.specs.Kinds.{kind_of_mode}
use Rattle.xn_bytes.specs.Superblock.{Geometry}
use Rattle.xn_bytes.specs.Inode.{inode_of}
use Rattle.xn_bytes.specs.Extents.{Run}
use Rattle.xn_meaning.specs.Manifests.{Manifest, IsLive}
use Rattle.xn_meaning.specs.NameSpaces.{Inode, NameSpace}
use Rattle.xn_rules.specs.Namings.{Naming}
use Rattle.xn_rules.specs.Sound.{Sound}

-- what the bytes of an inode say
pub record SaysInode (bytes : List ℕ) (inode : Inode) : Type 0 where
  pub kind : kind_of_mode (number_at 2 2 bytes) ≡ Some inode.kind
  pub generation : number_at 4 92 bytes ≡ inode.generation

-- an entry names this inode by this name in this directory
pub record IsNamedBy (dir : ℕ) (name : List ℕ) (ino : ℕ) (n : Naming) : Type 0 where
  pub dir_is : n.dir ≡ dir
  pub name_is : n.name ≡ name
  pub ino_is : n.ino ≡ ino

-- The image is accepted. The live inodes are the manifest's, with the kinds and generations that their bytes say, and the keys are the
-- entries of its directories.
pub record Means (g : Geometry) (m : Manifest) (image : List ℕ) (s : NameSpace) : Type 0 where
  pub inodes : List ℕ
  pub namings : List Naming
  pub runs : List Run
  pub sound : Sound g m image inodes namings runs
  pub root : s.root ≡ g.root
  pub live : (ino : ℕ) (inode : Inode) → (s.live ino ≡ Some inode) ↔ (IsLive g m ino × SaysInode (inode_of g image ino) inode)
  pub entries : (dir : ℕ) (name : List ℕ) (ino : ℕ) → (s.entries dir name ≡ Some ino) ↔ Any (IsNamedBy dir name ino) namings
