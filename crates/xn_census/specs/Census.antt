-- What was found of inodes, over an image.
use Rattle.std.specs.Prelude.{◌≡◌, ◌⊎◌, ℕ, List, [], ◌∷◌, map, All}
use Rattle.xn_bytes.specs.Numbers.{number_at}
use Rattle.xn_bytes.specs.Superblock.{Geometry}
use Rattle.xn_bytes.specs.Inode.{inode_of}
use Rattle.xn_bytes.specs.Entries.{Entry}
use Rattle.xn_rules.specs.Sound.{AreRunsIn}
use Rattle.xn_facts.specs.Facts.{AreContents, IsHeld, NodeHolds, mapped_of}
use Rattle.xn_census.specs.declared.census.Held.{Held}
use Rattle.xn_census.specs.declared.census.Census.{Census}

-- a directory with what it holds, and with its generation
pub record IsHeldBy (g : Geometry) (image : List ℕ) (held : Held) : Type 0 where
  pub contents : AreContents g image held.dir held.contents
  pub generation : number_at 4 92 (inode_of g image held.dir) ≡ held.generation

-- of some inodes the directories that hold entries with names, in order
abbrev pub AreHeldIn : Geometry → List ℕ → List ℕ → List Held → Type 0
AreHeldIn g image [] helds = helds ≡ []
AreHeldIn g image (ino ∷ inodes) helds =
    ((one : Held) × (rest : List Held) × (helds ≡ one ∷ rest) × (one.dir ≡ ino) × IsHeldBy g image one × AreHeldIn g image inodes rest)
    ⊎ (((entries : List Entry) (dotdot : ℕ) → ¬ IsHeld g image ino entries dotdot) × AreHeldIn g image inodes helds)

-- directories of some inodes, in their order, whatever they hold
abbrev pub AreAmong : List ℕ → List Held → Type 0
AreAmong [] helds = helds ≡ []
AreAmong (ino ∷ inodes) helds = ((one : Held) × (rest : List Held) × (helds ≡ one ∷ rest) × (one.dir ≡ ino) × AreAmong inodes rest) ⊎ AreAmong inodes helds

-- all that was found of some inodes
pub record CensusHolds (g : Geometry) (image : List ℕ) (inodes : List ℕ) (census : Census) : Type 0 where
  pub inodes_are : map (λ node. node.ino) census.nodes.items ≡ inodes
  pub nodes : All (NodeHolds g image) census.nodes.items
  pub held : AreHeldIn g image inodes census.held.items
  pub runs : AreRunsIn g image inodes (map mapped_of census.runs.items)
