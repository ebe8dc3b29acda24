-- Which images the checker accepts, and which rule it names of every other.
--
-- Cut as long as no log is read: rules 3, 4, 6, 7 and 8 speak of the log, and are not looked at. The image is taken as it stands
-- in its home sectors, with nothing pending.
use Rattle.std.specs.Prelude.{◌≡◌, ◌⊎◌, ℕ, ◌+◌, ◌/◌, ◌<◌, ◌≤◌, List, [], ◌∷◌, ◌++◌, length, All, AllPairs, Contains, IsPermutation}
use Rattle.xn_bytes.specs.Superblock.{Geometry}
use Rattle.xn_bytes.specs.Inode.{inode_of}
use Rattle.xn_bytes.specs.Extents.{Run}
use Rattle.xn_bytes.specs.AttributeForks.{HasOwnInode}
use Rattle.xn_meaning.specs.Manifests.{Manifest, IsLive}
use Rattle.xn_rules.specs.InodeRules.{IsOfDirectory, data_fork_runs, attr_fork_runs}
use Rattle.xn_rules.specs.Namings.{AreLive, AreNamingsIn, Naming}
use Rattle.xn_rules.specs.NameRules.{BreaksRule, Stands}

-- ---- rule 5

-- the greatest number of entries that a name space may have
abbrev pub most_entries : ℕ
most_entries = 4194304

-- the root is live and a directory by its mode, and there are not too many entries
pub record HasRightRoot (g : Geometry) (m : Manifest) (image : List ℕ) (namings : List Naming) : Type 0 where
  pub live : IsLive g m g.root
  pub directory : IsOfDirectory (inode_of g image g.root)
  pub few : length namings ≤ most_entries

-- ---- rule 9

-- The runs of which rule 9 speaks: those of a directory's data fork and of an attribute fork, of an inode of which rules 10, 11 and
-- 13 hold; none of any other.
abbrev pub AreRunsOf : Geometry → List ℕ → ℕ → List Run → Type 0
AreRunsOf g image ino runs =
    (HasOwnInode g (inode_of g image ino) ino × IsOfDirectory (inode_of g image ino)
    × (runs ≡ data_fork_runs (inode_of g image ino) ++ attr_fork_runs (inode_of g image ino)))
    ⊎ (HasOwnInode g (inode_of g image ino) ino × ¬ IsOfDirectory (inode_of g image ino) × (runs ≡ attr_fork_runs (inode_of g image ino)))
    ⊎ (¬ HasOwnInode g (inode_of g image ino) ino × (runs ≡ []))

-- those of some inodes, one inode behind the other
abbrev pub AreRunsIn : Geometry → List ℕ → List ℕ → List Run → Type 0
AreRunsIn g image [] runs = runs ≡ []
AreRunsIn g image (ino ∷ inodes) runs =
    (own : List Run) × (rest : List Run) × AreRunsOf g image ino own × AreRunsIn g image inodes rest × (runs ≡ own ++ rest)

-- two runs have no block in common
abbrev pub AreApart : Run → Run → Type 0
AreApart a b = (a.block + a.count ≤ b.block) ⊎ (b.block + b.count ≤ a.block)

-- a block is one of a run's
pub record Maps (block : ℕ) (run : Run) : Type 0 where
  pub from : run.block ≤ block
  pub below : block < run.block + run.count

-- no block is mapped twice, and none is mapped in which a live inode stands
pub record MapOnce (live : List ℕ) (runs : List Run) : Type 0 where
  pub once : AllPairs AreApart runs
  pub clear : (ino : ℕ) → Contains live ino → All (λ run. ¬ Maps (ino / 8) run) runs

-- ---- the image

-- what the rules between inodes are about: the live inodes, and in any order their entries and the runs that they map
pub record Contents (g : Geometry) (m : Manifest) (image : List ℕ) (live : List ℕ) (namings : List Naming) (runs : List Run) : Type 0 where
  pub are_live : AreLive g m live
  pub namings_in_turn : List Naming
  pub are_namings : AreNamingsIn g m image live namings_in_turn
  pub same_namings : IsPermutation namings_in_turn namings
  pub runs_in_turn : List Run
  pub are_runs : AreRunsIn g image live runs_in_turn
  pub same_runs : IsPermutation runs_in_turn runs

-- The least inode that breaks a rule, and the least rule that it breaks, with the block.
pub record IsFirstInode (g : Geometry) (m : Manifest) (image : List ℕ) (namings : List Naming) (rule ino block : ℕ) : Type 0 where
  pub live : IsLive g m ino
  pub breaks : BreaksRule g m image namings ino rule block
  pub least : (lesser other : ℕ) → BreaksRule g m image namings ino lesser other → rule ≤ lesser
  pub first : (before lesser other : ℕ) → before < ino → IsLive g m before → ¬ BreaksRule g m image namings before lesser other

-- The rule from 5 on that is named, with the inode and the block: 5 and 9 of the whole image before those of an inode.
abbrev pub FirstBroken : Geometry → Manifest → List ℕ → ℕ → ℕ → ℕ → Type 0
FirstBroken g m image rule inode block =
    (live : List ℕ) × (namings : List Naming) × (runs : List Run) × Contents g m image live namings runs
    × (((rule ≡ 5) × (inode ≡ 0) × (block ≡ 0) × ¬ HasRightRoot g m image namings)
    ⊎ (HasRightRoot g m image namings
    × (((rule ≡ 9) × (inode ≡ 0) × (block ≡ 0) × ¬ MapOnce live runs)
    ⊎ (MapOnce live runs × IsFirstInode g m image namings rule inode block))))

-- Rules 5 and 9 hold of the image, and all others of each live inode: the checker accepts it, where rules 1 and 2 hold too. No rule is
-- broken then (`xn_sound` shows it).
abbrev pub Sound : Geometry → Manifest → List ℕ → List ℕ → List Naming → List Run → Type 0
Sound g m image live namings runs =
    Contents g m image live namings runs × HasRightRoot g m image namings × MapOnce live runs × All (Stands g m image namings) live
