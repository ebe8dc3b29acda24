-- What the data blocks of a directory in leaf or node form are read to hold.
use Rattle.std.specs.Prelude.{◌≡◌, ℕ, ◌+◌, ◌<◌, ◌≤◌, Bool, true, false, List, ◌∷◌, [], ◌++◌, length, map, flat_map, All, Any, Option, IfSome, IsSome}
use Rattle.std.specs.List.{AllAdjacentBelow}
use Rattle.xn_bytes.specs.Names.{IsName}
use Rattle.xn_bytes.specs.Superblock.{Geometry}
use Rattle.xn_bytes.specs.Extents.{Run, mapped}
use Rattle.xn_bytes.specs.Entries.{Entry}
use Rattle.xn_bytes.specs.DataBlock.{DataForm, entries_among}
use Rattle.xn_bytes.specs.DirectoryForms.{HasDots, IsDataNumber, leaf_of}
use Rattle.xn_bytes.specs.LeafForms.{Placed, IsPlaced, all_entries, entries_placed, with_first}
use Rattle.xn_datree.specs.declared.fork.Fork.{Fork}
use Rattle.xn_dir.specs.declared.gather.Gathered.{Gathered}
use Rattle.xn_dir.specs.declared.listing.Listed.{Listed}
use Rattle.xn_dir.specs.Bests.{noted}
use Rattle.xn_dir.specs.Hashed.{dir_fork}
use Rattle.xn_dir.specs.Listings.{entry_of}

-- each entry has a name
abbrev pub AreNamed : List Entry → Type 0
AreNamed entries = All (λ entry. IsName entry.name) entries

-- What was gathered of data blocks: their bests, the leaf entries of all entries, and those that are to be listed, where each
-- of them has a name.
pub record Gathers (gathered : Gathered) (front all : List Entry) (data_blocks : List Placed) : Type 0 where
  pub leaves : gathered.leaves.items ≡ map leaf_of all
  pub bests : map noted data_blocks ≡ gathered.bests.items
  pub names : gathered.are_names ≡ true → (map entry_of gathered.listed.items ≡ front) × AreNamed front
  pub no_names : gathered.are_names ≡ false → ¬ AreNamed front

-- a data block was gathered behind others, of which these entries are to be listed
abbrev pub Adds : Gathered → Gathered → Placed → List Entry → Type 0
Adds before after placed listed =
    (front all : List Entry) (data_blocks : List Placed) → Gathers before front all data_blocks
    → Gathers after (front ++ listed) (all ++ entries_placed placed) (data_blocks ++ placed ∷ [])

-- entries were listed behind others, where each has a name
pub record Lists (before after : List Listed) (are_names : Bool) (entries : List Entry) : Type 0 where
  pub names : are_names ≡ true → (map entry_of after ≡ map entry_of before ++ entries) × AreNamed entries
  pub no_names : are_names ≡ false → ¬ AreNamed entries

-- the data blocks below a number are these, and were gathered
pub record GathersBelow (g : Geometry) (fork : Fork) (image : Option (List ℕ)) (end : ℕ) (gathered : Gathered) : Type 0 where
  pub first : DataForm
  pub others : List Placed
  pub front : List Entry
  pub dotdot : ℕ
  pub dots : HasDots (entries_among first.regions) front dotdot
  pub gathers : Gathers gathered (front ++ flat_map entries_placed others) (all_entries first others) (with_first first others)
  pub placed : IfSome image (λ x. All (IsPlaced (dir_fork g fork x)) (with_first first others))
  pub below : All (λ placed. placed.number < end) (with_first first others)
  pub rising : AllAdjacentBelow (λ a b. a.number < b.number) (with_first first others) (length (with_first first others))
  pub complete : (number : ℕ) → number < end → IsSome (mapped fork.extents number) → Any (λ placed. placed.number ≡ number) (with_first first others)

-- a data block that is mapped
abbrev pub IsMappedData : List Run → ℕ → Type 0
IsMappedData runs number = IsDataNumber number × IsSome (mapped runs number)

-- at most one fetch for each of these data blocks
pub record FetchesData (runs : List Run) (before now : ℕ) : Type 0 where
  pub read : List ℕ
  pub rising : AllAdjacentBelow (λ a b. a < b) read (length read)
  pub are_data : All (IsMappedData runs) read
  pub fetches : now ≤ before + length read

-- the same, all of them in front of one
pub record FetchesBelow (runs : List Run) (end before now : ℕ) : Type 0 where
  pub read : List ℕ
  pub rising : AllAdjacentBelow (λ a b. a < b) read (length read)
  pub are_data : All (IsMappedData runs) read
  pub low : All (λ number. number < end) read
  pub fetches : now ≤ before + length read
