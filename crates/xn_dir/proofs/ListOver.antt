-- The list of a directory in leaf or node form, by what was gathered and checked.
use Rattle.std.proofs.Common.{◌≡◌, ◌≢◌, ℕ, Bool, true, false, List, ◌++◌, map, Option, refl, subst, inl, inr}
use Rattle.std.specs.Prelude.{IfSome, AllPairs, IsPermutation, flat_map}
use Rattle.std.proofs.lemmas.List.Sorted.{IsPermutation-sym}
use Rattle.std.proofs.lemmas.Option.{IfSome_then}
use Rattle.xn_bytes.specs.Entries.{Entry}
use Rattle.xn_bytes.specs.DataBlock.{DataForm, LeafEntry}
use Rattle.xn_bytes.specs.Directory.{HasNames}
use Rattle.xn_bytes.specs.LeafForms.{DirFork, Placed, HasData, HoldsHashed, all_entries, entries_placed, with_first}
use Rattle.xn_bytes.specs.DirectoryRules.{BreaksBehind, BreaksHashed}
use Rattle.xn_inode.specs.declared.store.Store.{Ghosts}
use Rattle.xn_inode.specs.declared.fork_fault.ForkFault.{ForkFault}
use Rattle.xn_inode.specs.declared.fork_fault.ForkFault.TheVariants.{Read, Memory, Broken}
use Rattle.xn_dir.specs.declared.gather.Gathered.{Gathered}
use Rattle.xn_inode.specs.Faults.{IsRule}
use Rattle.xn_dir.specs.Faults.{IsHashedFault}
use Rattle.xn_dir.specs.Gathering.{Gathers}
use Rattle.xn_dir.specs.Listings.{entry_of, name_of}
use Rattle.xn_dir.specs.Indexed.{AreGathered, BreaksIndex, HasIndex}
use Rattle.xn_dir.proofs.Collecting.{once_among}
use Rattle.xn_dir.proofs.Following.{IfSome_both}

-- what was gathered of a directory
abbrev pub GathersAll : DirFork → Gathered → Type 0
GathersAll d gathered =
    (first : DataForm) × (others : List Placed) × (front : List Entry) × (dotdot : ℕ) × HasData d first others front dotdot
    × Gathers gathered (front ++ flat_map entries_placed others) (all_entries first others) (with_first first others)

-- what the leaf entries and bests are to be
abbrev pub ForGathered : DirFork → Gathered → List LeafEntry → (DataForm → List Placed → Type 0) → Type 0
ForGathered d gathered wanted Fact = (first : DataForm) (others : List Placed) → AreGathered d first others wanted gathered.bests.items → Fact first others

are_gathered : (d : DirFork) (gathered : Gathered) (wanted : List LeafEntry) → IsPermutation gathered.leaves.items wanted → (all : GathersAll d gathered) → AreGathered d all.0 all.1 wanted gathered.bests.items
are_gathered d gathered wanted moved all = record {
  data_blocks = all.4.data_blocks;
  leaves_are = subst (IsPermutation wanted) all.5.leaves (IsPermutation-sym gathered.leaves.items wanted moved);
  bests_are = all.5.bests;
}

behind : (d : DirFork) (first : DataForm) (others : List Placed) (front : List Entry) (rule block : ℕ) → BreaksIndex d first others rule block → BreaksBehind d first others front rule block
behind d first others front rule block (inl leaves) = inl leaves
behind d first others front rule block (inr (live, has, inl index)) = inr (live, has, inl index)
behind d first others front rule block (inr (live, has, inr (index, bests))) = inr (live, has, inr (index, inl bests))

pub index_breaks : (image : Option (List ℕ)) (T : List ℕ → DirFork) (gathered : Gathered) (wanted : List LeafEntry) → IsPermutation gathered.leaves.items wanted → IfSome image (λ x. GathersAll (T x) gathered)
    → IfSome image (λ x. (rule block : ℕ) → ForGathered (T x) gathered wanted (λ first others. BreaksIndex (T x) first others rule block) → BreaksHashed (T x) rule block)
index_breaks image T gathered wanted moved gathers =
    IfSome_then image gathers (λ x all rule block breaks. inr (all.0, all.1, all.2, all.3, all.4, behind (T x) all.0 all.1 all.2 rule block (breaks all.0 all.1 (are_gathered (T x) gathered wanted moved all))))

true_or_false : (b : Bool) → (b ≡ false → ⊥) → b ≡ true
true_or_false true not_false = refl
true_or_false false not_false = absurd (not_false refl)

-- names that are right
names_right : (gathered : Gathered) (front all : List Entry) (data_blocks : List Placed) → Gathers gathered front all data_blocks → HasNames front → (gathered.are_names ≡ true) × AllPairs (λ a b. a ≢ b) (map name_of gathered.listed.items)
names_right gathered front all data_blocks gathers names =
    let is : gathered.are_names ≡ true = true_or_false gathered.are_names (λ e. gathers.no_names e names.names) in
    (is, once_among front gathered.listed.items (gathers.names is).0 names)

pub names_break : {S : Type 0} (store : Ghosts S) (T : List ℕ → DirFork) (gathered : Gathered) (wanted : List LeafEntry) (old new : S) (fault : ForkFault) → IsPermutation gathered.leaves.items wanted → IfSome (store.image old) (λ x. GathersAll (T x) gathered)
    → IfSome (store.image old) (λ x. ForGathered (T x) gathered wanted (HasIndex (T x))) → IsRule 21 ((gathered.are_names ≡ true) × AllPairs (λ a b. a ≢ b) (map name_of gathered.listed.items)) fault
    → IsHashedFault store (λ x. BreaksHashed (T x)) old new fault
names_break store T gathered wanted old new Read moved gathers index fails = absurd fails
names_break store T gathered wanted old new Memory moved gathers index fails = tt
names_break store T gathered wanted old new (Broken rule block) moved gathers index fails =
    IfSome_both (store.image old) gathers index
    (λ x all right.
    let has = right all.0 all.1 (are_gathered (T x) gathered wanted moved all) in
    inr (
      all.0,
      all.1,
      all.2,
      all.3,
      all.4,
      inr (
        has.live,
        has.leaves,
        inr (
          has.index,
          inr (
            has.bests,
            (
              fails.0,
              fails.1,
              λ names. fails.2 (names_right gathered (all.2 ++ flat_map entries_placed all.1) (all_entries all.0 all.1) (with_first all.0 all.1) all.5 names),
            ),
          ),
        ),
      ),
    ))

pub list_holds : (image : Option (List ℕ)) (T : List ℕ → DirFork) (gathered : Gathered) (wanted : List LeafEntry) → IsPermutation gathered.leaves.items wanted → IfSome image (λ x. GathersAll (T x) gathered) → IfSome image (λ x. ForGathered (T x) gathered wanted (HasIndex (T x))) → gathered.are_names ≡ true
    → IfSome image (λ x. (dotdot : ℕ) × HoldsHashed (T x) (map entry_of gathered.listed.items) dotdot)
list_holds image T gathered wanted moved gathers index names =
    IfSome_both image gathers index
    (λ x all right.
    let has = right all.0 all.1 (are_gathered (T x) gathered wanted moved all) in (
      all.3,
      record {
        first = all.0;
        others = all.1;
        front = all.2;
        data_blocks = all.4;
        entries_are = (all.5.names names).0;
        live = has.live;
        leaves = has.leaves;
        index = has.index;
        bests = has.bests;
      },
    ))
