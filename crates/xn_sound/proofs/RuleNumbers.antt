-- An inode breaks one rule of a number: the number says whether block 0 is named, and otherwise by what the rule is broken.
use Rattle.std.proofs.Common.{◌≡◌, ◌⊎◌, ℕ, ◌≤◌, List, subst, sym, ◌∙◌, inl, inr, arith}
use Rattle.xn_bytes.specs.Superblock.{Geometry}
use Rattle.xn_bytes.specs.Entries.{Entry}
use Rattle.xn_bytes.specs.DataBlock.{DataForm}
use Rattle.xn_bytes.specs.LeafForms.{DirFork, Placed, data_fork_in}
use Rattle.xn_bytes.specs.DirectoryRules.{BreaksBehind, BreaksBlock, BreaksBlocks, BreaksFirst, BreaksHashed, BreaksShort, BreaksTail, DirBreaks}
use Rattle.xn_bytes.specs.AttributeForks.{AttrBreaks}
use Rattle.xn_bytes.specs.ParentRecords.{ParentsBreak}
use Rattle.xn_bytes.specs.Blocks.{block_of}
use Rattle.xn_bytes.specs.Inode.{inode_of}
use Rattle.xn_meaning.specs.Manifests.{Manifest}
use Rattle.xn_rules.specs.NameRules.{BreaksRule}
use Rattle.xn_rules.specs.Namings.{Naming}
use Rattle.xn_verdicts.proofs.OneParents.{parents_one_rule}
use Rattle.xn_verdicts.proofs.OneRule.{one_fault}

-- ---- of a directory

-- a rule from 15 to 20, or one of the others with block 0
abbrev HasDirectoryNumber : ℕ → ℕ → Type 0
HasDirectoryNumber rule block = ((15 ≤ rule) × (rule ≤ 20)) ⊎ ((rule ≤ 14) × (block ≡ 0)) ⊎ ((rule ≡ 21) × (block ≡ 0))

within : (rule block number : ℕ) → 15 ≤ number → number ≤ 20 → rule ≡ number → HasDirectoryNumber rule block
within rule block number many few is = inl (omega arith, omega arith)

below : (rule block number : ℕ) → number ≤ 14 → rule ≡ number → block ≡ 0 → HasDirectoryNumber rule block
below rule block number few is at = inr (inl (omega arith, at))

short_numbers : (inode : List ℕ) (rule block : ℕ) → BreaksShort inode rule block → HasDirectoryNumber rule block
short_numbers inode rule block (inl (is, at, wrong)) = within rule block 15 (omega arith) (omega arith) is
short_numbers inode rule block (inr (size, inl (is, at, wrong))) = within rule block 16 (omega arith) (omega arith) is
short_numbers inode rule block (inr (size, inr (form, (is, at, names)))) = inr (inr (is, at))

tail_numbers : (place : ℕ) (form : DataForm) (entries : List Entry) (rule block : ℕ) → BreaksTail place form entries rule block
    → HasDirectoryNumber rule block
tail_numbers place form entries rule block (inl (is, at, wrong)) = within rule block 18 (omega arith) (omega arith) is
tail_numbers place form entries rule block (inr (tail, inl (is, at, wrong))) = within rule block 19 (omega arith) (omega arith) is
tail_numbers place form entries rule block (inr (tail, inr (index, (is, at, names)))) = inr (inr (is, at))

first_numbers : (g : Geometry) (dir place : ℕ) (bytes : List ℕ) (rule block : ℕ) → BreaksFirst g dir place bytes rule block
    → HasDirectoryNumber rule block
first_numbers g dir place bytes rule block (inl (is, at, wrong)) = within rule block 17 (omega arith) (omega arith) is
first_numbers g dir place bytes rule block (inr (form, entries, dotdot, holds, tail)) = tail_numbers place form entries rule block tail

block_numbers : (g : Geometry) (dir : ℕ) (inode : List ℕ) (blocks : ℕ → List ℕ) (rule block : ℕ)
    → BreaksBlock g dir inode blocks rule block → HasDirectoryNumber rule block
block_numbers g dir inode blocks rule block (place, alone, inl (is, at, wrong)) = within rule block 15 (omega arith) (omega arith) is
block_numbers g dir inode blocks rule block (place, alone, inr (size, first)) = first_numbers g dir place (blocks place) rule block first

numbers_behind : (d : DirFork) (first : DataForm) (others : List Placed) (front : List Entry) (rule block : ℕ)
    → BreaksBehind d first others front rule block → HasDirectoryNumber rule block
numbers_behind d first others front rule block (inl (is, leaves)) = within rule block 18 (omega arith) (omega arith) is
numbers_behind d first others front rule block (inr (live, leaves, inl (is, at, wrong))) =
    within rule block 19 (omega arith) (omega arith) is
numbers_behind d first others front rule block (inr (live, leaves, inr (index, inl (is, at, wrong)))) =
    within rule block 20 (omega arith) (omega arith) is
numbers_behind d first others front rule block (inr (live, leaves, inr (index, inr (bests, (is, at, names))))) = inr (inr (is, at))

hashed_numbers : (d : DirFork) (rule block : ℕ) → BreaksHashed d rule block → HasDirectoryNumber rule block
hashed_numbers d rule block (inl (is, wrong)) = within rule block 17 (omega arith) (omega arith) is
hashed_numbers d rule block (inr (first, others, front, dotdot, blocks, behind)) = numbers_behind d first others front rule block behind

blocks_numbers : (g : Geometry) (dir : ℕ) (inode : List ℕ) (blocks : ℕ → List ℕ) (rule block : ℕ)
    → BreaksBlocks g dir inode blocks rule block → HasDirectoryNumber rule block
blocks_numbers g dir inode blocks rule block (form, inl (is, at, wrong)) = within rule block 15 (omega arith) (omega arith) is
blocks_numbers g dir inode blocks rule block (form, inr (size, hashed)) = hashed_numbers (data_fork_in g dir inode blocks) rule block hashed

directory_numbers : (g : Geometry) (image : List ℕ) (dir rule block : ℕ) → DirBreaks g image dir rule block → HasDirectoryNumber rule block
directory_numbers g image dir rule block (inl (is, at, wrong)) = below rule block 10 (omega arith) is at
directory_numbers g image dir rule block (inr (core, inl (is, at, wrong))) = below rule block 11 (omega arith) is at
directory_numbers g image dir rule block (inr (core, inr (forks, inl (is, at, wrong)))) = below rule block 13 (omega arith) is at
directory_numbers g image dir rule block (inr (core, inr (forks, inr (lists, inl (form, short))))) =
    short_numbers (inode_of g image dir) rule block short
directory_numbers g image dir rule block (inr (core, inr (forks, inr (lists, inr (form, inl one))))) =
    block_numbers g dir (inode_of g image dir) (block_of g image) rule block one
directory_numbers g image dir rule block (inr (core, inr (forks, inr (lists, inr (form, inr many))))) =
    blocks_numbers g dir (inode_of g image dir) (block_of g image) rule block many

-- ---- of parent records

-- rule 24 or 25, or one of the others with block 0
abbrev HasParentNumber : ℕ → ℕ → Type 0
HasParentNumber rule block = ((24 ≤ rule) × (rule ≤ 25)) ⊎ ((rule ≤ 14) × (block ≡ 0)) ⊎ ((rule ≡ 26) × (block ≡ 0))

attribute_numbers : (g : Geometry) (image : List ℕ) (ino rule block : ℕ) → AttrBreaks g image ino rule block → HasParentNumber rule block
attribute_numbers g image ino rule block (inl (is, at, wrong)) = inr (inl (omega (arith, is), at))
attribute_numbers g image ino rule block (inr (core, inl (is, at, wrong))) = inr (inl (omega (arith, is), at))
attribute_numbers g image ino rule block (inr (core, inr (forks, inl (is, at, wrong)))) = inr (inl (omega (arith, is), at))
attribute_numbers g image ino rule block (inr (core, inr (forks, inr (lists, inl (is, at, short, none))))) =
    inl (omega (arith, is), omega (arith, is))
attribute_numbers g image ino rule block (inr (core, inr (forks, inr (lists, inr (is, tree, fails))))) =
    inl (omega (arith, is), omega (arith, is))

parent_numbers : (g : Geometry) (image : List ℕ) (ino rule block : ℕ) → ParentsBreak g image ino rule block → HasParentNumber rule block
parent_numbers g image ino rule block (inl breaks) = attribute_numbers g image ino rule block breaks
parent_numbers g image ino rule block (inr (is, at, own, wrong)) = inr (inr (is, at))

-- ---- of all rules of an inode

-- a rule that names block 0, whatever is broken
record NamesNone (rule block : ℕ) : Type 0 where
  at : block ≡ 0
  no_directory : 15 ≤ rule → rule ≤ 20 → ⊥
  no_fork : 24 ≤ rule → rule ≤ 25 → ⊥

-- one of a directory's blocks, and one of an attribute fork
record NamesBlock (g : Geometry) (image : List ℕ) (ino rule block : ℕ) : Type 0 where
  from : 15 ≤ rule
  upto : rule ≤ 20
  breaks : DirBreaks g image ino rule block

record NamesFork (g : Geometry) (image : List ℕ) (ino rule block : ℕ) : Type 0 where
  from : 24 ≤ rule
  upto : rule ≤ 25
  breaks : ParentsBreak g image ino rule block

-- each rule is one of these
abbrev Names : Geometry → List ℕ → ℕ → ℕ → ℕ → Type 0
Names g image ino rule block = NamesNone rule block ⊎ NamesBlock g image ino rule block ⊎ NamesFork g image ino rule block

lowest : (rule block : ℕ) → rule ≤ 14 → block ≡ 0 → NamesNone rule block
lowest rule block few at =
    record { at = at; no_directory = λ from upto. omega (arith, few, from); no_fork = λ from upto. omega (arith, few, from) }

numbered : (rule block number : ℕ) → (15 ≤ number → number ≤ 20 → ⊥) → (24 ≤ number → number ≤ 25 → ⊥) → rule ≡ number → block ≡ 0
    → NamesNone rule block
numbered rule block number no_directory no_fork is at = record {
  at = at;
  no_directory = λ from upto. no_directory (omega (arith, is, from)) (omega (arith, is, upto));
  no_fork = λ from upto. no_fork (omega (arith, is, from)) (omega (arith, is, upto));
}

module _ (g : Geometry) (image : List ℕ) (ino : ℕ) where
  by_directory : (rule block : ℕ) → DirBreaks g image ino rule block → HasDirectoryNumber rule block → Names g image ino rule block
  by_directory rule block breaks (inl (from, upto)) = inr (inl (record { from = from; upto = upto; breaks = breaks }))
  by_directory rule block breaks (inr (inl (few, at))) = inl (lowest rule block few at)
  by_directory rule block breaks (inr (inr (is, at))) =
      inl (numbered rule block 21 (λ from upto. omega arith) (λ from upto. omega arith) is at)

  by_parents : (rule block : ℕ) → ParentsBreak g image ino rule block → HasParentNumber rule block → Names g image ino rule block
  by_parents rule block breaks (inl (from, upto)) = inr (inr (record { from = from; upto = upto; breaks = breaks }))
  by_parents rule block breaks (inr (inl (few, at))) = inl (lowest rule block few at)
  by_parents rule block breaks (inr (inr (is, at))) =
      inl (numbered rule block 26 (λ from upto. omega arith) (λ from upto. omega arith) is at)

  named : (m : Manifest) (namings : List Naming) (rule block : ℕ) → BreaksRule g m image namings ino rule block
      → Names g image ino rule block
  named m namings rule block (inl (inl (directory, breaks))) =
      by_directory rule block breaks (directory_numbers g image ino rule block breaks)
  named m namings rule block (inl (inr (inl (is, at, breaks)))) =
      inl (numbered rule block 14 (λ from upto. omega arith) (λ from upto. omega arith) is at)
  named m namings rule block (inl (inr (inr breaks))) = by_parents rule block breaks (parent_numbers g image ino rule block breaks)
  named m namings rule block (inr (at, inl (is, breaks))) =
      inl (numbered rule block 12 (λ from upto. omega arith) (λ from upto. omega arith) is at)
  named m namings rule block (inr (at, inr (inl (is, breaks)))) =
      inl (numbered rule block 21 (λ from upto. omega arith) (λ from upto. omega arith) is at)
  named m namings rule block (inr (at, inr (inr (inl (is, breaks))))) =
      inl (numbered rule block 22 (λ from upto. omega arith) (λ from upto. omega arith) is at)
  named m namings rule block (inr (at, inr (inr (inr (inl (is, breaks)))))) =
      inl (numbered rule block 23 (λ from upto. omega arith) (λ from upto. omega arith) is at)
  named m namings rule block (inr (at, inr (inr (inr (inr (is, breaks)))))) =
      inl (numbered rule block 27 (λ from upto. omega arith) (λ from upto. omega arith) is at)

  one_named : (rule b c : ℕ) → Names g image ino rule b → Names g image ino rule c → b ≡ c
  one_named rule b c (inl none) (inl neither) = none.at ∙ sym neither.at
  one_named rule b c (inl none) (inr (inl block)) = absurd (none.no_directory block.from block.upto)
  one_named rule b c (inl none) (inr (inr fork)) = absurd (none.no_fork fork.from fork.upto)
  one_named rule b c (inr (inl block)) (inl none) = absurd (none.no_directory block.from block.upto)
  one_named rule b c (inr (inl block)) (inr (inl other)) = (one_fault g image ino rule rule b c block.breaks other.breaks).1
  one_named rule b c (inr (inl block)) (inr (inr fork)) = absurd (omega (arith, block.upto, fork.from))
  one_named rule b c (inr (inr fork)) (inl none) = absurd (none.no_fork fork.from fork.upto)
  one_named rule b c (inr (inr fork)) (inr (inl block)) = absurd (omega (arith, block.upto, fork.from))
  one_named rule b c (inr (inr fork)) (inr (inr other)) = (parents_one_rule g image ino rule rule b c fork.breaks other.breaks).1

  -- of one rule one block is named
  pub one_block : (m : Manifest) (namings : List Naming) (r s b c : ℕ) → r ≡ s → BreaksRule g m image namings ino r b
      → BreaksRule g m image namings ino s c → b ≡ c
  one_block m namings r s b c same one other =
      let there : BreaksRule g m image namings ino s b = subst (λ (rule : ℕ). BreaksRule g m image namings ino rule b) same one in
      one_named s b c (named m namings s b there) (named m namings s c other)
