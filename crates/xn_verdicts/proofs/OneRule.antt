-- The rule that a directory breaks first is one, and so is the block that it names; and a directory that holds entries with
-- names of their own, and of whose inode the rules hold, breaks none.
use Rattle.std.proofs.Common.{◌≡◌, ◌⊎◌, ℕ, List, ◌++◌, sym, ap, subst, ◌∙◌, inl, inr}
use Rattle.std.specs.Prelude.{◌≢◌, flat_map}
use Rattle.xn_bytes.specs.Numbers.{number_at}
use Rattle.xn_bytes.specs.Superblock.{Geometry}
use Rattle.xn_bytes.specs.Blocks.{block_of}
use Rattle.xn_bytes.specs.Inode.{inode_of, local_format, HasCore, HasBothForks}
use Rattle.xn_bytes.specs.Entries.{Entry}
use Rattle.xn_bytes.specs.ShortDirectory.{ShortForm, ShortHolds}
use Rattle.xn_bytes.specs.DataBlock.{DataForm, LeafEntry, entries_among}
use Rattle.xn_bytes.specs.Directory.{HasShortSize, short_bytes_of, HasNames}
use Rattle.xn_bytes.specs.DirectoryForms.{HasExtentLists, data_runs_of, HasBlocksSize, HasTail, IsIndexOf, HoldsShort, HoldsBlock, HoldsFirst}
use Rattle.xn_bytes.specs.LeafForms.{DirFork, Placed, AreLeavesOf, HasBests, HoldsHashed, HoldsBlocks, data_fork_in, entries_placed, all_entries, with_first}
use Rattle.xn_bytes.specs.DirectoryHolds.{Holds, DirHolds}
use Rattle.xn_bytes.specs.DirectoryRules.{OrBreaks, BreaksShort, BreaksTail, BreaksFirst, BreaksBlock, BreaksBehind, BreaksHashed, BreaksBlocks, BreaksFirstRule, DirBreaks, HasInode}
use Rattle.xn_verdicts.proofs.OneList.{in_extents, one_short, one_block, one_first, same_first, same_data}
use Rattle.xn_verdicts.proofs.OneData.{no_data_fault, one_data_fault, one_live, no_leaves_fault, one_leaves_fault}

-- ---- one rule after another

-- the rule and the block are those of another verdict
record IsSameFault (r s b c : ℕ) : Type 0 where
  rule : r ≡ s
  block : b ≡ c

named_both : (r s b c number place : ℕ) → r ≡ number → s ≡ number → b ≡ place → c ≡ place → IsSameFault r s b c
named_both r s b c number place one other at there = record { rule = one ∙ sym other; block = at ∙ sym there }

-- of one fact in front, and what comes behind
same_or_behind : (r s b c number place : ℕ) (F R S : Type 0) → OrBreaks r b number place F R → OrBreaks s c number place F S → (R → S → IsSameFault r s b c) → IsSameFault r s b c
same_or_behind r s b c number place F R S (inl one) (inl other) behind = named_both r s b c number place one.0 other.0 one.1 other.1
same_or_behind r s b c number place F R S (inl one) (inr other) behind = absurd (one.2 other.0)
same_or_behind r s b c number place F R S (inr one) (inl other) behind = absurd (other.2 one.0)
same_or_behind r s b c number place F R S (inr one) (inr other) behind = behind one.1 other.1

-- where the fact holds, what is broken comes behind it
breaks_behind : (rule block number place : ℕ) (F R : Type 0) → F → OrBreaks rule block number place F R → R
breaks_behind rule block number place F R holds (inl breaks) = absurd (breaks.2 holds)
breaks_behind rule block number place F R holds (inr behind) = behind.1

-- rule 21 is the last
abbrev BreaksNames : ℕ → ℕ → List Entry → Type 0
BreaksNames rule block entries = (rule ≡ 21) × (block ≡ 0) × ¬ HasNames entries

same_names : (r s b c : ℕ) (xs ys : List Entry) → BreaksNames r b xs → BreaksNames s c ys → IsSameFault r s b c
same_names r s b c xs ys one other = named_both r s b c 21 0 one.0 other.0 one.1 other.1

-- ---- short form

abbrev HoldsSome : List ℕ → Type 0
HoldsSome inode = (form : ShortForm) × ShortHolds (short_bytes_of inode) form

abbrev BreaksShortNames : List ℕ → ℕ → ℕ → Type 0
BreaksShortNames inode rule block = (rule ≡ 21) × (block ≡ 0) × ((form : ShortForm) × ShortHolds (short_bytes_of inode) form × ¬ HasNames form.entries)

abbrev BehindShortSize : List ℕ → ℕ → ℕ → Type 0
BehindShortSize inode rule block = OrBreaks rule block 16 0 (HoldsSome inode) (BreaksShortNames inode rule block)

same_short_fault : (inode : List ℕ) (r s b c : ℕ) → BreaksShort inode r b → BreaksShort inode s c → IsSameFault r s b c
same_short_fault inode r s b c one other =
    same_or_behind r s b c 15 0 (HasShortSize inode) (BehindShortSize inode r b) (BehindShortSize inode s c) one other
    (λ first second. same_or_behind r s b c 16 0 (HoldsSome inode) (BreaksShortNames inode r b) (BreaksShortNames inode s c) first second
    (λ last too. named_both r s b c 21 0 last.0 too.0 last.1 too.1))

no_short_fault : (inode : List ℕ) (entries : List Entry) (dotdot rule block : ℕ) → HoldsShort inode entries dotdot → HasNames entries → BreaksShort inode rule block → ⊥
no_short_fault inode entries dotdot rule block holds names breaks =
    let behind = breaks_behind rule block 15 0 (HasShortSize inode) (BehindShortSize inode rule block) holds.size breaks in
    let last = breaks_behind rule block 16 0 (HoldsSome inode) (BreaksShortNames inode rule block) (holds.form, holds.holds) behind in
    let form : holds.form ≡ last.2.0 = one_short (short_bytes_of inode) holds.form last.2.0 holds.holds last.2.1 in
    last.2.2 (subst HasNames (holds.entries_are ∙ ap (λ (f : ShortForm). f.entries) form) names)

-- ---- block form

abbrev BehindTail : DataForm → List Entry → ℕ → ℕ → Type 0
BehindTail form entries rule block = OrBreaks rule block 19 0 (IsIndexOf form.leaves (entries_among form.regions)) (BreaksNames rule block entries)

same_tail_fault : (place : ℕ) (form : DataForm) (xs ys : List Entry) (r s b c : ℕ) → BreaksTail place form xs r b → BreaksTail place form ys s c → IsSameFault r s b c
same_tail_fault place form xs ys r s b c one other =
    same_or_behind r s b c 18 place (HasTail form) (BehindTail form xs r b) (BehindTail form ys s c) one other
    (λ first second. same_or_behind r s b c 19 0 (IsIndexOf form.leaves (entries_among form.regions)) (BreaksNames r b xs) (BreaksNames s c ys) first second
    (λ last too. same_names r s b c xs ys last too))

same_first_fault : (g : Geometry) (dir place : ℕ) (bytes : List ℕ) (r s b c : ℕ) → BreaksFirst g dir place bytes r b → BreaksFirst g dir place bytes s c → IsSameFault r s b c
same_first_fault g dir place bytes r s b c (inl one) (inl other) = named_both r s b c 17 place one.0 other.0 one.1 other.1
same_first_fault g dir place bytes r s b c (inl one) (inr other) = absurd (one.2 other.0 other.1 other.2 other.3)
same_first_fault g dir place bytes r s b c (inr one) (inl other) = absurd (other.2 one.0 one.1 one.2 one.3)
same_first_fault g dir place bytes r s b c (inr one) (inr other) =
    let form : one.0 ≡ other.0 = one_first g dir place bytes one.0 other.0 one.1 other.1 one.2 other.2 one.3 other.3 in
    same_tail_fault place other.0 one.1 other.1 r s b c (subst (λ (f : DataForm). BreaksTail place f one.1 r b) form one.4) other.4

-- what is broken in the one block, wherever it is
abbrev BreaksSized : Geometry → ℕ → List ℕ → (ℕ → List ℕ) → ℕ → ℕ → ℕ → Type 0
BreaksSized g dir inode blocks place rule block = OrBreaks rule block 15 0 (HasBlocksSize inode) (BreaksFirst g dir place (blocks place) rule block)

same_block_fault : (g : Geometry) (dir : ℕ) (inode : List ℕ) (blocks : ℕ → List ℕ) (r s b c : ℕ) → BreaksBlock g dir inode blocks r b → BreaksBlock g dir inode blocks s c → IsSameFault r s b c
same_block_fault g dir inode blocks r s b c one other =
    let place : ℕ = other.0 in
    let at : one.0 ≡ place = one_block (data_runs_of inode) one.0 place one.1 other.1 in
    let there : BreaksSized g dir inode blocks place r b = subst (λ (p : ℕ). BreaksSized g dir inode blocks p r b) at one.2 in
    same_or_behind r s b c 15 0 (HasBlocksSize inode) (BreaksFirst g dir place (blocks place) r b) (BreaksFirst g dir place (blocks place) s c) there other.2
    (λ first second. same_first_fault g dir place (blocks place) r s b c first second)

no_first_fault : (g : Geometry) (dir place : ℕ) (bytes : List ℕ) (form : DataForm) (entries : List Entry) (dotdot rule block : ℕ) → HoldsFirst g dir place bytes form entries dotdot → HasTail form
    → IsIndexOf form.leaves (entries_among form.regions) → HasNames entries → BreaksFirst g dir place bytes rule block → ⊥
no_first_fault g dir place bytes form entries dotdot rule block holds tail index names (inl breaks) = breaks.2 form entries dotdot holds
no_first_fault g dir place bytes form entries dotdot rule block holds tail index names (inr breaks) =
    let same_form : breaks.0 ≡ form = one_first g dir place bytes breaks.0 form breaks.1 entries breaks.2 dotdot breaks.3 holds in
    let same_entries : entries ≡ breaks.1 = (same_first g dir place bytes form breaks.0 entries breaks.1 dotdot breaks.2 holds breaks.3).entries in
    let there : BreaksTail place form breaks.1 rule block = subst (λ (f : DataForm). BreaksTail place f breaks.1 rule block) same_form breaks.4 in
    let behind = breaks_behind rule block 18 place (HasTail form) (BehindTail form breaks.1 rule block) tail there in
    let last = breaks_behind rule block 19 0 (IsIndexOf form.leaves (entries_among form.regions)) (BreaksNames rule block breaks.1) index behind in
    last.2 (subst HasNames same_entries names)

no_block_fault : (g : Geometry) (dir : ℕ) (inode : List ℕ) (blocks : ℕ → List ℕ) (entries : List Entry) (dotdot rule block : ℕ) → HoldsBlock g dir inode blocks entries dotdot → HasNames entries → BreaksBlock g dir inode blocks rule block → ⊥
no_block_fault g dir inode blocks entries dotdot rule block holds names breaks =
    let place : ℕ = holds.block in
    let at : breaks.0 ≡ place = one_block (data_runs_of inode) breaks.0 place breaks.1 holds.alone in
    let there : BreaksSized g dir inode blocks place rule block = subst (λ (p : ℕ). BreaksSized g dir inode blocks p rule block) at breaks.2 in
    no_first_fault g dir place (blocks place) holds.form entries dotdot rule block holds.first holds.tail holds.index names
    (breaks_behind rule block 15 0 (HasBlocksSize inode) (BreaksFirst g dir place (blocks place) rule block) holds.size there)

-- ---- leaf and node form

abbrev BehindIndex : DirFork → DataForm → List Placed → List Entry → ℕ → ℕ → Type 0
BehindIndex d first others front rule block = OrBreaks rule block 20 0 (HasBests d (with_first first others)) (BreaksNames rule block (front ++ flat_map entries_placed others))

abbrev BehindLeaves : DirFork → DataForm → List Placed → List Entry → List LeafEntry → ℕ → ℕ → Type 0
BehindLeaves d first others front live rule block = OrBreaks rule block 19 0 (AreLeavesOf live (all_entries first others)) (BehindIndex d first others front rule block)

same_fault_behind : (d : DirFork) (first : DataForm) (others : List Placed) (front : List Entry) (r s b c : ℕ) → BreaksBehind d first others front r b → BreaksBehind d first others front s c → IsSameFault r s b c
same_fault_behind d first others front r s b c (inl one) (inl other) = record { rule = one.0 ∙ sym other.0; block = one_leaves_fault d b c one.1 other.1 }
same_fault_behind d first others front r s b c (inl one) (inr other) = absurd (no_leaves_fault d other.0 b other.1 one.1)
same_fault_behind d first others front r s b c (inr one) (inl other) = absurd (no_leaves_fault d one.0 c one.1 other.1)
same_fault_behind d first others front r s b c (inr one) (inr other) =
    let live : List LeafEntry = other.0 in
    let same : one.0 ≡ live = one_live d one.0 live one.1 other.1 in
    let there : BehindLeaves d first others front live r b = subst (λ (l : List LeafEntry). BehindLeaves d first others front l r b) same one.2 in
    let entries : List Entry = front ++ flat_map entries_placed others in
    same_or_behind r s b c 19 0 (AreLeavesOf live (all_entries first others)) (BehindIndex d first others front r b) (BehindIndex d first others front s c) there other.2
    (λ index indexed. same_or_behind r s b c 20 0 (HasBests d (with_first first others)) (BreaksNames r b entries) (BreaksNames s c entries) index indexed
    (λ last too. same_names r s b c entries entries last too))

-- what is broken behind the data blocks is broken behind the same data blocks
behind_same : (d : DirFork) (first one : DataForm) (others more : List Placed) (front behind : List Entry) (rule block : ℕ) → first ≡ one → others ≡ more → front ≡ behind → BreaksBehind d first others front rule block
    → BreaksBehind d one more behind rule block
behind_same d first one others more front behind rule block first_is others_are front_is breaks =
    subst (λ (es : List Entry). BreaksBehind d one more es rule block) front_is
    (subst (λ (ps : List Placed). BreaksBehind d one ps front rule block) others_are
    (subst (λ (f : DataForm). BreaksBehind d f others front rule block) first_is breaks))

same_hashed_fault : (d : DirFork) (r s b c : ℕ) → BreaksHashed d r b → BreaksHashed d s c → IsSameFault r s b c
same_hashed_fault d r s b c (inl one) (inl other) = record { rule = one.0 ∙ sym other.0; block = one_data_fault d b c one.1 other.1 }
same_hashed_fault d r s b c (inl one) (inr other) = absurd (no_data_fault d other.0 other.1 other.2 other.3 b other.4 one.1)
same_hashed_fault d r s b c (inr one) (inl other) = absurd (no_data_fault d one.0 one.1 one.2 one.3 c one.4 other.1)
same_hashed_fault d r s b c (inr one) (inr other) =
    let same = same_data d one.0 other.0 one.1 other.1 one.2 other.2 one.3 other.3 one.4 other.4 in
    same_fault_behind d other.0 other.1 other.2 r s b c (behind_same d one.0 other.0 one.1 other.1 one.2 other.2 r b same.first_is same.others_are same.front_is one.5) other.5

same_blocks_fault : (g : Geometry) (dir : ℕ) (inode : List ℕ) (blocks : ℕ → List ℕ) (r s b c : ℕ) → BreaksBlocks g dir inode blocks r b → BreaksBlocks g dir inode blocks s c → IsSameFault r s b c
same_blocks_fault g dir inode blocks r s b c one other =
    let d : DirFork = data_fork_in g dir inode blocks in
    same_or_behind r s b c 15 0 (HasBlocksSize inode) (BreaksHashed d r b) (BreaksHashed d s c) one.1 other.1 (λ first second. same_hashed_fault d r s b c first second)

no_fault_behind : (d : DirFork) (entries : List Entry) (dotdot rule block : ℕ) → (holds : HoldsHashed d entries dotdot) → HasNames entries
    → BreaksBehind d holds.first holds.others holds.front rule block → ⊥
no_fault_behind d entries dotdot rule block holds names (inl breaks) = no_leaves_fault d holds.live block holds.leaves breaks.1
no_fault_behind d entries dotdot rule block holds names (inr breaks) =
    let same : breaks.0 ≡ holds.live = one_live d breaks.0 holds.live breaks.1 holds.leaves in
    let there : BehindLeaves d holds.first holds.others holds.front holds.live rule block = subst (λ (l : List LeafEntry). BehindLeaves d holds.first holds.others holds.front l rule block) same breaks.2 in
    let behind = breaks_behind rule block 19 0 (AreLeavesOf holds.live (all_entries holds.first holds.others)) (BehindIndex d holds.first holds.others holds.front rule block) holds.index there in
    let last = breaks_behind rule block 20 0 (HasBests d (with_first holds.first holds.others)) (BreaksNames rule block (holds.front ++ flat_map entries_placed holds.others)) holds.bests behind in
    last.2 (subst HasNames holds.entries_are names)

no_hashed_fault : (d : DirFork) (entries : List Entry) (dotdot rule block : ℕ) → HoldsHashed d entries dotdot → HasNames entries → BreaksHashed d rule block → ⊥
no_hashed_fault d entries dotdot rule block holds names (inl breaks) = no_data_fault d holds.first holds.others holds.front dotdot block holds.data_blocks breaks.1
no_hashed_fault d entries dotdot rule block holds names (inr breaks) =
    let same = same_data d breaks.0 holds.first breaks.1 holds.others breaks.2 holds.front breaks.3 dotdot breaks.4 holds.data_blocks in
    no_fault_behind d entries dotdot rule block holds names (behind_same d breaks.0 holds.first breaks.1 holds.others breaks.2 holds.front rule block same.first_is same.others_are same.front_is breaks.5)

no_blocks_fault : (g : Geometry) (dir : ℕ) (inode : List ℕ) (blocks : ℕ → List ℕ) (entries : List Entry) (dotdot rule block : ℕ) → HoldsBlocks g dir inode blocks entries dotdot → HasNames entries → BreaksBlocks g dir inode blocks rule block → ⊥
no_blocks_fault g dir inode blocks entries dotdot rule block holds names breaks =
    let d : DirFork = data_fork_in g dir inode blocks in
    no_hashed_fault d entries dotdot rule block holds.holds names (breaks_behind rule block 15 0 (HasBlocksSize inode) (BreaksHashed d rule block) holds.size breaks.1)

-- ---- a directory

-- of short form, of block form, or of leaf and node form
abbrev BreaksInForm : Geometry → ℕ → List ℕ → (ℕ → List ℕ) → ℕ → ℕ → Type 0
BreaksInForm g dir inode blocks rule block =
    ((number_at 1 5 inode ≡ local_format) × BreaksShort inode rule block)
    ⊎ ((number_at 1 5 inode ≢ local_format) × (BreaksBlock g dir inode blocks rule block ⊎ BreaksBlocks g dir inode blocks rule block))

same_in_blocks : (g : Geometry) (dir : ℕ) (inode : List ℕ) (blocks : ℕ → List ℕ) (r s b c : ℕ) → BreaksBlock g dir inode blocks r b ⊎ BreaksBlocks g dir inode blocks r b → BreaksBlock g dir inode blocks s c ⊎ BreaksBlocks g dir inode blocks s c
    → IsSameFault r s b c
same_in_blocks g dir inode blocks r s b c (inl one) (inl other) = same_block_fault g dir inode blocks r s b c one other
same_in_blocks g dir inode blocks r s b c (inl one) (inr other) = absurd (other.0.not_alone one.0 one.1)
same_in_blocks g dir inode blocks r s b c (inr one) (inl other) = absurd (one.0.not_alone other.0 other.1)
same_in_blocks g dir inode blocks r s b c (inr one) (inr other) = same_blocks_fault g dir inode blocks r s b c one other

same_in_form : (g : Geometry) (dir : ℕ) (inode : List ℕ) (blocks : ℕ → List ℕ) (r s b c : ℕ) → BreaksInForm g dir inode blocks r b → BreaksInForm g dir inode blocks s c → IsSameFault r s b c
same_in_form g dir inode blocks r s b c (inl one) (inl other) = same_short_fault inode r s b c one.1 other.1
same_in_form g dir inode blocks r s b c (inl one) (inr other) = absurd (other.0 one.0)
same_in_form g dir inode blocks r s b c (inr one) (inl other) = absurd (one.0 other.0)
same_in_form g dir inode blocks r s b c (inr one) (inr other) = same_in_blocks g dir inode blocks r s b c one.1 other.1

no_fault_in_form : (g : Geometry) (dir : ℕ) (inode : List ℕ) (blocks : ℕ → List ℕ) (entries : List Entry) (dotdot rule block : ℕ) → Holds g dir inode blocks entries dotdot → HasNames entries → BreaksInForm g dir inode blocks rule block → ⊥
no_fault_in_form g dir inode blocks entries dotdot rule block (inl holds) names (inl breaks) = no_short_fault inode entries dotdot rule block holds names breaks.1
no_fault_in_form g dir inode blocks entries dotdot rule block (inl holds) names (inr breaks) = breaks.0 holds.is_local
no_fault_in_form g dir inode blocks entries dotdot rule block (inr (inl holds)) names (inl breaks) = in_extents inode holds.is_extents breaks.0
no_fault_in_form g dir inode blocks entries dotdot rule block (inr (inl holds)) names (inr (other, inl breaks)) = no_block_fault g dir inode blocks entries dotdot rule block holds names breaks
no_fault_in_form g dir inode blocks entries dotdot rule block (inr (inl holds)) names (inr (other, inr breaks)) = breaks.0.not_alone holds.block holds.alone
no_fault_in_form g dir inode blocks entries dotdot rule block (inr (inr holds)) names (inl breaks) = in_extents inode holds.form.is_extents breaks.0
no_fault_in_form g dir inode blocks entries dotdot rule block (inr (inr holds)) names (inr (other, inl breaks)) = holds.form.not_alone breaks.0 breaks.1
no_fault_in_form g dir inode blocks entries dotdot rule block (inr (inr holds)) names (inr (other, inr breaks)) = no_blocks_fault g dir inode blocks entries dotdot rule block holds names breaks

-- the rules of the inode come first
abbrev BehindForks : Geometry → ℕ → List ℕ → (ℕ → List ℕ) → ℕ → ℕ → Type 0
BehindForks g dir inode blocks rule block = OrBreaks rule block 13 0 (HasExtentLists g inode) (BreaksInForm g dir inode blocks rule block)

abbrev BehindCore : Geometry → ℕ → List ℕ → (ℕ → List ℕ) → ℕ → ℕ → Type 0
BehindCore g dir inode blocks rule block = OrBreaks rule block 11 0 (HasBothForks g inode dir) (BehindForks g dir inode blocks rule block)

same_fault : (g : Geometry) (dir : ℕ) (inode : List ℕ) (blocks : ℕ → List ℕ) (r s b c : ℕ) → BreaksFirstRule g dir inode blocks r b → BreaksFirstRule g dir inode blocks s c → IsSameFault r s b c
same_fault g dir inode blocks r s b c one other =
    same_or_behind r s b c 10 0 (HasCore inode dir g.meta_uuid) (BehindCore g dir inode blocks r b) (BehindCore g dir inode blocks s c) one other
    (λ core cored. same_or_behind r s b c 11 0 (HasBothForks g inode dir) (BehindForks g dir inode blocks r b) (BehindForks g dir inode blocks s c) core cored
    (λ forks forked. same_or_behind r s b c 13 0 (HasExtentLists g inode) (BreaksInForm g dir inode blocks r b) (BreaksInForm g dir inode blocks s c) forks forked
    (λ first second. same_in_form g dir inode blocks r s b c first second)))

no_fault : (g : Geometry) (dir : ℕ) (inode : List ℕ) (blocks : ℕ → List ℕ) (entries : List Entry) (dotdot rule block : ℕ) → HasInode g inode dir → Holds g dir inode blocks entries dotdot → HasNames entries
    → BreaksFirstRule g dir inode blocks rule block → ⊥
no_fault g dir inode blocks entries dotdot rule block has holds names breaks =
    let core = breaks_behind rule block 10 0 (HasCore inode dir g.meta_uuid) (BehindCore g dir inode blocks rule block) has.core breaks in
    let forks = breaks_behind rule block 11 0 (HasBothForks g inode dir) (BehindForks g dir inode blocks rule block) has.forks core in
    let lists = breaks_behind rule block 13 0 (HasExtentLists g inode) (BreaksInForm g dir inode blocks rule block) has.lists forks in
    no_fault_in_form g dir inode blocks entries dotdot rule block holds names lists

-- ---- over an image

-- the rule is one, and so is the block
pub one_fault : (g : Geometry) (image : List ℕ) (dir r s b c : ℕ) → DirBreaks g image dir r b → DirBreaks g image dir s c → (r ≡ s) × (b ≡ c)
one_fault g image dir r s b c one other =
    let same = same_fault g dir (inode_of g image dir) (block_of g image) r s b c one other in
    (same.rule, same.block)

pub one_rule : (g : Geometry) (image : List ℕ) (dir r s b c : ℕ) → DirBreaks g image dir r b → DirBreaks g image dir s c → r ≡ s
one_rule g image dir r s b c one other = (one_fault g image dir r s b c one other).0

pub holds_or_breaks : (g : Geometry) (image : List ℕ) (dir : ℕ) (entries : List Entry) (dotdot rule block : ℕ) → HasInode g (inode_of g image dir) dir → DirHolds g image dir entries dotdot → HasNames entries
    → DirBreaks g image dir rule block → ⊥
holds_or_breaks g image dir entries dotdot rule block has holds names breaks = no_fault g dir (inode_of g image dir) (block_of g image) entries dotdot rule block has holds names breaks
