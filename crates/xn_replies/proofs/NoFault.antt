-- A directory that holds entries with names fails no look-up: what one tells in short and block form would be told of the whole, and
-- in leaf and node form the blocks that it looks at are right.
use Rattle.std.proofs.Common.{◌≡◌, ◌⊎◌, ℕ, List, sym, subst, inl, inr}
use Rattle.std.specs.Prelude.{Contains, IsSome}
use Rattle.std.proofs.lemmas.Bool.{cases_eq}
use Rattle.std.proofs.lemmas.List.Elements.{All-contains}
use Rattle.xn_bytes.specs.Superblock.{Geometry}
use Rattle.xn_bytes.specs.Blocks.{block_of}
use Rattle.xn_bytes.specs.Inode.{inode_of}
use Rattle.xn_bytes.specs.Extents.{Run, mapped}
use Rattle.xn_bytes.specs.Entries.{Entry}
use Rattle.xn_bytes.specs.DataBlock.{DataForm}
use Rattle.xn_bytes.specs.Directory.{HasNames}
use Rattle.xn_bytes.specs.LeafForms.{DirFork, Placed, IsPlaced, HasData, HasLeaves, HoldsHashed, with_first, data_fork_in}
use Rattle.xn_bytes.specs.DirectoryHolds.{Holds, DirHolds}
use Rattle.xn_bytes.specs.DirectoryRules.{OrBreaksInode, IsDataAt, IsRightData, BreaksFirstRule, HasInode}
use Rattle.xn_bytes.specs.DirectoryRules.{FailsLeaves, FailsHashed, FailsBlocks, FailsRule, DirFails}
use Rattle.xn_verdicts.proofs.OneList.{in_extents, first_placed}
use Rattle.xn_verdicts.proofs.OneData.{no_leaves_fault}
use Rattle.xn_verdicts.proofs.OneRule.{holds_or_breaks}

-- ---- data blocks

mapped_there : (runs : List Run) (number : ℕ) → (number ≡ 0) ⊎ IsSome (mapped runs number) → (number ≡ 0 → ⊥) → IsSome (mapped runs number)
mapped_there runs number (inl is_zero) other = absurd (other is_zero)
mapped_there runs number (inr there) other = there

-- each data block that has to be right is right
right_data : (d : DirFork) (first : DataForm) (others : List Placed) (front : List Entry) (dotdot number : ℕ)
    → HasData d first others front dotdot → IsDataAt d.runs number → IsRightData d number
right_data d first others front dotdot number has at = elim (cases_eq number 0) [
  | inl is_zero ↦ (
    first,
    subst (λ (n : ℕ). IsPlaced d (record { number = n; form = first })) (sym is_zero) (first_placed d first others front dotdot has),
    λ is_first. (front, dotdot, has.dots),
  )
  | inr other ↦
      let any = has.data_blocks.complete number at.0 (mapped_there d.runs number at.1 other) in
      let placed : Placed = any.1 in
      let within : Contains (with_first first others) placed = (any.0, any.2, any.3) in
      let is : IsPlaced d placed = All-contains (IsPlaced d) (with_first first others) placed has.data_blocks.each within in
      (placed.form, subst (λ (n : ℕ). IsPlaced d (record { number = n; form = placed.form })) any.4 is, λ is_first. absurd (other is_first))
]

-- ---- leaf and node form

no_leaves_failure : (d : DirFork) (entries : List Entry) (dotdot block : ℕ) → (holds : HoldsHashed d entries dotdot)
    → HasLeaves d holds.live → FailsLeaves d block → ⊥
no_leaves_failure d entries dotdot block holds leaves (inl fails) = no_leaves_fault d holds.live block leaves fails.1
no_leaves_failure d entries dotdot block holds (inl has) (inr fails) = fails.0 has.0
no_leaves_failure d entries dotdot block holds (inr has) (inr fails) = fails.1.1.0 has.1.0 has.1.1

no_hashed_failure : (d : DirFork) (entries : List Entry) (dotdot rule block : ℕ) → HoldsHashed d entries dotdot → FailsHashed d rule block
    → ⊥
no_hashed_failure d entries dotdot rule block holds (inl (is, (number, fails))) =
    fails.is_wrong (right_data d holds.first holds.others holds.front dotdot number holds.data_blocks fails.is_data)
no_hashed_failure d entries dotdot rule block holds (inr (inl (is, fails))) =
    no_leaves_failure d entries dotdot block holds holds.leaves fails
no_hashed_failure d entries dotdot rule block holds (inr (inr (is, none, fails))) =
    fails holds.first holds.others holds.front dotdot holds.live holds.data_blocks holds.leaves holds.index

no_blocks_failure : (g : Geometry) (dir : ℕ) (inode : List ℕ) (blocks : ℕ → List ℕ) (entries : List Entry) (dotdot rule block : ℕ)
    → Holds g dir inode blocks entries dotdot → FailsBlocks g dir inode blocks rule block → ⊥
no_blocks_failure g dir inode blocks entries dotdot rule block (inl holds) (form, fails) = in_extents inode form.is_extents holds.is_local
no_blocks_failure g dir inode blocks entries dotdot rule block (inr (inl holds)) (form, fails) = form.not_alone holds.block holds.alone
no_blocks_failure g dir inode blocks entries dotdot rule block (inr (inr holds)) (form, inl size) = size.2 holds.size
no_blocks_failure g dir inode blocks entries dotdot rule block (inr (inr holds)) (form, inr fails) =
    no_hashed_failure (data_fork_in g dir inode blocks) entries dotdot rule block holds.holds fails.1

-- ---- a directory

-- the rules of the inode hold, and the rest goes on
behind_inode : (g : Geometry) (dir : ℕ) (inode : List ℕ) (rule block : ℕ) (Rest : Type 0) → HasInode g inode dir
    → OrBreaksInode g dir inode rule block Rest → Rest
behind_inode g dir inode rule block Rest has (inl breaks) = absurd (breaks.2 has.core)
behind_inode g dir inode rule block Rest has (inr (core, inl breaks)) = absurd (breaks.2 has.forks)
behind_inode g dir inode rule block Rest has (inr (core, inr (forks, inl breaks))) = absurd (breaks.2 has.lists)
behind_inode g dir inode rule block Rest has (inr (core, inr (forks, inr (lists, rest)))) = rest

-- what a look-up tells is told of the whole, but in leaf and node form
breaks_or_fails : (g : Geometry) (dir : ℕ) (inode : List ℕ) (blocks : ℕ → List ℕ) (rule block : ℕ) → HasInode g inode dir
    → FailsRule g dir inode blocks rule block
    → BreaksFirstRule g dir inode blocks rule block ⊎ FailsBlocks g dir inode blocks rule block
breaks_or_fails g dir inode blocks rule block has fails = elim (behind_inode g dir inode rule block _ has fails) [
  | inl short ↦ inl (inr (has.core, inr (has.forks, inr (has.lists, inl short))))
  | inr other ↦ elim other.1 [
    | inl breaks ↦ inl (inr (has.core, inr (has.forks, inr (has.lists, inr (other.0, inl breaks)))))
    | inr in_blocks ↦ inr in_blocks
  ]
]

pub holds_or_fails : (g : Geometry) (image : List ℕ) (dir : ℕ) (entries : List Entry) (dotdot rule block : ℕ)
    → HasInode g (inode_of g image dir) dir → DirHolds g image dir entries dotdot → HasNames entries → DirFails g image dir rule block → ⊥
holds_or_fails g image dir entries dotdot rule block has holds names fails =
    elim (breaks_or_fails g dir (inode_of g image dir) (block_of g image) rule block has fails) [
      | inl breaks ↦ holds_or_breaks g image dir entries dotdot rule block has holds names breaks
      | inr in_blocks ↦ no_blocks_failure g dir (inode_of g image dir) (block_of g image) entries dotdot rule block holds in_blocks
    ]
