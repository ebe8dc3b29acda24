-- Of a directory in leaf or node form: where the data blocks are right none fails, where the leaf entries are right none of
-- their blocks fails, and the first that fails is one.
use Rattle.std.proofs.Common.{◌≡◌, ◌⊎◌, ℕ, List, Some, sym, ap, subst, ◌∙◌, inl, inr, arith}
use Rattle.std.specs.Prelude.{Contains, IsSome, unwrap_or}
use Rattle.std.proofs.lemmas.Bool.{cases_eq, cases_lt}
use Rattle.std.proofs.lemmas.List.Elements.{All-contains}
use Rattle.xn_bytes.specs.Extents.{Run, mapped}
use Rattle.xn_bytes.specs.Entries.{Entry}
use Rattle.xn_bytes.specs.DataBlock.{DataForm, LeafEntry}
use Rattle.xn_bytes.specs.HashedTree.{DirLeafHolds, leaf_file_block}
use Rattle.xn_bytes.specs.LeafForms.{DirFork, Placed, IsPlaced, HasData, HasLeaves, BreaksLeaves, HasSingleLeaf, with_first, tree_in}
use Rattle.xn_bytes.specs.DirectoryRules.{IsDataAt, IsRightData, BreaksData}
use Rattle.xn_verdicts.proofs.OneList.{one_number, first_placed}
use Rattle.xn_verdicts.proofs.OneTree.{one_content, tree_or_fault, one_fault}

-- ---- data blocks

mapped_there : (runs : List Run) (number : ℕ) → (number ≡ 0) ⊎ IsSome (mapped runs number) → (number ≡ 0 → ⊥) → IsSome (mapped runs number)
mapped_there runs number (inl zero_is) other = absurd (other zero_is)
mapped_there runs number (inr there) other = there

-- each data block that has to be right is right
right_data : (d : DirFork) (first : DataForm) (others : List Placed) (front : List Entry) (dotdot number : ℕ) → HasData d first others front dotdot → IsDataAt d.runs number → IsRightData d number
right_data d first others front dotdot number has at = elim (cases_eq number 0) [
  | inl zero_is ↦ (
    first,
    subst (λ (n : ℕ). IsPlaced d (record { number = n; form = first })) (sym zero_is) (first_placed d first others front dotdot has),
    λ is_first. (front, dotdot, has.dots),
  )
  | inr other ↦
      let any = has.data_blocks.complete number at.0 (mapped_there d.runs number at.1 other) in
      let placed : Placed = any.1 in
      let within : Contains (with_first first others) placed = (any.0, any.2, any.3) in
      let is : IsPlaced d placed = All-contains (IsPlaced d) (with_first first others) placed has.data_blocks.each within in
      (placed.form, subst (λ (n : ℕ). IsPlaced d (record { number = n; form = placed.form })) any.4 is, λ is_first. absurd (other is_first))
]

pub no_data_fault : (d : DirFork) (first : DataForm) (others : List Placed) (front : List Entry) (dotdot block : ℕ) → HasData d first others front dotdot → BreaksData d block → ⊥
no_data_fault d first others front dotdot block has breaks = breaks.1.is_wrong (right_data d first others front dotdot breaks.0 has breaks.1.is_data)

-- the least number whose data block is wrong is one
one_wrong : (d : DirFork) (b c : ℕ) → (one : BreaksData d b) (other : BreaksData d c) → one.0 ≡ other.0
one_wrong d b c one other = elim (cases_lt one.0 other.0) [
  | inl less ↦ absurd (one.1.is_wrong (other.2 one.0 less one.1.is_data))
  | inr not_less ↦ elim (cases_lt other.0 one.0) [
    | inl more ↦ absurd (other.1.is_wrong (one.2 other.0 more other.1.is_data))
    | inr not_more ↦ omega (arith, not_less, not_more)
  ]
]

pub one_data_fault : (d : DirFork) (b c : ℕ) → BreaksData d b → BreaksData d c → b ≡ c
one_data_fault d b c one other = one.1.block_is ∙ ap (λ (n : ℕ). unwrap_or (mapped d.runs n) 0) (one_wrong d b c one other) ∙ sym other.1.block_is

-- ---- leaf entries

-- a leaf holds one list of leaf entries
one_leaf : (bytes : List ℕ) (a b : List LeafEntry) → DirLeafHolds bytes a → DirLeafHolds bytes b → a ≡ b
one_leaf bytes a b of_a of_b = of_a.are ∙ sym of_b.are

single_at : (d : DirFork) (at block : ℕ) (live : List LeafEntry) → mapped d.runs leaf_file_block ≡ Some at → mapped d.runs leaf_file_block ≡ Some block → HasSingleLeaf d at live → HasSingleLeaf d block live
single_at d at block live is_at is_block has = subst (λ (n : ℕ). HasSingleLeaf d n live) (one_number (mapped d.runs leaf_file_block) at block is_at is_block) has

pub one_live : (d : DirFork) (a b : List LeafEntry) → HasLeaves d a → HasLeaves d b → a ≡ b
one_live d a b (inl one) (inl other) = one_leaf _ a b (single_at d one.1.0 other.1.0 a one.1.1 other.1.1 one.1.2).holds other.1.2.holds
one_live d a b (inl one) (inr other) = absurd (other.0 one.0)
one_live d a b (inr one) (inl other) = absurd (one.0 other.0)
one_live d a b (inr one) (inr other) = one_content (tree_in d) one_leaf a b one.1 other.1

pub no_leaves_fault : (d : DirFork) (live : List LeafEntry) (block : ℕ) → HasLeaves d live → BreaksLeaves d block → ⊥
no_leaves_fault d live block (inl has) (inl breaks) = breaks.2 live (single_at d has.1.0 block live has.1.1 breaks.1 has.1.2)
no_leaves_fault d live block (inl has) (inr breaks) = breaks.0 has.0
no_leaves_fault d live block (inr has) (inl breaks) = has.0 breaks.0
no_leaves_fault d live block (inr has) (inr breaks) = tree_or_fault (tree_in d) one_leaf has.1.0 block has.1.1 breaks.1

pub one_leaves_fault : (d : DirFork) (b c : ℕ) → BreaksLeaves d b → BreaksLeaves d c → b ≡ c
one_leaves_fault d b c (inl one) (inl other) = one_number (mapped d.runs leaf_file_block) b c one.1 other.1
one_leaves_fault d b c (inl one) (inr other) = absurd (other.0 one.0)
one_leaves_fault d b c (inr one) (inl other) = absurd (one.0 other.0)
one_leaves_fault d b c (inr one) (inr other) = one_fault (tree_in d) one_leaf b c one.1 other.1
