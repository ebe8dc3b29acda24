-- The first block of a directory in block form: which rule it breaks.
use Rattle.std.proofs.Common.{◌≡◌, ℕ, List, refl, sym, ap, subst, ◌∙◌, inl, inr}
use Rattle.xn_bytes.specs.Superblock.{Geometry}
use Rattle.xn_bytes.specs.Entries.{Entry}
use Rattle.xn_bytes.specs.DataBlock.{DataForm, DataHolds, entries_among}
use Rattle.xn_bytes.specs.Directory.{HasNames}
use Rattle.xn_bytes.specs.DirectoryForms.{HasDots, HoldsFirst, HasTail, IsIndexOf}
use Rattle.xn_bytes.specs.DirectoryRules.{BreaksFirst}
use Rattle.xn_inode.specs.declared.fork_fault.ForkFault.{ForkFault}
use Rattle.xn_inode.specs.declared.fork_fault.ForkFault.TheVariants.{Read, Memory, Broken}
use Rattle.xn_inode.specs.Faults.{IsRule}
use Rattle.xn_dir.specs.Faults.{IsFirstFault, IsIndexFault}

pub no_dots : (g : Geometry) (dir place : ℕ) (bytes : List ℕ) (held : DataForm) (all : List Entry) → ((form : DataForm) → DataHolds bytes form → held ≡ form) → all ≡ entries_among held.regions
    → ((others : List Entry) (dotdot : ℕ) → HasDots all others dotdot → ⊥) → BreaksFirst g dir place bytes 17 place
no_dots g dir place bytes held all only all_is none =
    inl (
      refl,
      refl,
      λ form entries dotdot first.
          none entries dotdot (subst (λ (es : List Entry). HasDots es entries dotdot) (ap (λ (one : DataForm). entries_among one.regions) (sym (only form first.data_block.holds)) ∙ sym all_is) first.dots),
    )

-- what the leaf entries break, the block breaks
pub breaks_index : (g : Geometry) (dir place : ℕ) (bytes : List ℕ) (form : DataForm) (entries : List Entry) (dotdot : ℕ) (fault : ForkFault) → HoldsFirst g dir place bytes form entries dotdot → IsIndexFault place form fault → IsFirstFault g dir place bytes fault
breaks_index g dir place bytes form entries dotdot Read first is = is
breaks_index g dir place bytes form entries dotdot Memory first is = tt
breaks_index g dir place bytes form entries dotdot (Broken rule block) first (inl tail) = inr (form, entries, dotdot, first, inl tail)
breaks_index g dir place bytes form entries dotdot (Broken rule block) first (inr (tail, inl index)) = inr (form, entries, dotdot, first, inr (tail, inl index))
breaks_index g dir place bytes form entries dotdot (Broken rule block) first (inr (tail, inr rest)) = absurd rest.1

-- wrong names break rule 21
pub breaks_names : (g : Geometry) (dir place : ℕ) (bytes : List ℕ) (form : DataForm) (entries : List Entry) (dotdot : ℕ) (Fact : Type 0) (fault : ForkFault) → HoldsFirst g dir place bytes form entries dotdot → HasTail form
    → IsIndexOf form.leaves (entries_among form.regions) → (HasNames entries → Fact) → IsRule 21 Fact fault → IsFirstFault g dir place bytes fault
breaks_names g dir place bytes form entries dotdot Fact Read first tail index part is = is
breaks_names g dir place bytes form entries dotdot Fact Memory first tail index part is = is
breaks_names g dir place bytes form entries dotdot Fact (Broken rule block) first tail index part is =
    inr (form, entries, dotdot, first, inr (tail, inr (index, (is.0, is.1, λ names. is.2 (part names)))))
