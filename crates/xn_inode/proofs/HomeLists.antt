-- Lists of extents of which each block is one that a fork may map.
use Rattle.std.proofs.Common.{◌≡◌, ℕ, suc, ◌+◌, ◌<◌, List, [], ◌∷◌, length, get_or, Some, sym, ap, ◌∙◌, subst, arith, inl, inr}
use Rattle.std.specs.Prelude.{◌-◌, slice_get}
use Rattle.std.proofs.lemmas.Bool.{cases_eq, cases_lt}
use Rattle.std.proofs.lemmas.Grind.{common_steps}
use Rattle.std.proofs.lemmas.Bool.Decides.{nat_tests}
use Rattle.std.proofs.lemmas.Option.{get_or_from_slice_get}
use Rattle.xn_bytes.specs.Superblock.{Geometry}
use Rattle.xn_bytes.specs.Blocks.{IsHome}
use Rattle.xn_bytes.specs.Extents.{Run, mapped, end_of_run}
use Rattle.xn_bytes.specs.DirectoryForms.{AreHome}

abbrev pub AreHomeBelow : Geometry → ℕ → List Run → Type 0
AreHomeBelow g n runs = (i : ℕ) (d : Run) → i < n → (k : ℕ) → k < (get_or runs i d).count → IsHome g ((get_or runs i d).block + k)

pub one_more_home : (g : Geometry) (n : ℕ) (runs : List Run) (file_block block count : ℕ) → slice_get runs n ≡ Some (record { file_block = file_block; block = block; count = count })
    → ((k : ℕ) → k < count → IsHome g (block + k)) → AreHomeBelow g n runs → AreHomeBelow g (n + 1) runs
one_more_home g n runs file_block block count here home before i d below = elim (cases_eq i n) [
  | inl e ↦
      let is : get_or runs i d ≡ record { file_block = file_block; block = block; count = count } = ap (λ (m : ℕ). get_or runs m d) e ∙ get_or_from_slice_get runs n _ d here in
      rw is home
  | inr other ↦ before i d (omega arith)
]

pub one_not_home : (g : Geometry) (n : ℕ) (runs : List Run) (file_block block count : ℕ) → n < length runs → slice_get runs n ≡ Some (record { file_block = file_block; block = block; count = count })
    → (((k : ℕ) → k < count → IsHome g (block + k)) → ⊥) → AreHome g runs → ⊥
one_not_home g n runs file_block block count within here wrong all =
    let first : Run = record { file_block = file_block; block = block; count = count } in
    let is : get_or runs n first ≡ first = get_or_from_slice_get runs n first first here in
    wrong (subst (λ (run : Run). (k : ℕ) → k < run.count → IsHome g (run.block + k)) is (all n first within))

-- a block that is mapped
pub mapped_home : (g : Geometry) (runs : List Run) (file_block block : ℕ) → AreHome g runs → mapped runs file_block ≡ Some block → IsHome g block
mapped_home g [] file_block block home is = absurd cc
mapped_home g (run ∷ runs) file_block block home is =
    let rest : mapped runs file_block ≡ Some block → IsHome g block = mapped_home g runs file_block block (λ k d below. home (suc k) d (omega (arith, below))) in
    elim (cases_lt file_block run.file_block) [
      | inl before ↦
          let past : mapped (run ∷ runs) file_block ≡ mapped runs file_block = grind (arith, nat_tests, common_steps) in
          rest (sym past ∙ is)
      | inr from ↦ elim (cases_lt file_block (end_of_run run)) [
        | inl within ↦
            let here : mapped (run ∷ runs) file_block ≡ Some (run.block + (file_block - run.file_block)) = grind (arith, nat_tests, common_steps) in
            let same : Some (run.block + (file_block - run.file_block)) ≡ Some block = sym here ∙ is in
            let block_is : run.block + (file_block - run.file_block) ≡ block = cc in
            subst (IsHome g) block_is (home 0 run (omega arith) (file_block - run.file_block) (omega arith))
        | inr behind ↦
            let past : mapped (run ∷ runs) file_block ≡ mapped runs file_block = grind (arith, nat_tests, common_steps) in
            rest (sym past ∙ is)
      ]
    ]
