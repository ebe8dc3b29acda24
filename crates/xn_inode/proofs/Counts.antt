-- File blocks that are mapped and differ are at most as many as the runs map.
use Rattle.std.proofs.Common.{◌≡◌, ◌≢◌, ℕ, zero, suc, ◌+◌, ◌<◌, ◌≤◌, List, [], ◌∷◌, ◌++◌, length, refl, subst, ap, arith, eqb, eqb-true, true, inl, inr}
use Rattle.std.specs.Prelude.{Option, IsSome, All, AllPairs}
use Rattle.std.specs.List.{list_any}
use Rattle.std.proofs.lemmas.Grind.{common_steps}
use Rattle.std.proofs.lemmas.Bool.{cases_lt}
use Rattle.std.proofs.lemmas.Bool.Decides.{Decides-eqb, nat_tests}
use Rattle.std.proofs.lemmas.Cmp.{nat_eq_equiv}
use Rattle.std.proofs.lemmas.List.{length-append}
use Rattle.std.proofs.lemmas.List.Elements.{All-contains}
use Rattle.std.proofs.lemmas.List.Folds.{list_any-append}
use Rattle.std.proofs.lemmas.List.Sums.{sum_by-cons}
use Rattle.std.proofs.lemmas.Map.Made.{IsDistinct-from_AllPairs, length-le_from_is_member}
use Rattle.std.proofs.lemmas.Map.Views.{Contains-from_any}
use Rattle.xn_bytes.specs.Costs.{mapped_count}
use Rattle.xn_bytes.specs.Extents.{Run, end_of_run, mapped}

-- so many numbers from one on
abbrev numbers_from : ℕ → ℕ → List ℕ
numbers_from start zero = []
numbers_from start (suc count) = start ∷ numbers_from (suc start) count

-- the file blocks of all runs
abbrev file_blocks_of : List Run → List ℕ
file_blocks_of [] = []
file_blocks_of (run ∷ runs) = numbers_from run.file_block run.count ++ file_blocks_of runs

length-numbers_from : (start count : ℕ) → length (numbers_from start count) ≡ count
length-numbers_from start zero = refl
length-numbers_from start (suc count) = ap suc (length-numbers_from (suc start) count)

length-file_blocks_of : (runs : List Run) → length (file_blocks_of runs) ≡ mapped_count runs
length-file_blocks_of [] = refl
length-file_blocks_of (run ∷ runs) =
    let joined = length-append (numbers_from run.file_block run.count) (file_blocks_of runs) in
    let first = length-numbers_from run.file_block run.count in
    let rest = length-file_blocks_of runs in
    let sum = sum_by-cons (λ (r : Run). r.count) run runs in
    omega (arith, joined, first, rest, sum)

among_numbers : (start count number : ℕ) → start ≤ number → number < start + count → list_any (eqb number) (numbers_from start count) ≡ true
among_numbers start zero number low high = absurd (omega arith)
among_numbers start (suc count) number low high =
    elim (cases_lt start number) [
      | inl above ↦
          let rest : list_any (eqb number) (numbers_from (suc start) count) ≡ true = among_numbers (suc start) count number (omega arith) (omega arith) in
          grind (arith, nat_tests, common_steps, rest)
      | inr not_above ↦ grind (arith, nat_tests, common_steps)
    ]

among_file_blocks : (runs : List Run) (number : ℕ) → IsSome (mapped runs number) → list_any (eqb number) (file_blocks_of runs) ≡ true
among_file_blocks [] number some = some
among_file_blocks (run ∷ runs) number some =
    let parts = list_any-append (eqb number) (numbers_from run.file_block run.count) (file_blocks_of runs) in
    elim (cases_lt number run.file_block) [
      | inl before ↦
          let skips : mapped (run ∷ runs) number ≡ mapped runs number = grind (arith, nat_tests, common_steps) in
          let rest = among_file_blocks runs number (subst (λ (o : Option ℕ). IsSome o) skips some) in
          grind (arith, nat_tests, common_steps, parts, rest)
      | inr start ↦ elim (cases_lt number (end_of_run run)) [
        | inl within ↦
            let first = among_numbers run.file_block run.count number start within in
            grind (arith, nat_tests, common_steps, parts, first)
        | inr behind ↦
            let skips : mapped (run ∷ runs) number ≡ mapped runs number = grind (arith, nat_tests, common_steps) in
            let rest = among_file_blocks runs number (subst (λ (o : Option ℕ). IsSome o) skips some) in
            grind (arith, nat_tests, common_steps, parts, rest)
      ]
    ]

same_number : (a b : ℕ) → eqb a b ≡ true → a ≡ b
same_number a b is = eqb-true a b is

pub few_of_mapped : (runs : List Run) (numbers : List ℕ) → AllPairs (λ a b. a ≢ b) numbers → All (λ n. IsSome (mapped runs n)) numbers
    → length numbers ≤ mapped_count runs
few_of_mapped runs numbers differ all =
    let few : length numbers ≤ length (file_blocks_of runs) =
    length-le_from_is_member nat_eq_equiv numbers (file_blocks_of runs) (IsDistinct-from_AllPairs Decides-eqb numbers differ)
    (λ number is. among_file_blocks runs number (All-contains (λ n. IsSome (mapped runs n)) numbers number all (Contains-from_any same_number number numbers is))) in
    subst (λ (most : ℕ). length numbers ≤ most) (length-file_blocks_of runs) few
