-- The place of a fault lies in the block.
use Rattle.std.proofs.Common.{◌≡◌, ℕ, zero, suc, ◌+◌, ◌-◌, ◌*◌, ◌%◌, ◌<◌, ◌≤◌, ◌⊎◌, Bool, true, false, cond, not, ltb, leb, eqb, List, [], ◌∷◌, length, slice_index, Option, Some, None, refl, arith, inl, inr}
use Rattle.std.specs.Prelude.{is_none, ◌&&◌}
use Rattle.std.specs.List.{list_any}
use Rattle.std.proofs.lemmas.Bool.{ltb-false, cases_lt, le-leb, lt-leb, cond_both}
use Rattle.xn_bytes.specs.Kinds.{kind_of_number}
use Rattle.xn_bytes.specs.Checksum.{checksum_with}
use Rattle.xn_bytes.specs.Numbers.{number_at, little_number_at}
use Rattle.xn_bytes.specs.Entries.{data_entry_length}
use Rattle.xn_bytes.specs.DataBlock.{Gap, area_end, leaf_count, free_tag, greatest, gaps_among, gaps_without, has_block_form, data_magic, most_regions, header_size, region_size, region_fault, regions_fault, regions_of, first_fault, pair_at, pair_fault, pairs_fault, data_fault}
use Rattle.xn_data.proofs.Regions.{entry_size, region_passed}
use Rattle.xn_data.proofs.Verdicts.{area_within}

-- where one of two places is the fault, and both are below n
guarded : (n : ℕ) (test : Bool) (place fault : ℕ) (next : Option ℕ) → cond test (Some place) next ≡ Some fault → (test ≡ true → place < n) → (next ≡ Some fault → test ≡ false → fault < n) → fault < n
guarded n true place fault next e here later = let same : place ≡ fault = cc in omega (arith, here refl)
guarded n false place fault next e here later = later e refl

not_none : (n fault : ℕ) → None ≡ Some fault → fault < n
not_none n fault e = absurd cc

either_fault : (first next : Option ℕ) (fault : ℕ) → first_fault first next ≡ Some fault → (first ≡ Some fault) ⊎ ((first ≡ None) × (next ≡ Some fault))
either_fault None next fault e = inr (refl, e)
either_fault (Some place) next fault e = inl e

free_within : (behind : Bool) (at end fault : ℕ) (bytes : List ℕ) → at + 8 ≤ end → eqb (number_at 2 at bytes) free_tag ≡ true → region_fault behind at end bytes ≡ Some fault → fault < end
unfolding region_fault
free_within behind at end fault bytes room tag wrong =
    let size : ℕ = number_at 2 (at + 2) bytes in
    let e = rw tag at wrong in
    guarded end behind at fault _ e (λ _. omega arith) (λ e1 _.
    guarded end (ltb size 8) (at + 2) fault _ e1 (λ _. omega arith) (λ e2 some. let large = ltb-false size 8 some in
    guarded end (not (eqb (size % 8) 0)) (at + 2) fault _ e2 (λ _. omega arith) (λ e3 _.
    guarded end (ltb end (at + size)) (at + 2) fault _ e3 (λ _. omega arith) (λ e4 whole. let within = ltb-false end (at + size) whole in
    guarded end (not (eqb (number_at 2 (at + size - 2) bytes) at)) (at + size - 2) fault None e4 (λ _. omega arith) (λ e5 _. not_none end fault e5)))))

used_within : (behind : Bool) (at end fault : ℕ) (bytes : List ℕ) → at + 8 ≤ end → eqb (number_at 2 at bytes) free_tag ≡ false → region_fault behind at end bytes ≡ Some fault → fault < end
unfolding region_fault
used_within behind at end fault bytes room tag wrong =
    let n : ℕ = slice_index bytes (at + 8) in
    let size : ℕ = data_entry_length n in
    let known = entry_size n in
    let e = rw tag at wrong in
    guarded end (ltb end (at + 16)) at fault _ e (λ _. omega arith) (λ e1 least. let large = ltb-false end (at + 16) least in
    guarded end (ltb end (at + size)) (at + 8) fault _ e1 (λ _. omega arith) (λ e2 whole. let within = ltb-false end (at + size) whole in
    guarded end (is_none (kind_of_number (slice_index bytes (at + 9 + n)))) (at + 9 + n) fault _ e2 (λ _. omega (arith, known.room)) (λ e3 _.
    guarded end (not (eqb (number_at 2 (at + size - 2) bytes) at)) (at + size - 2) fault None e3 (λ _. omega (arith, known.least)) (λ e4 _. not_none end fault e4))))

region_within : (free behind : Bool) (at end fault : ℕ) (bytes : List ℕ) → at + 8 ≤ end → eqb (number_at 2 at bytes) free_tag ≡ free → region_fault behind at end bytes ≡ Some fault → fault < end
region_within true behind at end fault bytes room tag wrong = free_within behind at end fault bytes room tag wrong
region_within false behind at end fault bytes room tag wrong = used_within behind at end fault bytes room tag wrong

regions_within : (most : ℕ) (behind : Bool) (at end fault : ℕ) (bytes : List ℕ) → end ≤ length bytes → at % 8 ≡ 0 → end % 8 ≡ 0 → regions_fault most behind at end bytes ≡ Some fault → fault < end
unfolding regions_fault
regions_within zero behind at end fault bytes whole step step_too wrong = not_none end fault wrong
regions_within (suc most) behind at end fault bytes whole step step_too wrong =
    elim (cases_lt at end) [
      | inl more ↦
          let on : leb end at ≡ false = lt-leb end at more in
          elim (either_fault _ _ fault (rw on at wrong)) [
            | inl here ↦ region_within (eqb (number_at 2 at bytes) free_tag) behind at end fault bytes (omega arith) refl here
            | inr later ↦
                let passed = region_passed behind at end bytes whole later.0 in
                regions_within most (eqb (number_at 2 at bytes) free_tag) (at + region_size at bytes) end fault bytes whole (omega (arith, passed.step)) step_too later.1
          ]
      | inr past ↦
          let done : leb end at ≡ true = le-leb end at past in
          not_none end fault (rw done at wrong)
    ]

pair_within : (at fault : ℕ) (gaps : List Gap) (pair : Gap) → pair_fault at gaps pair ≡ Some fault → fault < at + 3
pair_within at fault [] pair wrong =
    guarded (at + 3) (not (eqb pair.place 0)) at fault _ wrong (λ _. omega arith) (λ e1 _.
    guarded (at + 3) (not (eqb pair.size 0)) (at + 2) fault None e1 (λ _. omega arith) (λ e2 _. not_none (at + 3) fault e2))
pair_within at fault (gap ∷ gaps) pair wrong =
    guarded (at + 3) (not (list_any (λ one. eqb one.place pair.place && eqb one.size (greatest (gap ∷ gaps))) (gap ∷ gaps))) at fault _ wrong (λ _. omega arith) (λ e1 _.
    guarded (at + 3) (not (eqb pair.size (greatest (gap ∷ gaps)))) (at + 2) fault None e1 (λ _. omega arith) (λ e2 _. not_none (at + 3) fault e2))

pairs_within : (fault : ℕ) (bytes : List ℕ) (gaps : List Gap) → pairs_fault bytes gaps ≡ Some fault → fault < 59
unfolding pairs_fault
pairs_within fault bytes gaps wrong =
    elim (either_fault _ _ fault wrong) [
      | inl first ↦ let near = pair_within 48 fault gaps (pair_at 48 bytes) first in omega arith
      | inr later ↦
          elim (either_fault _ _ fault later.1) [
            | inl second ↦ let near = pair_within 52 fault (gaps_without (number_at 2 48 bytes) gaps) (pair_at 52 bytes) second in omega arith
            | inr third ↦ pair_within 56 fault (gaps_without (number_at 2 52 bytes) (gaps_without (number_at 2 48 bytes) gaps)) (pair_at 56 bytes) third.1
          ]
    ]

area_step : (bytes : List ℕ) → area_end bytes % 8 ≡ 0
area_step bytes = cond_both (has_block_form bytes) (4088 - 8 * leaf_count bytes) 4096 (λ n. n % 8 ≡ 0) (λ _. omega arith) (λ _. refl)

pub fault_within : (bytes : List ℕ) (fault : ℕ) → length bytes ≡ 4096 → data_fault bytes ≡ Some fault → fault < 4096
unfolding data_fault
fault_within bytes fault size wrong =
    let end : ℕ = area_end bytes in
    let within = area_within bytes in
    guarded 4096 (not (has_block_form bytes) && not (eqb (number_at 4 0 bytes) data_magic)) 0 fault _ wrong (λ _. omega arith) (λ e1 _.
    guarded 4096 (not (eqb (little_number_at 4 4 bytes) (checksum_with bytes 4))) 4 fault _ e1 (λ _. omega arith) (λ e2 _.
    guarded 4096 (ltb end 64) 4088 fault _ e2 (λ _. omega arith) (λ e3 _.
    elim (either_fault (regions_fault most_regions false header_size end bytes) (pairs_fault bytes (gaps_among (regions_of bytes))) fault e3) [
      | inl region ↦ let near = regions_within most_regions false header_size end fault bytes (omega (arith, size, within)) refl (area_step bytes) region in omega (arith, near, within)
      | inr later ↦ let near = pairs_within fault bytes (gaps_among (regions_of bytes)) later.1 in omega (arith, near)
    ])))
