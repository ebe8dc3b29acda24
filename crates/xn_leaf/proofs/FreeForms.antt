-- What stands in a free-index block, and where one fails.
use Rattle.std.proofs.Common.{◌≡◌, ◌≢◌, ℕ, ◌+◌, ◌*◌, ◌/◌, ◌%◌, ◌<◌, ◌≤◌, Bool, true, false, cond, not, eqb, ltb, List, ◌∷◌, length, get_or, Option, Some, None, refl, sym, ap, ◌∙◌, arith}
use Rattle.std.proofs.lemmas.Bool.{eq-eqb, eqb-true, ne_eqb, le-ltb, lt-ltb, ltb-false}
use Rattle.std.proofs.lemmas.List.Sums.{sum_by-cons}
use Rattle.xn_bytes.specs.Numbers.{number_at, little_number_at}
use Rattle.xn_bytes.specs.Checksum.{checksum_with}
use Rattle.xn_bytes.specs.HashedTree.{FreeForm, FreeHolds, bests_at, bests_of, best_at, free_fault, free_in, free_index_magic, no_best, used_among}
use Rattle.xn_leaf.proofs.BestsRead.{bests_from, best_from, best_is, count_bests}

-- the count of used ones, with one more that is or isn't
pub used_step : (all index count used more best : ℕ) (bytes : List ℕ) → index < count → best ≡ number_at 2 (64 + 2 * index) bytes → more ≡ cond (not (eqb best no_best)) 1 0
    → used + used_among (bests_from index count 64 bytes) ≡ all → used + more + used_among (bests_from (index + 1) count 64 bytes) ≡ all
used_step all index count used more best bytes below is by so_far =
    let step = ap used_among (best_from index count 64 bytes below ∙ ap (λ (one : ℕ). one ∷ bests_from (index + 1) count 64 bytes) (sym is)) in
    let cons = sum_by-cons (λ (one : ℕ). cond (not (eqb one no_best)) 1 0) best (bests_from (index + 1) count 64 bytes) in
    omega (arith, step, cons)

-- ---- the tests, one after the other

record Passes (bytes : List ℕ) : Type 0 where
  magic : number_at 4 0 bytes ≡ free_index_magic
  checksum : little_number_at 4 4 bytes ≡ checksum_with bytes 4
  first : number_at 4 48 bytes % 2016 ≡ 0
  few : number_at 4 52 bytes ≤ 2016
  used : number_at 4 56 bytes ≡ used_among (bests_of bytes)

some_or : (b : Bool) (at : ℕ) (next : Option ℕ) → cond (not b) (Some at) next ≡ None → (b ≡ true) × (next ≡ None)
some_or true at next e = (refl, e)
some_or false at next e = absurd cc

more_or : (b : Bool) (at : ℕ) (next : Option ℕ) → cond b (Some at) next ≡ None → (b ≡ false) × (next ≡ None)
more_or false at next e = (refl, e)
more_or true at next e = absurd cc

passes : (bytes : List ℕ) → free_fault bytes ≡ None → Passes bytes
unfolding free_fault
passes bytes none =
    let a = some_or (eqb (number_at 4 0 bytes) free_index_magic) _ _ none in
    let b = some_or (eqb (little_number_at 4 4 bytes) (checksum_with bytes 4)) _ _ a.1 in
    let c = some_or (eqb (number_at 4 48 bytes % 2016) 0) _ _ b.1 in
    let d = more_or (ltb 2016 (number_at 4 52 bytes)) _ _ c.1 in
    let e = some_or (eqb (number_at 4 56 bytes) (used_among (bests_of bytes))) _ _ d.1 in
    record {
      magic = eqb-true _ _ a.0;
      checksum = eqb-true _ _ b.0;
      first = eqb-true _ _ c.0;
      few = ltb-false _ _ d.0;
      used = eqb-true _ _ e.0;
    }

-- a block without a fault holds what stands in it
pub holds_read : (bytes : List ℕ) → length bytes ≡ 4096 → free_fault bytes ≡ None → FreeHolds bytes (free_in bytes)
unfolding free_in
holds_read bytes whole none =
    let p = passes bytes none in
    let many : length (bests_of bytes) ≡ number_at 4 52 bytes = count_bests (number_at 4 52 bytes) 64 bytes in
    record {
      whole = whole;
      is_magic = p.magic;
      checksum = p.checksum;
      place = refl;
      uuid = refl;
      own_inode = refl;
      first = omega (arith, p.first);
      few = omega (arith, p.few);
      valid = sym many;
      used = p.used;
      are = ap (λ (n : ℕ). bests_at n 64 bytes) (sym many);
    }

same_form : (a b : FreeForm) → a.place ≡ b.place → a.uuid ≡ b.uuid → a.owner ≡ b.owner → a.index ≡ b.index → a.bests ≡ b.bests → a ≡ b
same_form a b place uuid owner index bests =
    let F : ℕ → List ℕ → ℕ → ℕ → List ℕ → FreeForm = λ p u o i l. record { place = p; uuid = u; owner = o; index = i; bests = l } in
    ap (λ (p : ℕ). F p a.uuid a.owner a.index a.bests) place ∙ ap (λ (u : List ℕ). F b.place u a.owner a.index a.bests) uuid
    ∙ ap (λ (o : ℕ). F b.place b.uuid o a.index a.bests) owner ∙ ap (λ (i : ℕ). F b.place b.uuid b.owner i a.bests) index ∙ ap (F b.place b.uuid b.owner b.index) bests

same_bests : (bytes : List ℕ) (form : FreeForm) → FreeHolds bytes form → bests_of bytes ≡ form.bests
same_bests bytes form holds = ap (λ (n : ℕ). bests_at n 64 bytes) holds.valid ∙ sym holds.are

-- only what stands in the bytes is held by them
pub only_read : (bytes : List ℕ) (form : FreeForm) → FreeHolds bytes form → free_in bytes ≡ form
unfolding free_in
only_read bytes form holds =
    let index : number_at 4 48 bytes / 2016 ≡ form.index = omega (arith, holds.first) in
    same_form (free_in bytes) form (sym holds.place) (sym holds.uuid) (sym holds.own_inode) index (same_bests bytes form holds)

-- and then there is no fault
pub no_fault : (bytes : List ℕ) (form : FreeForm) → FreeHolds bytes form → free_fault bytes ≡ None
unfolding free_fault
no_fault bytes form holds =
    let a : eqb (number_at 4 0 bytes) free_index_magic ≡ true = eq-eqb _ _ holds.is_magic in
    let b : eqb (little_number_at 4 4 bytes) (checksum_with bytes 4) ≡ true = eq-eqb _ _ holds.checksum in
    let none : number_at 4 48 bytes % 2016 ≡ 0 = omega (arith, holds.first) in
    let c : eqb (number_at 4 48 bytes % 2016) 0 ≡ true = eq-eqb _ _ none in
    let few : number_at 4 52 bytes ≤ 2016 = omega (arith, holds.valid, holds.few) in
    let d : ltb 2016 (number_at 4 52 bytes) ≡ false = le-ltb _ _ few in
    let e : eqb (number_at 4 56 bytes) (used_among (bests_of bytes)) ≡ true = eq-eqb _ _ (holds.used ∙ ap used_among (sym (same_bests bytes form holds))) in
    rw (a, b, c, d, e) refl

-- ---- the best of a slot

bests_in_form : (bytes : List ℕ) → (free_in bytes).bests ≡ bests_of bytes
unfolding free_in
bests_in_form bytes = refl

in_slot : (bytes : List ℕ) (slot best : ℕ) → slot < number_at 4 52 bytes → best ≡ number_at 2 (64 + 2 * slot) bytes → best_at (bests_of bytes) slot ≡ cond (not (eqb best no_best)) (Some best) None
in_slot bytes slot best below is =
    let there : get_or (bests_of bytes) slot 0 ≡ best = best_is (number_at 4 52 bytes) 64 slot 0 bytes below ∙ sym is in
    let many = count_bests (number_at 4 52 bytes) 64 bytes in
    let within : ltb slot (length (bests_of bytes)) ≡ true = lt-ltb _ _ (omega (arith, many)) in
    rw (within, there) refl

pub no_best_there : (bytes : List ℕ) (form : FreeForm) (slot best : ℕ) → free_in bytes ≡ form → slot < number_at 4 52 bytes → best ≡ number_at 2 (64 + 2 * slot) bytes → best ≡ no_best → None ≡ best_at form.bests slot
no_best_there bytes form slot best view below is none =
    let test : eqb best no_best ≡ true = eq-eqb _ _ none in
    let bests : bests_of bytes ≡ form.bests = sym (bests_in_form bytes) ∙ ap (λ (one : FreeForm). one.bests) view in
    sym (ap (λ (b : Bool). cond (not b) (Some best) None) test) ∙ sym (in_slot bytes slot best below is) ∙ ap (λ (xs : List ℕ). best_at xs slot) bests

pub best_there : (bytes : List ℕ) (form : FreeForm) (slot best : ℕ) → free_in bytes ≡ form → slot < number_at 4 52 bytes → best ≡ number_at 2 (64 + 2 * slot) bytes → best ≢ no_best → Some best ≡ best_at form.bests slot
best_there bytes form slot best view below is other =
    let test : eqb best no_best ≡ false = ne_eqb _ _ other in
    let bests : bests_of bytes ≡ form.bests = sym (bests_in_form bytes) ∙ ap (λ (one : FreeForm). one.bests) view in
    sym (ap (λ (b : Bool). cond (not b) (Some best) None) test) ∙ sym (in_slot bytes slot best below is) ∙ ap (λ (xs : List ℕ). best_at xs slot) bests
