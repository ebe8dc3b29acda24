-- How many bytes the entries that were found take.
use Rattle.std.proofs.Common.{◌≡◌, ℕ, ◌+◌, ◌*◌, ◌≤◌, Bool, List, ◌++◌, refl, ap, ◌∙◌, arith, inl, inr, Option, not}
use Rattle.std.specs.Prelude.{filter, sum_by}
use Rattle.std.proofs.lemmas.List.Filters.{sum_by-filter_both}
use Rattle.std.proofs.lemmas.List.Sums.{sum_by-append}
use Rattle.std.proofs.Math.Nat.{mul-le-mul_left, mul-add}
use Rattle.xn_bytes.specs.Trees.{Held, HoldsBlock}

module _ {E : Type 0} (H : List ℕ → List E → Type 0) (ends : List ℕ → Option (ℕ × ℕ)) (size : E → ℕ) (capacity : ℕ) (fit : (bytes : List ℕ) (entries : List E) → H bytes entries → sum_by size entries ≤ capacity) where
  entries_fit : (bytes : List ℕ) (held : Held E) → HoldsBlock H ends bytes held → sum_by size held.entries ≤ capacity
  entries_fit bytes held holds = elim holds [
    | inl leaf ↦ fit bytes held.entries leaf.0.holds
    | inr node ↦ let none = ap (sum_by size) node.1 in omega (arith, none)
  ]

  -- the entries of one more block, filtered
  pub room_on : (p : E → Bool) (bytes : List ℕ) (held : Held E) (blocks more : ℕ) (old new : List E) → more ≡ blocks + 1 → HoldsBlock H ends bytes held → new ≡ old ++ filter p held.entries
      → sum_by size old ≤ capacity * blocks → sum_by size new ≤ capacity * more
  room_on p bytes held blocks more old new one holds is room =
      let fits = entries_fit bytes held holds in
      let parts = sum_by-filter_both p (λ (e : E). not (p e)) (λ (e : E). refl) size held.entries in
      let both = ap (sum_by size) is ∙ sum_by-append size old (filter p held.entries) in
      let wide : capacity * more ≡ capacity * blocks + capacity * 1 = ap (λ (n : ℕ). capacity * n) one ∙ mul-add capacity blocks 1 in
      omega (arith, fits, parts, both, wide, room)

pub room_within : (capacity blocks most taken : ℕ) → blocks ≤ most → taken ≤ capacity * blocks → taken ≤ capacity * most
room_within capacity blocks most taken few room = let wide : capacity * blocks ≤ capacity * most = mul-le-mul_left capacity few in omega (arith, wide, room)
