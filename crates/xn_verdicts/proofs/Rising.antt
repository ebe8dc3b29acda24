-- Lists whose numbers rise: where the same numbers stand in both, and an element is known by its number, they are one.
use Rattle.std.proofs.Common.{◌≡◌, ◌⊎◌, ℕ, zero, suc, ◌+◌, ◌<◌, ◌≤◌, List, [], ◌∷◌, length, get_or, refl, sym, ap, subst, ◌∙◌, inl, inr, arith}
use Rattle.std.specs.Prelude.{All, Any}
use Rattle.std.specs.List.{AllAdjacentBelow}
use Rattle.std.proofs.lemmas.List.Elements.{All-head, All-tail}

-- ---- what stands in a list

any_tail : {X : Type 0} (P : X → Type 0) (x : X) (xs : List X) → Any P xs → Any P (x ∷ xs)
any_tail P x xs (k, y, low, there, holds) = (suc k, y, omega arith, there, holds)

any_cases : {X : Type 0} (P : X → Type 0) (x : X) (xs : List X) → Any P (x ∷ xs) → P x ⊎ Any P xs
any_cases P x xs (zero, y, low, there, holds) = inl (subst P (sym there) holds)
any_cases P x xs (suc k, y, low, there, holds) = inr (k, y, omega arith, there, holds)

any_none : {X : Type 0} (P : X → Type 0) → Any P [] → ⊥
any_none P (k, y, low, there, holds) = omega arith

module _ {X : Type 0} (key : X → ℕ) where
  -- ---- numbers that rise

  abbrev pub Rises : List X → Type 0
  Rises xs = AllAdjacentBelow (λ a b. key a < key b) xs (length xs)

  abbrev HasKey : List X → ℕ → Type 0
  HasKey xs number = Any (λ x. key x ≡ number) xs

  rises_behind : (x : X) (xs : List X) → Rises (x ∷ xs) → Rises xs
  rises_behind x xs rises k d low =
      let one : suc k + 1 ≡ suc (k + 1) = omega arith in
      subst (λ (n : ℕ). key (get_or xs k d) < key (get_or (x ∷ xs) n d)) one (rises (suc k) d (omega arith))

  least_first : (x : X) (xs : List X) → Rises (x ∷ xs) → All (λ y. key x < key y) xs
  least_first x xs rises zero d low = rises 0 d (omega arith)
  least_first x xs rises (suc k) d low =
      let before : key x < key (get_or xs k d) = least_first x xs rises k d (omega arith) in
      let here : key (get_or xs k d) < key (get_or xs (k + 1) d) = rises_behind x xs rises k d (omega arith) in
      let one : k + 1 ≡ suc k = omega arith in
      subst (λ (n : ℕ). key x < key (get_or xs n d)) one (omega (arith, before, here))

  above_first : (x : X) (xs : List X) (number : ℕ) → Rises (x ∷ xs) → HasKey xs number → key x < number
  above_first x xs number rises (k, y, low, there, is) =
      let above : key x < key (get_or xs k y) = least_first x xs rises k y low in
      subst (λ (n : ℕ). key x < n) (ap key there ∙ is) above

  not_below_first : (x : X) (xs : List X) (number : ℕ) → Rises (x ∷ xs) → HasKey (x ∷ xs) number → key x ≤ number
  not_below_first x xs number rises has = elim (any_cases (λ y. key y ≡ number) x xs has) [
    | inl is ↦ omega (arith, is)
    | inr behind ↦ let above : key x < number = above_first x xs number rises behind in omega (arith, above)
  ]

  -- ---- one list

  abbrev pub HasKeysOf : List X → List X → Type 0
  HasKeysOf ys xs = (number : ℕ) → HasKey xs number → HasKey ys number

  has_first : (x : X) (xs : List X) → HasKey (x ∷ xs) (key x)
  has_first x xs = (0, x, omega arith, refl, refl)

  keys_behind : (x y : X) (xs ys : List X) → key x ≡ key y → Rises (x ∷ xs) → HasKeysOf (y ∷ ys) (x ∷ xs) → HasKeysOf ys xs
  keys_behind x y xs ys same rises keys number has = elim (any_cases (λ z. key z ≡ number) y ys (keys number (any_tail (λ z. key z ≡ number) x xs has))) [
    | inl is ↦ let above : key x < number = above_first x xs number rises has in absurd (omega (arith, same, is, above))
    | inr behind ↦ behind
  ]

  module _ (P : X → Type 0) (known : (a b : X) → P a → P b → key a ≡ key b → a ≡ b) where
    pub one_rising : (xs ys : List X) → All P xs → All P ys → Rises xs → Rises ys → HasKeysOf ys xs → HasKeysOf xs ys → xs ≡ ys
    one_rising [] [] all_x all_y rise_x rise_y to_y to_x = refl
    one_rising [] (y ∷ ys) all_x all_y rise_x rise_y to_y to_x = absurd (any_none (λ z. key z ≡ key y) (to_x (key y) (has_first y ys)))
    one_rising (x ∷ xs) [] all_x all_y rise_x rise_y to_y to_x = absurd (any_none (λ z. key z ≡ key x) (to_y (key x) (has_first x xs)))
    one_rising (x ∷ xs) (y ∷ ys) all_x all_y rise_x rise_y to_y to_x =
        let low : key y ≤ key x = not_below_first y ys (key x) rise_y (to_y (key x) (has_first x xs)) in
        let high : key x ≤ key y = not_below_first x xs (key y) rise_x (to_x (key y) (has_first y ys)) in
        let same : key x ≡ key y = omega (arith, low, high) in
        let first : x ≡ y = known x y (All-head P x xs all_x) (All-head P y ys all_y) same in
        let rest : xs ≡ ys =
        one_rising xs ys (All-tail P x xs all_x) (All-tail P y ys all_y) (rises_behind x xs rise_x) (rises_behind y ys rise_y) (keys_behind x y xs ys same rise_x to_y) (keys_behind y x ys xs (sym same) rise_y to_x) in
        ap (λ (z : X). z ∷ xs) first ∙ ap (λ (zs : List X). y ∷ zs) rest
