-- What is in a list, at its front, behind it, and through `filter`; and facts of an image that is told.
use Rattle.std.proofs.Common.{◌≡◌, zero, suc, Bool, true, false, ℕ, List, [], ◌∷◌, Option, Some, None, refl, sym, ap, subst, ◌∙◌, arith, inl, inr}
use Rattle.std.specs.Prelude.{◌⊎◌, Contains, filter, IfSome}

pub at_front : {X : Type 0} (x : X) (xs : List X) → Contains (x ∷ xs) x
at_front x xs = (0, omega arith, refl)

pub behind_front : {X : Type 0} (x y : X) (xs : List X) → Contains xs y → Contains (x ∷ xs) y
behind_front x y xs within = (suc within.0, omega (arith, within.1), within.2)

pub front_or_behind : {X : Type 0} (x y : X) (xs : List X) → Contains (x ∷ xs) y → (x ≡ y) ⊎ Contains xs y
front_or_behind x y xs (zero, below, same) = inl same
front_or_behind x y xs (suc k, below, same) = inr (k, omega (arith, below), same)

pub in_none : {X : Type 0} (y : X) → Contains [] y → ⊥
in_none y within = omega (arith, within.1)

yes_or_no : (b : Bool) → (b ≡ true) ⊎ (b ≡ false)
yes_or_no true = inl refl
yes_or_no false = inr refl

filter_yes : {X : Type 0} (p : X → Bool) (x : X) (xs : List X) → p x ≡ true → filter p (x ∷ xs) ≡ x ∷ filter p xs
filter_yes p x xs t = rw t refl

filter_no : {X : Type 0} (p : X → Bool) (x : X) (xs : List X) → p x ≡ false → filter p (x ∷ xs) ≡ filter p xs
filter_no p x xs f = rw f refl

pub in_filter : {X : Type 0} (p : X → Bool) (xs : List X) (y : X) → p y ≡ true → Contains xs y → Contains (filter p xs) y
in_filter p [] y t within = absurd (in_none y within)
in_filter p (x ∷ xs) y passes within = elim (yes_or_no (p x)) [
  | inl t ↦ rw (filter_yes p x xs t) (elim (front_or_behind x y xs within) [
    | inl same ↦ subst (λ z. Contains (x ∷ filter p xs) z) same (at_front x (filter p xs))
    | inr behind ↦ behind_front x y (filter p xs) (in_filter p xs y passes behind)
  ])
  | inr f ↦ rw (filter_no p x xs f) (elim (front_or_behind x y xs within) [
    | inl same ↦ let fails : p y ≡ false = ap p (sym same) ∙ f in absurd cc
    | inr behind ↦ in_filter p xs y passes behind
  ])
]

pub of_filter : {X : Type 0} (p : X → Bool) (xs : List X) (y : X) → Contains (filter p xs) y → Contains xs y
of_filter p [] y within = absurd (in_none y within)
of_filter p (x ∷ xs) y within = elim (yes_or_no (p x)) [
  | inl t ↦ elim (front_or_behind x y (filter p xs) (rw (filter_yes p x xs t) at within)) [
    | inl same ↦ subst (λ z. Contains (x ∷ xs) z) same (at_front x xs)
    | inr behind ↦ behind_front x y xs (of_filter p xs y behind)
  ]
  | inr f ↦ behind_front x y xs (of_filter p xs y (rw (filter_no p x xs f) at within))
]

pub every : (image : Option (List ℕ)) (P : List ℕ → Type 0) → ((x : List ℕ) → P x) → IfSome image P
every None P all = tt
every (Some x) P all = all x

pub IfSome_both : (image : Option (List ℕ)) {P Q R : List ℕ → Type 0} → IfSome image P → IfSome image Q → ((x : List ℕ) → P x → Q x → R x) → IfSome image R
IfSome_both None p q leads = tt
IfSome_both (Some x) p q leads = leads x p q
