-- What is one only: an option by the values that it has, and an element by a relation that no two of a list have.
use Rattle.std.proofs.Common.{◌≡◌, ◌↔◌, ℕ, ◌<◌, List, length, get_or, Option, Some, None, refl, sym, ap, subst, ◌∙◌, arith, inl, inr}
use Rattle.std.specs.Prelude.{AllPairs, Contains}
use Rattle.std.proofs.lemmas.Bool.{cases_lt, cases_eq}
use Rattle.std.proofs.lemmas.List.{get_or_default}

-- options that have the same values are one
pub one_option : {X : Type 0} (a b : Option X) → ((x : X) → (a ≡ Some x) ↔ (b ≡ Some x)) → a ≡ b
one_option None None same = refl
one_option None (Some y) same = (same y).1 refl
one_option (Some x) b same = sym ((same x).0 refl)

-- what holds of all pairs holds of the elements at two places
at_places : {X : Type 0} (R : X → X → Type 0) (xs : List X) (a b : X) (i j : ℕ) → AllPairs R xs → i < j → j < length xs
    → get_or xs i a ≡ a → get_or xs j b ≡ b → R a b
at_places R xs a b i j pairs before within is_a is_b =
    let moved : get_or xs j a ≡ b = get_or_default xs j a b within ∙ is_b in
    subst (λ x. R x b) is_a (subst (λ y. R (get_or xs i a) y) moved (pairs i j a before within))

-- elements that are no such pair, either way round, are one
pub one_element : {X : Type 0} (R : X → X → Type 0) (xs : List X) (a b : X) → AllPairs R xs → Contains xs a → Contains xs b
    → ¬ R a b → ¬ R b a → a ≡ b
one_element R xs a b pairs (i, below_i, is_a) (j, below_j, is_b) not_so nor_so =
    elim (cases_lt i j) [
      | inl before ↦ absurd (not_so (at_places R xs a b i j pairs before below_j is_a is_b))
      | inr from ↦ elim (cases_eq i j) [
        | inl e ↦ sym is_a ∙ ap (λ (n : ℕ). get_or xs n a) e ∙ get_or_default xs j a b below_j ∙ is_b
        | inr ne ↦ absurd (nor_so (at_places R xs b a j i pairs (omega arith) below_i is_b is_a))
      ]
    ]
