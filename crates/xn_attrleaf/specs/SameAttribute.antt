-- Two attributes are `==` exactly where they are the same.
use Rattle.std.proofs.Common.{◌≡◌, ℕ, Bool, true, false, eqb, List, [], refl, ap, ◌∙◌}
use Rattle.std.specs.Prelude.{◌&&◌, ◌↔◌, bytes_eq}
use Rattle.std.proofs.lemmas.Bool.{eq-eqb, eqb-true}
use Rattle.std.proofs.lemmas.Slice.Eq.{bytes_eq-Decides}
use Rattle.xn_bytes.specs.declared.attribute.Attribute.{Attribute}
use Rattle.xn_bytes.specs.declared.attribute.Value.{Value}
use Rattle.xn_bytes.specs.declared.attribute.Value.TheVariants.{Here, Remote}
use Rattle.xn_bytes.specs.contracts.attribute.ValuePartialEq.TheImpl as impl

-- whether two values are `==`
abbrev same_values : Value → Value → Bool
same_values a b = impl.ghosts.eq a b

abbrev is_here : Value → Bool
is_here (Here value) = true
is_here (Remote block size) = false

abbrev bytes_here : Value → List ℕ
bytes_here (Here value) = value
bytes_here (Remote block size) = []

abbrev block_there : Value → ℕ
block_there (Here value) = 0
block_there (Remote block size) = block

abbrev size_there : Value → ℕ
size_there (Here value) = 0
size_there (Remote block size) = size

both_true : (a b : Bool) → (a && b) ≡ true → (a ≡ true) × (b ≡ true)
both_true true true e = (refl, refl)
both_true true false e = absurd cc
both_true false b e = absurd cc

both_hold : (a b : Bool) → a ≡ true → b ≡ true → (a && b) ≡ true
both_hold a b x y = rw (x, y) refl

same_value : (a b : Value) → (same_values a b ≡ true) ↔ (a ≡ b)
same_value (Here a) (Here b) = (λ equal. ap Here ((bytes_eq-Decides a b).0 equal), λ same. (bytes_eq-Decides a b).1 (ap bytes_here same))
same_value (Here a) (Remote block size) = (λ equal. absurd cc, λ same. let no : true ≡ false = ap is_here same in absurd cc)
same_value (Remote block size) (Here a) = (λ equal. absurd cc, λ same. let no : false ≡ true = ap is_here same in absurd cc)
same_value (Remote block size) (Remote other length) = (
  λ equal.
      let both = both_true (eqb block other) (eqb size length) equal in
      ap (λ (n : ℕ). Remote n size) (eqb-true _ _ both.0) ∙ ap (λ (n : ℕ). Remote other n) (eqb-true _ _ both.1),
  λ same. both_hold (eqb block other) (eqb size length) (eq-eqb _ _ (ap block_there same)) (eq-eqb _ _ (ap size_there same)),
)

same_parts : (a b : Attribute) → a.flags ≡ b.flags → a.name ≡ b.name → a.value ≡ b.value → a ≡ b
same_parts a b flags name value =
    let made : ℕ → List ℕ → Value → Attribute = λ f n v. record { flags = f; name = n; value = v } in
    ap (λ (f : ℕ). made f a.name a.value) flags ∙ ap (λ (n : List ℕ). made b.flags n a.value) name ∙ ap (λ (v : Value). made b.flags b.name v) value

pub same_attribute : (a b : Attribute) → ((eqb a.flags b.flags && (bytes_eq a.name b.name && same_values a.value b.value)) ≡ true) ↔ (a ≡ b)
same_attribute a b = (
  λ equal.
      let first = both_true (eqb a.flags b.flags) (bytes_eq a.name b.name && same_values a.value b.value) equal in
      let second = both_true (bytes_eq a.name b.name) (same_values a.value b.value) first.1 in
      same_parts a b (eqb-true _ _ first.0) ((bytes_eq-Decides a.name b.name).0 second.0) ((same_value a.value b.value).0 second.1),
  λ same.
      both_hold (eqb a.flags b.flags) (bytes_eq a.name b.name && same_values a.value b.value) (eq-eqb _ _ (ap (λ (one : Attribute). one.flags) same))
      (both_hold (bytes_eq a.name b.name) (same_values a.value b.value) ((bytes_eq-Decides a.name b.name).1 (ap (λ (one : Attribute). one.name) same))
      ((same_value a.value b.value).1 (ap (λ (one : Attribute). one.value) same))),
)
