-- Looking for an attribute among others, as a loop does.
use Rattle.std.proofs.Common.{◌≡◌, ℕ, true, false, List, [], ◌∷◌, refl, subst, inl, inr}
use Rattle.std.specs.Prelude.{◌↔◌, Contains, IsTrue}
use Rattle.xn_bytes.specs.declared.attribute.Attribute.{Attribute}
use Rattle.xn_bytes.specs.ShortAttributes.{ShortAttributesHold}
use Rattle.xn_attr.proofs.Lists.{at_front, behind_front, front_or_behind, in_none}

-- what is left of the attributes of a fork has the wanted one exactly where they have it
pub record Seeks (fork : List ℕ) (wanted : Attribute) (left : List Attribute) : Type 0 where
  pub attributes : List Attribute
  pub holds : ShortAttributesHold fork attributes
  pub same : Contains attributes wanted ↔ Contains left wanted

pub seeks_on : (fork : List ℕ) (wanted attribute : Attribute) (left after : List Attribute) → left ≡ attribute ∷ after → (attribute ≡ wanted → ⊥) → Seeks fork wanted left → Seeks fork wanted after
seeks_on fork wanted attribute left after step other so_far = record {
  attributes = so_far.attributes;
  holds = so_far.holds;
  same = (
    λ there. elim (front_or_behind attribute wanted after (rw step at (so_far.same.0 there))) [
      | inl here ↦ absurd (other here)
      | inr behind ↦ behind
    ],
    λ there. so_far.same.1 (rw step (behind_front attribute wanted after there)),
  );
}

pub seeks_found : (fork : List ℕ) (wanted attribute : Attribute) (left after : List Attribute) → left ≡ attribute ∷ after → attribute ≡ wanted → Seeks fork wanted left
    → (attributes : List Attribute) × ShortAttributesHold fork attributes × (IsTrue true ↔ Contains attributes wanted)
seeks_found fork wanted attribute left after step here so_far = (
  so_far.attributes,
  so_far.holds,
  (λ _. so_far.same.1 (rw step (subst (λ (one : Attribute). Contains (attribute ∷ after) one) here (at_front attribute after))), λ _. refl),
)

pub seeks_none : (fork : List ℕ) (wanted : Attribute) (left : List Attribute) → left ≡ [] → Seeks fork wanted left
    → (attributes : List Attribute) × ShortAttributesHold fork attributes × (IsTrue false ↔ Contains attributes wanted)
seeks_none fork wanted left done so_far = (
  so_far.attributes,
  so_far.holds,
  (λ t. absurd cc, λ there. absurd (in_none wanted (rw done at (so_far.same.0 there)))),
)
