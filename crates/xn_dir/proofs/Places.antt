-- Entries gone over one by one, for one that stands in a place.
use Rattle.std.proofs.Common.{◌≡◌, ◌≢◌, ℕ, List, [], ◌∷◌, sym, subst, ◌∙◌, inl, inr, ap}
use Rattle.std.specs.Prelude.{Contains}
use Rattle.xn_bytes.specs.Entries.{Entry}
use Rattle.xn_dir.proofs.Members.{at_front, behind_front, front_or_behind, in_none}
use Rattle.xn_dir.specs.Finding.{HasPlace}

-- what is left is among all, and an entry of the place, if there is one among all, is left
pub record SeeksPlace (all : List Entry) (position : ℕ) (left : List Entry) : Type 0 where
  pub among : (entry : Entry) → Contains left entry → Contains all entry
  pub kept : HasPlace all position → HasPlace left position

pub place_first : (all : List Entry) (position : ℕ) (left : List Entry) → left ≡ all → SeeksPlace all position left
place_first all position left same = record {
  among = λ entry within. subst (λ (es : List Entry). Contains es entry) same within;
  kept = λ has. subst (λ (es : List Entry). HasPlace es position) (sym same) has;
}

pub place_on : (all : List Entry) (position : ℕ) (entry : Entry) (left after : List Entry) → left ≡ entry ∷ after → entry.position ≢ position → SeeksPlace all position left → SeeksPlace all position after
place_on all position entry left after step other seeks = record {
  among = λ one within. seeks.among one (subst (λ (es : List Entry). Contains es one) (sym step) (behind_front entry one after within));
  kept = λ has.
      let before = seeks.kept has in
      elim (front_or_behind entry before.0 after (subst (λ (es : List Entry). Contains es before.0) step before.1)) [
        | inl same ↦ absurd (other (ap (λ (e : Entry). e.position) same ∙ before.2))
        | inr behind ↦ (before.0, behind, before.2)
      ];
}

pub place_found : (all : List Entry) (position : ℕ) (entry : Entry) (left after : List Entry) → left ≡ entry ∷ after → SeeksPlace all position left → Contains all entry
place_found all position entry left after step seeks = seeks.among entry (subst (λ (es : List Entry). Contains es entry) (sym step) (at_front entry after))

pub place_none : (all : List Entry) (position : ℕ) (left : List Entry) → left ≡ [] → SeeksPlace all position left → HasPlace all position → ⊥
place_none all position left done seeks has =
    let before = seeks.kept has in
    in_none before.0 (subst (λ (es : List Entry). Contains es before.0) done before.1)
