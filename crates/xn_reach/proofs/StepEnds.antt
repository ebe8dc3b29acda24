-- One more step whose end is met.
use Rattle.std.proofs.Common.{◌≡◌, ◌∙◌, ℕ, ◌+◌, true, false, Bool, cond, not, is_eq, List, [], ◌∷◌, ◌++◌, length, Any, Contains, ◌⊎◌, inl, inr, ⊎_elim, refl, sym, ap, subst, arith, nat_cmp, BTreeSet}
use Rattle.std.specs.BTreeSet.{IsOrdered, Updates, contains}
use Rattle.std.specs.Bool.{OnFalse}
use Rattle.std.proofs.lemmas.Cmp.{nat_cmp_total}
use Rattle.std.proofs.lemmas.List.{length_push}
use Rattle.std.proofs.lemmas.List.Elements.{Contains-append_left, Contains-push, Contains-push_cases}
use Rattle.std.proofs.lemmas.List.Quantifiers.{Any-push}
use Rattle.std.proofs.lemmas.Map.Lookups.{exact_unsigned}
use Rattle.std.proofs.lemmas.Map.Views.{btree_set_contains_iff, tells_apart}
use Rattle.xn_reach.specs.declared.step.Step.{Step}
use Rattle.xn_reach.specs.Meetings.{Meets}

-- some element of a list with one more at its end
Any-append_left : {X : Type 0} (P : X → Type 0) (xs ys : List X) → Any P xs → Any P (xs ++ ys)
Any-append_left P xs ys (k, x, low, same, p) =
    let found = Contains-append_left xs ys x (k, low, same) in
    (found.0, x, found.1, found.2, p)

Any-push_cases : {X : Type 0} (P : X → Type 0) (xs : List X) (y : X) → Any P (xs ++ y ∷ []) → Any P xs ⊎ P y
Any-push_cases P xs y (k, x, low, same, p) = ⊎_elim (λ (found : Contains xs x). inl (found.0, x, found.1, found.2, p)) (λ (e : y ≡ x). inr (subst P (sym e) p)) (Contains-push_cases xs y x (k, low, same))

-- ---- a set with one number more

from_not : (b : Bool) → not b ≡ false → b ≡ true
from_not true e = refl
from_not false e = cc

pub has_from_test : (s : BTreeSet ℕ) (number : ℕ) → contains nat_cmp s number ≡ true → Contains s.keys number
has_from_test s number passes = (btree_set_contains_iff nat_cmp_total exact_unsigned s number).0 passes

pub test_from_has : (s : BTreeSet ℕ) (number : ℕ) → Contains s.keys number → contains nat_cmp s number ≡ true
test_from_has s number has = (btree_set_contains_iff nat_cmp_total exact_unsigned s number).1 has

pub tested_before : (s : BTreeSet ℕ) (one : ℕ) (added : Bool) → added ≡ false → added ≡ not (contains nat_cmp s one) → contains nat_cmp s one ≡ true
tested_before s one added is tested = from_not (contains nat_cmp s one) (sym tested ∙ is)

pub longer_by_one : (long before : ℕ) (added : Bool) → added ≡ true → long ≡ before + cond added 1 0 → long ≡ before + 1
longer_by_one long before true is counted = counted
longer_by_one long before false is counted = cc

pub unchanged_keys : (old new : BTreeSet ℕ) (added : Bool) → added ≡ false → OnFalse added (new.keys ≡ old.keys) → new.keys ≡ old.keys
unchanged_keys old new true is same = cc
unchanged_keys old new false is same = same

inserted_cases : (old new : BTreeSet ℕ) (one number : ℕ) (same : Bool) → is_eq (nat_cmp one number) ≡ same → contains nat_cmp new number ≡ cond same true (contains nat_cmp old number) → Contains new.keys number → Contains old.keys number ⊎ (one ≡ number)
inserted_cases old new one number true same now has = inr (tells_apart exact_unsigned one number same)
inserted_cases old new one number false same now has = inl (has_from_test old number (sym now ∙ test_from_has new number has))

pub inserted : (old new : BTreeSet ℕ) (one number : ℕ) → Updates nat_cmp old new one true → Contains new.keys number → Contains old.keys number ⊎ (one ≡ number)
inserted old new one number updates has = inserted_cases old new one number (is_eq (nat_cmp one number)) refl (updates.0 number) has

kept_cases : (old new : BTreeSet ℕ) (number : ℕ) (same : Bool) → contains nat_cmp new number ≡ cond same true (contains nat_cmp old number) → Contains old.keys number → Contains new.keys number
kept_cases old new number true now has = has_from_test new number now
kept_cases old new number false now has = has_from_test new number (now ∙ test_from_has old number has)

pub inserted_kept : (old new : BTreeSet ℕ) (one number : ℕ) → Updates nat_cmp old new one true → Contains old.keys number → Contains new.keys number
inserted_kept old new one number updates has = kept_cases old new number (is_eq (nat_cmp one number)) (updates.0 number) has

pub inserted_there : (old new : BTreeSet ℕ) (one : ℕ) → Updates nat_cmp old new one true → Contains new.keys one
inserted_there old new one updates = has_from_test new one updates.1

-- ---- steps

pub meets_none : (old : BTreeSet ℕ) (waited : List ℕ) → Meets [] old old waited waited
meets_none old waited = record {
  kept = λ number has. has;
  ends = λ number (k, s, low, same, to). absurd (omega arith);
  news = λ number has. inl has;
  still = λ number has. has;
  waits = λ number has. inl has;
  grown = refl;
  ordered = λ order. order;
}

-- the end of the next step is new
pub meets_new : (steps : List Step) (step : Step) (old middle new : BTreeSet ℕ) (waited waiting : List ℕ) → Meets steps old middle waited waiting
    → Updates nat_cmp middle new step.to true → length new.keys ≡ length middle.keys + 1 → IsOrdered nat_cmp new
    → Meets (steps ++ step ∷ []) old new waited (waiting ++ step.to ∷ [])
meets_new steps step old middle new waited waiting so_far updates longer order = record {
  kept = λ number has. inserted_kept middle new step.to number updates (so_far.kept number has);
  ends = λ number some.
      ⊎_elim
      (λ (front : Any (λ (s : Step). s.to ≡ number) steps). inserted_kept middle new step.to number updates (so_far.ends number front))
      (λ (last : step.to ≡ number). subst (Contains new.keys) last (inserted_there middle new step.to updates))
      (Any-push_cases (λ (s : Step). s.to ≡ number) steps step some);
  news = λ number has.
      ⊎_elim
      (λ (before : Contains middle.keys number).
      ⊎_elim
      (λ (had : Contains old.keys number). inl had)
      (λ (met : Any (λ (s : Step). s.to ≡ number) steps × Contains waiting number). inr (Any-append_left (λ (s : Step). s.to ≡ number) steps (step ∷ []) met.0, Contains-append_left waiting (step.to ∷ []) number met.1))
      (so_far.news number before))
      (λ (last : step.to ≡ number). inr (Any-push (λ (s : Step). s.to ≡ number) steps step last, subst (Contains (waiting ++ step.to ∷ [])) last (Contains-push waiting step.to)))
      (inserted middle new step.to number updates has);
  still = λ number has. Contains-append_left waiting (step.to ∷ []) number (so_far.still number has);
  waits = λ number has.
      ⊎_elim
      (λ (before : Contains waiting number).
      ⊎_elim
      (λ (had : Contains waited number). inl had)
      (λ (front : Any (λ (s : Step). s.to ≡ number) steps). inr (Any-append_left (λ (s : Step). s.to ≡ number) steps (step ∷ []) front))
      (so_far.waits number before))
      (λ (last : step.to ≡ number). inr (Any-push (λ (s : Step). s.to ≡ number) steps step last))
      (Contains-push_cases waiting step.to number has);
  grown = omega (arith, so_far.grown, length_push waiting step.to);
  ordered = λ _. order;
}

-- the end of the next step was met before
pub meets_again : (steps : List Step) (step : Step) (old middle new : BTreeSet ℕ) (waited waiting : List ℕ) → Meets steps old middle waited waiting
    → contains nat_cmp middle step.to ≡ true → new.keys ≡ middle.keys → IsOrdered nat_cmp new
    → Meets (steps ++ step ∷ []) old new waited waiting
meets_again steps step old middle new waited waiting so_far had same order = record {
  kept = λ number has. subst (λ numbers. Contains numbers number) (sym same) (so_far.kept number has);
  ends = λ number some.
      subst (λ numbers. Contains numbers number) (sym same)
      (⊎_elim
      (λ (front : Any (λ (s : Step). s.to ≡ number) steps). so_far.ends number front)
      (λ (last : step.to ≡ number). subst (Contains middle.keys) last (has_from_test middle step.to had))
      (Any-push_cases (λ (s : Step). s.to ≡ number) steps step some));
  news = λ number has.
      ⊎_elim
      (λ (before : Contains old.keys number). inl before)
      (λ (met : Any (λ (s : Step). s.to ≡ number) steps × Contains waiting number). inr (Any-append_left (λ (s : Step). s.to ≡ number) steps (step ∷ []) met.0, met.1))
      (so_far.news number (subst (λ numbers. Contains numbers number) same has));
  still = so_far.still;
  waits = λ number has.
      ⊎_elim
      (λ (before : Contains waited number). inl before)
      (λ (front : Any (λ (s : Step). s.to ≡ number) steps). inr (Any-append_left (λ (s : Step). s.to ≡ number) steps (step ∷ []) front))
      (so_far.waits number has);
  grown = ap (λ (numbers : List ℕ). length numbers + length waited) same ∙ so_far.grown;
  ordered = λ _. order;
}
