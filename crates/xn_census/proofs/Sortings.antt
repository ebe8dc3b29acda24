-- One directory more.
use Rattle.std.proofs.Common.{◌≡◌, inl, inr, ℕ, List, [], ◌∷◌, ◌++◌, length, map, arith, eq-eqb, eqb-true, true, false, refl, sym, ap, ◌∙◌, append_assoc}
use Rattle.std.specs.Prelude.{Bool, ◌==◌, ◌↔◌, IsTrue, if◌then◌else◌}
use Rattle.std.proofs.lemmas.List.{append-nil}
use Rattle.xn_facts.specs.declared.facts.Node.{Node}
use Rattle.xn_names.specs.declared.entry.Naming.{Naming}
use Rattle.xn_reach.specs.declared.step.Step.{Step}
use Rattle.xn_census.specs.declared.census.Held.{Held}
use Rattle.xn_census.specs.declared.sorted_out.Whole.{Whole}
use Rattle.xn_census.specs.declared.sorted_out.SortedOut.{SortedOut}
use Rattle.xn_census.specs.SortedOut.{AreSortedOut, AreTaken, IsWholeOf, SortsOut, named_in, steps_in}

pub sorted_behind : (nodes : List Node) (helds : List Held) (held : Held) (wholes : List Whole) (whole : Whole) (namings own : List Naming) (steps out : List Step)
    → AreSortedOut nodes helds wholes namings steps → IsWholeOf nodes held whole → AreTaken held whole own out
    → AreSortedOut nodes (helds ++ held ∷ []) (wholes ++ whole ∷ []) (namings ++ own) (steps ++ out)
sorted_behind nodes [] held wholes whole namings own steps out (no_wholes, no_namings, no_steps) is taken = (
  whole,
  [],
  own,
  [],
  out,
  [],
  is,
  taken,
  (refl, refl, refl),
  ap (λ (ws : List Whole). ws ++ whole ∷ []) no_wholes,
  ap (λ (ns : List Naming). ns ++ own) no_namings ∙ sym (append-nil own),
  ap (λ (ss : List Step). ss ++ out) no_steps ∙ sym (append-nil out),
)
sorted_behind nodes (first ∷ helds) held wholes whole namings own steps out (one, others, front, rest, from, further, first_is, first_taken, are, wholes_are, namings_are, steps_are) is taken = (
  one,
  others ++ whole ∷ [],
  front,
  rest ++ own,
  from,
  further ++ out,
  first_is,
  first_taken,
  sorted_behind nodes helds held others whole rest own further out are is taken,
  ap (λ (ws : List Whole). ws ++ whole ∷ []) wholes_are,
  ap (λ (ns : List Naming). ns ++ own) namings_are ∙ append_assoc front rest own,
  ap (λ (ss : List Step). ss ++ out) steps_are ∙ append_assoc from further out,
)

-- what is taken, by the test
taken_by : (held : Held) (whole : Whole) → AreTaken held whole (if whole.is_right then map (named_in held) held.contents.entries.items else []) (if whole.is_right then steps_in held held.contents.entries.items else [])
taken_by held whole = elim (whole.is_right) as (λ b. let others : Whole = record whole { is_right = b } in AreTaken held others (if b then map (named_in held) held.contents.entries.items else []) (if b then steps_in held held.contents.entries.items else [])) [
  | true ↦ inl (refl, refl, refl)
  | false ↦ inr (refl, refl, refl)
]

pub sorts_more : (nodes : List Node) (helds : List Held) (held : Held) (whole : Whole) (old new : SortedOut)
    → IsWholeOf nodes held whole
    → new.wholes.items ≡ old.wholes.items ++ whole ∷ []
    → new.namings.items ≡ old.namings.items ++ (if whole.is_right then map (named_in held) held.contents.entries.items else [])
    → new.steps.items ≡ old.steps.items ++ (if whole.is_right then steps_in held held.contents.entries.items else [])
    → SortsOut nodes helds old → SortsOut nodes (helds ++ held ∷ []) new
sorts_more nodes helds held whole old new is wholes namings steps sorts =
    rw (wholes, namings, steps) (sorted_behind nodes helds held old.wholes.items whole old.namings.items _ old.steps.items _ sorts is (taken_by held whole))

pub sorts_none : (nodes : List Node) (out : SortedOut) → out.wholes.items ≡ [] → out.namings.items ≡ [] → out.steps.items ≡ [] → SortsOut nodes [] out
sorts_none nodes out wholes namings steps = (wholes, namings, steps)

-- a list is empty exactly where its length is none
pub empty_by : {X : Type 0} (xs : List X) (n : ℕ) (is_empty : Bool) → length xs ≡ n → is_empty ≡ (n == 0) → IsTrue is_empty ↔ (xs ≡ [])
empty_by [] n is_empty long is = (λ yes. refl, λ none. is ∙ eq-eqb n 0 (sym long))
empty_by (x ∷ xs) n is_empty long is = (λ yes. let zero : n ≡ 0 = eqb-true n 0 (sym is ∙ yes) in absurd (omega (arith, long, zero)), λ none. absurd (cc))
