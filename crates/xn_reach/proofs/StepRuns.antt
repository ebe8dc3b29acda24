-- The steps of a number, among steps that rise by where they start.
use Rattle.std.proofs.Common.{◌≡◌, ◌∙◌, ℕ, ◌+◌, ◌-◌, ◌<◌, ◌≤◌, true, false, List, length, get_or, take, drop, Any, ◌↔◌, ⊎_elim, sym, ap, arith, ltb, leb, leb-true, leb-false, ltb-true, ltb-false, length-take, length-drop, get_or-drop, get_or-take}
use Rattle.std.specs.List.Sorted.{IsPartitionPoint}
use Rattle.std.proofs.lemmas.Bool.{cases_lt}
use Rattle.xn_reach.specs.declared.step.Step.{Step}

-- a search by a test ends at a point that splits the steps by what it says
pub point_below : (steps : List Step) (bound at : ℕ) → IsPartitionPoint (λ (s : Step). ltb s.from bound ≡ true) (λ (s : Step). ltb s.from bound ≡ false) steps at → IsPartitionPoint (λ (s : Step). s.from < bound) (λ (s : Step). bound ≤ s.from) steps at
point_below steps bound at point = (λ k d low below. ltb-true _ _ (point.0 k d low below), λ k d low below. ltb-false _ _ (point.1 k d low below))

pub point_up_to : (steps : List Step) (bound at : ℕ) → IsPartitionPoint (λ (s : Step). leb s.from bound ≡ true) (λ (s : Step). leb s.from bound ≡ false) steps at → IsPartitionPoint (λ (s : Step). s.from ≤ bound) (λ (s : Step). bound < s.from) steps at
point_up_to steps bound at point = (λ k d low below. leb-true _ _ (point.0 k d low below), λ k d low below. leb-false _ _ (point.1 k d low below))

-- what starts below a number stands in front of what starts behind it
pub points_in_order : (steps : List Step) (number first behind : ℕ) → first ≤ length steps
    → IsPartitionPoint (λ (s : Step). s.from < number) (λ (s : Step). number ≤ s.from) steps first
    → IsPartitionPoint (λ (s : Step). s.from ≤ number) (λ (s : Step). number < s.from) steps behind
    → first ≤ behind
points_in_order steps number first behind within below above =
    let step : Step = record { from = 0; to = 0 } in
    ⊎_elim
    (λ (less : behind < first).
    let low : (get_or steps behind step).from < number = below.0 behind step (omega arith) less in
    let high : number < (get_or steps behind step).from = above.1 behind step (omega arith) (omega arith) in
    absurd (omega arith))
    (λ (more : first ≤ behind). more)
    (cases_lt behind first)

-- the steps between the two start at the number, and no others do
pub steps_between : (steps : List Step) (number first behind next : ℕ) → first ≤ behind → behind ≤ length steps
    → IsPartitionPoint (λ (s : Step). s.from < number) (λ (s : Step). number ≤ s.from) steps first
    → IsPartitionPoint (λ (s : Step). s.from ≤ number) (λ (s : Step). number < s.from) steps behind
    → Any (λ (s : Step). s.to ≡ next) (take (behind - first) (drop first steps)) ↔ Any (λ (s : Step). (s.from ≡ number) × (s.to ≡ next)) steps
steps_between steps number first behind next order within below above =
    let long : length (take (behind - first) (drop first steps)) ≡ behind - first = omega (arith, length-take (behind - first) (drop first steps), length-drop first steps) in (
      λ (k, s, low, same, to).
          let here : get_or (take (behind - first) (drop first steps)) k s ≡ get_or steps (first + k) s = get_or-take (behind - first) (drop first steps) k s (omega arith) ∙ get_or-drop first steps k s in
          let there : get_or steps (first + k) s ≡ s = sym here ∙ same in
          let from_there : (get_or steps (first + k) s).from ≡ s.from = ap (λ (t : Step). t.from) there in
          let high : (get_or steps (first + k) s).from ≤ number = above.0 (first + k) s (omega arith) (omega arith) in
          let least : number ≤ (get_or steps (first + k) s).from = below.1 (first + k) s (omega arith) (omega arith) in
          (first + k, s, omega arith, there, (omega arith, to)),
      λ (k, s, low, same, (from, to)).
          let from_there : (get_or steps k s).from ≡ s.from = ap (λ (t : Step). t.from) same in
          let from_first : first ≤ k =
          ⊎_elim (λ (less : k < first). let high : (get_or steps k s).from < number = below.0 k s (omega arith) less in absurd (omega arith)) (λ (more : first ≤ k). more) (cases_lt k first) in
          let in_front : k < behind =
          ⊎_elim (λ (less : k < behind). less) (λ (more : behind ≤ k). let high : number < (get_or steps k s).from = above.1 k s more low in absurd (omega arith)) (cases_lt k behind) in
          let at : first + (k - first) ≡ k = omega arith in
          let here : get_or (take (behind - first) (drop first steps)) (k - first) s ≡ get_or steps (first + (k - first)) s = get_or-take (behind - first) (drop first steps) (k - first) s (omega arith) ∙ get_or-drop first steps (k - first) s in
          (k - first, s, omega arith, here ∙ ap (λ i. get_or steps i s) at ∙ same, to),
    )
