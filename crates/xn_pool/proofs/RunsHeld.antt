-- The starts of given runs.
use Rattle.std.proofs.Common.{◌≡◌, ℕ, ◌+◌, ◌-◌, ◌^◌, ◌<◌, ◌≤◌, List, [], ◌∷◌, ◌++◌, length, get_or, take, refl, sym, ap, subst, ◌∙◌, arith}
use Rattle.std.specs.Prelude.{zero, suc}
use Rattle.std.specs.List.{range_with_len}
use Rattle.std.proofs.lemmas.List.{take_more, take_all}
use Rattle.xn_meaning.specs.Manifests.{ArePoolRuns}
use Rattle.xn_pool.specs.declared.runs.Start.{Start}
use Rattle.xn_pool.specs.Blocks.{blocks_of}
use Rattle.xn_pool.specs.Starts.{position_of_first, blocks_from, AreStarts}

-- how many blocks runs have
abbrev pub total : List (ℕ × ℕ) → ℕ
total [] = 0
total (run ∷ runs) = run.1 + total runs

abbrev pub starts_of : ℕ → List (ℕ × ℕ) → List Start
starts_of position [] = []
starts_of position (run ∷ runs) = record { block = run.0; position = position } ∷ starts_of (position + run.1) runs

total-push : (runs : List (ℕ × ℕ)) (run : ℕ × ℕ) → total (runs ++ run ∷ []) ≡ total runs + run.1
total-push [] run = omega arith
total-push (first ∷ runs) run = let rest : total (runs ++ run ∷ []) ≡ total runs + run.1 = total-push runs run in omega arith

starts_of-push : (runs : List (ℕ × ℕ)) (position : ℕ) (run : ℕ × ℕ) → starts_of position (runs ++ run ∷ []) ≡ starts_of position runs ++ record { block = run.0; position = position + total runs } ∷ []
starts_of-push [] position run = let here : position ≡ position + 0 = omega arith in ap (λ p. record { block = run.0; position = p } ∷ []) here
starts_of-push (first ∷ runs) position run =
    let at : position + first.1 + total runs ≡ position + (first.1 + total runs) = omega arith in
    ap (λ starts. record { block = first.0; position = position } ∷ starts)
    (starts_of-push runs (position + first.1) run ∙ ap (λ p. starts_of (position + first.1) runs ++ record { block = run.0; position = p } ∷ []) at)

-- the first of runs that rise have few blocks
few_blocks : (runs : List (ℕ × ℕ)) (least k : ℕ) → ArePoolRuns least runs → least ≤ 2 ^ 56 → least + total (take k runs) ≤ 2 ^ 56
few_blocks runs least zero are small = omega arith
few_blocks [] least (suc k) are small = omega arith
few_blocks (run ∷ runs) least (suc k) are small =
    let from : least ≤ run.0 = are.0 in
    let end : run.0 + run.1 ≤ 2 ^ 56 = are.2 in
    let rest : run.0 + run.1 + total (take k runs) ≤ 2 ^ 56 = few_blocks runs (run.0 + run.1) k are.3 end in
    omega arith

-- so many runs are held
pub record AreHeld (runs : List (ℕ × ℕ)) (k : ℕ) (starts : List Start) (count : ℕ) : Type 0 where
  pub starts_are : starts ≡ starts_of 0 (take k runs)
  pub count_is : count ≡ total (take k runs)

pub one_more_fits : (runs : List (ℕ × ℕ)) (k count : ℕ) (starts : List Start) (run : ℕ × ℕ) → ArePoolRuns 0 runs → AreHeld runs k starts count → k < length runs → run ≡ get_or runs k run → count + run.1 ≤ 2 ^ 56
one_more_fits runs k count starts run are held low is =
    let most : 0 + total (take (k + 1) runs) ≤ 2 ^ 56 = few_blocks runs 0 (k + 1) are (omega arith) in
    let more : total (take (k + 1) runs) ≡ total (take k runs) + run.1 =
    ap total (take_more runs k run low) ∙ total-push (take k runs) (get_or runs k run) ∙ ap (λ (r : ℕ × ℕ). total (take k runs) + r.1) (sym is) in
    omega (arith, held.count_is)

pub one_more_held : (runs : List (ℕ × ℕ)) (k count : ℕ) (starts next : List Start) (run : ℕ × ℕ) → AreHeld runs k starts count → k < length runs → run ≡ get_or runs k run
    → next ≡ starts ++ record { block = run.0; position = count } ∷ [] → AreHeld runs (k + 1) next (count + run.1)
one_more_held runs k count starts next run held low is pushed =
    let more : take (k + 1) runs ≡ take k runs ++ run ∷ [] = take_more runs k run low ∙ ap (λ (r : ℕ × ℕ). take k runs ++ r ∷ []) (sym is) in
    record {
      starts_are =
          pushed
          ∙ ap (λ (ss : List Start). ss ++ record { block = run.0; position = count } ∷ []) held.starts_are
          ∙ ap (λ p. starts_of 0 (take k runs) ++ record { block = run.0; position = p } ∷ []) (held.count_is ∙ zero_plus (total (take k runs)))
          ∙ sym (starts_of-push (take k runs) 0 run)
          ∙ ap (starts_of 0) (sym more);
      count_is = ap (λ n. n + run.1) held.count_is ∙ sym (total-push (take k runs) run) ∙ ap total (sym more);
    } where
      zero_plus : (n : ℕ) → n ≡ 0 + n
      zero_plus n = omega arith

-- ---- all runs

next_position : (runs : List (ℕ × ℕ)) (position : ℕ) → position_of_first (starts_of position runs) (position + total runs) ≡ position
next_position [] position = omega arith
next_position (run ∷ runs) position = refl

pub starts_are : (runs : List (ℕ × ℕ)) (least position : ℕ) → ArePoolRuns least runs → AreStarts least position (starts_of position runs) (position + total runs)
starts_are [] least position are = let e : position ≡ position + 0 = omega arith in e
starts_are (run ∷ runs) least position are =
    let some : 0 < run.1 = are.1 in
    let next : ℕ = position + run.1 in
    let count_is : next + total runs ≡ position + (run.1 + total runs) = omega arith in
    let first : position_of_first (starts_of next runs) (position + (run.1 + total runs)) ≡ next = ap (position_of_first (starts_of next runs)) (sym count_is) ∙ next_position runs next in
    let width : run.1 ≡ position_of_first (starts_of next runs) (position + (run.1 + total runs)) - position = omega arith in
    let rest : AreStarts (run.0 + run.1) next (starts_of next runs) (next + total runs) = starts_are runs (run.0 + run.1) next are.3 in
    let at_count : AreStarts (run.0 + run.1) next (starts_of next runs) (position + (run.1 + total runs)) = subst (AreStarts (run.0 + run.1) next (starts_of next runs)) count_is rest in
    let at_next = subst (λ p. AreStarts (run.0 + run.1) p (starts_of next runs) (position + (run.1 + total runs))) (sym first) at_count in
    let at_least = subst (λ w. AreStarts (run.0 + w) (position_of_first (starts_of next runs) (position + (run.1 + total runs))) (starts_of next runs) (position + (run.1 + total runs))) width at_next in
    let end : run.0 + run.1 ≤ 2 ^ 56 = are.2 in
    (are.0, refl, omega arith, omega arith, at_least)

pub blocks_are : (runs : List (ℕ × ℕ)) (position : ℕ) → blocks_from (starts_of position runs) (position + total runs) ≡ blocks_of runs
blocks_are [] position = refl
blocks_are (run ∷ runs) position =
    let next : ℕ = position + run.1 in
    let count_is : next + total runs ≡ position + (run.1 + total runs) = omega arith in
    let first : position_of_first (starts_of next runs) (position + (run.1 + total runs)) ≡ next = ap (position_of_first (starts_of next runs)) (sym count_is) ∙ next_position runs next in
    let width : position_of_first (starts_of next runs) (position + (run.1 + total runs)) - position ≡ run.1 = omega arith in
    let rest : blocks_from (starts_of next runs) (position + (run.1 + total runs)) ≡ blocks_of runs = ap (blocks_from (starts_of next runs)) (sym count_is) ∙ blocks_are runs next in
    ap (λ w. range_with_len run.0 w ++ blocks_from (starts_of next runs) (position + (run.1 + total runs))) width
    ∙ ap (λ (blocks : List ℕ). range_with_len run.0 run.1 ++ blocks) rest

pub all_held : (runs : List (ℕ × ℕ)) (k count : ℕ) (starts : List Start) → ArePoolRuns 0 runs → AreHeld runs k starts count → length runs ≤ k → AreStarts 0 0 starts count × (count ≤ 2 ^ 56)
all_held runs k count starts are held all =
    let whole : take k runs ≡ runs = take_all k runs all in
    let starts_is : starts ≡ starts_of 0 runs = held.starts_are ∙ ap (starts_of 0) whole in
    let count_is : count ≡ 0 + total runs = omega (arith, held.count_is, ap total whole) in
    let few : 0 + total (take k runs) ≤ 2 ^ 56 = few_blocks runs 0 k are (omega arith) in
    (subst (λ (ss : List Start). AreStarts 0 0 ss count) (sym starts_is) (subst (AreStarts 0 0 (starts_of 0 runs)) (sym count_is) (starts_are runs 0 0 are)), omega (arith, held.count_is))

pub all_blocks : (runs : List (ℕ × ℕ)) (k count : ℕ) (starts : List Start) → AreHeld runs k starts count → length runs ≤ k → blocks_from starts count ≡ blocks_of runs
all_blocks runs k count starts held all =
    let whole : take k runs ≡ runs = take_all k runs all in
    let starts_is : starts ≡ starts_of 0 runs = held.starts_are ∙ ap (starts_of 0) whole in
    let count_is : count ≡ 0 + total runs = omega (arith, held.count_is, ap total whole) in
    ap (λ (ss : List Start). blocks_from ss count) starts_is ∙ ap (blocks_from (starts_of 0 runs)) count_is ∙ blocks_are runs 0
