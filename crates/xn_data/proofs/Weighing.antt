-- Pairs that are weighed against the free regions one after the other, against what the header's pairs have to be.
use Rattle.std.proofs.Common.{◌≡◌, ℕ, ◌+◌, ◌≤◌, inl, inr, Bool, true, false, cond, not, ltb, eqb, List, [], ◌∷◌, ◌++◌, Option, Some, None, refl, sym, ap, subst, ◌∙◌, arith}
use Rattle.std.specs.Prelude.{max, ◌||◌, ◌&&◌, Contains}
use Rattle.std.specs.List.{AllByRecursion, list_any}
use Rattle.std.proofs.lemmas.Bool.{eqb-true, eq-eqb, ne_eqb, not-false, and_parts}
use Rattle.std.proofs.lemmas.Bool.Decides.{nat_tests}
use Rattle.std.proofs.lemmas.Grind.{common_steps}
use Rattle.std.proofs.lemmas.List.Elements.{filter-append}
use Rattle.std.proofs.lemmas.List.Folds.{Any-from_list_any, list_any-from_Any}
use Rattle.xn_bytes.specs.DataBlock.{Gap, NamesGreatest, greatest, gaps_without, pair_at, pair_fault, pairs_fault}
use Rattle.xn_data.specs.declared.pairs.Pair.{Pair}
use Rattle.xn_data.specs.declared.pairs.BestPairs.{BestPairs}
use Rattle.xn_data.proofs.Regions.{guard_none}
use Rattle.xn_data.specs.Weighing.{pair_of, pairs_of, weighed, all_weighed, pairs_weighed, pair_verdict, verdict}

-- ---- one after the other

place_kept : (pair : Pair) (gaps : List Gap) → (all_weighed pair gaps).place ≡ pair.place
place_kept pair [] = refl
place_kept pair (gap ∷ gaps) = place_kept (weighed pair gap) gaps

all_weighed-append : (pair : Pair) (first more : List Gap) → all_weighed pair (first ++ more) ≡ all_weighed (all_weighed pair first) more
all_weighed-append pair [] more = refl
all_weighed-append pair (gap ∷ first) more = all_weighed-append (weighed pair gap) first more

pub pairs_weighed-append : (pairs : BestPairs) (first more : List Gap) → pairs_weighed pairs (first ++ more) ≡ pairs_weighed (pairs_weighed pairs first) more
pairs_weighed-append pairs first more =
    let p : ℕ = pairs.first.place in
    let q : ℕ = pairs.second.place in
    let one : gaps_without p (first ++ more) ≡ gaps_without p first ++ gaps_without p more = filter-append (λ gap. not (eqb gap.place p)) first more in
    let two : gaps_without q (gaps_without p first ++ gaps_without p more) ≡ gaps_without q (gaps_without p first) ++ gaps_without q (gaps_without p more) = filter-append (λ gap. not (eqb gap.place q)) (gaps_without p first) (gaps_without p more) in
    let a : (all_weighed pairs.first first).place ≡ p = place_kept pairs.first first in
    let b : (all_weighed pairs.second (gaps_without p first)).place ≡ q = place_kept pairs.second (gaps_without p first) in
    rw (a, b, one, two, all_weighed-append pairs.first first more, all_weighed-append pairs.second (gaps_without p first) (gaps_without p more), all_weighed-append pairs.third (gaps_without q (gaps_without p first)) (gaps_without q (gaps_without p more))) refl

-- ---- after all of them

-- whether a region at a pair's place has the greatest length
abbrev here_and_greatest : ℕ → ℕ → Gap → Bool
here_and_greatest place most gap = eqb gap.place place && eqb gap.size most

step_named : (g s most : ℕ) (named here any : Bool) → g ≤ most → s ≤ most
    → ((cond (ltb g s) here (named || (here && eqb s g)) && eqb most (max g s)) || any) ≡ ((named && eqb most g) || ((here && eqb s most) || any))
step_named g s most true true true a b = grind (arith, nat_tests, common_steps)
step_named g s most true true false a b = grind (arith, nat_tests, common_steps)
step_named g s most true false true a b = grind (arith, nat_tests, common_steps)
step_named g s most true false false a b = grind (arith, nat_tests, common_steps)
step_named g s most false true true a b = grind (arith, nat_tests, common_steps)
step_named g s most false true false a b = grind (arith, nat_tests, common_steps)
step_named g s most false false true a b = grind (arith, nat_tests, common_steps)
step_named g s most false false false a b = grind (arith, nat_tests, common_steps)

named_alone : (named : Bool) → ((named && true) || false) ≡ named
named_alone true = refl
named_alone false = refl

named_no_more : (named : Bool) → (named && false) ≡ false
named_no_more true = refl
named_no_more false = refl

-- a pair after all regions, in one step
abbrev after : Pair → List Gap → ℕ → Pair
after pair gaps most = record {
  place = pair.place;
  size = pair.size;
  greatest = most;
  is_named = (pair.is_named && eqb most pair.greatest) || list_any (here_and_greatest pair.place most) gaps;
}

all_is : (gaps : List Gap) (pair : Pair) (most : ℕ) → most ≡ max pair.greatest (greatest gaps) → all_weighed pair gaps ≡ after pair gaps most
all_is [] pair most e =
    let same : most ≡ pair.greatest = omega (arith, e) in
    let test : eqb most pair.greatest ≡ true = eq-eqb most pair.greatest same in
    let named : ((pair.is_named && eqb most pair.greatest) || false) ≡ pair.is_named = rw test (named_alone pair.is_named) in
    rw (named, same) refl
all_is (gap ∷ gaps) pair most e =
    let others = all_is gaps (weighed pair gap) most (omega (arith, e)) in
    others
    ∙ ap (λ (named : Bool). record { place = pair.place; size = pair.size; greatest = most; is_named = named })
    (step_named pair.greatest gap.size most pair.is_named (eqb gap.place pair.place) (list_any (here_and_greatest pair.place most) gaps) (omega (arith, e)) (omega (arith, e)))

kept_one : (keep : Bool) (gap : Gap) (gaps : List Gap) → 8 ≤ gap.size → AllByRecursion (λ one. 8 ≤ one.size) gaps → AllByRecursion (λ one. 8 ≤ one.size) (cond keep (gap ∷ gaps) gaps)
kept_one true gap gaps some others = (some, others)
kept_one false gap gaps some others = others

kept_some : (place : ℕ) (gaps : List Gap) → AllByRecursion (λ gap. 8 ≤ gap.size) gaps → AllByRecursion (λ gap. 8 ≤ gap.size) (gaps_without place gaps)
kept_some place [] some = tt
kept_some place (gap ∷ gaps) some = kept_one (not (eqb gap.place place)) gap (gaps_without place gaps) some.0 (kept_some place gaps some.1)

same_gap : (gap : Gap) (place size : ℕ) → gap.place ≡ place → gap.size ≡ size → gap ≡ record { place = place; size = size }
same_gap gap place size p q = rw (← p, ← q) refl

-- a region at a place with a length is among the regions
found : (place size : ℕ) (gaps : List Gap) → list_any (here_and_greatest place size) gaps ≡ true → Contains gaps (record { place = place; size = size })
found place size gaps e =
    let any = Any-from_list_any (here_and_greatest place size) gaps e in
    let both = and_parts (eqb any.1.place place) (eqb any.1.size size) any.4 in
    let same : any.1 ≡ record { place = place; size = size } = same_gap any.1 place size (eqb-true _ _ both.0) (eqb-true _ _ both.1) in
    subst (λ (gap : Gap). Contains gaps gap) same (any.0, any.2, any.3)

finds : (gaps : List Gap) (pair : Gap) → Contains gaps pair → list_any (here_and_greatest pair.place pair.size) gaps ≡ true
finds gaps pair here =
    let passes : here_and_greatest pair.place pair.size pair ≡ true = rw (eq-eqb pair.place pair.place refl, eq-eqb pair.size pair.size refl) refl in
    list_any-from_Any (here_and_greatest pair.place pair.size) gaps (here.0, pair, here.1, here.2, passes)

-- the verdict on a pair is its fault
pub verdict_is : (at : ℕ) (gaps : List Gap) (pair : Gap) → AllByRecursion (λ gap. 8 ≤ gap.size) gaps → pair_verdict at (all_weighed (pair_of pair) gaps) ≡ pair_fault at gaps pair
verdict_is at [] pair some = refl
verdict_is at (gap ∷ gaps) pair some =
    let most : ℕ = greatest (gap ∷ gaps) in
    let large : 8 ≤ gap.size = some.0 in
    let test : eqb most 0 ≡ false = ne_eqb most 0 (λ e. omega arith) in
    let whole = all_is (gap ∷ gaps) (pair_of pair) most (omega arith) in
    let one : pair_verdict at (all_weighed (pair_of pair) (gap ∷ gaps)) ≡ pair_verdict at (after (pair_of pair) (gap ∷ gaps) most) = ap (pair_verdict at) whole in
    one ∙ rw (test, named_no_more (eqb pair.place 0)) refl

-- the verdict on the three pairs is their first fault
pub verdicts_are : (bytes : List ℕ) (gaps : List Gap) → AllByRecursion (λ gap. 8 ≤ gap.size) gaps → verdict (pairs_weighed (pairs_of bytes) gaps) ≡ pairs_fault bytes gaps
unfolding pairs_fault
verdicts_are bytes gaps some =
    let p : ℕ = (pair_at 48 bytes).place in
    let q : ℕ = (pair_at 52 bytes).place in
    let some_without : AllByRecursion (λ gap. 8 ≤ gap.size) (gaps_without p gaps) = kept_some p gaps some in
    let one = verdict_is 48 gaps (pair_at 48 bytes) some in
    let two = verdict_is 52 (gaps_without p gaps) (pair_at 52 bytes) some_without in
    let three = verdict_is 56 (gaps_without q (gaps_without p gaps)) (pair_at 56 bytes) (kept_some q (gaps_without p gaps) some_without) in
    rw (one, two, three) refl

-- ---- what a pair without fault names

-- the fault of a pair that names one of the greatest or not
abbrev faulty : ℕ → Bool → ℕ → Gap → Option ℕ
faulty at named most pair = cond (not named) (Some at) (cond (not (eqb pair.size most)) (Some (at + 2)) None)

not_faulty : (at : ℕ) (named : Bool) (most : ℕ) (pair : Gap) → faulty at named most pair ≡ None → (named ≡ true) × (pair.size ≡ most)
not_faulty at named most pair e =
    let g0 = guard_none _ _ _ e in
    let g1 = guard_none _ _ _ g0.1 in
    (not-false _ g0.0, eqb-true _ _ (not-false _ g1.0))

faulty_none : (at : ℕ) (named : Bool) (most : ℕ) (pair : Gap) → named ≡ true → pair.size ≡ most → faulty at named most pair ≡ None
faulty_none at named most pair a b = rw (a, eq-eqb pair.size most b) refl

pub named_by : (at : ℕ) (gaps : List Gap) (pair : Gap) → pair_fault at gaps pair ≡ None → NamesGreatest gaps pair
named_by at [] pair e =
    let g0 = guard_none _ _ _ e in
    let g1 = guard_none _ _ _ g0.1 in
    inl (refl, eqb-true _ _ (not-false _ g0.0), eqb-true _ _ (not-false _ g1.0))
named_by at (gap ∷ gaps) pair e =
    let most : ℕ = greatest (gap ∷ gaps) in
    let both = not_faulty at (list_any (here_and_greatest pair.place most) (gap ∷ gaps)) most pair e in
    inr (found pair.place pair.size (gap ∷ gaps) (subst (λ (size : ℕ). list_any (here_and_greatest pair.place size) (gap ∷ gaps) ≡ true) (sym both.1) both.0), both.1)

pub fault_none : (at : ℕ) (gaps : List Gap) (pair : Gap) → NamesGreatest gaps pair → pair_fault at gaps pair ≡ None
fault_none at [] pair (inl none) = rw (none.1, none.2) refl
fault_none at [] pair (inr one) = absurd (omega (arith, one.0.1))
fault_none at (gap ∷ gaps) pair (inl none) = let no = none.0 in absurd cc
fault_none at (gap ∷ gaps) pair (inr one) =
    let most : ℕ = greatest (gap ∷ gaps) in
    let any : list_any (here_and_greatest pair.place most) (gap ∷ gaps) ≡ true = subst (λ (size : ℕ). list_any (here_and_greatest pair.place size) (gap ∷ gaps) ≡ true) one.1 (finds (gap ∷ gaps) pair one.0) in
    faulty_none at (list_any (here_and_greatest pair.place most) (gap ∷ gaps)) most pair any one.1
