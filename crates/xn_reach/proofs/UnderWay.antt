-- A search for what steps lead to: how it goes on, what it has found when nothing waits, and that it comes to that.
use Rattle.std.proofs.Common.{◌≡◌, ◌∙◌, ℕ, suc, ◌+◌, ◌-◌, ◌<◌, ◌≤◌, List, [], ◌∷◌, ◌++◌, map, length, get_or, Any, Contains, ◌↔◌, inl, inr, ⊎_elim, refl, sym, ap, subst, arith, nat_cmp, BTreeSet}
use Rattle.std.specs.Cmp.{eq_by_cmp_equiv}
use Rattle.std.proofs.lemmas.Cmp.{nat_cmp_total}
use Rattle.std.proofs.lemmas.List.{length_push, length-map, get_or-map, get_or_at}
use Rattle.std.proofs.lemmas.List.Elements.{Contains-append_left, Contains-push_cases}
use Rattle.std.proofs.lemmas.Map.Keys.{IsDistinct-from_sorted}
use Rattle.std.proofs.lemmas.Map.Lookups.{exact_unsigned}
use Rattle.std.proofs.lemmas.Map.Made.{length-le_from_is_member}
use Rattle.std.proofs.lemmas.Map.Views.{Contains-from_any, list_any-from_Contains, tells_apart}
use Rattle.xn_reach.specs.declared.step.Step.{Step}
use Rattle.xn_reach.specs.Steps.{Leads}
use Rattle.xn_reach.specs.Meetings.{Meets, IsUnderWay}
use Rattle.xn_reach.proofs.Ways.{leads_on, end_of_way, stays_in}

-- where the last that waits is taken, and what its steps lead to is met
pub goes_on : (steps run : List Step) (start number : ℕ) (old new : BTreeSet ℕ) (all rest waiting : List ℕ) → IsUnderWay steps start old all → all ≡ rest ++ number ∷ []
    → ((next : ℕ) → Any (λ (s : Step). s.to ≡ next) run ↔ Any (λ (s : Step). (s.from ≡ number) × (s.to ≡ next)) steps)
    → Meets run old new rest waiting → IsUnderWay steps start new waiting
goes_on steps run start number old new all rest waiting way last own meets =
    let was_met : Contains old.keys number = way.waits number (subst (λ numbers. Contains numbers number) (sym last) (length rest, omega (arith, length_push rest number), get_or_at rest number [] number (length rest) refl)) in
    record {
      started = meets.kept start way.started;
      reached = λ other has.
          ⊎_elim
          (λ (had : Contains old.keys other). way.reached other had)
          (λ (met : Any (λ (s : Step). s.to ≡ other) run × Contains waiting other).
          let so_far = way.reached number was_met in
          (so_far.0 ++ other ∷ [], leads_on steps so_far.0 start number other so_far.1 ((own other).0 met.0)))
          (meets.news other has);
      waits = λ other has.
          ⊎_elim
          (λ (waited : Contains rest other). meets.kept other (way.waits other (subst (λ numbers. Contains numbers other) (sym last) (Contains-append_left rest (number ∷ []) other waited))))
          (λ (front : Any (λ (s : Step). s.to ≡ other) run). meets.ends other front)
          (meets.waits other has);
      left = λ other next has step.
          ⊎_elim
          (λ (had : Contains old.keys other).
          ⊎_elim
          (λ (waited : Contains all other).
          ⊎_elim
          (λ (still : Contains rest other). inl (meets.still other still))
          (λ (same : number ≡ other). inr (meets.ends next ((own next).1 (subst (λ from. Any (λ (s : Step). (s.from ≡ from) × (s.to ≡ next)) steps) (sym same) step))))
          (Contains-push_cases rest number other (subst (λ numbers. Contains numbers other) last waited)))
          (λ (met : Contains old.keys next). inr (meets.kept next met))
          (way.left other next had step))
          (λ (met : Any (λ (s : Step). s.to ≡ other) run × Contains waiting other). inl met.1)
          (meets.news other has);
      ordered = meets.ordered way.ordered;
    }

-- where nothing waits, all that steps lead to was met
pub ends : (steps : List Step) (start : ℕ) (met : BTreeSet ℕ) → IsUnderWay steps start met [] → (number : ℕ) → Contains met.keys number ↔ ((path : List ℕ) × Leads steps start path number)
ends steps start met way number =
    let closed : (from next : ℕ) → Contains met.keys from → Any (λ (s : Step). (s.from ≡ from) × (s.to ≡ next)) steps → Contains met.keys next = λ from next has step.
    ⊎_elim (λ (none : Contains [] from). absurd (omega (arith, none.1))) (λ (met : Contains met.keys next). met) (way.left from next has step) in
    (λ has. way.reached number has, λ (path, leads). stays_in steps met.keys closed path start number way.started leads)

-- ---- that it ends

-- where a step ends stands in the list of all ends
in_ends : (steps : List Step) (start number : ℕ) → Any (λ (s : Step). s.to ≡ number) steps → Contains (start ∷ map (λ (s : Step). s.to) steps) number
in_ends steps start number (k, s, low, same, to) =
    let there : get_or (map (λ (s : Step). s.to) steps) k number ≡ (get_or steps k s).to = get_or-map (λ (s : Step). s.to) steps k s number low in
    (suc k, omega (arith, length-map steps (λ (s : Step). s.to)), there ∙ ap (λ (s : Step). s.to) same ∙ to)

-- no more are met than the start and one for each step
pub met_few : (steps : List Step) (start : ℕ) (met : BTreeSet ℕ) (waiting : List ℕ) → IsUnderWay steps start met waiting → length met.keys ≤ length steps + 1
met_few steps start met waiting way =
    let few : length met.keys ≤ length (start ∷ map (λ (s : Step). s.to) steps) =
    length-le_from_is_member (eq_by_cmp_equiv nat_cmp_total) met.keys (start ∷ map (λ (s : Step). s.to) steps) (IsDistinct-from_sorted nat_cmp met.keys way.ordered)
    (λ number has.
    let way_there = way.reached number (Contains-from_any (tells_apart exact_unsigned) number met.keys has) in
    list_any-from_Contains (eq_by_cmp_equiv nat_cmp_total) number (start ∷ map (λ (s : Step). s.to) steps)
    (⊎_elim
    (λ (same : start ≡ number). (0, omega arith, same))
    (λ (step : Any (λ (s : Step). s.to ≡ number) steps). in_ends steps start number step)
    (end_of_way steps way_there.0 start number way_there.1))) in
    omega (arith, length-map steps (λ (s : Step). s.to))

-- each turn takes one that waited, and each that it adds is new
pub comes_nearer : (steps run : List Step) (start number : ℕ) (old new : BTreeSet ℕ) (all rest waiting : List ℕ) → IsUnderWay steps start new waiting → all ≡ rest ++ number ∷ []
    → Meets run old new rest waiting
    → (length steps + 1 - length new.keys) + length waiting < (length steps + 1 - length old.keys) + length all
comes_nearer steps run start number old new all rest waiting way last meets = omega (arith, met_few steps start new waiting way, ap length last, length_push rest number, meets.grown)
