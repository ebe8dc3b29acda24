-- Where steps lead: ways that are longer by a step, and what all of their ends have in common.
use Rattle.std.proofs.Common.{◌≡◌, ◌∙◌, ℕ, List, [], ◌∷◌, ◌++◌, Any, Contains, ◌⊎◌, inl, inr, ⊎_elim, refl, sym, subst}
use Rattle.xn_reach.specs.declared.step.Step.{Step}
use Rattle.xn_reach.specs.Steps.{Leads}

-- one more step
pub leads_on : (steps : List Step) (path : List ℕ) (from middle next : ℕ) → Leads steps from path middle → Any (λ (s : Step). (s.from ≡ middle) × (s.to ≡ next)) steps → Leads steps from (path ++ next ∷ []) next
leads_on steps [] from middle next same step = (subst (λ start. Any (λ (s : Step). (s.from ≡ start) × (s.to ≡ next)) steps) (sym same) step, refl)
leads_on steps (first ∷ path) from middle next way step = (way.0, leads_on steps path first middle next way.1 step)

-- steps lead to the start itself, or to where a step ends
pub end_of_way : (steps : List Step) (path : List ℕ) (from to : ℕ) → Leads steps from path to → (from ≡ to) ⊎ Any (λ (s : Step). s.to ≡ to) steps
end_of_way steps [] from to same = inl same
end_of_way steps (next ∷ path) from to way =
    ⊎_elim
    (λ (same : next ≡ to). let step = way.0 in inr (step.0, step.1, step.2, step.3, step.4.1 ∙ same))
    (λ (ends : Any (λ (s : Step). s.to ≡ to) steps). inr ends)
    (end_of_way steps path next to way.1)

-- numbers that no step leaves hold all to which steps lead from one of them
pub stays_in : (steps : List Step) (numbers : List ℕ) → ((number next : ℕ) → Contains numbers number → Any (λ (s : Step). (s.from ≡ number) × (s.to ≡ next)) steps → Contains numbers next)
    → (path : List ℕ) (from to : ℕ) → Contains numbers from → Leads steps from path to → Contains numbers to
stays_in steps numbers closed [] from to has same = subst (Contains numbers) same has
stays_in steps numbers closed (next ∷ path) from to has way = stays_in steps numbers closed path next to (closed from next has way.0) way.1
