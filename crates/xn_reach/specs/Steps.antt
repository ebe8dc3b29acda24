-- Where steps lead.
use Rattle.std.specs.Prelude.{◌≡◌, ℕ, List, [], ◌∷◌, Any}
use Rattle.xn_reach.specs.declared.step.Step.{Step}

-- steps lead from a number, over these, to another
abbrev pub Leads : List Step → ℕ → List ℕ → ℕ → Type 0
Leads steps from [] to = from ≡ to
Leads steps from (next ∷ path) to = Any (λ s. (s.from ≡ from) × (s.to ≡ next)) steps × Leads steps next path to
