-- Where ways of entries lead.
use Rattle.std.proofs.Common.{◌≡◌, ℕ, zero, ◌<◌, List, [], ◌∷◌, length, refl, ◌∙◌, arith, inl, inr, eqb-true, eq-eqb}
use Rattle.std.specs.Prelude.{◌⊎◌, ◌==◌, All, Any, Contains}
use Rattle.std.proofs.lemmas.List.Elements.{All-contains}
use Rattle.xn_rules.specs.Namings.{Naming, naming, Leads}
use Rattle.xn_names.proofs.Moved.{contained_in_filter, passes_in_filter}

-- where a way ends, it began, or an entry names that inode
pub leads_named : (namings : List Naming) (from : ℕ) (path : List ℕ) (to : ℕ) → Leads namings from path to → (from ≡ to) ⊎ Any (λ n. n.ino ≡ to) namings
leads_named namings from [] to same = inl same
leads_named namings from (next ∷ path) to ((k, n, lt, same, step), rest) =
    elim (leads_named namings next path to rest) [
      | inl end ↦ inr (k, n, lt, same, step.1 ∙ end)
      | inr some ↦ inr some
    ]

-- an entry is a way of one step
pub one_step : (namings : List Naming) (from to : ℕ) → All (λ n. n.dir ≡ from) namings → Any (λ n. n.ino ≡ to) namings → Leads namings from (to ∷ []) to
one_step namings from to all (k, n, lt, same, named) =
    ((k, n, lt, same, (All-contains (λ m. m.dir ≡ from) namings n all (k, lt, same), named)), refl)

-- ---- of entries that name an inode

pub some_named : (ino : ℕ) (namings named : List Naming) → naming ino namings ≡ named → 0 < length named → Any (λ n. n.ino ≡ ino) namings
some_named ino namings [] e lt = absurd (omega arith)
some_named ino namings (n ∷ named) e lt =
    let first : Contains (naming ino namings) n = rw e (zero, omega arith, refl) in
    let there = contained_in_filter (λ (m : Naming). m.ino == ino) namings n first in
    (there.1.0, n, there.1.1, there.1.2, eqb-true n.ino ino there.0)

pub named_some : (ino : ℕ) (namings : List Naming) → Any (λ n. n.ino ≡ ino) namings → 0 < length (naming ino namings)
named_some ino namings (k, n, lt, same, named) =
    let there = passes_in_filter (λ (m : Naming). m.ino == ino) namings n (eq-eqb n.ino ino named) (k, lt, same) in
    omega (arith, there.1)
