-- The entries that were found have the hash that was asked for.
use Rattle.std.proofs.Common.{◌≡◌, ◌++◌, ℕ, List, sym, subst, eqb-true}
use Rattle.std.specs.Prelude.{◌==◌, All, filter}
use Rattle.std.proofs.lemmas.List.Elements.{All-append, filter_passes}

-- those that are taken by their hash
filtered : {E : Type 0} (hash : E → ℕ) (asked : ℕ) (entries : List E) → All (λ entry. hash entry ≡ asked) (filter (λ entry. hash entry == asked) entries)
filtered hash asked entries k d h = eqb-true _ _ (filter_passes (λ entry. hash entry == asked) entries k d h)

-- where they go behind others that have it
pub of_hash_on : {E : Type 0} (hash : E → ℕ) (asked : ℕ) (old entries new : List E) → All (λ entry. hash entry ≡ asked) old
    → new ≡ old ++ filter (λ entry. hash entry == asked) entries → All (λ entry. hash entry ≡ asked) new
of_hash_on {E} hash asked old entries new all is =
    subst (λ (found : List E). All (λ entry. hash entry ≡ asked) found) (sym is)
    (All-append (λ entry. hash entry ≡ asked) old (filter (λ entry. hash entry == asked) entries) all (filtered hash asked entries))
