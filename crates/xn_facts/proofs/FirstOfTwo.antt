-- Which rule is the first of several: of one that is broken, of the same rules by another name, and of two families the lesser of
-- their firsts.
use Rattle.std.proofs.Common.{◌≡◌, ◌⊎◌, ℕ, ◌≤◌, Bool, true, false, Option, Some, None, inl, inr, refl, arith}
use Rattle.std.specs.Prelude.{nat_lt, if◌then◌else◌}
use Rattle.std.proofs.lemmas.Bool.{ltb-true, ltb-false}
use Rattle.xn_facts.specs.declared.facts.Broken.{Broken}
use Rattle.xn_facts.specs.Facts.{IsFirstOf}
use Rattle.xn_facts.specs.Verdicts.{lesser_of}

-- what is broken, of a family that breaks one rule alone, is the first
pub first_alone : (F : ℕ → ℕ → Type 0) (broken : Broken) → ((r s b c : ℕ) → F r b → F s c → r ≡ s) → F broken.rule broken.block → IsFirstOf F (Some broken)
first_alone F broken one breaks = (breaks, λ rule block other. let same = one broken.rule rule broken.block block breaks other in omega (arith, same))

-- the same rules by another name
pub first_of_same : (F G : ℕ → ℕ → Type 0) (broken : Option Broken) → ((r b : ℕ) → F r b → G r b) → ((r b : ℕ) → G r b → F r b) → IsFirstOf F broken → IsFirstOf G broken
first_of_same F G None to from first = λ rule block breaks. first rule block (from rule block breaks)
first_of_same F G (Some broken) to from first = (to broken.rule broken.block first.0, λ rule block breaks. first.1 rule block (from rule block breaks))

-- ---- two families

abbrev Either : (ℕ → ℕ → Type 0) → (ℕ → ℕ → Type 0) → ℕ → ℕ → Type 0
Either F G rule block = F rule block ⊎ G rule block

neither : (F G : ℕ → ℕ → Type 0) (rule block : ℕ) → (F rule block → ⊥) → (G rule block → ⊥) → Either F G rule block → ⊥
neither F G rule block no_one no_other (inl breaks) = no_one breaks
neither F G rule block no_one no_other (inr breaks) = no_other breaks

-- a bound of the rules of both
below_both : (F G : ℕ → ℕ → Type 0) (least rule block : ℕ) → (F rule block → least ≤ rule) → (G rule block → least ≤ rule) → Either F G rule block → least ≤ rule
below_both F G least rule block one other (inl breaks) = one breaks
below_both F G least rule block one other (inr breaks) = other breaks

chosen : (F G : ℕ → ℕ → Type 0) (first second : Broken) (less : Bool) → nat_lt second.rule first.rule ≡ less → IsFirstOf F (Some first) → IsFirstOf G (Some second)
    → IsFirstOf (Either F G) (if less then Some second else Some first)
chosen F G first second true is of_one of_other =
    let less = ltb-true second.rule first.rule is in
    (inr of_other.0, λ rule block. below_both F G second.rule rule block (λ breaks. let low = of_one.1 rule block breaks in omega (arith, less, low)) (of_other.1 rule block))
chosen F G first second false is of_one of_other =
    let not_less = ltb-false second.rule first.rule is in
    (inl of_one.0, λ rule block. below_both F G first.rule rule block (of_one.1 rule block) (λ breaks. let low = of_other.1 rule block breaks in omega (arith, not_less, low)))

pub first_of_both : (F G : ℕ → ℕ → Type 0) (one other : Option Broken) → IsFirstOf F one → IsFirstOf G other → IsFirstOf (λ rule block. F rule block ⊎ G rule block) (lesser_of one other)
first_of_both F G None None no_one no_other = λ rule block. neither F G rule block (no_one rule block) (no_other rule block)
first_of_both F G None (Some second) no_one of_other = (inr of_other.0, λ rule block. below_both F G second.rule rule block (λ breaks. absurd (no_one rule block breaks)) (of_other.1 rule block))
first_of_both F G (Some first) None of_one no_other = (inl of_one.0, λ rule block. below_both F G first.rule rule block (of_one.1 rule block) (λ breaks. absurd (no_other rule block breaks)))
first_of_both F G (Some first) (Some second) of_one of_other = chosen F G first second (nat_lt second.rule first.rule) refl of_one of_other

-- ---- where none is broken

some_chosen : (first second : Broken) (less : Bool) → (if less then Some second else Some first) ≡ None → ⊥
some_chosen first second true none = cc
some_chosen first second false none = cc

pub none_of_both : (one other : Option Broken) → lesser_of one other ≡ None → (one ≡ None) × (other ≡ None)
none_of_both None other none = (refl, none)
none_of_both (Some first) None none = absurd cc
none_of_both (Some first) (Some second) none = absurd (some_chosen first second (nat_lt second.rule first.rule) none)
