-- Spans that lie apart, and the blocks that both of two spans hold.
use Rattle.std.proofs.Common.{ℕ, ◌+◌, ◌<◌, ◌≤◌, ⊎_elim, inl, inr, arith}
use Rattle.std.proofs.lemmas.Bool.{cases_lt}
use Rattle.xn_apart.specs.Spans.{AreApart, Holds}
use Rattle.xn_apart.specs.declared.span.Span.{Span}

-- no block is in both
pub none_shared : (a b : Span) (block : ℕ) → AreApart a b → Holds a block → ¬ Holds b block
none_shared a b block apart first second =
    ⊎_elim
    (λ (before : a.block + a.count ≤ b.block). omega arith)
    (λ (behind : b.block + b.count ≤ a.block). omega arith)
    apart

-- the first block of the one that starts later is in both, unless they lie apart
pub apart_if_none_shared : (a b : Span) → 0 < a.count → 0 < b.count → ((block : ℕ) → Holds a block → ¬ Holds b block) → AreApart a b
apart_if_none_shared a b some many none =
    ⊎_elim
    (λ (later : b.block < a.block).
    ⊎_elim
    (λ (meets : a.block < b.block + b.count). absurd (none a.block (omega arith, omega arith) (omega arith, meets)))
    (λ (behind : b.block + b.count ≤ a.block). inr behind)
    (cases_lt a.block (b.block + b.count)))
    (λ (sooner : a.block ≤ b.block).
    ⊎_elim
    (λ (meets : b.block < a.block + a.count). absurd (none b.block (sooner, meets) (omega arith, omega arith)))
    (λ (before : a.block + a.count ≤ b.block). inl before)
    (cases_lt b.block (a.block + a.count)))
    (cases_lt b.block a.block)
