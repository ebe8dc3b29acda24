-- Spans of blocks: their order, which of them lie apart, and what they hold.
use Rattle.std.specs.Prelude.{◌≡◌, ℕ, ◌+◌, ◌<◌, ◌≤◌, ◌⊎◌}
use Rattle.xn_apart.specs.declared.span.Span.{Span}

-- it starts no later than another, and is no longer where both start at one block
pub record IsNoLater (a b : Span) : Type 0 where
  pub starts : a.block ≤ b.block
  pub ends : a.block ≡ b.block → a.count ≤ b.count

-- one of them ends before the other starts
abbrev pub AreApart : Span → Span → Type 0
AreApart a b = (a.block + a.count ≤ b.block) ⊎ (b.block + b.count ≤ a.block)

-- a block is one of a span
abbrev pub Holds : Span → ℕ → Type 0
Holds span block = (span.block ≤ block) × (block < span.block + span.count)
