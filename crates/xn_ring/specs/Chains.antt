-- The head of a ring and its live records, over the outlines of all its intact records.
use Rattle.std.specs.Prelude.{◌≡◌, ◌⊎◌, ℕ, ◌+◌, ◌%◌, ◌^◌, ◌<◌, ◌≤◌, IsTrue, List, [], ◌∷◌, length, slice_index_or, Contains}
use Rattle.xn_log.specs.Records.{lsn_of}
use Rattle.xn_log.specs.declared.outline.Outline.{Outline}

-- the sequence number of a record
abbrev pub lsn_told : Outline → ℕ
lsn_told o = lsn_of o.cycle o.sector

-- outlines rise by the sectors at which their records begin, which have numbers of 32 bits
pub record AreBySector (outlines : List Outline) : Type 0 where
  pub small : (i : ℕ) (d : Outline) → i < length outlines → (slice_index_or outlines i d).sector < 2 ^ 32
  pub rise : (i j : ℕ) (d : Outline) → i < j → j < length outlines → (slice_index_or outlines i d).sector < (slice_index_or outlines j d).sector

-- the second record begins in the sector after the first, and its sequence number is greater
pub record IsBehind (ring_sectors : ℕ) (first second : Outline) : Type 0 where
  pub beside : second.sector ≡ (first.sector + first.sectors) % ring_sectors
  pub greater : lsn_told first < lsn_told second

-- the same of two of these
pub record IsLinked (ring_sectors : ℕ) (outlines : List Outline) (first second : Outline) : Type 0 where
  pub has_first : Contains outlines first
  pub has_second : Contains outlines second
  pub behind : IsBehind ring_sectors first second

-- a chain of linked records, from one by those listed behind it to a last one
abbrev pub IsChain : ℕ → List Outline → Outline → List Outline → Outline → Type 0
IsChain ring_sectors outlines first [] last = Contains outlines first × (first ≡ last)
IsChain ring_sectors outlines first (next ∷ rest) last = IsLinked ring_sectors outlines first next × IsChain ring_sectors outlines next rest last

-- a chain leads from the record whose sequence number is the tail of the last one to that one
pub record IsChainFromTail (ring_sectors : ℕ) (outlines : List Outline) (first : Outline) (rest : List Outline) (last : Outline) : Type 0 where
  pub chain : IsChain ring_sectors outlines first rest last
  pub tail : lsn_told first ≡ last.tail

-- some chain leads from the tail of a record to it
abbrev pub IsReached : ℕ → List Outline → Outline → Type 0
IsReached ring_sectors outlines last = (first : Outline) × (rest : List Outline) × IsChainFromTail ring_sectors outlines first rest last

-- a record that may be the head
pub record MayBeHead (ring_sectors : ℕ) (outlines : List Outline) (o : Outline) : Type 0 where
  pub listed : Contains outlines o
  pub reached : IsTrue o.is_unmount ⊎ IsReached ring_sectors outlines o

-- the head is the one of them with the greatest sequence number
pub record IsHeadAmong (ring_sectors : ℕ) (outlines : List Outline) (head : Outline) : Type 0 where
  pub candidate : MayBeHead ring_sectors outlines head
  pub greatest : (other : Outline) → MayBeHead ring_sectors outlines other → lsn_told other ≤ lsn_told head

-- the live records: none where the head holds just the unmount operation, else those of the chain that leads to the head
abbrev pub AreLiveAmong : ℕ → List Outline → Outline → List Outline → Type 0
AreLiveAmong ring_sectors outlines head live =
    (IsTrue head.is_unmount × (live ≡ []))
    ⊎ ((IsTrue head.is_unmount → ⊥) × ((first : Outline) × (rest : List Outline) × (live ≡ first ∷ rest) × IsChainFromTail ring_sectors outlines first rest head))
