-- The head of a ring and its live records, as statements over the set of all intact records.
use Rattle.std.specs.Prelude.{◌≡◌, ◌⊎◌, ℕ, ◌+◌, ◌-◌, ◌<◌, ◌≤◌, ◌↔◌, Bool, IsTrue, nat_lt, if◌then◌else◌, List, [], ◌∷◌, Contains, map, sum_by}
use Rattle.std.specs.List.Sorted.{IsStrictlyIncreasing}
use Rattle.xn_log.specs.Records.{cycle_in, holds_unmount}
use Rattle.xn_log.specs.Ring.{IsIntactAt, IsMarked, lsn_at, record_at, ring_sectors_of, sector_after, sectors_at, tail_at, turned}
use Rattle.xn_log.specs.declared.record.Record.{Record}

-- The record at one sector is followed by that at another: both are intact, the second begins in the sector after the first, and
-- its sequence number is greater.
pub record IsFollowedBy (uuid ring : List ℕ) (sector next : ℕ) : Type 0 where
  pub first : IsIntactAt uuid ring sector
  pub second : IsIntactAt uuid ring next
  pub beside : next ≡ sector_after ring sector
  pub greater : lsn_at ring sector < lsn_at ring next

-- A run of intact records, each followed by the next one: from one sector by those listed behind it to a last one.
abbrev pub IsRun : List ℕ → List ℕ → ℕ → List ℕ → ℕ → Type 0
IsRun uuid ring first [] last = IsIntactAt uuid ring first × (first ≡ last)
IsRun uuid ring first (next ∷ rest) last = IsFollowedBy uuid ring first next × IsRun uuid ring next rest last

-- a run leads from the record whose sequence number is the tail of the last one to that one
pub record IsRunFromTail (uuid ring : List ℕ) (first : ℕ) (rest : List ℕ) (last : ℕ) : Type 0 where
  pub run : IsRun uuid ring first rest last
  pub tail : lsn_at ring first ≡ tail_at ring last

-- the record at the sector holds just the unmount operation
abbrev pub is_unmounted_at : List ℕ → ℕ → Bool
is_unmounted_at ring sector = holds_unmount (turned ring sector)

-- A record that may be the head: an intact one that holds just the unmount operation, or to which a run leads from its tail.
pub record IsCandidate (uuid ring : List ℕ) (sector : ℕ) : Type 0 where
  pub intact : IsIntactAt uuid ring sector
  pub reached : IsTrue (is_unmounted_at ring sector) ⊎ ((first : ℕ) × (rest : List ℕ) × IsRunFromTail uuid ring first rest sector)

-- the head is the candidate with the greatest sequence number
pub record IsHead (uuid ring : List ℕ) (sector : ℕ) : Type 0 where
  pub candidate : IsCandidate uuid ring sector
  pub greatest : (other : ℕ) → IsCandidate uuid ring other → lsn_at ring other ≤ lsn_at ring sector

-- The sectors at which the live records begin, in order: none where the head holds just the unmount operation, else those of the run
-- that leads to the head.
abbrev pub AreLive : List ℕ → List ℕ → ℕ → List ℕ → Type 0
AreLive uuid ring head live =
    (IsTrue (is_unmounted_at ring head) × (live ≡ []))
    ⊎ ((IsTrue (is_unmounted_at ring head) → ⊥) × ((first : ℕ) × (rest : List ℕ) × (live ≡ first ∷ rest) × IsRunFromTail uuid ring first rest head))

-- how many sectors the live records leave free; where there are none, those that the head leaves
abbrev pub free_sectors : List ℕ → ℕ → List ℕ → ℕ
free_sectors ring head [] = ring_sectors_of ring - sectors_at ring head
free_sectors ring head (first ∷ rest) = ring_sectors_of ring - sum_by (sectors_at ring) (first ∷ rest)

-- The cycle of the record that is written next, behind the head: one more where that begins at the ring's first sector or past it.
abbrev pub cycle_after : List ℕ → ℕ → ℕ
cycle_after ring head =
    if nat_lt (head + sectors_at ring head) (ring_sectors_of ring) then cycle_in (turned ring head) else cycle_in (turned ring head) + 1

-- What is found of a ring: the cycle of its head, where the next record begins and with which cycle, how many sectors are free, the
-- live records in order, and the sectors that begin with the magic of records.
pub record RingState : Type 0 where
  pub head_cycle : ℕ
  pub next_cycle : ℕ
  pub next_sector : ℕ
  pub free : ℕ
  pub live : List Record
  pub marks : List ℕ

-- this is found of a ring whose head and live records begin at these sectors
pub record IsFound (uuid ring : List ℕ) (head : ℕ) (live : List ℕ) (state : RingState) : Type 0 where
  pub is_head : IsHead uuid ring head
  pub are_live : AreLive uuid ring head live
  pub head_cycle_is : state.head_cycle ≡ cycle_in (turned ring head)
  pub next_cycle_is : state.next_cycle ≡ cycle_after ring head
  pub next_sector_is : state.next_sector ≡ sector_after ring head
  pub free_is : state.free ≡ free_sectors ring head live
  pub live_are : state.live ≡ map (record_at ring) live
  pub marks_are : (sector : ℕ) → Contains state.marks sector ↔ IsMarked ring sector
  pub marks_rise : IsStrictlyIncreasing state.marks

-- what is found of a ring that has a head
abbrev pub RingHolds : List ℕ → List ℕ → RingState → Type 0
RingHolds uuid ring state = (head : ℕ) × (live : List ℕ) × IsFound uuid ring head live state

-- the ring has no head
abbrev pub HasNoHead : List ℕ → List ℕ → Type 0
HasNoHead uuid ring = (sector : ℕ) → ¬ IsHead uuid ring sector
