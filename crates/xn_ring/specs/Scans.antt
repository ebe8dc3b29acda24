-- What is found as the sectors of a ring are looked at, one after the other.
use Rattle.std.specs.Prelude.{◌≡◌, ◌↔◌, ℕ, ◌+◌, ◌-◌, ◌*◌, ◌<◌, ◌≤◌, List, [], ◌∷◌, length, take, sum_by, slice_index_or, All, Contains}
use Rattle.std.specs.List.Sorted.{IsStrictlyIncreasing}
use Rattle.xn_log.specs.Records.{greatest_cycle, outline_in}
use Rattle.xn_log.specs.Ring.{IsIntactAt, IsMarked, ring_sectors_of, turned}
use Rattle.xn_log.specs.declared.outline.Outline.{Outline}
use Rattle.xn_ring.specs.declared.found.Found.{Found}

-- the outline of a record that begins at the sector
abbrev pub outline_at : List ℕ → ℕ → Outline
outline_at ring sector = outline_in sector (turned ring sector)

-- the outline is that of an intact record, which begins at one of the first sectors
pub record IsOutlineOf (uuid ring : List ℕ) (done : ℕ) (o : Outline) : Type 0 where
  pub below : o.sector < done
  pub intact : IsIntactAt uuid ring o.sector
  pub is : o ≡ outline_at ring o.sector

-- the outlines of all intact records that begin at the first so many sectors of a ring
pub record AreOutlines (uuid ring : List ℕ) (done : ℕ) (outlines : List Outline) : Type 0 where
  pub each : (o : Outline) → Contains outlines o → IsOutlineOf uuid ring done o
  pub all : (sector : ℕ) → sector < done → IsIntactAt uuid ring sector → Contains outlines (outline_at ring sector)

-- The outline of a record that begins at one of the first so many sectors of a ring of so many, and is not longer than the ring.
pub record IsPlaced (ring_sectors done : ℕ) (o : Outline) : Type 0 where
  pub below : o.sector < done
  pub some : 0 < o.sectors
  pub in_ring : o.sectors ≤ ring_sectors
  pub cycle : o.cycle ≤ greatest_cycle

-- such outlines, in the order of the sectors
pub record HavePlaces (ring_sectors done : ℕ) (outlines : List Outline) : Type 0 where
  pub each : All (IsPlaced ring_sectors done) outlines
  pub rise : (i j : ℕ) (d : Outline) → i < j → j < length outlines → (slice_index_or outlines i d).sector < (slice_index_or outlines j d).sector

-- those of the first so many sectors that begin with the magic of records
pub record AreMarks (ring : List ℕ) (done : ℕ) (marks : List ℕ) : Type 0 where
  pub each : (sector : ℕ) → Contains marks sector ↔ ((sector < done) × IsMarked ring sector)
  pub rise : IsStrictlyIncreasing marks

-- how many sectors a record takes at most, its header's among them
abbrev pub greatest_sectors : ℕ
greatest_sectors = 65

-- The bytes are the ring's from a sector on, as many as a record takes at most or more.
pub record IsWindow (ring : List ℕ) (sector : ℕ) (bytes : List ℕ) : Type 0 where
  pub within : sector < ring_sectors_of ring
  pub room : 512 * greatest_sectors ≤ length bytes
  pub shown : bytes ≡ take (length bytes) (turned ring sector)

-- The bytes are the ring's from a sector on: so many sectors, and as many behind them as a record takes at most or more.
pub record IsPiece (ring : List ℕ) (start count : ℕ) (bytes : List ℕ) : Type 0 where
  pub within : start + count ≤ ring_sectors_of ring
  pub room : 512 * (count + 64) ≤ length bytes
  pub once : length bytes ≤ length ring
  pub shown : bytes ≡ take (length bytes) (turned ring start)

-- what is noted of the first so many sectors of a ring
pub record IsNoted (uuid ring : List ℕ) (done : ℕ) (found : Found) : Type 0 where
  pub marks : AreMarks ring done found.marks.items
  pub outlines : AreOutlines uuid ring done found.outlines.items

-- how many sectors of a ring the live records leave free; where there are none, those that the head leaves
abbrev pub left_free : ℕ → Outline → List Outline → ℕ
left_free ring_sectors head [] = ring_sectors - head.sectors
left_free ring_sectors head (first ∷ rest) = ring_sectors - sum_by (λ (o : Outline). o.sectors) (first ∷ rest)
