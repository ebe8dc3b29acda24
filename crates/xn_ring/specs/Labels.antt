-- What the search for the head uses: where outlines stand in a list, the order in which they are tried, and labels of chains.
use Rattle.std.specs.Prelude.{◌≡◌, ◌≢◌, ℕ, ◌<◌, ◌≤◌, List, ◌∷◌, length, slice_index, slice_index_or, IsPermutation}
use Rattle.xn_log.specs.declared.outline.Outline.{Outline}
use Rattle.xn_ring.specs.Chains.{IsBehind, IsChain, lsn_told}

-- the outline stands at that place
pub record StandsAt (outlines : List Outline) (at : ℕ) (o : Outline) : Type 0 where
  pub within : at < length outlines
  pub same : (d : Outline) → slice_index_or outlines at d ≡ o

-- the outlines in falling order of their sequence numbers
pub record AreNewestFirst (outlines newest : List Outline) : Type 0 where
  pub same : IsPermutation outlines newest
  pub fall : (i j : ℕ) (d : Outline) → i ≤ j → j < length newest → lsn_told (slice_index_or newest j d) ≤ lsn_told (slice_index_or newest i d)

-- a label for each outline, so that linked ones have the same
pub record AreLabels (ring_sectors : ℕ) (outlines : List Outline) (labels : List ℕ) : Type 0 where
  pub as_many : length labels ≡ length outlines
  pub linked : (i j : ℕ) (first second : Outline) → StandsAt outlines i first → StandsAt outlines j second → IsBehind ring_sectors first second → slice_index labels i ≡ slice_index labels j

-- An outline has got its label: that of the one behind it, where there is one. The other labels stay.
pub record IsLabelled (ring_sectors : ℕ) (outlines : List Outline) (o : Outline) (old new : List ℕ) : Type 0 where
  pub as_many : length new ≡ length old
  pub kept : (i : ℕ) (other : Outline) → StandsAt outlines i other → other.sector ≢ o.sector → slice_index new i ≡ slice_index old i
  pub linked : (i j : ℕ) (second : Outline) → StandsAt outlines i o → StandsAt outlines j second → IsBehind ring_sectors o second → slice_index new i ≡ slice_index old j

-- A walk from the first record is here: a chain leads here over those walked, and each chain to the last one that begins with the
-- first leads on from here.
pub record IsUnderWay (ring_sectors : ℕ) (outlines : List Outline) (first last : Outline) (walked : List Outline) (here : Outline) : Type 0 where
  pub rest : List Outline
  pub begins : walked ≡ first ∷ rest
  pub chain : IsChain ring_sectors outlines first rest here
  pub onward : (all : List Outline) → IsChain ring_sectors outlines first all last → (left : List Outline) × IsChain ring_sectors outlines here left last
