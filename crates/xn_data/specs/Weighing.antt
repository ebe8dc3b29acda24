-- Pairs beside the free regions that were passed.
use Rattle.std.specs.Prelude.{ℕ, ◌+◌, ◌==◌, ◌&&◌, ◌||◌, nat_lt, not, if◌then◌else◌, List, [], ◌∷◌, Option, Some, None, max}
use Rattle.xn_bytes.specs.DataBlock.{Gap, pair_at, gaps_without, first_fault}
use Rattle.xn_data.specs.declared.pairs.Pair.{Pair}
use Rattle.xn_data.specs.declared.pairs.BestPairs.{BestPairs}

-- a pair before any region
abbrev pub pair_of : Gap → Pair
pair_of pair = record { place = pair.place; size = pair.size; greatest = 0; is_named = pair.place == 0 }

-- the pairs of a header before any region
abbrev pub pairs_of : List ℕ → BestPairs
pairs_of bytes = record { first = pair_of (pair_at 48 bytes); second = pair_of (pair_at 52 bytes); third = pair_of (pair_at 56 bytes) }

-- a pair after one more region
abbrev pub weighed : Pair → Gap → Pair
weighed pair gap = record {
  place = pair.place;
  size = pair.size;
  greatest = max pair.greatest gap.size;
  is_named =
      if nat_lt pair.greatest gap.size then gap.place == pair.place
      else pair.is_named || ((gap.place == pair.place) && (gap.size == pair.greatest));
}

-- a pair after more regions
abbrev pub all_weighed : Pair → List Gap → Pair
all_weighed pair [] = pair
all_weighed pair (gap ∷ gaps) = all_weighed (weighed pair gap) gaps

-- The pairs after more regions. The second counts no region that the first names, and the third none that either names.
abbrev pub pairs_weighed : BestPairs → List Gap → BestPairs
pairs_weighed pairs gaps = record {
  first = all_weighed pairs.first gaps;
  second = all_weighed pairs.second (gaps_without pairs.first.place gaps);
  third = all_weighed pairs.third (gaps_without pairs.second.place (gaps_without pairs.first.place gaps));
}

-- why a pair at a place is wrong after all regions
abbrev pub pair_verdict : ℕ → Pair → Option ℕ
pair_verdict at pair = if not pair.is_named then Some at else if not (pair.size == pair.greatest) then Some (at + 2) else None

-- the first fault of the pairs after all regions
abbrev pub verdict : BestPairs → Option ℕ
verdict pairs = first_fault (pair_verdict 48 pairs.first) (first_fault (pair_verdict 52 pairs.second) (pair_verdict 56 pairs.third))
