-- Runs by their starts: which blocks each has, and where a search for a block or a position ends.
use Rattle.std.proofs.Common.{◌≡◌, inl, inr, ℕ, zero, suc, ◌+◌, ◌-◌, ◌<◌, ◌≤◌, List, [], ◌∷◌, ◌++◌, length, get_or, drop, Some, sym, ap, subst, ◌∙◌, arith, length-append}
use Rattle.std.specs.Prelude.{Contains, slice_get}
use Rattle.std.specs.List.{range_with_len}
use Rattle.std.proofs.lemmas.List.Elements.{Contains-append_cases}
use Rattle.std.proofs.lemmas.List.FromFn.{length-range_with_len, get_or-range_with_len}
use Rattle.xn_pool.specs.declared.runs.Start.{Start}
use Rattle.xn_pool.specs.Blocks.{AreRising}
use Rattle.xn_pool.specs.Starts.{position_of_first, blocks_from, AreStarts}

-- ---- one run and what stands behind it

at_range : (block n i : ℕ) (blocks : List ℕ) → i < n → slice_get (range_with_len block n ++ blocks) i ≡ Some (block + i)
at_range block zero i blocks low = absurd (omega arith)
at_range block (suc n) zero blocks low = ap Some (omega arith)
at_range block (suc n) (suc i) blocks low =
    let rest : slice_get (range_with_len (block + 1) n ++ blocks) i ≡ Some (block + 1 + i) = at_range (block + 1) n i blocks (omega arith) in
    let same : block + 1 + i ≡ block + suc i = omega arith in
    rest ∙ ap Some same

behind_range : (block n i j : ℕ) (blocks : List ℕ) → n + j ≡ i → slice_get (range_with_len block n ++ blocks) i ≡ slice_get blocks j
behind_range block zero i j blocks e = ap (slice_get blocks) (omega arith)
behind_range block (suc n) zero j blocks e = absurd (omega arith)
behind_range block (suc n) (suc i) j blocks e = behind_range (block + 1) n i j blocks (omega arith)

pub in_range : (start n block : ℕ) → Contains (range_with_len start n) block → (start ≤ block) × (block < start + n)
in_range start n block (k, low, there) =
    let long : length (range_with_len start n) ≡ n = length-range_with_len start n in
    let is : get_or (range_with_len start n) k block ≡ start + k = get_or-range_with_len start n k block (omega arith) in
    (omega arith, omega arith)

rising_range : (start n : ℕ) (blocks : List ℕ) → AreRising (start + n) blocks → AreRising start (range_with_len start n ++ blocks)
rising_range start zero blocks rise = subst (λ least. AreRising least blocks) (omega arith) rise
rising_range start (suc n) blocks rise = (omega arith, rising_range (start + 1) n blocks (subst (λ least. AreRising least blocks) (omega arith) rise))

rising_from_less : (least start : ℕ) (blocks : List ℕ) → least ≤ start → AreRising start blocks → AreRising least blocks
rising_from_less least start [] le rise = tt
rising_from_less least start (block ∷ blocks) le rise = let high : start ≤ block = rise.0 in (omega arith, rise.1)

pub above_least : (least : ℕ) (blocks : List ℕ) → AreRising least blocks → (k : ℕ) (d : ℕ) → k < length blocks → least ≤ get_or blocks k d
above_least least [] rise k d low = absurd (omega arith)
above_least least (block ∷ blocks) rise zero d low = rise.0
above_least least (block ∷ blocks) rise (suc k) d low =
    let high : least ≤ block = rise.0 in
    let rest : block + 1 ≤ get_or blocks k d = above_least (block + 1) blocks rise.1 k d (omega arith) in
    omega arith

-- ---- all runs

pub starts_rise : (starts : List Start) (least position count : ℕ) → AreStarts least position starts count → AreRising least (blocks_from starts count)
starts_rise [] least position count are = tt
starts_rise (start ∷ starts) least position count are =
    let at : start.position ≡ position = are.1 in
    let n : ℕ = position_of_first starts count - start.position in
    let same : start.block + (position_of_first starts count - position) ≡ start.block + n = omega arith in
    let rest : AreRising (start.block + n) (blocks_from starts count) = subst (λ least. AreRising least (blocks_from starts count)) same (starts_rise starts _ _ count are.4) in
    rising_from_less least start.block _ are.0 (rising_range start.block n (blocks_from starts count) rest)

pub length-blocks_from : (starts : List Start) (least position count : ℕ) → AreStarts least position starts count → position + length (blocks_from starts count) ≡ count
length-blocks_from [] least position count are = let e : position ≡ count = are in omega arith
length-blocks_from (start ∷ starts) least position count are =
    let at : start.position ≡ position = are.1 in
    let some : position < position_of_first starts count = are.2 in
    let n : ℕ = position_of_first starts count - start.position in
    let rest : position_of_first starts count + length (blocks_from starts count) ≡ count = length-blocks_from starts _ _ count are.4 in
    let here : length (range_with_len start.block n) ≡ n = length-range_with_len start.block n in
    omega (arith, length-append (range_with_len start.block n) (blocks_from starts count))

-- what a run has, by the positions that go on from its start to the next one
pub run_blocks : (starts : List Start) (least position count k i : ℕ) (start : Start) → AreStarts least position starts count → k < length starts → start ≡ get_or starts k start
    → i < position_of_first (drop (suc k) starts) count - start.position
    → (position ≤ start.position) × (slice_get (blocks_from starts count) (start.position + i - position) ≡ Some (start.block + i))
run_blocks [] least position count k i start are low is within = absurd (omega arith)
run_blocks (first ∷ starts) least position count zero i start are low is within =
    let at : first.position ≡ position = are.1 in
    let here : start.position ≡ position = ap (λ (s : Start). s.position) is ∙ at in
    let offset : start.position + i - position ≡ i = omega arith in
    let front : slice_get (range_with_len first.block (position_of_first starts count - first.position) ++ blocks_from starts count) i ≡ Some (first.block + i) =
    at_range first.block (position_of_first starts count - first.position) i (blocks_from starts count) (omega arith) in
    let block_is : first.block + i ≡ start.block + i = ap (λ (s : Start). s.block + i) (sym is) in
    (omega arith, ap (slice_get (blocks_from (first ∷ starts) count)) offset ∙ front ∙ ap Some block_is)
run_blocks (first ∷ starts) least position count (suc k) i start are low is within =
    let at : first.position ≡ position = are.1 in
    let some : position < position_of_first starts count = are.2 in
    let rest = run_blocks starts _ _ count k i start are.4 (omega arith) is within in
    let high : position_of_first starts count ≤ start.position = rest.0 in
    let behind : slice_get (range_with_len first.block (position_of_first starts count - first.position) ++ blocks_from starts count) (start.position + i - position) ≡ slice_get (blocks_from starts count) (start.position + i - position_of_first starts count) =
    behind_range first.block (position_of_first starts count - first.position) (start.position + i - position) (start.position + i - position_of_first starts count) (blocks_from starts count) (omega arith) in
    (omega arith, behind ∙ rest.1)

-- ---- a block that is none of theirs

none_from : (starts : List Start) (least position count block : ℕ) → AreStarts least position starts count → ((k : ℕ) (d : Start) → k < length starts → block < (get_or starts k d).block) → Contains (blocks_from starts count) block → ⊥
none_from [] least position count block are above (k, low, there) = absurd (omega arith)
none_from (start ∷ starts) least position count block are above (k, low, there) =
    let high : block < start.block = above 0 start (omega arith) in
    let from_start : AreStarts start.block position (start ∷ starts) count = (omega arith, are.1, are.2, are.3, are.4) in
    let bound : start.block ≤ get_or (blocks_from (start ∷ starts) count) k block = above_least start.block _ (starts_rise (start ∷ starts) start.block position count from_start) k block low in
    omega arith

pub starts_above : (starts : List Start) (least position count k : ℕ) (d : Start) → AreStarts least position starts count → k < length starts → least ≤ (get_or starts k d).block
starts_above [] least position count k d are low = absurd (omega arith)
starts_above (start ∷ starts) least position count zero d are low = are.0
starts_above (start ∷ starts) least position count (suc k) d are low =
    let high : least ≤ start.block = are.0 in
    let rest : start.block + (position_of_first starts count - position) ≤ (get_or starts k d).block = starts_above starts _ _ count k d are.4 (omega arith) in
    omega arith

pub before_all : (starts : List Start) (count block : ℕ) → AreStarts 0 0 starts count → ((k : ℕ) (d : Start) → k < length starts → block < (get_or starts k d).block) → Contains (blocks_from starts count) block → ⊥
before_all starts count block are above = none_from starts 0 0 count block are above

pub between_runs : (starts : List Start) (least position count k block : ℕ) (start : Start) → AreStarts least position starts count → k < length starts → start ≡ get_or starts k start
    → start.block + (position_of_first (drop (suc k) starts) count - start.position) ≤ block
    → ((j : ℕ) (d : Start) → suc k ≤ j → j < length starts → block < (get_or starts j d).block)
    → Contains (blocks_from starts count) block → ⊥
between_runs [] least position count k block start are low is high above there = absurd (omega arith)
between_runs (first ∷ starts) least position count zero block start are low is high above there =
    let at : first.position ≡ start.position = ap (λ (s : Start). s.position) (sym is) in
    let block_is : first.block ≡ start.block = ap (λ (s : Start). s.block) (sym is) in
    elim (Contains-append_cases (range_with_len first.block (position_of_first starts count - first.position)) (blocks_from starts count) block there) [
      | inl here ↦
          let within = in_range first.block (position_of_first starts count - first.position) block here in
          let below : block < first.block + (position_of_first starts count - first.position) = within.1 in
          omega arith
      | inr later ↦ none_from starts _ _ count block are.4 (λ j d h. above (suc j) d (omega arith) (omega arith)) later
    ]
between_runs (first ∷ starts) least position count (suc k) block start are low is high above there =
    let at : first.position ≡ position = are.1 in
    let later_start : first.block + (position_of_first starts count - position) ≤ (get_or starts k start).block = starts_above starts _ _ count k start are.4 (omega arith) in
    let block_is : start.block ≡ (get_or starts k start).block = ap (λ (s : Start). s.block) is in
    elim (Contains-append_cases (range_with_len first.block (position_of_first starts count - first.position)) (blocks_from starts count) block there) [
      | inl here ↦
          let within = in_range first.block (position_of_first starts count - first.position) block here in
          let below : block < first.block + (position_of_first starts count - first.position) = within.1 in
          omega arith
      | inr later ↦ between_runs starts _ _ count k block start are.4 (omega arith) is high (λ j d h1 h2. above (suc j) d (omega arith) (omega arith)) later
    ]

-- ---- a search by position

pub position_above : (starts : List Start) (count k position : ℕ) → position < count → ((j : ℕ) (d : Start) → k ≤ j → j < length starts → position < (get_or starts j d).position) → position < position_of_first (drop k starts) count
position_above [] count zero position low above = low
position_above [] count (suc k) position low above = low
position_above (start ∷ starts) count zero position low above = above 0 start (omega arith) (omega arith)
position_above (start ∷ starts) count (suc k) position low above = position_above starts count k position low (λ j d h1 h2. above (suc j) d (omega arith) (omega arith))

-- some run starts at or before each position
pub some_before : (starts : List Start) (count k position : ℕ) → AreStarts 0 0 starts count → position < count → ((j : ℕ) (d : Start) → k ≤ j → j < length starts → position < (get_or starts j d).position) → 0 < k
some_before [] count k position are low above = let e : 0 ≡ count = are in absurd (omega arith)
some_before (start ∷ starts) count zero position are low above =
    let at : start.position ≡ 0 = are.1 in
    let high : position < start.position = above 0 start (omega arith) (omega arith) in
    absurd (omega arith)
some_before (start ∷ starts) count (suc k) position are low above = omega arith
