-- Where a search among the starts of runs by their blocks or by their positions ends, and what the run there has.
use Rattle.std.proofs.Common.{◌≡◌, ℕ, zero, suc, ◌+◌, ◌-◌, ◌^◌, ◌<◌, ◌≤◌, true, false, List, [], ◌∷◌, length, get_or, drop, Some, sym, ap, subst, ◌∙◌, arith, leb, leb-true, leb-false}
use Rattle.std.specs.Prelude.{Contains, slice_get}
use Rattle.std.specs.List.Sorted.{IsNonDecreasingBy, IsPartitionPoint}
use Rattle.xn_pool.specs.declared.runs.Start.{Start}
use Rattle.xn_pool.specs.Starts.{position_of_first, blocks_from, AreStarts, IsSplit}
use Rattle.xn_pool.proofs.RunSearches.{starts_above, run_blocks, before_all, between_runs, position_above, some_before}

positions_above : (starts : List Start) (least position count k : ℕ) (d : Start) → AreStarts least position starts count → k < length starts → position ≤ (get_or starts k d).position
positions_above [] least position count k d are low = absurd (omega arith)
positions_above (start ∷ starts) least position count zero d are low = let at : start.position ≡ position = are.1 in omega arith
positions_above (start ∷ starts) least position count (suc k) d are low =
    let some : position < position_of_first starts count = are.2 in
    let rest : position_of_first starts count ≤ (get_or starts k d).position = positions_above starts _ _ count k d are.4 (omega arith) in
    omega arith

pub blocks_sorted : (starts : List Start) (least position count : ℕ) → AreStarts least position starts count → IsNonDecreasingBy (λ (s : Start). s.block) starts
blocks_sorted [] least position count are i j d h below = absurd (omega arith)
blocks_sorted (start ∷ starts) least position count are zero zero d h below = omega arith
blocks_sorted (start ∷ starts) least position count are zero (suc j) d h below =
    let rest : start.block + (position_of_first starts count - position) ≤ (get_or starts j d).block = starts_above starts _ _ count j d are.4 (omega arith) in
    omega arith
blocks_sorted (start ∷ starts) least position count are (suc i) zero d h below = absurd (omega arith)
blocks_sorted (start ∷ starts) least position count are (suc i) (suc j) d h below = blocks_sorted starts _ _ count are.4 i j d (omega arith) (omega arith)

pub positions_sorted : (starts : List Start) (least position count : ℕ) → AreStarts least position starts count → IsNonDecreasingBy (λ (s : Start). s.position) starts
positions_sorted [] least position count are i j d h below = absurd (omega arith)
positions_sorted (start ∷ starts) least position count are zero zero d h below = omega arith
positions_sorted (start ∷ starts) least position count are zero (suc j) d h below =
    let at : start.position ≡ position = are.1 in
    let some : position < position_of_first starts count = are.2 in
    let rest : position_of_first starts count ≤ (get_or starts j d).position = positions_above starts _ _ count j d are.4 (omega arith) in
    omega arith
positions_sorted (start ∷ starts) least position count are (suc i) zero d h below = absurd (omega arith)
positions_sorted (start ∷ starts) least position count are (suc i) (suc j) d h below = positions_sorted starts _ _ count are.4 i j d (omega arith) (omega arith)

-- a run ends in front of the next one, and at 2^56 at most
run_ends : (starts : List Start) (least position count k : ℕ) (start : Start) → AreStarts least position starts count → k < length starts → start ≡ get_or starts k start
    → (start.position < position_of_first (drop (suc k) starts) count) × (start.block + (position_of_first (drop (suc k) starts) count - start.position) ≤ 2 ^ 56)
run_ends [] least position count k start are low is = absurd (omega arith)
run_ends (first ∷ starts) least position count zero start are low is =
    let at : start.position ≡ position = ap (λ (s : Start). s.position) is ∙ are.1 in
    let block_is : start.block ≡ first.block = ap (λ (s : Start). s.block) is in
    let some : position < position_of_first starts count = are.2 in
    let room : first.block + (position_of_first starts count - position) ≤ 2 ^ 56 = are.3 in
    (omega arith, omega arith)
run_ends (first ∷ starts) least position count (suc k) start are low is = run_ends starts _ _ count k start are.4 (omega arith) is

-- ---- where a search ends

pub split_from_point : (key : Start → ℕ) (starts : List Start) (bound at : ℕ) → at ≤ length starts → IsPartitionPoint (λ (s : Start). leb (key s) bound ≡ true) (λ (s : Start). leb (key s) bound ≡ false) starts at → IsSplit key starts bound at
split_from_point key starts bound at within point = record {
  within = within;
  low = λ k d h. leb-true _ _ (point.0 k d (omega arith) h);
  high = λ k d h below. leb-false _ _ (point.1 k d h below);
}

-- the run in front of that index starts at or before the position, which it has
pub record IsBlockAt (starts : List Start) (count position : ℕ) (start : Start) : Type 0 where
  pub from : start.position ≤ position
  pub small : start.block + (position - start.position) < 2 ^ 64
  pub there : slice_get (blocks_from starts count) position ≡ Some (start.block + (position - start.position))

pub some_run : (starts : List Start) (count next position : ℕ) → AreStarts 0 0 starts count → position < count
    → IsSplit (λ (s : Start). s.position) starts position next → 0 < next
some_run starts count next position are low point = some_before starts count next position are low (λ j d h below. point.high j d h below)

pub block_found : (starts : List Start) (count next position : ℕ) (start : Start) → AreStarts 0 0 starts count → position < count
    → IsSplit (λ (s : Start). s.position) starts position next → start ≡ get_or starts (next - 1) start
    → IsBlockAt starts count position start
block_found starts count zero position start are low point is = let some : 0 < 0 = some_run starts count 0 position are low point in absurd (omega arith)
block_found starts count (suc k) position start are low point is =
    let back : suc k - 1 ≡ k = omega arith in
    let at : start ≡ get_or starts k start = subst (λ i. start ≡ get_or starts i start) back is in
    let from_get : (get_or starts k start).position ≤ position = point.low k start (omega arith) in
    let from : start.position ≤ position = subst (λ (s : Start). s.position ≤ position) (sym at) from_get in
    let before_next : position < position_of_first (drop (suc k) starts) count = position_above starts count (suc k) position low (λ j d h below. point.high j d h below) in
    let ends = run_ends starts 0 0 count k start are (omega arith) at in
    let room : start.block + (position_of_first (drop (suc k) starts) count - start.position) ≤ 2 ^ 56 = ends.1 in
    let has = run_blocks starts 0 0 count k (position - start.position) start are (omega arith) at (omega arith) in
    let place : start.position + (position - start.position) - 0 ≡ position = omega arith in
    record { from = from; small = omega arith; there = ap (slice_get (blocks_from starts count)) (sym place) ∙ has.1 }

-- the run in front of that index starts at or before the block, which it may have
pub record IsRunBefore (starts : List Start) (count next block : ℕ) (start : Start) : Type 0 where
  pub from : start.block ≤ block
  pub ends : start.position < position_of_first (drop next starts) count
  pub small : start.block + (position_of_first (drop next starts) count - start.position) ≤ 2 ^ 56
  pub has : block - start.block < position_of_first (drop next starts) count - start.position → slice_get (blocks_from starts count) (start.position + (block - start.block)) ≡ Some block
  pub lacks : position_of_first (drop next starts) count - start.position ≤ block - start.block → Contains (blocks_from starts count) block → ⊥

pub no_run : (starts : List Start) (count block : ℕ) → AreStarts 0 0 starts count
    → IsSplit (λ (s : Start). s.block) starts block 0 → Contains (blocks_from starts count) block → ⊥
no_run starts count block are point = before_all starts count block are (λ k d below. point.high k d (omega arith) below)

pub run_found : (starts : List Start) (count k block : ℕ) (start : Start) → AreStarts 0 0 starts count
    → IsSplit (λ (s : Start). s.block) starts block (suc k) → start ≡ get_or starts k start
    → IsRunBefore starts count (suc k) block start
run_found starts count k block start are point at =
    let from_get : (get_or starts k start).block ≤ block = point.low k start (omega arith) in
    let from : start.block ≤ block = subst (λ (s : Start). s.block ≤ block) (sym at) from_get in
    let ends = run_ends starts 0 0 count k start are (omega arith) at in
    record {
      from = from;
      ends = ends.0;
      small = ends.1;
      has = λ within.
          let there = run_blocks starts 0 0 count k (block - start.block) start are (omega arith) at within in
          let place : start.position + (block - start.block) - 0 ≡ start.position + (block - start.block) = omega arith in
          let block_is : start.block + (block - start.block) ≡ block = omega arith in
          ap (slice_get (blocks_from starts count)) (sym place) ∙ there.1 ∙ ap Some block_is;
      lacks = λ past.
          between_runs starts 0 0 count k block start are (omega arith) at (omega (arith, ends.0)) (λ j d h below. point.high j d h below);
    }

-- the same where the index of the run was counted back from the next one
pub run_before : (starts items : List Start) (count next k block position : ℕ) (start : Start) → items ≡ starts → AreStarts 0 0 starts count → IsSplit (λ (s : Start). s.block) items block next
    → (1 ≤ next) × (k ≡ next - 1) → start ≡ get_or starts k start → position ≡ position_of_first (drop next items) count
    → IsRunBefore starts count next block start × (position ≡ position_of_first (drop next starts) count)
run_before starts items count next k block position start same are split back at ends =
    let next_is : suc k ≡ next = omega (arith, back.0, back.1) in
    let split_there : IsSplit (λ (s : Start). s.block) starts block next = subst (λ (ss : List Start). IsSplit (λ (s : Start). s.block) ss block next) same split in
    let split_here : IsSplit (λ (s : Start). s.block) starts block (suc k) = subst (IsSplit (λ (s : Start). s.block) starts block) (sym next_is) split_there in (
      subst (λ n. IsRunBefore starts count n block start) next_is (run_found starts count k block start are split_here at),
      ends ∙ ap (λ (ss : List Start). position_of_first (drop next ss) count) same,
    )
