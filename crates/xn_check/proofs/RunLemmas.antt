-- From spans in order, and the blocks in which inodes stand, to the runs that spans are of.
use Rattle.std.proofs.Common.{◌≡◌, ℕ, ◌/◌, ◌<◌, ◌≤◌, List, [], ◌∷◌, length, get_or, map, sym, subst, arith}
use Rattle.std.specs.Prelude.{All, AllPairs}
use Rattle.std.specs.List.{AllAdjacentBelow}
use Rattle.std.specs.List.Sorted.{IsNonDecreasing, IsPermutation}
use Rattle.std.proofs.lemmas.List.{get_or-map, length-map}
use Rattle.std.proofs.lemmas.List.Elements.{All-map, All-contains, Contains-get_or}
use Rattle.std.proofs.lemmas.List.Sorted.{IsPermutation-sym, All-permutation, IsNonDecreasingBy-from_all_adjacent}
use Rattle.xn_rules.specs.Sound.{MapOnce, Maps, AreApart}
use Rattle.xn_facts.specs.Facts.{mapped_of}
use Rattle.xn_facts.specs.declared.facts.Run.{Run}
use Rattle.xn_apart.specs.Spans.{Holds, AreApart as LieApart}
use Rattle.xn_apart.specs.declared.span.Span.{Span}
use Rattle.xn_apart.proofs.Permuted.{all_apart-permutation}
use Rattle.xn_check.specs.Spanned.{span_of}

-- ---- what holds of a list that is mapped

all_unmap : {X Y : Type 0} (f : X → Y) (P : Y → Type 0) (xs : List X) → All P (map f xs) → All (λ x. P (f x)) xs
all_unmap f P xs all = λ k d below.
    subst P (get_or-map f xs k d (f d) below) (all k (f d) (omega (arith, length-map xs f, below)))

pairs_unmap : {X Y : Type 0} (f : X → Y) (R : Y → Y → Type 0) (xs : List X) → AllPairs R (map f xs) → AllPairs (λ a b. R (f a) (f b)) xs
pairs_unmap {X} {Y} f R xs pairs = λ i j d less below.
    let Front : Y → Type 0 = λ y. R y (get_or (map f xs) j (f d)) in
    let Back : Y → Type 0 = λ y. R (f (get_or xs i d)) y in
    let inside : i < length xs = omega (arith, less, below) in
    subst Back (get_or-map f xs j d (f d) below) (
    subst Front (get_or-map f xs i d (f d) inside) (pairs i j (f d) less (omega (arith, length-map xs f, below))))

pairs_mapped : {X Y : Type 0} (f : X → Y) (R : Y → Y → Type 0) (xs : List X) → X → AllPairs (λ a b. R (f a) (f b)) xs → AllPairs R (map f xs)
pairs_mapped {X} {Y} f R xs x pairs = λ i j d less below.
    let within : j < length xs = omega (arith, length-map xs f, below) in
    let inside : i < length xs = omega (arith, less, within) in
    let Front : Y → Type 0 = λ y. R y (get_or (map f xs) j d) in
    let Back : Y → Type 0 = λ y. R (f (get_or xs i x)) y in
    subst Front (sym (get_or-map f xs i x d inside)) (
    subst Back (sym (get_or-map f xs j x d within)) (pairs i j x less within))

pairs_map : {X Y : Type 0} (f : X → Y) (R : Y → Y → Type 0) (xs : List X) → AllPairs (λ a b. R (f a) (f b)) xs → AllPairs R (map f xs)
pairs_map f R [] pairs = λ i j d less below. absurd (omega (arith, below))
pairs_map f R (x ∷ xs) pairs = pairs_mapped f R (x ∷ xs) x pairs

-- ---- the blocks of inodes that rise

pub rising_blocks : (inodes blocks : List ℕ) → AllAdjacentBelow (λ a b. a < b) inodes (length inodes) → blocks ≡ map (λ ino. ino / 8) inodes → IsNonDecreasing blocks
rising_blocks inodes blocks rising same =
    let least : (a b : ℕ) → a < b → a / 8 ≤ b / 8 = λ a b less. omega arith in
    let risen = IsNonDecreasingBy-from_all_adjacent (λ ino. ino / 8) inodes (λ k d below. least _ _ (rising k d below)) in
    subst IsNonDecreasing (sym same) (λ i j d le below.
    let within : j < length inodes = omega (arith, length-map inodes (λ (ino : ℕ). ino / 8), below) in
    let inside : i < length inodes = omega (arith, le, within) in
    rw (get_or-map (λ (ino : ℕ). ino / 8) inodes i d d inside, get_or-map (λ (ino : ℕ). ino / 8) inodes j d d within) (risen i j d le within))

-- ---- spans that stand for runs

module _ (live : List ℕ) (runs : List Run) (spans : List Span) (blocks : List ℕ) (same : IsPermutation (map span_of runs) spans) (stand : blocks ≡ map (λ ino. ino / 8) live) where
  back : IsPermutation spans (map span_of runs)
  back = IsPermutation-sym (map span_of runs) spans same

  once_from : AllPairs LieApart spans → AllPairs AreApart (map mapped_of runs)
  once_from apart = pairs_map mapped_of AreApart runs (pairs_unmap span_of LieApart runs (all_apart-permutation spans (map span_of runs) back apart))

  clear_of : (block : ℕ) → All (λ span. ¬ Holds span block) spans → All (λ run. ¬ Maps block run) (map mapped_of runs)
  clear_of block clear =
      let free = all_unmap span_of (λ span. ¬ Holds span block) runs (All-permutation (λ span. ¬ Holds span block) spans (map span_of runs) back clear) in
      All-map (λ run. ¬ Maps block run) mapped_of runs (λ k d below maps. free k d below (maps.from, maps.below))

  clear_back : (block : ℕ) → All (λ run. ¬ Maps block run) (map mapped_of runs) → All (λ span. ¬ Holds span block) spans
  clear_back block clear =
      let free = all_unmap mapped_of (λ run. ¬ Maps block run) runs clear in
      All-permutation (λ span. ¬ Holds span block) (map span_of runs) spans same
      (All-map (λ span. ¬ Holds span block) span_of runs (λ k d below holds. free k d below (record { from = holds.0; below = holds.1 })))

  -- what the spans say of the runs
  pub map_once : AllPairs LieApart spans → All (λ block. All (λ span. ¬ Holds span block) spans) blocks → MapOnce live (map mapped_of runs)
  map_once apart clear =
      let each = all_unmap (λ (ino : ℕ). ino / 8) (λ block. All (λ span. ¬ Holds span block) spans) live (subst (λ (list : List ℕ). All (λ block. All (λ span. ¬ Holds span block) spans) list) stand clear) in
      record {
        once = once_from apart;
        clear = λ ino among. clear_of (ino / 8) (All-contains (λ (ino : ℕ). All (λ span. ¬ Holds span (ino / 8)) spans) live ino each among);
      }

  -- and what the runs say of the spans
  pub spans_apart : MapOnce live (map mapped_of runs) → AllPairs LieApart spans
  spans_apart right = all_apart-permutation (map span_of runs) spans same (pairs_map span_of LieApart runs (pairs_unmap mapped_of AreApart runs right.once))

  pub spans_clear : MapOnce live (map mapped_of runs) → All (λ block. All (λ span. ¬ Holds span block) spans) blocks
  spans_clear right =
      subst (λ (list : List ℕ). All (λ block. All (λ span. ¬ Holds span block) spans) list) (sym stand) (
      All-map (λ block. All (λ span. ¬ Holds span block) spans) (λ (ino : ℕ). ino / 8) live
      (λ k d below. clear_back (get_or live k d / 8) (right.clear (get_or live k d) (Contains-get_or live k d below))))
