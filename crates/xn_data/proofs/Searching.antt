-- Leaf entries of one hash: found by a binary search where the hashes rise, and counted on from there.
use Rattle.std.proofs.Common.{◌≡◌, ◌≢◌, ℕ, zero, suc, ◌+◌, ◌-◌, ◌*◌, ◌<◌, ◌≤◌, Bool, true, false, eqb, List, [], ◌++◌, length, get_or, refl, sym, ap, ◌∙◌, arith}
use Rattle.std.specs.Prelude.{filter, All, Contains}
use Rattle.std.specs.List.Sorted.{IsNonDecreasingBy}
use Rattle.std.proofs.lemmas.Bool.{eq-eqb, ne_eqb}
use Rattle.std.proofs.lemmas.List.{append-nil}
use Rattle.std.proofs.lemmas.List.Elements.{filter-append}
use Rattle.xn_bytes.specs.Numbers.{number_at}
use Rattle.xn_bytes.specs.DataBlock.{LeafEntry, leaves_at}
use Rattle.xn_bytes.proofs.LeafEntries.{count_leaves, leaf_is, leaves_apart}
use Rattle.xn_data.specs.Searching.{hash_at, Rise, Parts, Leads}

-- ---- the binary search

-- what the search knows: where the hashes rise, those before `low` are less, and those from `high` on aren't
pub record Searched (hash count at : ℕ) (bytes : List ℕ) (low high : ℕ) : Type 0 where
  pub ordered : low ≤ high
  pub within : high ≤ count
  pub before : Rise count at bytes → (k : ℕ) → k < low → hash_at at k bytes < hash
  pub from : Rise count at bytes → (k : ℕ) → high ≤ k → k < count → hash ≤ hash_at at k bytes

pub goes_up : (hash count at : ℕ) (bytes : List ℕ) (low high middle : ℕ) → Searched hash count at bytes low high → middle < high → hash_at at middle bytes < hash → Searched hash count at bytes (middle + 1) high
goes_up hash count at bytes low high middle so_far below less =
    record {
      ordered = omega arith;
      within = so_far.within;
      before = λ rise k h. let under = rise k middle (omega arith) (omega (arith, so_far.within)) in omega arith;
      from = so_far.from;
    }

pub goes_down : (hash count at : ℕ) (bytes : List ℕ) (low high middle : ℕ) → Searched hash count at bytes low high → low ≤ middle → middle < high → hash ≤ hash_at at middle bytes → Searched hash count at bytes low middle
goes_down hash count at bytes low high middle so_far above below not_less =
    record {
      ordered = above;
      within = omega (arith, so_far.within);
      before = so_far.before;
      from = λ rise k h lt. let over = rise middle k h lt in omega arith;
    }

pub found : (hash count at : ℕ) (bytes : List ℕ) (low high : ℕ) → Searched hash count at bytes low high → high ≤ low → Rise count at bytes → Parts hash count at bytes low
found hash count at bytes low high so_far met rise =
    record {
      before = so_far.before rise;
      from = λ k h lt. so_far.from rise k (omega arith) lt;
    }

-- ---- leaf entries by their index

pub rise_from : (count at : ℕ) (bytes : List ℕ) → IsNonDecreasingBy (λ leaf. leaf.hash) (leaves_at count at bytes) → Rise count at bytes
rise_from count at bytes sorted i j h lt =
    let d : LeafEntry = record { hash = 0; address = 0 } in
    let one = sorted i j d h (omega (arith, count_leaves count at bytes)) in
    let a = leaf_is count at i bytes d (omega arith) in
    let b = leaf_is count at j bytes d lt in
    rw (a, b) at one

-- ---- those of one hash

none_of : (hash count at : ℕ) (bytes : List ℕ) → ((k : ℕ) → k < count → hash_at at k bytes ≢ hash) → filter (λ leaf. eqb leaf.hash hash) (leaves_at count at bytes) ≡ []
unfolding leaves_at
none_of hash zero at bytes other = refl
none_of hash (suc count) at bytes other =
    let first : at + 8 * 0 ≡ at = omega arith in
    let test : eqb (number_at 4 at bytes) hash ≡ false = ne_eqb _ _ (rw first at (other 0 (omega arith))) in
    let rest = none_of hash count (at + 8) bytes (λ k h. let same : at + 8 + 8 * k ≡ at + 8 * suc k = omega arith in rw same (other (suc k) (omega arith))) in
    rw (test, rest) refl

all_of : (hash count at : ℕ) (bytes : List ℕ) → ((k : ℕ) → k < count → hash_at at k bytes ≡ hash) → filter (λ leaf. eqb leaf.hash hash) (leaves_at count at bytes) ≡ leaves_at count at bytes
unfolding leaves_at
all_of hash zero at bytes same = refl
all_of hash (suc count) at bytes same =
    let first : at + 8 * 0 ≡ at = omega arith in
    let test : eqb (number_at 4 at bytes) hash ≡ true = eq-eqb _ _ (rw first at (same 0 (omega arith))) in
    let rest = all_of hash count (at + 8) bytes (λ k h. let place : at + 8 + 8 * k ≡ at + 8 * suc k = omega arith in rw place (same (suc k) (omega arith))) in
    rw (test, rest) refl

shifted : (at more k : ℕ) (bytes : List ℕ) → hash_at (at + 8 * more) k bytes ≡ hash_at at (more + k) bytes
shifted at more k bytes = ap (λ (place : ℕ). number_at 4 place bytes) (omega arith)

three_parts : (hash first found rest at : ℕ) (bytes : List ℕ) → ((k : ℕ) → k < first → hash_at at k bytes ≢ hash) → ((k : ℕ) → k < found → hash_at (at + 8 * first) k bytes ≡ hash) → ((k : ℕ) → k < rest → hash_at (at + 8 * first + 8 * found) k bytes ≢ hash)
    → filter (λ leaf. eqb leaf.hash hash) (leaves_at (first + (found + rest)) at bytes) ≡ leaves_at found (at + 8 * first) bytes
three_parts hash first found rest at bytes before here behind =
    let p : LeafEntry → Bool = λ leaf. eqb leaf.hash hash in
    let front : List LeafEntry = leaves_at first at bytes in
    let middle : List LeafEntry = leaves_at found (at + 8 * first) bytes in
    let back : List LeafEntry = leaves_at rest (at + 8 * first + 8 * found) bytes in
    let split : leaves_at (first + (found + rest)) at bytes ≡ front ++ (middle ++ back) = leaves_apart first (found + rest) at bytes ∙ ap (λ (t : List LeafEntry). front ++ t) (leaves_apart found rest (at + 8 * first) bytes) in
    let a : filter p front ≡ [] = none_of hash first at bytes before in
    let b : filter p middle ≡ middle = all_of hash found (at + 8 * first) bytes here in
    let c : filter p back ≡ [] = none_of hash rest (at + 8 * first + 8 * found) bytes behind in
    ap (filter p) split
    ∙ filter-append p front (middle ++ back)
    ∙ ap (λ (t : List LeafEntry). filter p front ++ t) (filter-append p middle back)
    ∙ ap (λ (t : List LeafEntry). t ++ (filter p middle ++ filter p back)) a
    ∙ ap (λ (t : List LeafEntry). t ++ filter p back) b
    ∙ ap (λ (t : List LeafEntry). middle ++ t) c
    ∙ append-nil middle

-- where the hashes rise, those counted from the first that isn't less are all of that hash
pub all_found : (hash count at first found : ℕ) (bytes : List ℕ) → first ≤ count → Rise count at bytes → Parts hash count at bytes first → Leads hash (count - first) (at + 8 * first) bytes found
    → leaves_at found (at + 8 * first) bytes ≡ filter (λ leaf. eqb leaf.hash hash) (leaves_at count at bytes)
all_found hash count at first found bytes within rise parts leads =
    let rest : ℕ = count - first - found in
    let few : found ≤ count - first = leads.within in
    let whole : first + (found + rest) ≡ count = omega arith in
    let behind : (k : ℕ) → k < rest → hash_at (at + 8 * first + 8 * found) k bytes ≢ hash =
    λ k h same.
    let other = leads.next (omega arith) in
    let next = shifted at first found bytes in
    let not_less = parts.from (first + found) (omega arith) (omega arith) in
    let on = rise (first + found) (first + (found + k)) (omega arith) (omega arith) in
    let one = shifted (at + 8 * first) found k bytes in
    let two = shifted at first (found + k) bytes in
    other (omega arith) in
    sym (three_parts hash first found rest at bytes (λ k h same. let less = parts.before k h in absurd (omega arith)) leads.before behind)
    ∙ ap (λ (n : ℕ). filter (λ leaf. eqb leaf.hash hash) (leaves_at n at bytes)) whole

-- those counted have the hash, and are among all
pub are_among : (hash count at first found : ℕ) (bytes : List ℕ) → first ≤ count → Leads hash (count - first) (at + 8 * first) bytes found → All (λ leaf. (leaf.hash ≡ hash) × Contains (leaves_at count at bytes) leaf) (leaves_at found (at + 8 * first) bytes)
are_among hash count at first found bytes within leads =
    λ k d lt.
    let few : found ≤ count - first = leads.within in
    let low : k < found = omega (arith, count_leaves found (at + 8 * first) bytes) in
    let here = leaf_is found (at + 8 * first) k bytes d low in
    let same : at + 8 * (first + k) ≡ at + 8 * first + 8 * k = omega arith in
    let leaf : LeafEntry = record { hash = number_at 4 (at + 8 * first + 8 * k) bytes; address = number_at 4 (at + 8 * first + 8 * k + 4) bytes } in
    let there : get_or (leaves_at count at bytes) (first + k) leaf ≡ leaf = leaf_is count at (first + k) bytes leaf (omega arith) ∙ rw same refl in
    let placed : first + k < length (leaves_at count at bytes) = omega (arith, count_leaves count at bytes) in
    rw here (leads.before k low, (first + k, placed, there))
