-- Leaf entries read one by one.
use Rattle.std.proofs.Common.{◌≡◌, ℕ, ◌+◌, ◌-◌, ◌*◌, ◌<◌, Bool, true, false, cond, List, [], ◌∷◌, ◌++◌, length, get_or, Some, ◌≤◌, refl, sym, ap, ◌∙◌, arith, append_assoc}
use Rattle.std.specs.Prelude.{filter, count_by}
use Rattle.std.proofs.lemmas.List.Sums.{sum_by-cons}
use Rattle.xn_bytes.specs.DataBlock.{LeafEntry, leaf_at, leaves_at}
use Rattle.xn_bytes.specs.HashedTree.{is_live, is_stale, leaf_ends}
use Rattle.xn_bytes.proofs.LeafEntries.{leaves_step, leaf_is, count_leaves, leaves_none}
use Rattle.xn_leaf.specs.Laws.{last_leaf_hash-place}

-- the leaf entries from an index on, of so many
abbrev pub leaves_from : ℕ → ℕ → List ℕ → List LeafEntry
leaves_from index count bytes = leaves_at (count - index) (64 + 8 * index) bytes

pub from_step : (index count : ℕ) (bytes : List ℕ) → index < count → leaves_from index count bytes ≡ leaf_at (64 + 8 * index) bytes ∷ leaves_from (index + 1) count bytes
from_step index count bytes below = leaves_step (count - index) (count - (index + 1)) (64 + 8 * index) (64 + 8 * (index + 1)) bytes (omega arith) (omega arith)

-- the count of stale ones, with one more that is or isn't stale
pub stale_step : (all index count stale more : ℕ) (leaf : LeafEntry) (bytes : List ℕ) → index < count → leaf ≡ leaf_at (64 + 8 * index) bytes → more ≡ cond (is_stale leaf) 1 0
    → stale + count_by is_stale (leaves_from index count bytes) ≡ all → stale + more + count_by is_stale (leaves_from (index + 1) count bytes) ≡ all
stale_step all index count stale more leaf bytes below is by so_far =
    let step = ap (count_by is_stale) (from_step index count bytes below ∙ ap (λ (one : LeafEntry). one ∷ leaves_from (index + 1) count bytes) (sym is)) in
    let cons = sum_by-cons (λ (one : LeafEntry). cond (is_stale one) 1 0) leaf (leaves_from (index + 1) count bytes) in
    omega (arith, step, cons)

-- the live ones, with one more that is stale, or that isn't
pub stale_passed : (all items : List LeafEntry) (index count : ℕ) (leaf : LeafEntry) (bytes : List ℕ) → index < count → leaf ≡ leaf_at (64 + 8 * index) bytes → is_live leaf ≡ false
    → items ++ filter is_live (leaves_from index count bytes) ≡ all → items ++ filter is_live (leaves_from (index + 1) count bytes) ≡ all
stale_passed all items index count leaf bytes below is stale so_far =
    let step : leaves_from index count bytes ≡ leaf ∷ leaves_from (index + 1) count bytes =
    from_step index count bytes below ∙ ap (λ (one : LeafEntry). one ∷ leaves_from (index + 1) count bytes) (sym is) in
    let rest = filter is_live (leaves_from (index + 1) count bytes) in
    let kept : filter is_live (leaf ∷ leaves_from (index + 1) count bytes) ≡ rest = ap (λ (b : Bool). cond b (leaf ∷ rest) rest) stale in
    sym (ap (λ (xs : List LeafEntry). items ++ xs) (ap (filter is_live) step ∙ kept)) ∙ so_far

pub live_pushed : (all items new : List LeafEntry) (index count : ℕ) (leaf : LeafEntry) (bytes : List ℕ) → index < count → leaf ≡ leaf_at (64 + 8 * index) bytes → is_live leaf ≡ true → new ≡ items ++ leaf ∷ []
    → items ++ filter is_live (leaves_from index count bytes) ≡ all → new ++ filter is_live (leaves_from (index + 1) count bytes) ≡ all
live_pushed all items new index count leaf bytes below is live grown so_far =
    let step : leaves_from index count bytes ≡ leaf ∷ leaves_from (index + 1) count bytes =
    from_step index count bytes below ∙ ap (λ (one : LeafEntry). one ∷ leaves_from (index + 1) count bytes) (sym is) in
    let rest = filter is_live (leaves_from (index + 1) count bytes) in
    let kept : filter is_live (leaf ∷ leaves_from (index + 1) count bytes) ≡ leaf ∷ rest = ap (λ (b : Bool). cond b (leaf ∷ rest) rest) live in
    ap (λ (xs : List LeafEntry). xs ++ rest) grown
    ∙ append_assoc items (leaf ∷ []) rest
    ∙ sym (ap (λ (xs : List LeafEntry). items ++ xs) (ap (filter is_live) step ∙ kept)) ∙ so_far

-- none are left behind the last
pub none_left : (index count : ℕ) (bytes : List ℕ) → count ≤ index → leaves_from index count bytes ≡ []
none_left index count bytes past =
    let none : count - index ≡ 0 = omega arith in
    ap (λ (n : ℕ). leaves_at n (64 + 8 * index) bytes) none ∙ leaves_none (64 + 8 * index) bytes

pub all_left : (count : ℕ) (bytes : List ℕ) → leaves_from 0 count bytes ≡ leaves_at count 64 bytes
all_left count bytes = ap (λ (n : ℕ). leaves_at n 64 bytes) (omega arith)

-- ---- the ends

ends_of_leaves : (leaves : List LeafEntry) (d : LeafEntry) → 1 ≤ length leaves → leaf_ends leaves ≡ Some ((get_or leaves 0 d).hash, (get_or leaves (length leaves - 1) d).hash)
ends_of_leaves [] d some = absurd (omega arith)
ends_of_leaves (leaf ∷ others) d some =
    let place : length (leaf ∷ others) - 1 ≡ length others = omega arith in
    rw (place, last_leaf_hash-place leaf others d) refl

pub ends_at : (count : ℕ) (bytes : List ℕ) (first last : LeafEntry) → 1 ≤ count → first ≡ leaf_at (64 + 8 * 0) bytes → last ≡ leaf_at (64 + 8 * (count - 1)) bytes → Some (first.hash, last.hash) ≡ leaf_ends (leaves_at count 64 bytes)
ends_at count bytes first last some is_first is_last =
    let many = count_leaves count 64 bytes in
    let a : get_or (leaves_at count 64 bytes) 0 first ≡ first = leaf_is count 64 0 bytes first (omega arith) ∙ sym is_first in
    let b : get_or (leaves_at count 64 bytes) (count - 1) first ≡ last = leaf_is count 64 (count - 1) bytes first (omega arith) ∙ sym is_last in
    let ends = ends_of_leaves (leaves_at count 64 bytes) first (omega (arith, many)) in
    sym (rw (many, a, b) at ends)
