-- What holds of every leaf of a directory.
use Rattle.std.proofs.Common.{◌≡◌, ◌≢◌, ◌⊎◌, ℕ, ◌*◌, ◌<◌, ◌≤◌, Bool, true, false, eqb, List, [], ◌∷◌, length, take, get_or, None, refl, sym, ap, subst, ◌∙◌, arith}
use Rattle.std.specs.Prelude.{◌&&◌, ◌↔◌, filter, slice_range, sum_by, All, IfSome}
use Rattle.std.specs.List.Sorted.{IsNonDecreasingBy}
use Rattle.std.proofs.lemmas.Bool.{cond_both, eq-eqb, eqb-true}
use Rattle.std.proofs.lemmas.List.Elements.{All-cons, All-nil, All-filter}
use Rattle.std.proofs.lemmas.List.Kept.{IsNonDecreasingBy-filter}
use Rattle.std.proofs.lemmas.List.Sums.{sum_by-cons, length-filter, count_by-le-length}
use Rattle.xn_bytes.specs.Numbers.{number_at}
use Rattle.xn_bytes.specs.DataBlock.{LeafEntry, leaves_at}
use Rattle.xn_bytes.specs.HashedTree.{DirLeafHolds, dir_leaves, dir_leaf_ends, is_live, leaf_ends, last_leaf_hash, leaf_magic, single_leaf_magic}
use Rattle.xn_bytes.proofs.PlacedNumbers.{same_number}
use Rattle.xn_datree.specs.Leaves.{HasSameBody}
use Rattle.xn_bytes.proofs.LeafEntries.{count_leaves, leaves_same, same_leaf}

abbrev hash_of : LeafEntry → ℕ
hash_of leaf = leaf.hash

pub one_list : (bytes : List ℕ) (entries others : List LeafEntry) → DirLeafHolds bytes entries → DirLeafHolds bytes others → entries ≡ others
one_list bytes entries others a b = a.are ∙ sym b.are

-- ---- those that are not stale

not_zero : (leaf : LeafEntry) → is_live leaf ≡ true → leaf.address ≢ 0
not_zero leaf live = λ zero. let stale : eqb leaf.address 0 ≡ true = eq-eqb _ _ zero in absurd cc

live_all : (leaves : List LeafEntry) → All (λ leaf. leaf.address ≢ 0) (filter is_live leaves)
live_all [] = All-nil (λ (leaf : LeafEntry). leaf.address ≢ 0)
live_all (leaf ∷ leaves) =
    cond_both (is_live leaf) (leaf ∷ filter is_live leaves) (filter is_live leaves) (λ (xs : List LeafEntry). All (λ one. one.address ≢ 0) xs)
    (λ live. All-cons (λ (one : LeafEntry). one.address ≢ 0) leaf (filter is_live leaves) (not_zero leaf live) (live_all leaves))
    (λ stale. live_all leaves)

pub all_live : (bytes : List ℕ) (entries : List LeafEntry) → DirLeafHolds bytes entries → All (λ leaf. leaf.address ≢ 0) entries
all_live bytes entries holds = subst (λ (xs : List LeafEntry). All (λ leaf. leaf.address ≢ 0) xs) (sym holds.are) (live_all (dir_leaves bytes))

pub all_sorted : (bytes : List ℕ) (entries : List LeafEntry) → DirLeafHolds bytes entries → IsNonDecreasingBy (λ leaf. leaf.hash) entries
all_sorted bytes entries holds =
    subst (λ (xs : List LeafEntry). IsNonDecreasingBy (λ leaf. leaf.hash) xs) (sym holds.are) (IsNonDecreasingBy-filter hash_of is_live (dir_leaves bytes) holds.leaf.sorted)

-- ---- how many there are

pub sum_eights : (leaves : List LeafEntry) → sum_by (λ leaf. 8) leaves ≡ 8 * length leaves
sum_eights [] = refl
sum_eights (leaf ∷ leaves) = sum_by-cons (λ (one : LeafEntry). 8) leaf leaves ∙ (let rest = sum_eights leaves in omega arith)

pub few_bytes : (bytes : List ℕ) (entries : List LeafEntry) → DirLeafHolds bytes entries → sum_by (λ leaf. 8) entries ≤ 4032
few_bytes bytes entries holds =
    let kept : length entries ≡ length (filter is_live (dir_leaves bytes)) = ap length holds.are in
    omega (arith, sum_eights entries, length-filter is_live (dir_leaves bytes), count_by-le-length is_live (dir_leaves bytes), count_leaves (number_at 2 56 bytes) 64 bytes, holds.leaf.few)

-- ---- the ends

pub last_leaf_hash-place : (leaf : LeafEntry) (others : List LeafEntry) (d : LeafEntry) → last_leaf_hash leaf others ≡ (get_or (leaf ∷ others) (length others) d).hash
last_leaf_hash-place leaf [] d = refl
last_leaf_hash-place leaf (next ∷ others) d = last_leaf_hash-place next others d

abbrev AreBetween : List LeafEntry → ℕ × ℕ → Type 0
AreBetween leaves both = (both.0 ≤ both.1) × All (λ leaf. (both.0 ≤ leaf.hash) × (leaf.hash ≤ both.1)) leaves

among_ends : (leaves live : List LeafEntry) → IsNonDecreasingBy (λ leaf. leaf.hash) leaves → live ≡ filter is_live leaves → IfSome (leaf_ends leaves) (AreBetween live)
among_ends [] live sorted are = tt
among_ends (leaf ∷ others) live sorted are =
    let last = last_leaf_hash-place leaf others in
    let high : leaf.hash ≤ last_leaf_hash leaf others = let far = sorted 0 (length others) leaf (omega arith) (omega arith) in omega (arith, far, last leaf) in
    let all : All (λ one. (leaf.hash ≤ one.hash) × (one.hash ≤ last_leaf_hash leaf others)) (leaf ∷ others) =
    λ k d low. (sorted 0 k d (omega arith) low, (let far = sorted k (length others) d (omega arith) (omega arith) in omega (arith, far, last d))) in (
      high,
      subst (λ (xs : List LeafEntry). All (λ one. (leaf.hash ≤ one.hash) × (one.hash ≤ last_leaf_hash leaf others)) xs) (sym are)
          (All-filter is_live (λ (one : LeafEntry). (leaf.hash ≤ one.hash) × (one.hash ≤ last_leaf_hash leaf others)) (leaf ∷ others) all),
    )

pub between_ends : (bytes : List ℕ) (entries : List LeafEntry) → DirLeafHolds bytes entries
    → IfSome (dir_leaf_ends bytes) (λ both. (both.0 ≤ both.1) × All (λ leaf. (both.0 ≤ leaf.hash) × (leaf.hash ≤ both.1)) entries)
between_ends bytes entries holds = among_ends (dir_leaves bytes) entries holds.leaf.sorted holds.are

none_there : (leaves : List LeafEntry) → leaf_ends leaves ≡ None → filter is_live leaves ≡ []
none_there [] none = refl
none_there (leaf ∷ others) none = absurd cc

pub no_ends : (bytes : List ℕ) (entries : List LeafEntry) → DirLeafHolds bytes entries → dir_leaf_ends bytes ≡ None → entries ≡ []
no_ends bytes entries holds none = holds.are ∙ none_there (dir_leaves bytes) none

pub eight : (leaf : LeafEntry) → leaf.address ≢ 0 → 0 < 8
eight leaf lawful = omega arith

both_true : (a b : Bool) → (a && b) ≡ true → (a ≡ true) × (b ≡ true)
both_true true true e = (refl, refl)
both_true true false e = absurd cc
both_true false b e = absurd cc

-- two entries are `==` exactly where they are the same
pub same_entry : (entry other : LeafEntry) → ((eqb entry.hash other.hash && eqb entry.address other.address) ≡ true) ↔ (entry ≡ other)
same_entry entry other = (
  λ equal.
      let both = both_true (eqb entry.hash other.hash) (eqb entry.address other.address) equal in
      same_leaf entry other (eqb-true _ _ both.0) (eqb-true _ _ both.1),
  λ same.
      let hash : eqb entry.hash other.hash ≡ true = eq-eqb _ _ (ap hash_of same) in
      let address : eqb entry.address other.address ≡ true = eq-eqb _ _ (ap (λ (leaf : LeafEntry). leaf.address) same) in
      rw (hash, address) refl,
)

-- ---- blocks of one body

pub same_body : (bytes others : List ℕ) (entries : List LeafEntry) → HasSameBody bytes others → DirLeafHolds bytes entries → DirLeafHolds others entries × (dir_leaf_ends others ≡ dir_leaf_ends bytes)
same_body bytes others entries same holds =
    let piece : slice_range others 56 4096 ≡ slice_range bytes 56 4096 = ap (take 4040) same.body in
    let one : 4096 ≤ length others = omega (arith, same.whole.1) in
    let two : 4096 ≤ length bytes = omega (arith, same.whole.0) in
    let count : number_at 2 56 others ≡ number_at 2 56 bytes = same_number 2 56 56 4096 others bytes (omega arith) (omega arith) one two piece in
    let stale : number_at 2 58 others ≡ number_at 2 58 bytes = same_number 2 58 56 4096 others bytes (omega arith) (omega arith) one two piece in
    let there : leaves_at (number_at 2 56 bytes) 64 others ≡ leaves_at (number_at 2 56 bytes) 64 bytes =
    leaves_same (number_at 2 56 bytes) 64 56 4096 others bytes (omega arith) (omega (arith, holds.leaf.few)) one two piece in
    let leaves : dir_leaves others ≡ dir_leaves bytes = ap (λ (n : ℕ). leaves_at n 64 others) count ∙ there in (
      record {
        leaf = record {
          whole = same.whole.1;
          is_magic = subst (λ (n : ℕ). (n ≡ single_leaf_magic) ⊎ (n ≡ leaf_magic)) (sym same.magic) holds.leaf.is_magic;
          checksum = same.checksum_too;
          few = omega (arith, holds.leaf.few);
          stale = rw (stale, leaves) holds.leaf.stale;
          sorted = subst (λ (xs : List LeafEntry). IsNonDecreasingBy (λ leaf. leaf.hash) xs) (sym leaves) holds.leaf.sorted;
        };
        are = holds.are ∙ ap (filter is_live) (sym leaves);
      },
      ap leaf_ends leaves,
    )
