-- A leaf that is written anew.
use Rattle.std.proofs.Common.{◌≡◌, ◌≢◌, ◌⊎◌, inl, inr, ℕ, ◌+◌, ◌*◌, ◌^◌, ◌<◌, ◌≤◌, List, [], ◌∷◌, ◌++◌, length, take, get_or, cond, false, eqb, Some, refl, sym, ap, subst, ◌∙◌, arith}
use Rattle.std.specs.Prelude.{slice_range, filter, count_by, All}
use Rattle.std.specs.List.Sorted.{IsNonDecreasingBy}
use Rattle.std.proofs.lemmas.Bool.{ne_eqb}
use Rattle.std.proofs.lemmas.List.Elements.{All-head, All-tail}
use Rattle.std.proofs.lemmas.List.Sums.{sum_by-cons}
use Rattle.std.proofs.lemmas.List.{take_more, take_all}
use Rattle.byteorder.specs.Endian.{big_bytes, little_bytes}
use Rattle.byteorder.specs.Numbers.{length-bytes_high_first}
use Rattle.xn_bytes.specs.Numbers.{number_at, overlaid}
use Rattle.xn_bytes.specs.DataBlock.{LeafEntry, leaf_at, leaves_at}
use Rattle.xn_bytes.specs.Checksum.{HasChecksum}
use Rattle.xn_bytes.specs.HashedTree.{dir_leaves, is_live, is_stale, leaf_ends, last_leaf_hash, leaf_magic, single_leaf_magic}
use Rattle.xn_datree.specs.Leaves.{last_by, ends_of_list}
use Rattle.xn_bytes.proofs.Overlays.{slice_range-slice_range, slice_range-overlaid-apart}
use Rattle.xn_bytes.proofs.PlacedNumbers.{number_at-overlaid-apart, number_at-overlaid-there}
use Rattle.xn_leaf.specs.Placed.{PutsLeaf, PutsLeaves, PutsCounts, IsFilled}
use Rattle.xn_bytes.proofs.LeafEntries.{leaves_more, leaves_same, same_leaf}

-- ---- a number that is put

pub piece_kept : (old new : List ℕ) (at n x from to : ℕ) → new ≡ overlaid old at (big_bytes n x) → length old ≡ 4096 → at + n ≤ 4096 → to ≤ 4096 → (to ≤ at) ⊎ (at + n ≤ from) → slice_range new from to ≡ slice_range old from to
piece_kept old new at n x from to e whole there within apart =
    let width = length-bytes_high_first n x in
    rw e (slice_range-overlaid-apart old at (big_bytes n x) from to (omega arith) (omega arith)
    (elim apart [ inl low ↦ inl low | inr high ↦ inr (omega arith) ]))

pub number_kept : (old new : List ℕ) (at n x width from : ℕ) → new ≡ overlaid old at (big_bytes n x) → length old ≡ 4096 → at + n ≤ 4096 → from + width ≤ 4096 → (from + width ≤ at) ⊎ (at + n ≤ from) → number_at width from new ≡ number_at width from old
number_kept old new at n x width from e whole there within apart =
    let long = length-bytes_high_first n x in
    rw e (number_at-overlaid-apart width from old at (big_bytes n x) (omega arith) (omega arith)
    (elim apart [ inl low ↦ inl low | inr high ↦ inr (omega arith) ]))

pub number_put : (old new : List ℕ) (at n x : ℕ) → new ≡ overlaid old at (big_bytes n x) → length old ≡ 4096 → at + n ≤ 4096 → x < 256 ^ n → number_at n at new ≡ x
number_put old new at n x e whole there small = rw e (number_at-overlaid-there n at x old small (omega arith))

-- ---- one leaf entry, and all

pub puts_leaf : (index : ℕ) (old one new : List ℕ) (leaf : LeafEntry) → length old ≡ 4096 → length one ≡ 4096 → length new ≡ 4096 → 64 + 8 * index + 8 ≤ 4096 → leaf.hash < 2 ^ 32 → leaf.address < 2 ^ 32
    → one ≡ overlaid old (64 + 8 * index) (big_bytes 4 leaf.hash) → new ≡ overlaid one (64 + 8 * index + 4) (big_bytes 4 leaf.address) → PutsLeaf index old new leaf
puts_leaf index old one new leaf whole whole1 whole2 place small small2 put put2 =
    let at = 64 + 8 * index in
    let hash : number_at 4 at new ≡ leaf.hash = number_kept one new (at + 4) 4 leaf.address 4 at put2 whole1 (omega arith) (omega arith) (inl (omega arith)) ∙ number_put old one at 4 leaf.hash put whole (omega arith) (omega arith) in
    let address : number_at 4 (at + 4) new ≡ leaf.address = number_put one new (at + 4) 4 leaf.address put2 whole1 (omega arith) (omega arith) in
    record {
      whole = omega arith;
      there = same_leaf (leaf_at at new) leaf hash address;
      before = piece_kept one new (at + 4) 4 leaf.address 0 at put2 whole1 (omega arith) (omega arith) (inl (omega arith)) ∙ piece_kept old one at 4 leaf.hash 0 at put whole (omega arith) (omega arith) (inl (omega arith));
    }

-- the first so many of leaf entries were put
pub record PutsFirst (index : ℕ) (old new : List ℕ) (leaves : List LeafEntry) : Type 0 where
  pub whole : length new ≡ length old
  pub there : leaves_at index 64 new ≡ take index leaves
  pub before : slice_range new 0 64 ≡ slice_range old 0 64

pub puts_more : (index : ℕ) (old one new : List ℕ) (leaf : LeafEntry) (leaves : List LeafEntry) → length old ≡ 4096 → 64 + 8 * index ≤ 4096 → index < length leaves → leaf ≡ get_or leaves index leaf
    → PutsFirst index old one leaves → PutsLeaf index one new leaf → PutsFirst (index + 1) old new leaves
puts_more index old one new leaf leaves size place below is first put =
    let at = 64 + 8 * index in
    let long : length one ≡ 4096 = first.whole ∙ size in
    let long2 : length new ≡ 4096 = put.whole ∙ long in
    let same : leaves_at index 64 new ≡ leaves_at index 64 one = leaves_same index 64 0 at new one (omega arith) (omega arith) (omega arith) (omega arith) put.before in
    let front : slice_range new 0 64 ≡ slice_range one 0 64 =
    sym (slice_range-slice_range new 0 at 0 64 (omega arith) (omega arith)) ∙ ap (λ (piece : List ℕ). slice_range piece 0 64) put.before ∙ slice_range-slice_range one 0 at 0 64 (omega arith) (omega arith) in
    record {
      whole = put.whole ∙ first.whole;
      there = leaves_more index 64 new ∙ ap (λ (xs : List LeafEntry). xs ++ leaf_at at new ∷ []) (same ∙ first.there)
          ∙ ap (λ (one : LeafEntry). take index leaves ++ one ∷ []) (put.there ∙ is) ∙ sym (take_more leaves index leaf below);
      before = front ∙ first.before;
    }

pub puts_all : (index : ℕ) (old new : List ℕ) (leaves : List LeafEntry) → index ≡ length leaves → PutsFirst index old new leaves → PutsLeaves old new leaves
puts_all index old new leaves e first = record {
  whole = first.whole;
  there = ap (λ (n : ℕ). leaves_at n 64 new) (sym e) ∙ first.there ∙ take_all index leaves (omega arith);
  before = first.before;
}

-- ---- the header

pub puts_counts : (count : ℕ) (old b1 b2 b3 new : List ℕ) → count < 2 ^ 16 → length old ≡ 4096 → length b1 ≡ 4096 → length b2 ≡ 4096 → length b3 ≡ 4096 → length new ≡ 4096
    → b1 ≡ overlaid old 8 (big_bytes 2 0x3dff) → b2 ≡ overlaid b1 56 (big_bytes 2 count) → b3 ≡ overlaid b2 58 (big_bytes 2 0) → new ≡ overlaid b3 60 (big_bytes 4 0) → PutsCounts count old new
puts_counts count old b1 b2 b3 new small w0 w1 w2 w3 w4 e1 e2 e3 e4 =
    let keep : (from to : ℕ) → to ≤ 4096 → (to ≤ 8) ⊎ (10 ≤ from) → (to ≤ 56) ⊎ (64 ≤ from) → slice_range new from to ≡ slice_range old from to =
    λ from to within first others.
    piece_kept b3 new 60 4 0 from to e4 w3 (omega arith) within (elim others [ inl low ↦ inl (omega arith) | inr high ↦ inr (omega arith) ])
    ∙ piece_kept b2 b3 58 2 0 from to e3 w2 (omega arith) within (elim others [ inl low ↦ inl (omega arith) | inr high ↦ inr (omega arith) ])
    ∙ piece_kept b1 b2 56 2 count from to e2 w1 (omega arith) within (elim others [ inl low ↦ inl (omega arith) | inr high ↦ inr (omega arith) ])
    ∙ piece_kept old b1 8 2 0x3dff from to e1 w0 (omega arith) within (elim first [ inl low ↦ inl low | inr high ↦ inr (omega arith) ]) in
    record {
      whole = omega arith;
      magic = number_kept b3 new 60 4 0 2 8 e4 w3 (omega arith) (omega arith) (inl (omega arith))
          ∙ number_kept b2 b3 58 2 0 2 8 e3 w2 (omega arith) (omega arith) (inl (omega arith))
          ∙ number_kept b1 b2 56 2 count 2 8 e2 w1 (omega arith) (omega arith) (inl (omega arith))
          ∙ number_put old b1 8 2 0x3dff e1 w0 (omega arith) (omega arith);
      count = number_kept b3 new 60 4 0 2 56 e4 w3 (omega arith) (omega arith) (inl (omega arith))
          ∙ number_kept b2 b3 58 2 0 2 56 e3 w2 (omega arith) (omega arith) (inl (omega arith))
          ∙ number_put b1 b2 56 2 count e2 w1 (omega arith) (omega arith);
      stale = number_kept b3 new 60 4 0 2 58 e4 w3 (omega arith) (omega arith) (inl (omega arith)) ∙ number_put b2 b3 58 2 0 e3 w2 (omega arith) (omega arith);
      siblings = keep 0 8 (omega arith) (inl (omega arith)) (inl (omega arith));
      place = keep 16 56 (omega arith) (inr (omega arith)) (inl (omega arith));
      body = keep 64 4096 (omega arith) (inr (omega arith)) (inr (omega arith));
    }

-- ---- the whole leaf

-- entries that are lawful are all live
all_kept : (leaves : List LeafEntry) → All (λ leaf. leaf.address ≢ 0) leaves → filter is_live leaves ≡ leaves
all_kept [] lawful = refl
all_kept (leaf ∷ leaves) lawful =
    let fresh : eqb leaf.address 0 ≡ false = ne_eqb leaf.address 0 (All-head (λ (one : LeafEntry). one.address ≢ 0) leaf leaves lawful) in
    let rest = all_kept leaves (All-tail (λ (one : LeafEntry). one.address ≢ 0) leaf leaves lawful) in
    rw (fresh, rest) refl

none_stale : (leaves : List LeafEntry) → All (λ leaf. leaf.address ≢ 0) leaves → count_by is_stale leaves ≡ 0
none_stale [] lawful = refl
none_stale (leaf ∷ leaves) lawful =
    let fresh : eqb leaf.address 0 ≡ false = ne_eqb leaf.address 0 (All-head (λ (one : LeafEntry). one.address ≢ 0) leaf leaves lawful) in
    let rest = none_stale leaves (All-tail (λ (one : LeafEntry). one.address ≢ 0) leaf leaves lawful) in
    sum_by-cons (λ (one : LeafEntry). cond (is_stale one) 1 0) leaf leaves ∙ rw (fresh, rest) refl

same_last : (leaf : LeafEntry) (others : List LeafEntry) → last_leaf_hash leaf others ≡ last_by (λ (one : LeafEntry). one.hash) leaf others
same_last leaf [] = refl
same_last leaf (next ∷ others) = same_last next others

same_ends : (leaves : List LeafEntry) → leaf_ends leaves ≡ ends_of_list (λ (one : LeafEntry). one.hash) leaves
same_ends [] = refl
same_ends (leaf ∷ others) = ap (λ (last : ℕ). Some (leaf.hash, last)) (same_last leaf others)

pub is_filled : (old b1 b2 new : List ℕ) (leaves : List LeafEntry) (count sum : ℕ) → length old ≡ 4096 → All (λ leaf. leaf.address ≢ 0) leaves → IsNonDecreasingBy (λ leaf. leaf.hash) leaves
    → length leaves ≤ 504 → count ≡ length leaves → PutsLeaves old b1 leaves → PutsCounts count b1 b2 → new ≡ overlaid b2 12 (little_bytes 4 sum) → HasChecksum new 12 → length new ≡ length b2 → IsFilled old new leaves
is_filled old b1 b2 new leaves count sum size lawful sorted few many entries counts e checksum long =
    let w1 : length b1 ≡ 4096 = entries.whole ∙ size in
    let w2 : length b2 ≡ 4096 = counts.whole ∙ w1 in
    let w3 : length new ≡ 4096 = long ∙ w2 in
    let width : length (little_bytes 4 sum) ≡ 4 = refl in
    let magic : number_at 2 8 new ≡ leaf_magic = rw e (number_at-overlaid-apart 2 8 b2 12 (little_bytes 4 sum) (omega arith) (omega arith) (inl (omega arith))) ∙ counts.magic in
    let number : number_at 2 56 new ≡ length leaves = rw e (number_at-overlaid-apart 2 56 b2 12 (little_bytes 4 sum) (omega arith) (omega arith) (inr (omega arith))) ∙ counts.count ∙ many in
    let stale : number_at 2 58 new ≡ 0 = rw e (number_at-overlaid-apart 2 58 b2 12 (little_bytes 4 sum) (omega arith) (omega arith) (inr (omega arith))) ∙ counts.stale in
    let body : slice_range new 64 4096 ≡ slice_range b1 64 4096 = rw e (slice_range-overlaid-apart b2 12 (little_bytes 4 sum) 64 4096 (omega arith) (omega arith) (inr (omega arith))) ∙ counts.body in
    let all : dir_leaves new ≡ leaves =
    ap (λ (n : ℕ). leaves_at n 64 new) number ∙ leaves_same (length leaves) 64 64 4096 new b1 (omega arith) (omega arith) (omega arith) (omega arith) body ∙ entries.there in
    let front : slice_range b1 0 8 ≡ slice_range old 0 8 =
    sym (slice_range-slice_range b1 0 64 0 8 (omega arith) (omega arith)) ∙ ap (λ (piece : List ℕ). slice_range piece 0 8) entries.before ∙ slice_range-slice_range old 0 64 0 8 (omega arith) (omega arith) in
    let owner : slice_range b1 16 56 ≡ slice_range old 16 56 =
    sym (slice_range-slice_range b1 0 64 16 56 (omega arith) (omega arith)) ∙ ap (λ (piece : List ℕ). slice_range piece 16 56) entries.before ∙ slice_range-slice_range old 0 64 16 56 (omega arith) (omega arith) in
    record {
      holds = record {
        leaf = record {
          whole = w3;
          is_magic = inr magic;
          checksum = checksum;
          few = omega arith;
          stale = rw all (stale ∙ sym (none_stale leaves lawful));
          sorted = subst (λ (xs : List LeafEntry). IsNonDecreasingBy (λ leaf. leaf.hash) xs) (sym all) sorted;
        };
        are = rw all (sym (all_kept leaves lawful));
      };
      ends = ap leaf_ends all ∙ same_ends leaves;
      tree = λ single. let both : leaf_magic ≡ single_leaf_magic = sym magic ∙ single in absurd (omega arith);
      header = record {
        whole = w3 ∙ sym size;
        siblings = rw e (slice_range-overlaid-apart b2 12 (little_bytes 4 sum) 0 8 (omega arith) (omega arith) (inl (omega arith))) ∙ counts.siblings ∙ front;
        place = rw e (slice_range-overlaid-apart b2 12 (little_bytes 4 sum) 16 56 (omega arith) (omega arith) (inr (omega arith))) ∙ counts.place ∙ owner;
      };
    }
