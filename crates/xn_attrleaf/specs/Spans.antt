-- Names that lie apart from each other take no more bytes than there are.
use Rattle.std.proofs.Common.{◌≡◌, inl, inr, ℕ, zero, suc, ◌+◌, ◌<◌, ◌≤◌, Bool, true, false, not, leb, List, [], ◌∷◌, length, get_or, refl, arith}
use Rattle.std.specs.Prelude.{filter, sum_by, All, AllPairs}
use Rattle.std.proofs.lemmas.Bool.{leb-true, leb-false}
use Rattle.std.proofs.lemmas.List.Elements.{All-filter, filter_passes, All-tail}
use Rattle.std.proofs.lemmas.List.Filters.{sum_by-filter_both, length-filter_both}
use Rattle.std.proofs.lemmas.List.Kept.{AllPairs-filter}
use Rattle.std.proofs.lemmas.List.Sums.{sum_by-cons}
use Rattle.xn_bytes.specs.AttributeLeaves.{AttrEntry, AreDisjoint, name_size}

-- a name lies between two places
pub record IsBetween (bytes : List ℕ) (low high : ℕ) (entry : AttrEntry) : Type 0 where
  pub behind : low ≤ entry.place
  pub before : entry.place + name_size bytes entry ≤ high

pairs_tail : {X : Type 0} (R : X → X → Type 0) (x : X) (xs : List X) → AllPairs R (x ∷ xs) → AllPairs R xs
pairs_tail R x xs pairs i j d low below = pairs (suc i) (suc j) d (omega arith) (omega arith)

pairs_head : {X : Type 0} (R : X → X → Type 0) (x : X) (xs : List X) → AllPairs R (x ∷ xs) → All (R x) xs
pairs_head R x xs pairs k d below = pairs 0 (suc k) d (omega arith) (omega arith)

not_true : (b : Bool) → not b ≡ true → b ≡ false
not_true true e = absurd cc
not_true false e = refl

-- whether a name ends where that of an entry begins, or before
abbrev ends_before : List ℕ → AttrEntry → AttrEntry → Bool
ends_before bytes entry one = leb (one.place + name_size bytes one) entry.place

abbrev ends_behind : List ℕ → AttrEntry → AttrEntry → Bool
ends_behind bytes entry one = not (ends_before bytes entry one)

behind_it : (bytes : List ℕ) (low high : ℕ) (entry one : AttrEntry) → IsBetween bytes low high one → AreDisjoint bytes entry one → ends_behind bytes entry one ≡ true → IsBetween bytes (entry.place + name_size bytes entry) high one
behind_it bytes low high entry one between apart test = record {
  behind = elim apart [
    | inl before ↦ before
    | inr after ↦
        let late : entry.place < one.place + name_size bytes one = leb-false _ _ (not_true (ends_before bytes entry one) test) in
        omega arith
  ];
  before = between.before;
}

all_before : (bytes : List ℕ) (low high : ℕ) (entry : AttrEntry) (others : List AttrEntry) → All (IsBetween bytes low high) others → All (IsBetween bytes low entry.place) (filter (ends_before bytes entry) others)
all_before bytes low high entry others all k d below =
    let one = All-filter (ends_before bytes entry) (IsBetween bytes low high) others all k d below in
    record { behind = one.behind; before = leb-true _ _ (filter_passes (ends_before bytes entry) others k d below) }

all_behind : (bytes : List ℕ) (low high : ℕ) (entry : AttrEntry) (others : List AttrEntry) → All (IsBetween bytes low high) others → All (AreDisjoint bytes entry) others
    → All (IsBetween bytes (entry.place + name_size bytes entry) high) (filter (ends_behind bytes entry) others)
all_behind bytes low high entry others all apart k d below =
    let kept = filter (ends_behind bytes entry) others in
    behind_it bytes low high entry (get_or kept k d) (All-filter (ends_behind bytes entry) (IsBetween bytes low high) others all k d below)
    (All-filter (ends_behind bytes entry) (AreDisjoint bytes entry) others apart k d below) (filter_passes (ends_behind bytes entry) others k d below)

fit_in : (bytes : List ℕ) (most low high : ℕ) (entries : List AttrEntry) → length entries ≤ most → low ≤ high → All (IsBetween bytes low high) entries → AllPairs (AreDisjoint bytes) entries → low + sum_by (name_size bytes) entries ≤ high
fit_in bytes most low high [] few order all pairs = omega arith
fit_in bytes zero low high (entry ∷ others) few order all pairs = absurd (omega arith)
fit_in bytes (suc most) low high (entry ∷ others) few order all pairs =
    let first = all 0 entry (omega arith) in
    let rest = All-tail (IsBetween bytes low high) entry others all in
    let apart = pairs_tail (AreDisjoint bytes) entry others pairs in
    let front = filter (ends_before bytes entry) others in
    let back = filter (ends_behind bytes entry) others in
    let lengths = length-filter_both (ends_before bytes entry) (ends_behind bytes entry) (λ one. refl) others in
    let sums = sum_by-filter_both (ends_before bytes entry) (ends_behind bytes entry) (λ one. refl) (name_size bytes) others in
    let one : low + sum_by (name_size bytes) front ≤ entry.place =
    fit_in bytes most low entry.place front (omega arith) first.behind (all_before bytes low high entry others rest) (AllPairs-filter (AreDisjoint bytes) (ends_before bytes entry) others apart) in
    let two : entry.place + name_size bytes entry + sum_by (name_size bytes) back ≤ high =
    fit_in bytes most (entry.place + name_size bytes entry) high back (omega arith) first.before
    (all_behind bytes low high entry others rest (pairs_head (AreDisjoint bytes) entry others pairs)) (AllPairs-filter (AreDisjoint bytes) (ends_behind bytes entry) others apart) in
    let cons = sum_by-cons (name_size bytes) entry others in
    omega (arith, cons, sums, one, two)

-- names between two places that lie apart
pub fit_between : (bytes : List ℕ) (low high : ℕ) (entries : List AttrEntry) → low ≤ high → All (IsBetween bytes low high) entries → AllPairs (AreDisjoint bytes) entries → low + sum_by (name_size bytes) entries ≤ high
fit_between bytes low high entries order all pairs = fit_in bytes (length entries) low high entries (omega arith) order all pairs
