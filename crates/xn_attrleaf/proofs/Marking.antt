-- Bytes of names marked one name after the other.
use Rattle.std.proofs.Common.{◌≡◌, ◌≢◌, ◌⊎◌, inl, inr, ℕ, zero, suc, ◌+◌, ◌-◌, ◌*◌, ◌<◌, ◌≤◌, List, [], ◌∷◌, length, get_or, take, drop, replicate, refl, sym, ap, subst, ◌∙◌, append_assoc, arith}
use Rattle.std.specs.Prelude.{All, AllPairs, slice_index, slice_range}
use Rattle.std.proofs.lemmas.List.{length-replicate, get_or-replicate, drop-drop}
use Rattle.std.proofs.lemmas.List.Elements.{All-cons, All-nil}
use Rattle.std.proofs.lemmas.Bool.{cases_eq, cases_lt}
use borrow.Rule.Slice.PartMut.{put_mid}
use Rattle.xn_bytes.specs.Numbers.{number_at, overlaid}
use Rattle.xn_bytes.specs.AttributeLeaves.{AreDisjoint, AttrEntry, attr_entries, attr_entry_at, name_size}
use Rattle.xn_bytes.proofs.Overlays.{get_or-overlaid-above, get_or-overlaid-below, get_or-overlaid-there, get_or-slice_range, length-overlaid, length-slice_range}
use Rattle.xn_attrleaf.specs.Marks.{Takes, IsTaken}
use Rattle.xn_attrleaf.specs.EntriesRead.{count_entries, entry_is, some_bytes}

-- ---- the marks of one name

put_over : (a k : ℕ) (xs ys : List ℕ) → length ys ≡ k → put_mid a k xs ys ≡ overlaid xs a ys
put_over a k xs ys e =
    let rest : drop k (drop a xs) ≡ drop (a + length ys) xs = rw (drop-drop, e) refl in
    rw rest (sym (append_assoc (take a xs) ys (drop (a + length ys) xs)))

free_there : (xs : List ℕ) (from to k : ℕ) → to ≤ length xs → All (λ mark. mark ≡ 0) (slice_range xs from to) → from ≤ k → k < to → slice_index xs k ≡ 0
free_there xs from to k whole free low high =
    let back : from + (k - from) ≡ k = omega arith in
    let there : get_or (slice_range xs from to) (k - from) 0 ≡ get_or xs k 0 = get_or-slice_range xs from to (k - from) 0 (omega arith) ∙ ap (λ (i : ℕ). get_or xs i 0) back in
    let zero = free (k - from) 0 (omega (arith, length-slice_range xs from to whole)) in
    sym there ∙ zero

pub takes : (from to : ℕ) (xs ys : List ℕ) → from ≤ to → to ≤ length xs → All (λ mark. mark ≡ 0) (slice_range xs from to) → ys ≡ replicate (length (slice_range xs from to)) 1 → Takes from to xs (put_mid from (to - from) xs ys)
takes from to xs ys order whole free filled =
    let width : length (slice_range xs from to) ≡ to - from = length-slice_range xs from to whole in
    let many : length ys ≡ to - from = ap length filled ∙ length-replicate (length (slice_range xs from to)) 1 ∙ width in
    let over = put_over from (to - from) xs ys many in
    record {
      whole = ap length over ∙ length-overlaid xs from ys (omega arith);
      free = λ k low high. free_there xs from to k whole free low high;
      marked = λ k low high is.
          let one : get_or ys (k - from) 0 ≡ 1 = ap (λ (zs : List ℕ). get_or zs (k - from) 0) filled ∙ get_or-replicate (length (slice_range xs from to)) (k - from) 1 0 (omega arith) in
          let there : get_or (put_mid from (to - from) xs ys) k 0 ≡ 1 =
          ap (λ (zs : List ℕ). get_or zs k 0) over ∙ get_or-overlaid-there xs from ys k 0 low (omega arith) (omega arith) ∙ one in
          omega (arith, there, is);
      others = λ k apart.
          let stays : get_or (overlaid xs from ys) k 0 ≡ get_or xs k 0 =
          elim apart [
            | inl below ↦ get_or-overlaid-below xs from ys k 0 below (omega arith)
            | inr above ↦ get_or-overlaid-above xs from ys k 0 (omega arith) (omega arith)
          ] in
          ap (λ (zs : List ℕ). get_or zs k 0) over ∙ stays;
    }

-- where not all are free, one is taken
one_taken : (xs : List ℕ) → (All (λ mark. mark ≡ 0) xs → ⊥) → (k : ℕ) × (k < length xs) × (get_or xs k 0 ≢ 0)
one_taken [] not_all = absurd (not_all (All-nil (λ mark. mark ≡ 0)))
one_taken (x ∷ xs) not_all = elim (cases_eq x 0) [
  | inl free ↦
      let rest = one_taken xs (λ all. not_all (All-cons (λ mark. mark ≡ 0) x xs free all)) in
      (suc rest.0, omega (arith, rest.1), rest.2)
  | inr other ↦ (0, omega arith, other)
]

pub taken_there : (from to : ℕ) (xs : List ℕ) → to ≤ length xs → (All (λ mark. mark ≡ 0) (slice_range xs from to) → ⊥) → IsTaken from to xs
taken_there from to xs whole not_all =
    let one = one_taken (slice_range xs from to) not_all in
    let width = length-slice_range xs from to whole in
    let high : one.0 < to - from = omega (arith, one.1) in
    record {
      place = from + one.0;
      low = omega arith;
      high = omega arith;
      marked = λ zero. one.2 (get_or-slice_range xs from to one.0 0 high ∙ zero);
    }

-- ---- the marks of all

abbrev pub entry_of : List ℕ → ℕ → AttrEntry
entry_of bytes k = attr_entry_at (80 + 8 * k) bytes

-- the byte is one of the name of an entry
pub record Covers (bytes : List ℕ) (entry : AttrEntry) (k : ℕ) : Type 0 where
  pub low : entry.place ≤ k
  pub high : k < entry.place + name_size bytes entry

-- the first entry that covers a byte
pub record CoveredBy (bytes : List ℕ) (n k : ℕ) : Type 0 where
  pub index : ℕ
  pub below : index < n
  pub covers : Covers bytes (entry_of bytes index) k

-- The names of the first entries lie apart, and their bytes are marked, and no others.
pub record AreMarked (bytes : List ℕ) (n : ℕ) (marks : List ℕ) : Type 0 where
  pub whole : length marks ≡ 4096
  pub marked : (i k : ℕ) → i < n → Covers bytes (entry_of bytes i) k → slice_index marks k ≢ 0
  pub by : (k : ℕ) → slice_index marks k ≢ 0 → CoveredBy bytes n k
  pub apart : (i j : ℕ) → i < j → j < n → AreDisjoint bytes (entry_of bytes i) (entry_of bytes j)

zeros : (n k : ℕ) → slice_index (replicate n 0) k ≡ 0
zeros zero k = refl
zeros (suc n) zero = refl
zeros (suc n) (suc k) = zeros n k

pub none_marked : (bytes marks : List ℕ) → marks ≡ replicate 4096 0 → AreMarked bytes 0 marks
none_marked bytes marks are = record {
  whole = ap length are ∙ length-replicate {A = ℕ} 4096 0;
  marked = λ i k below covers. absurd (omega arith);
  by = λ k marked. absurd (marked (ap (λ (zs : List ℕ). slice_index zs k) are ∙ zeros 4096 k));
  apart = λ i j low high. absurd (omega arith);
}

-- a place is within two bounds or beyond one of them
either : (from to k : ℕ) → ((from ≤ k) × (k < to)) ⊎ ((k < from) ⊎ (to ≤ k))
either from to k = elim (cases_lt k from) [
  | inl below ↦ inr (inl below)
  | inr low ↦ elim (cases_lt k to) [
    | inl high ↦ inl (low, high)
    | inr above ↦ inr (inr above)
  ]
]

-- one name lies apart from another where none of its bytes is one of the other's
apart_from : (bytes : List ℕ) (a b : AttrEntry) → ((k : ℕ) → Covers bytes a k → Covers bytes b k → ⊥) → AreDisjoint bytes a b
apart_from bytes a b none = elim (cases_lt b.place (a.place + name_size bytes a)) [
  | inr before ↦ inl before
  | inl low ↦ elim (cases_lt a.place (b.place + name_size bytes b)) [
    | inr behind ↦ inr behind
    | inl high ↦
        let some_a = some_bytes bytes a in
        let some_b = some_bytes bytes b in
        elim (cases_lt b.place a.place) [
          | inl further ↦ absurd (none a.place (record { low = omega arith; high = omega arith }) (record { low = omega arith; high = high }))
          | inr not_further ↦ absurd (none b.place (record { low = not_further; high = low }) (record { low = omega arith; high = omega arith }))
        ]
  ]
]

not_apart : (bytes : List ℕ) (a b : AttrEntry) (k : ℕ) → Covers bytes a k → Covers bytes b k → AreDisjoint bytes a b → ⊥
not_apart bytes a b k x y apart = elim apart [
  | inl before ↦ omega (arith, x.low, x.high, y.low, y.high)
  | inr behind ↦ omega (arith, x.low, x.high, y.low, y.high)
]

-- one more name, of which no byte was marked
pub more_marked : (bytes : List ℕ) (n from to : ℕ) (entry : AttrEntry) (old new : List ℕ) → entry ≡ entry_of bytes n → from ≡ entry.place → to ≡ entry.place + name_size bytes entry
    → Takes from to old new → AreMarked bytes n old → AreMarked bytes (n + 1) new
more_marked bytes n from to entry old new is is_from is_to takes before = record {
  whole = takes.whole ∙ before.whole;
  marked = λ i k below covers.
      elim (either from to k) [
        | inl there ↦ takes.marked k there.0 there.1
        | inr beyond ↦
            let stays = takes.others k beyond in
            elim (cases_lt i n) [
              | inl low ↦ λ zero. before.marked i k low covers (sym stays ∙ zero)
              | inr last ↦
                  let same : i ≡ n = omega arith in
                  let here : Covers bytes entry k = subst (λ (one : AttrEntry). Covers bytes one k) (ap (entry_of bytes) same ∙ sym is) covers in
                  absurd (elim beyond [
                    | inl low ↦ omega (arith, here.low)
                    | inr high ↦ omega (arith, here.high)
                  ])
            ]
      ];
  by = λ k marked.
      elim (either from to k) [
        | inl there ↦ record {
          index = n;
          below = omega arith;
          covers = subst (λ (one : AttrEntry). Covers bytes one k) is (record { low = omega (arith, there.0); high = omega (arith, there.1) });
        }
        | inr beyond ↦
            let one = before.by k (λ zero. marked (takes.others k beyond ∙ zero)) in
            record { index = one.index; below = omega (arith, one.below); covers = one.covers }
      ];
  apart = λ i j low high.
      elim (cases_lt j n) [
        | inl within ↦ before.apart i j low within
        | inr last ↦
            let same : j ≡ n = omega arith in
            subst (λ (one : AttrEntry). AreDisjoint bytes (entry_of bytes i) one) (is ∙ ap (entry_of bytes) (sym same))
            (apart_from bytes (entry_of bytes i) entry
            (λ k x y. before.marked i k (omega arith) x (takes.free k (omega (arith, y.low)) (omega (arith, y.high)))))
      ];
}

-- a name of which a byte was marked
pub overlaps : (bytes : List ℕ) (n from to : ℕ) (entry : AttrEntry) (marks : List ℕ) → n < number_at 2 56 bytes → entry ≡ entry_of bytes n → from ≡ entry.place → to ≡ entry.place + name_size bytes entry
    → IsTaken from to marks → AreMarked bytes n marks → AllPairs (AreDisjoint bytes) (attr_entries bytes) → ⊥
overlaps bytes n from to entry marks below is is_from is_to taken before pairs =
    let count = number_at 2 56 bytes in
    let many = count_entries count 80 bytes in
    let one = before.by taken.place taken.marked in
    let first : get_or (attr_entries bytes) one.index entry ≡ entry_of bytes one.index = entry_is count 80 one.index bytes entry (omega (arith, one.below)) in
    let second : get_or (attr_entries bytes) n entry ≡ entry = entry_is count 80 n bytes entry below ∙ sym is in
    let apart = pairs one.index n entry one.below (omega (arith, many)) in
    let both : AreDisjoint bytes (entry_of bytes one.index) entry =
    subst (λ (x : AttrEntry). AreDisjoint bytes (entry_of bytes one.index) x) second (subst (λ (x : AttrEntry). AreDisjoint bytes x (get_or (attr_entries bytes) n entry)) first apart) in
    not_apart bytes (entry_of bytes one.index) entry taken.place one.covers (record { low = omega (arith, taken.low); high = omega (arith, taken.high) }) both

pub all_apart : (bytes : List ℕ) (n : ℕ) (marks : List ℕ) → number_at 2 56 bytes ≤ n → AreMarked bytes n marks → AllPairs (AreDisjoint bytes) (attr_entries bytes)
all_apart bytes n marks many all i j d low high =
    let count = number_at 2 56 bytes in
    let within : j < count = omega (arith, count_entries count 80 bytes) in
    let first : entry_of bytes i ≡ get_or (attr_entries bytes) i d = sym (entry_is count 80 i bytes d (omega arith)) in
    let second : entry_of bytes j ≡ get_or (attr_entries bytes) j d = sym (entry_is count 80 j bytes d within) in
    subst (λ (x : AttrEntry). AreDisjoint bytes x (get_or (attr_entries bytes) j d)) first
    (subst (λ (x : AttrEntry). AreDisjoint bytes (entry_of bytes i) x) second (all.apart i j low (omega arith)))
