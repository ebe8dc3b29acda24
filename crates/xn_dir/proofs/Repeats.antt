-- Names of which each stands once, by the hashes that stand more than once.
use Rattle.std.proofs.Common.{◌≡◌, ◌≢◌, ℕ, zero, suc, ◌+◌, ◌-◌, ◌<◌, ◌≤◌, Bool, true, false, eqb, List, [], ◌∷◌, ◌++◌, length, map, take, cond, get_or, refl, sym, ap, subst, ◌∙◌, arith, inl, inr}
use Rattle.std.specs.Prelude.{◌&&◌, ◌==◌, All, AllPairs, Contains, IsSortedBy, filter}
use Rattle.std.specs.List.Sorted.{IsBinarySearchResult, IsNonDecreasing}
use Rattle.std.specs.Ordering.{nat_cmp}
use Rattle.std.specs.Result.{is_ok}
use Rattle.std.specs.Prelude.{Result, Ok, Err}
use Rattle.std.proofs.lemmas.Bool.{cases_lt, cases_eq, eq-eqb}
use Rattle.std.proofs.Math.Seq.{get_or-append_right}
use Rattle.std.proofs.lemmas.List.{append-nil, map_push, get_or-map, get_or_default, length-map, length_push, get_or_append_left, get_or_push, length-append}
use Rattle.std.proofs.lemmas.List.Elements.{All-head, All-tail, Contains-append_left, Contains-push, filter_more}
use Rattle.std.proofs.lemmas.List.Folds.{list_any_at, list_any_none}
use Rattle.std.proofs.lemmas.List.Kept.{AllPairs-cons, AllPairs-filter}
use Rattle.std.proofs.lemmas.List.Sorted.{searched, sorted_far}
use Rattle.std.proofs.lemmas.Bool.Decides.{nat_tests}
use Rattle.xn_bytes.specs.Hashes.{name_hash_of}
use Rattle.xn_bytes.specs.DataBlock.{LeafEntry}
use Rattle.xn_bytes.proofs.NameOrder.{AllPairs-permutation}
use Rattle.xn_dir.specs.declared.listing.HashedName.{HashedName}
use Rattle.xn_dir.specs.declared.listing.Listed.{Listed}
use Rattle.xn_dir.specs.Compare.{comes_before}
use Rattle.xn_dir.specs.Listings.{name_of}
use Rattle.xn_dir.specs.Repeats.{AreRepeated, HaveHashes, has_hash_among, hash_of, is_among}
use Rattle.xn_dir.proofs.Comparing.{less_hash, no_both, ranks}

-- ---- the loop over leaf entries

-- none of these hashes is greater than that of the leaf entry before a place
abbrev pub AreLow : List LeafEntry → ℕ → List ℕ → Type 0
AreLow leaves next hashes = (k : ℕ) (d : LeafEntry) → k < length hashes → get_or hashes k 0 ≤ hash_of (get_or leaves (next - 1) d)

-- the hash of each two neighbours below a place that have one is among these
abbrev pub FoundBelow : List LeafEntry → ℕ → List ℕ → Type 0
FoundBelow leaves next hashes = (k : ℕ) (d : LeafEntry) → k + 1 < next → hash_of (get_or leaves (k + 1) d) ≡ hash_of (get_or leaves k d) → Contains hashes (hash_of (get_or leaves (k + 1) d))

-- what is known of the hashes that are repeated below a place
pub record RepeatsBelow (leaves : List LeafEntry) (next : ℕ) (hashes : List ℕ) : Type 0 where
  pub rising : IsNonDecreasing hashes
  pub low : AreLow leaves next hashes
  pub found : FoundBelow leaves next hashes

-- leaf entries in order rise by their hashes
pub hashes_rise : (leaves : List LeafEntry) → IsSortedBy comes_before leaves → (i j : ℕ) (d : LeafEntry) → i ≤ j → j < length leaves → hash_of (get_or leaves i d) ≤ hash_of (get_or leaves j d)
hashes_rise leaves sorted i j d lt within =
    elim (cases_lt (hash_of (get_or leaves j d)) (hash_of (get_or leaves i d))) [
      | inl less ↦ no_both _ (less_hash (get_or leaves j d) (get_or leaves i d) less) (sorted_far comes_before ranks leaves sorted i j d lt within)
      | inr le ↦ le
    ]

-- the hash of the leaf entry at a place
pub hash_at : (leaves : List LeafEntry) (i : ℕ) (leaf : LeafEntry) (hash : ℕ) → i < length leaves → leaf ≡ get_or leaves i leaf → hash_of leaf ≡ hash → (d : LeafEntry) → hash_of (get_or leaves i d) ≡ hash
hash_at leaves i leaf hash within is same d = ap (λ (l : LeafEntry). hash_of l) (get_or_default leaves i d leaf within ∙ sym is) ∙ same

-- hashes up to a place are low for the next
pub low_on : (leaves : List LeafEntry) (next : ℕ) (hashes : List ℕ) → IsSortedBy comes_before leaves → 1 ≤ next → next < length leaves → AreLow leaves next hashes → AreLow leaves (next + 1) hashes
low_on leaves next hashes sorted one within low k d h =
    let rise = hashes_rise leaves sorted (next - 1) next d (omega (arith, one)) within in
    let same : next + 1 - 1 ≡ next = omega arith in
    let first = low k d h in
    subst (λ (n : ℕ). get_or hashes k 0 ≤ hash_of (get_or leaves n d)) (sym same) (omega (arith, first, rise))

-- where the hash at a place is another than the one before
pub found_on : (leaves : List LeafEntry) (next : ℕ) (hashes : List ℕ) → 1 ≤ next → ((d : LeafEntry) → hash_of (get_or leaves next d) ≡ hash_of (get_or leaves (next - 1) d) → ⊥) → FoundBelow leaves next hashes
    → FoundBelow leaves (next + 1) hashes
found_on leaves next hashes one other found k d lt same =
    elim (cases_lt (k + 1) next) [
      | inl early ↦ found k d early same
      | inr late ↦
          let here : k + 1 ≡ next = omega (arith, late, lt) in
          let before : k ≡ next - 1 = omega (arith, here, one) in
          absurd (other d (ap (λ (n : ℕ). hash_of (get_or leaves n d)) (sym here) ∙ same ∙ ap (λ (n : ℕ). hash_of (get_or leaves n d)) before))
    ]

module _ (leaves : List LeafEntry) (next hash : ℕ) (hashes : List ℕ) (sorted : IsSortedBy comes_before leaves) (one : 1 ≤ next) (within : next < length leaves) (is : (d : LeafEntry) → hash_of (get_or leaves next d) ≡ hash)
    (same : (d : LeafEntry) → hash_of (get_or leaves next d) ≡ hash_of (get_or leaves (next - 1) d)) where
  pub rising_push : IsNonDecreasing hashes → AreLow leaves next hashes → IsNonDecreasing (hashes ++ hash ∷ [])
  rising_push rising low i j d le inside =
      let long = length_push hashes hash in
      let none : LeafEntry = record { hash = 0; address = 0 } in
      elim (cases_lt j (length hashes)) [
        | inl early ↦ rw (get_or_append_left hashes (hash ∷ []) d i (omega arith), get_or_append_left hashes (hash ∷ []) d j early) (rising i j d le early)
        | inr late ↦ elim (cases_eq i j) [
          | inl e ↦ omega (arith, ap (λ (n : ℕ). get_or (hashes ++ hash ∷ []) n d) e)
          | inr ne ↦
              let at_end : get_or (hashes ++ hash ∷ []) j d ≡ hash = get_or_push hashes hash d j (omega (arith, late, inside, long)) in
              let before : get_or (hashes ++ hash ∷ []) i d ≡ get_or hashes i d = get_or_append_left hashes (hash ∷ []) d i (omega (arith, le, inside, long, ne)) in
              let small = low i none (omega (arith, le, inside, long, ne)) in
              omega (arith, at_end, before, small, is none, same none, get_or_default hashes i d 0 (omega (arith, le, inside, long, ne)))
        ]
      ]

  pub low_push : AreLow leaves next hashes → AreLow leaves (next + 1) (hashes ++ hash ∷ [])
  low_push low k d h =
      let long = length_push hashes hash in
      let here : next + 1 - 1 ≡ next = omega arith in
      let most : get_or (hashes ++ hash ∷ []) k 0 ≤ hash_of (get_or leaves next d) = elim (cases_lt k (length hashes)) [
        | inl early ↦
            let small = low k d early in
            rw (get_or_append_left hashes (hash ∷ []) 0 k early) (omega (arith, small, same d))
        | inr late ↦ let at_end : get_or (hashes ++ hash ∷ []) k 0 ≡ hash = get_or_push hashes hash 0 k (omega (arith, late, h, long)) in omega (arith, at_end, is d)
      ] in
      subst (λ (n : ℕ). get_or (hashes ++ hash ∷ []) k 0 ≤ hash_of (get_or leaves n d)) (sym here) most

  pub found_push : FoundBelow leaves next hashes → FoundBelow leaves (next + 1) (hashes ++ hash ∷ [])
  found_push found k d lt equal =
      elim (cases_lt (k + 1) next) [
        | inl early ↦ Contains-append_left hashes (hash ∷ []) (hash_of (get_or leaves (k + 1) d)) (found k d early equal)
        | inr late ↦
            let here : k + 1 ≡ next = omega (arith, late, lt) in
            let hash_is : hash_of (get_or leaves (k + 1) d) ≡ hash = ap (λ (n : ℕ). hash_of (get_or leaves n d)) here ∙ is d in
            subst (Contains (hashes ++ hash ∷ [])) (sym hash_is) (Contains-push hashes hash)
      ]

  pub repeats_push : (after : List ℕ) → after ≡ hashes ++ hash ∷ [] → RepeatsBelow leaves next hashes → RepeatsBelow leaves (next + 1) after
  repeats_push after pushed so_far =
      subst (RepeatsBelow leaves (next + 1)) (sym pushed) (record { rising = rising_push so_far.rising so_far.low; low = low_push so_far.low; found = found_push so_far.found })

pub repeats_on : (leaves : List LeafEntry) (next : ℕ) (hashes : List ℕ) → IsSortedBy comes_before leaves → 1 ≤ next → next < length leaves → ((d : LeafEntry) → hash_of (get_or leaves next d) ≡ hash_of (get_or leaves (next - 1) d) → ⊥)
    → RepeatsBelow leaves next hashes → RepeatsBelow leaves (next + 1) hashes
repeats_on leaves next hashes sorted one within other so_far = record {
  rising = so_far.rising;
  low = low_on leaves next hashes sorted one within so_far.low;
  found = found_on leaves next hashes one other so_far.found;
}

pub none_repeat : (leaves : List LeafEntry) → RepeatsBelow leaves 1 []
none_repeat leaves = record {
  rising = λ i j d le within. absurd (omega arith);
  low = λ k d h. absurd (omega arith);
  found = λ k d lt same. absurd (omega (arith, lt));
}

-- ---- after the loop

among_where_contained : (hashes : List ℕ) (hash : ℕ) → Contains hashes hash → is_among hashes hash ≡ true
among_where_contained hashes hash c = list_any_at (λ other. other == hash) hashes c.0 hash c.1 (eq-eqb _ _ c.2)

pub are_repeated : (leaves : List LeafEntry) (next : ℕ) (hashes : List ℕ) → IsSortedBy comes_before leaves → length leaves ≤ next → FoundBelow leaves next hashes → AreRepeated (map hash_of leaves) hashes
are_repeated leaves next hashes sorted past found hash none i j d lt within a b =
    let inside : j < length leaves = rw (length-map leaves hash_of) at within in
    let e : LeafEntry = record { hash = d; address = 0 } in
    let first : hash_of (get_or leaves i e) ≡ hash = sym (get_or-map hash_of leaves i e d (omega (arith, lt, inside))) ∙ a in
    let last : hash_of (get_or leaves j e) ≡ hash = sym (get_or-map hash_of leaves j e d inside) ∙ b in
    let up = hashes_rise leaves sorted i (i + 1) e (omega arith) (omega (arith, lt, inside)) in
    let on = hashes_rise leaves sorted (i + 1) j e (omega (arith, lt)) inside in
    let behind : hash_of (get_or leaves (i + 1) e) ≡ hash = omega (arith, up, on, first, last) in
    let there : Contains hashes hash = subst (Contains hashes) behind (found i e (omega (arith, lt, inside, past)) (behind ∙ sym first)) in
    no_both _ (among_where_contained hashes hash there) none

-- ---- a search

unequal : (a b : ℕ) → (a ≡ b → ⊥) → eqb a b ≡ false
unequal a b ne = grind (arith, nat_tests)

pub found_among : (hashes : List ℕ) (hash : ℕ) (r : Result ℕ ℕ) → IsNonDecreasing hashes → IsBinarySearchResult (λ y. nat_cmp y hash) hashes r → is_ok r ≡ is_among hashes hash
found_among hashes hash (Ok i) up found =
    let at = searched hashes hash (Ok i) found (λ a b le lt. up a b 0 le lt) in
    sym (list_any_at (λ other. other == hash) hashes i 0 at.0 (eq-eqb _ _ at.1))
found_among hashes hash (Err i) up found =
    let at = searched hashes hash (Err i) found (λ a b le lt. up a b 0 le lt) in
    sym (list_any_none (λ other. other == hash) hashes
    (λ k d within. unequal (get_or hashes k d) hash (λ e.
    let same = get_or_default hashes k d 0 within in
    elim (cases_lt k i) [
      | inl early ↦ let less = at.1 k early in omega (arith, e, same, less)
      | inr late ↦ let more = at.2 k late within in omega (arith, e, same, more)
    ])))

-- ---- names

abbrev hashed_entry : Listed → List ℕ
hashed_entry entry = name_hash_of (name_of entry) ∷ name_of entry

abbrev in_one : HashedName → List ℕ
in_one name = name.hash ∷ name.name.now

-- one more entry whose name is kept, or isn't
pub kept_on : (hashes : List ℕ) (listed : List Listed) (i : ℕ) (entry : Listed) (before after : List HashedName) (one : HashedName) → i < length listed → get_or listed i entry ≡ entry
    → has_hash_among hashes entry ≡ true → one.hash ∷ one.name.now ≡ name_hash_of (name_of entry) ∷ name_of entry → after ≡ before ++ one ∷ []
    → map in_one before ≡ map (λ e. name_hash_of (name_of e) ∷ name_of e) (filter (has_hash_among hashes) (take i listed))
    → map in_one after ≡ map (λ e. name_hash_of (name_of e) ∷ name_of e) (filter (has_hash_among hashes) (take (i + 1) listed))
kept_on hashes listed i entry before after one within is kept same pushed so_far =
    let keep : Listed → Bool = has_hash_among hashes in
    let more : filter keep (take (i + 1) listed) ≡ filter keep (take i listed) ++ entry ∷ [] =
    filter_more keep listed i entry within ∙ ap (λ (e : Listed). filter keep (take i listed) ++ cond (keep e) (e ∷ []) []) is ∙ ap (λ (b : Bool). filter keep (take i listed) ++ cond b (entry ∷ []) []) kept in
    ap (λ (names : List HashedName). map in_one names) pushed
    ∙ map_push in_one before one
    ∙ ap (λ (names : List (List ℕ)). names ++ in_one one ∷ []) so_far
    ∙ ap (λ (name : List ℕ). map hashed_entry (filter keep (take i listed)) ++ name ∷ []) same
    ∙ sym (map_push hashed_entry (filter keep (take i listed)) entry)
    ∙ sym (ap (λ (entries : List Listed). map hashed_entry entries) more)

pub left_on : (hashes : List ℕ) (listed : List Listed) (i : ℕ) (entry : Listed) (names : List HashedName) → i < length listed → get_or listed i entry ≡ entry → has_hash_among hashes entry ≡ false
    → map in_one names ≡ map (λ e. name_hash_of (name_of e) ∷ name_of e) (filter (has_hash_among hashes) (take i listed))
    → map in_one names ≡ map (λ e. name_hash_of (name_of e) ∷ name_of e) (filter (has_hash_among hashes) (take (i + 1) listed))
left_on hashes listed i entry names within is out so_far =
    let keep : Listed → Bool = has_hash_among hashes in
    let same : filter keep (take (i + 1) listed) ≡ filter keep (take i listed) =
    filter_more keep listed i entry within ∙ ap (λ (e : Listed). filter keep (take i listed) ++ cond (keep e) (e ∷ []) []) is ∙ ap (λ (b : Bool). filter keep (take i listed) ++ cond b (entry ∷ []) []) out
    ∙ append-nil (filter keep (take i listed)) in
    so_far ∙ sym (ap (λ (entries : List Listed). map hashed_entry entries) same)

-- two names differ
abbrev pub Differ : Listed → Listed → Type 0
Differ a b = name_of a ≢ name_of b

pub differ_listed : (listed : List Listed) → AllPairs (λ a b. a ≢ b) (map name_of listed) → AllPairs Differ listed
differ_listed listed once i j d lt within =
    let inside : j < length (map name_of listed) = rw (length-map listed name_of) within in
    λ e. once i j (name_of d) lt inside (get_or-map name_of listed i d (name_of d) (omega (arith, lt, within)) ∙ e ∙ sym (get_or-map name_of listed j d (name_of d) within))

pub differ_names : (listed : List Listed) → AllPairs Differ listed → AllPairs (λ a b. a ≢ b) (map name_of listed)
differ_names [] once i j d lt within = absurd (omega arith)
differ_names (entry ∷ listed) once i j d lt within =
    let inside : j < length (entry ∷ listed) = rw (length-map (entry ∷ listed) name_of) at within in
    λ e. once i j entry lt inside (sym (get_or-map name_of (entry ∷ listed) i entry d (omega (arith, lt, inside))) ∙ e ∙ get_or-map name_of (entry ∷ listed) j entry d inside)

filter-keeps : {X : Type 0} (keep : X → Bool) (x : X) (xs : List X) → keep x ≡ true → filter keep (x ∷ xs) ≡ x ∷ filter keep xs
filter-keeps keep x xs e = rw e refl

filter-drops : {X : Type 0} (keep : X → Bool) (x : X) (xs : List X) → keep x ≡ false → filter keep (x ∷ xs) ≡ filter keep xs
filter-drops keep x xs e = rw e refl

-- where some of them are kept, and a fact holds of each two of which one is left out, it holds of all where it does of those kept
kept_all : {X : Type 0} (keep : X → Bool) (P : X → Type 0) (xs : List X) → All P (filter keep xs) → (k : ℕ) (d : X) → k < length xs → keep (get_or xs k d) ≡ true → P (get_or xs k d)
kept_all keep P [] all k d within kept = absurd (omega arith)
kept_all keep P (x ∷ xs) all zero d within kept = All-head P x (filter keep xs) (subst (All P) (filter-keeps keep x xs kept) all)
kept_all keep P (x ∷ xs) all (suc k) d within kept =
    let rest : All P (filter keep xs) = kept_tail (keep x) refl in
    kept_all keep P xs rest k d (omega arith) kept
  where
    kept_tail : (b : Bool) → keep x ≡ b → All P (filter keep xs)
    kept_tail true e = All-tail P x (filter keep xs) (subst (All P) (filter-keeps keep x xs e) all)
    kept_tail false e = subst (All P) (filter-drops keep x xs e) all

module _ {X : Type 0} (R : X → X → Type 0) (keep : X → Bool) where
  pairs_tail : (x : X) (xs : List X) → AllPairs R (x ∷ xs) → AllPairs R xs
  pairs_tail x xs pairs i j d lt within = pairs (suc i) (suc j) d (omega arith) (omega arith)

  pairs_head : (x : X) (xs : List X) → AllPairs R (x ∷ xs) → All (R x) xs
  pairs_head x xs pairs k d within = pairs zero (suc k) d (omega arith) (omega arith)

  of_other : (x : X) (xs : List X) → keep x ≡ true → All (R x) (filter keep xs) → AllPairs (λ a b. (keep a && keep b) ≡ false → R a b) (x ∷ xs) → (k : ℕ) (d : X) → k < length xs → (b : Bool) → keep (get_or xs k d) ≡ b → R x (get_or xs k d)
  of_other x xs kept all left k d within true kept_too = kept_all keep (R x) xs all k d within kept_too
  of_other x xs kept all left k d within false out = left zero (suc k) d (omega arith) (omega arith) (rw (kept, out) refl)

  in_front : (x : X) (xs : List X) → AllPairs R (filter keep (x ∷ xs)) → AllPairs (λ a b. (keep a && keep b) ≡ false → R a b) (x ∷ xs) → (AllPairs R (filter keep xs) → AllPairs R xs) → (b : Bool) → keep x ≡ b → AllPairs R (x ∷ xs)
  in_front x xs kept left rest false e =
      AllPairs-cons R x xs (λ k d within. left zero (suc k) d (omega arith) (omega arith) (rw e refl)) (rest (subst (AllPairs R) (filter-drops keep x xs e) kept))
  in_front x xs kept left rest true e =
      let those : AllPairs R (x ∷ filter keep xs) = subst (AllPairs R) (filter-keeps keep x xs e) kept in
      AllPairs-cons R x xs (λ k d within. of_other x xs e (pairs_head x (filter keep xs) those) left k d within (keep (get_or xs k d)) refl) (rest (pairs_tail x (filter keep xs) those))

  pub from_kept : (xs : List X) → AllPairs R (filter keep xs) → AllPairs (λ a b. (keep a && keep b) ≡ false → R a b) xs → AllPairs R xs
  from_kept [] kept left = λ i j d lt within. absurd (omega arith)
  from_kept (x ∷ xs) kept left =
      in_front x xs kept left (λ those. from_kept xs those (λ i j d lt within. left (suc i) (suc j) d (omega arith) (omega arith))) (keep x) refl

-- neither of two is a hash, or they would be one
apart_flip : (hash a b : ℕ) → (a ≡ hash → b ≡ hash → ⊥) → b ≡ hash → a ≡ hash → ⊥
apart_flip hash a b apart e f = apart f e

module _ (leaves : List LeafEntry) (repeated : List ℕ) (listed : List Listed) (are : AreRepeated (map hash_of leaves) repeated) (have : HaveHashes leaves (map name_of listed)) where
  -- a name whose hash isn't repeated stands once
  alone : (i j : ℕ) (d : Listed) → i < j → j < length listed → is_among repeated (name_hash_of (name_of (get_or listed i d))) ≡ false → Differ (get_or listed i d) (get_or listed j d)
  alone i j d lt within none e =
      let hash : ℕ = name_hash_of (name_of (get_or listed i d)) in
      let names : List (List ℕ) = map name_of listed in
      let all : List ℕ = have.others ++ map name_hash_of names in
      let apart : AllPairs (λ a b. a ≡ hash → b ≡ hash → ⊥) all =
      AllPairs-permutation (λ a b. a ≡ hash → b ≡ hash → ⊥) (apart_flip hash) (map hash_of leaves) all have.same (are hash none) in
      let n : ℕ = length have.others in
      let long : length all ≡ n + length listed = length-append have.others (map name_hash_of names) ∙ ap (λ (m : ℕ). n + m) (length-map names name_hash_of ∙ length-map listed name_of) in
      apart (n + i) (n + j) 0 (omega (arith, lt)) (omega (arith, long, within)) (at i (omega (arith, lt, within))) (at j within ∙ ap name_hash_of (sym e))
    where
      at : (k : ℕ) → k < length listed → get_or (have.others ++ map name_hash_of (map name_of listed)) (length have.others + k) 0 ≡ name_hash_of (name_of (get_or listed k d))
      at k inside =
          let over : length have.others + k - length have.others ≡ k = omega arith in
          get_or-append_right have.others (map name_hash_of (map name_of listed)) (length have.others + k) 0 (omega arith)
          ∙ ap (λ (m : ℕ). get_or (map name_hash_of (map name_of listed)) m 0) over
          ∙ get_or-map name_hash_of (map name_of listed) k (name_of d) 0 (rw (length-map listed name_of) inside)
          ∙ ap name_hash_of (get_or-map name_of listed k d (name_of d) inside)

  left_out : AllPairs (λ a b. (has_hash_among repeated a && has_hash_among repeated b) ≡ false → Differ a b) listed
  left_out i j d lt within out e =
      alone i j d lt within (one_false (has_hash_among repeated (get_or listed i d)) (subst (λ (name : List ℕ). (has_hash_among repeated (get_or listed i d) && is_among repeated (name_hash_of name)) ≡ false) (sym e) out)) e
    where
      one_false : (b : Bool) → (b && b) ≡ false → b ≡ false
      one_false true f = f
      one_false false f = refl

  pub once_where_kept : AllPairs (λ a b. a ≢ b) (map name_of (filter (has_hash_among repeated) listed)) → AllPairs (λ a b. a ≢ b) (map name_of listed)
  once_where_kept once =
      differ_names listed (from_kept Differ (has_hash_among repeated) listed (differ_listed (filter (has_hash_among repeated) listed) once) left_out)

-- and where each name stands once, so does each of those
pub kept_where_once : (repeated : List ℕ) (listed : List Listed) → AllPairs (λ a b. a ≢ b) (map name_of listed) → AllPairs (λ a b. a ≢ b) (map name_of (filter (has_hash_among repeated) listed))
kept_where_once repeated listed once =
    differ_names (filter (has_hash_among repeated) listed) (AllPairs-filter Differ (has_hash_among repeated) listed (differ_listed listed once))
