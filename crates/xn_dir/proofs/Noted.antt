-- Bests that are noted in rising order, and those that stand in blocks.
use Rattle.std.proofs.Common.{inl, inr, ◌≡◌, ◌≢◌, ℕ, zero, suc, ◌+◌, ◌*◌, ◌/◌, ◌<◌, ◌≤◌, Bool, true, false, ltb, ltb-true, ltb-false, List, [], ◌∷◌, length, get_or, map, refl, sym, ap, subst, ◌∙◌, arith, slice_get}
use Rattle.std.specs.Prelude.{◌↔◌, ◌-◌, ◌==◌, if◌then◌else◌, All, IsTrue, Option, Some, None, IsSome, slice_index, unwrap_or}
use Rattle.std.specs.List.{AllAdjacentBelow}
use Rattle.std.specs.List.Sorted.{IsNonDecreasingBy, IsPartitionPoint}
use Rattle.std.proofs.lemmas.Bool.{cases_lt}
use Rattle.std.proofs.lemmas.List.{get_or-map, length-map}
use Rattle.std.proofs.lemmas.List.Elements.{All-map}
use Rattle.std.proofs.lemmas.Bool.Decides.{nat_tests}
use Rattle.std.proofs.lemmas.Grind.{common_steps}
use Rattle.std.proofs.lemmas.List.Sorted.{IsNonDecreasingBy-from_all_adjacent}
use Rattle.xn_bytes.specs.Superblock.{Geometry}
use Rattle.xn_bytes.specs.Extents.{Run, mapped}
use Rattle.xn_bytes.specs.HashedTree.{LeafTailHolds, bests_at, free_file_block, no_best}
use Rattle.xn_bytes.specs.DirectoryForms.{IsGreatestData}
use Rattle.xn_bytes.specs.LeafForms.{AreData, DirFork, HasFreeIndexes, HasLeafBests, Placed, best_for, best_of}
use Rattle.xn_dir.specs.declared.bests.Best.{Best}
use Rattle.xn_dir.specs.Bests.{AreNoted, AreRising, IsNotedIndex, noted, noted_at, noted_for}

-- ---- the search

pub numbers_rise : (bests : List Best) → AreRising bests → IsNonDecreasingBy (λ best. best.number) bests
numbers_rise bests rising = IsNonDecreasingBy-from_all_adjacent (λ (best : Best). best.number) bests (λ k d h. let less = rising k d h in omega (arith, less))

rising_tail : (best : Best) (bests : List Best) → AreRising (best ∷ bests) → AreRising bests
rising_tail best bests rising k d h =
    let next : suc k + 1 ≡ suc (k + 1) = omega arith in
    subst (λ (n : ℕ). (get_or bests k d).number < (get_or (best ∷ bests) n d).number) next (rising (suc k) d (omega arith))

none_noted : (number : ℕ) (bests : List Best) → ((k : ℕ) (d : Best) → k < length bests → number < (get_or bests k d).number) → noted_for number bests ≡ None
none_noted number [] above = refl
none_noted number (best ∷ bests) above =
    let high : number < best.number = above 0 best (omega arith) in
    let rest : noted_for number bests ≡ None = none_noted number bests (λ k d h. above (suc k) d (omega arith)) in
    grind (arith, nat_tests, common_steps, rest)

behind_first : (best : Best) (bests : List Best) (k : ℕ) (d : Best) → AreRising (best ∷ bests) → k < length bests → best.number < (get_or bests k d).number
behind_first best [] k d rising h = absurd (omega arith)
behind_first best (next ∷ bests) zero d rising h = rising 0 d (omega arith)
behind_first best (next ∷ bests) (suc k) d rising h =
    let one : best.number < next.number = rising 0 d (omega arith) in
    let rest : next.number < (get_or bests k d).number = behind_first next bests k d (rising_tail best (next ∷ bests) rising) (omega arith) in
    omega (arith, one, rest)

found_at : (bests : List Best) (i number : ℕ) → AreRising bests
    → ((k : ℕ) (d : Best) → k < i → k < length bests → (get_or bests k d).number < number)
    → ((k : ℕ) (d : Best) → i ≤ k → k < length bests → number ≤ (get_or bests k d).number)
    → noted_for number bests ≡ noted_at number (slice_get bests i)
found_at [] zero number rising before behind = refl
found_at [] (suc i) number rising before behind = refl
found_at (best ∷ bests) zero number rising before behind =
    let low : number ≤ best.number = behind 0 best (omega arith) (omega arith) in
    let rest : noted_for number bests ≡ None =
    none_noted number bests (λ k d h. let one = behind_first best bests k d rising h in omega (arith, low, one)) in
    ap (λ (o : Option ℕ). if best.number == number then Some best.best else o) rest
found_at (best ∷ bests) (suc i) number rising before behind =
    let less : best.number < number = before 0 best (omega arith) (omega arith) in
    let rest : noted_for number bests ≡ noted_at number (slice_get bests i) =
    found_at bests i number (rising_tail best bests rising) (λ k d h1 h2. before (suc k) d (omega arith) (omega arith)) (λ k d h1 h2. behind (suc k) d (omega arith) (omega arith)) in
    grind (arith, nat_tests, common_steps, rest)

-- what a binary search finds
pub searched : (bests : List Best) (at number : ℕ) → AreRising bests
    → IsPartitionPoint (λ best. ltb best.number number ≡ true) (λ best. ltb best.number number ≡ false) bests at
    → noted_for number bests ≡ noted_at number (slice_get bests at)
searched bests at number rising point =
    found_at bests at number rising
    (λ k d h below. ltb-true _ _ (point.0 k d (omega arith) h))
    (λ k d h below. ltb-false _ _ (point.1 k d h below))

one_there : (bests : List Best) (i : ℕ) (best : Best) → i < length bests → best ≡ get_or bests i best → slice_get bests i ≡ Some best
one_there [] i best h e = absurd (omega arith)
one_there (first ∷ bests) zero best h e = ap Some (sym e)
one_there (first ∷ bests) (suc i) best h e = one_there bests i best (omega arith) e

past_end : (bests : List Best) (i : ℕ) → length bests ≤ i → slice_get bests i ≡ None
past_end [] zero h = refl
past_end [] (suc i) h = refl
past_end (best ∷ bests) zero h = absurd (omega arith)
past_end (best ∷ bests) (suc i) h = past_end bests i (omega arith)

-- the answer, where that one is of the number, where it is not, and where there is none
pub is_there : (bests : List Best) (at number : ℕ) (best : Best) → noted_for number bests ≡ noted_at number (slice_get bests at)
    → at < length bests → best ≡ get_or bests at best → best.number ≡ number → Some best.best ≡ noted_for number bests
is_there bests at number best e h is same =
    let by : noted_at number (Some best) ≡ Some best.best = grind (arith, nat_tests, common_steps) in
    sym (e ∙ ap (noted_at number) (one_there bests at best h is) ∙ by)

pub is_other : (bests : List Best) (at number : ℕ) (best : Best) → noted_for number bests ≡ noted_at number (slice_get bests at)
    → at < length bests → best ≡ get_or bests at best → best.number ≢ number → None ≡ noted_for number bests
is_other bests at number best e h is other =
    let by : noted_at number (Some best) ≡ None = grind (arith, nat_tests, common_steps) in
    sym (e ∙ ap (noted_at number) (one_there bests at best h is) ∙ by)

pub is_none : (bests : List Best) (at number : ℕ) → noted_for number bests ≡ noted_at number (slice_get bests at) → length bests ≤ at → None ≡ noted_for number bests
is_none bests at number e h = sym (e ∙ ap (noted_at number) (past_end bests at h))

-- ---- what is noted of data blocks

noted_same : (number : ℕ) (data_blocks : List Placed) → noted_for number (map noted data_blocks) ≡ best_for number data_blocks
noted_same number [] = refl
noted_same number (placed ∷ others) = ap (λ (o : Option ℕ). if placed.number == number then Some (best_of placed) else o) (noted_same number others)

noted_rise : (data_blocks : List Placed) → AllAdjacentBelow (λ a b. a.number < b.number) data_blocks (length data_blocks) → AreRising (map noted data_blocks)
noted_rise [] rising k d h = absurd (omega arith)
noted_rise (placed ∷ others) rising k d h =
    let within : k + 1 < length (placed ∷ others) = rw (← length-map (placed ∷ others) noted) h in
    rw (get_or-map noted (placed ∷ others) k placed d (omega arith), get_or-map noted (placed ∷ others) (k + 1) placed d within) (rising k placed within)

pub best_same : (number : ℕ) (data_blocks : List Placed) (bests : List Best) → map noted data_blocks ≡ bests → noted_for number bests ≡ best_for number data_blocks
best_same number data_blocks bests e = ap (noted_for number) (sym e) ∙ noted_same number data_blocks

pub data_rise : (d : DirFork) (data_blocks : List Placed) (bests : List Best) → AreData d data_blocks → map noted data_blocks ≡ bests → AreRising bests
data_rise d data_blocks bests are e = subst AreRising e (noted_rise data_blocks are.rising)

-- ---- the single leaf

one_tail : (bytes some others : List ℕ) → LeafTailHolds bytes some → LeafTailHolds bytes others → some ≡ others
one_tail bytes some others a b =
    let count : length some ≡ length others = sym a.counted ∙ b.counted in
    a.are ∙ ap (λ (n : ℕ). bests_at n (4092 - 2 * n) bytes) count ∙ sym b.are

not_both : (o : Option ℕ) → o ≡ None → IsSome o → ⊥
not_both None none some = absurd cc
not_both (Some x) none some = absurd cc

one_last : (runs : List Run) (m n : ℕ) → IsGreatestData runs m → IsGreatestData runs n → m ≡ n
one_last runs m n a b =
    elim (cases_lt m n) [
      | inl lt ↦ absurd (not_both (mapped runs n) (a.last n lt b.is_data) b.is_mapped)
      | inr le ↦ elim (cases_lt n m) [ inl lt ↦ absurd (not_both (mapped runs m) (b.last m lt a.is_data) a.is_mapped) | inr other ↦ omega arith ]
    ]

pub leaf_bests : (d : DirFork) (block : ℕ) (data_blocks : List Placed) (leaf : List ℕ) (last : ℕ) (bests : List Best) (found : List ℕ) (answer : Bool) → LeafTailHolds leaf found
    → (AreRising bests → IsTrue answer ↔ AreNoted last bests found) → d.blocks block ≡ leaf → IsGreatestData d.runs last → AreData d data_blocks → map noted data_blocks ≡ bests
    → IsTrue answer ↔ HasLeafBests d data_blocks block
leaf_bests d block data_blocks leaf last bests found answer tail tells same greatest are e =
    let told = tells (data_rise d data_blocks bests are e) in
    let here : LeafTailHolds (d.blocks block) found = subst (λ (bytes : List ℕ). LeafTailHolds bytes found) (sym same) tail in (
      λ t.
          let right = told.0 t in
          record {
            bests = found;
            tail = here;
            last = last;
            is_last = greatest;
            count = right.count;
            each = λ number h. right.each number h ∙ ap (λ (o : Option ℕ). unwrap_or o no_best) (best_same number data_blocks bests e);
          },
      λ has.
          let these : has.bests ≡ found = one_tail (d.blocks block) has.bests found has.tail here in
          let there : has.last ≡ last = one_last d.runs has.last last has.is_last greatest in
          told.1 (record {
            count = ap length (sym these) ∙ has.count ∙ ap (λ (n : ℕ). n + 1) there;
            each = λ number h.
                ap (λ (xs : List ℕ). slice_index xs number) (sym these)
                ∙ has.each number (subst (λ (xs : List ℕ). number < length xs) (sym these) h)
                ∙ sym (ap (λ (o : Option ℕ). unwrap_or o no_best) (best_same number data_blocks bests e));
          }),
    )

-- ---- free-index blocks

-- the free-index block of each data block is mapped
abbrev pub AreMapped : List Run → List Best → Type 0
AreMapped runs bests = All (λ best. IsSome (mapped runs (free_file_block + best.number / 2016))) bests

-- each free-index block that is mapped is one
abbrev pub AreIndexes : Geometry → ℕ → List Run → List Best → (ℕ → List ℕ) → Type 0
AreIndexes g dir runs bests blocks = (index block : ℕ) → mapped runs (free_file_block + index) ≡ Some block → IsNotedIndex g dir bests index block (blocks block)

mapped_noted : (runs : List Run) (data_blocks : List Placed) → AreMapped runs (map noted data_blocks) → All (λ placed. IsSome (mapped runs (free_file_block + placed.number / 2016))) data_blocks
mapped_noted runs [] all k d h = absurd (omega arith)
mapped_noted runs (placed ∷ others) all zero d h = all 0 (noted placed) (omega arith)
mapped_noted runs (placed ∷ others) all (suc k) d h = mapped_noted runs others (λ j e l. all (suc j) e (omega arith)) k d (omega arith)

pub all_mapped : (d : DirFork) (data_blocks : List Placed) (bests : List Best) → map noted data_blocks ≡ bests → HasFreeIndexes d data_blocks → AreMapped d.runs bests
all_mapped d data_blocks bests e has =
    subst (AreMapped d.runs) e (All-map (λ (best : Best). IsSome (mapped d.runs (free_file_block + best.number / 2016))) noted data_blocks has.all)

pub free_indexes : (d : DirFork) (data_blocks : List Placed) (bests : List Best) (answer : Bool) → AreMapped d.runs bests
    → (AreRising bests → IsTrue answer ↔ AreIndexes d.geometry d.owner d.runs bests d.blocks) → AreData d data_blocks → map noted data_blocks ≡ bests
    → IsTrue answer ↔ HasFreeIndexes d data_blocks
free_indexes d data_blocks bests answer all tells are e =
    let told = tells (data_rise d data_blocks bests are e) in (
      λ t. record {
        each = λ index block there.
            let one = told.0 t index block there in (
              one.form,
              record {
                holds = one.holds;
                place = one.own.place;
                uuid = one.own.uuid;
                owner = one.own.owner;
                number = one.number;
                each = λ slot h. one.each slot h ∙ best_same (2016 * index + slot) data_blocks bests e;
              },
            );
        all = mapped_noted d.runs data_blocks (subst (AreMapped d.runs) (sym e) all);
      },
      λ has.
          told.1 (λ index block there.
          let one = has.each index block there in
          record {
            form = one.0;
            holds = one.1.holds;
            own = record { place = one.1.place; uuid = one.1.uuid; owner = one.1.owner };
            number = one.1.number;
            each = λ slot h. one.1.each slot h ∙ sym (best_same (2016 * index + slot) data_blocks bests e);
          }),
    )
