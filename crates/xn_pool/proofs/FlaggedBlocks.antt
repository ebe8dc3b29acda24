-- The blocks whose flags are true, of blocks that rise.
use Rattle.std.proofs.Common.{◌≡◌, ◌≢◌, ◌⊎◌, inl, inr, ℕ, zero, suc, ◌+◌, ◌<◌, ◌≤◌, Bool, true, false, not, List, [], ◌∷◌, length, get_or, set, replicate, Some, refl, sym, ap, subst, ◌∙◌, arith, eqb, filter}
use Rattle.std.specs.Prelude.{Contains, slice_get, ◌==◌}
use Rattle.std.specs.List.{AllAdjacentBelow}
use Rattle.std.proofs.lemmas.Bool.{cases_eq, cases_lt, eq-eqb, ne_eqb}
use Rattle.std.proofs.lemmas.List.Elements.{Contains-get_or}
use Rattle.xn_inode.specs.Stores.{AreFree, IsGiven, IsLeast}
use Rattle.xn_pool.specs.Blocks.{AreRising}
use Rattle.xn_pool.specs.Pools.{selected}
use Rattle.xn_pool.specs.Trees.{IsFirstTrue}

-- ---- what a list has

has_head : (x : ℕ) (xs : List ℕ) → Contains (x ∷ xs) x
has_head x xs = (0, omega arith, refl)

has_tail : (x y : ℕ) (xs : List ℕ) → Contains xs y → Contains (x ∷ xs) y
has_tail x y xs (k, low, there) = (suc k, omega arith, there)

cases_has : (x y : ℕ) (xs : List ℕ) → Contains (x ∷ xs) y → (x ≡ y) ⊎ Contains xs y
cases_has x y xs (zero, low, there) = inl there
cases_has x y xs (suc k, low, there) = inr (k, omega arith, there)

pub has_at : (xs : List ℕ) (i x : ℕ) → slice_get xs i ≡ Some x → Contains xs x
has_at [] i x there = absurd (cc)
has_at (y ∷ ys) zero x there = let same : y ≡ x = cc in subst (Contains (y ∷ ys)) same (has_head y ys)
has_at (y ∷ ys) (suc i) x there = has_tail y x ys (has_at ys i x there)

pub some_at : (xs : List ℕ) (i : ℕ) → i < length xs → (x : ℕ) × (slice_get xs i ≡ Some x)
some_at [] i low = absurd (omega arith)
some_at (x ∷ xs) zero low = (x, refl)
some_at (x ∷ xs) (suc i) low = some_at xs i (omega arith)

-- ---- blocks that rise

at_least : (least : ℕ) (blocks : List ℕ) (i x : ℕ) → AreRising least blocks → slice_get blocks i ≡ Some x → least ≤ x
at_least least [] i x rise there = absurd (cc)
at_least least (block ∷ blocks) zero x rise there = let same : block ≡ x = cc in subst (λ n. least ≤ n) same rise.0
at_least least (block ∷ blocks) (suc i) x rise there =
    let high : least ≤ block = rise.0 in
    let rest : block + 1 ≤ x = at_least (block + 1) blocks i x rise.1 there in
    omega arith

pub rise_on : (least : ℕ) (blocks : List ℕ) (i j x y : ℕ) → AreRising least blocks → slice_get blocks i ≡ Some x → slice_get blocks j ≡ Some y → i < j → x < y
rise_on least [] i j x y rise here there low = absurd (cc)
rise_on least (block ∷ blocks) zero zero x y rise here there low = absurd (omega arith)
rise_on least (block ∷ blocks) zero (suc j) x y rise here there low =
    let same : block ≡ x = cc in
    let rest : block + 1 ≤ y = at_least (block + 1) blocks j y rise.1 there in
    omega arith
rise_on least (block ∷ blocks) (suc i) zero x y rise here there low = absurd (omega arith)
rise_on least (block ∷ blocks) (suc i) (suc j) x y rise here there low = rise_on (block + 1) blocks i j x y rise.1 here there (omega arith)

pub same_place : (least : ℕ) (blocks : List ℕ) (i j x : ℕ) → AreRising least blocks → slice_get blocks i ≡ Some x → slice_get blocks j ≡ Some x → i ≡ j
same_place least blocks i j x rise here there = elim (cases_lt i j) [
  | inl low ↦ let bad : x < x = rise_on least blocks i j x x rise here there low in absurd (omega arith)
  | inr high ↦ elim (cases_lt j i) [
    | inl low ↦ let bad : x < x = rise_on least blocks j i x x rise there here low in absurd (omega arith)
    | inr other ↦ omega arith
  ]
]

rising_less : (least more : ℕ) (blocks : List ℕ) → least ≤ more → AreRising more blocks → AreRising least blocks
rising_less least more [] le rise = tt
rising_less least more (block ∷ blocks) le rise = let high : more ≤ block = rise.0 in (omega arith, rise.1)

pub rising_selected : (least : ℕ) (blocks : List ℕ) (flags : List Bool) → AreRising least blocks → AreRising least (selected blocks flags)
rising_selected least [] flags rise = tt
rising_selected least (block ∷ blocks) [] rise = tt
rising_selected least (block ∷ blocks) (true ∷ flags) rise = (rise.0, rising_selected (block + 1) blocks flags rise.1)
rising_selected least (block ∷ blocks) (false ∷ flags) rise = let high : least ≤ block = rise.0 in rising_less least (block + 1) _ (omega arith) (rising_selected (block + 1) blocks flags rise.1)

pub adjacent_rise : (least : ℕ) (blocks : List ℕ) → AreRising least blocks → AllAdjacentBelow (λ a b. a < b) blocks (length blocks)
adjacent_rise least [] rise k d low = absurd (omega arith)
adjacent_rise least (x ∷ []) rise k d low = absurd (omega arith)
adjacent_rise least (x ∷ y ∷ blocks) rise zero d low = let next : x + 1 ≤ y = rise.1.0 in omega arith
adjacent_rise least (x ∷ y ∷ blocks) rise (suc k) d low =
    let next : suc (k + 1) ≡ suc k + 1 = omega arith in
    subst (λ j. get_or (y ∷ blocks) k d < get_or (x ∷ y ∷ blocks) j d) next (adjacent_rise (x + 1) (y ∷ blocks) rise.1 k d (omega arith))

-- ---- the blocks whose flags are true

pub in_selected : (blocks : List ℕ) (flags : List Bool) (i x : ℕ) → slice_get blocks i ≡ Some x → slice_get flags i ≡ Some true → Contains (selected blocks flags) x
in_selected [] flags i x here set_there = absurd (cc)
in_selected (block ∷ blocks) [] i x here set_there = absurd (cc)
in_selected (block ∷ blocks) (true ∷ flags) zero x here set_there = let same : block ≡ x = cc in subst (Contains (block ∷ selected blocks flags)) same (has_head block (selected blocks flags))
in_selected (block ∷ blocks) (false ∷ flags) zero x here set_there = absurd (cc)
in_selected (block ∷ blocks) (true ∷ flags) (suc i) x here set_there = has_tail block x (selected blocks flags) (in_selected blocks flags i x here set_there)
in_selected (block ∷ blocks) (false ∷ flags) (suc i) x here set_there = in_selected blocks flags i x here set_there

pub from_selected : (blocks : List ℕ) (flags : List Bool) (x : ℕ) → Contains (selected blocks flags) x → (i : ℕ) × (slice_get blocks i ≡ Some x) × (slice_get flags i ≡ Some true)
from_selected [] flags x (k, low, there) = absurd (omega arith)
from_selected (block ∷ blocks) [] x (k, low, there) = absurd (omega arith)
from_selected (block ∷ blocks) (true ∷ flags) x has = elim (cases_has block x (selected blocks flags) has) [
  | inl here ↦ (0, ap Some here, refl)
  | inr later ↦ let rest = from_selected blocks flags x later in (suc rest.0, rest.1, rest.2)
]
from_selected (block ∷ blocks) (false ∷ flags) x has = let rest = from_selected blocks flags x has in (suc rest.0, rest.1, rest.2)

pub all_selected : (blocks : List ℕ) → selected blocks (replicate (length blocks) true) ≡ blocks
all_selected [] = refl
all_selected (block ∷ blocks) = ap (λ (bs : List ℕ). block ∷ bs) (all_selected blocks)

pub length-selected : (blocks : List ℕ) (flags : List Bool) → length (selected blocks flags) ≤ length blocks
length-selected [] flags = omega arith
length-selected (block ∷ blocks) [] = omega arith
length-selected (block ∷ blocks) (true ∷ flags) = let rest : length (selected blocks flags) ≤ length blocks = length-selected blocks flags in omega arith
length-selected (block ∷ blocks) (false ∷ flags) = let rest : length (selected blocks flags) ≤ length blocks = length-selected blocks flags in omega arith

pub some_flag : (blocks : List ℕ) (flags : List Bool) → selected blocks flags ≢ [] → Contains flags true
some_flag [] flags some = absurd (some refl)
some_flag (block ∷ blocks) [] some = absurd (some refl)
some_flag (block ∷ blocks) (true ∷ flags) some = (0, omega arith, refl)
some_flag (block ∷ blocks) (false ∷ flags) some = let rest = some_flag blocks flags some in (suc rest.0, omega (arith, rest.1), rest.2)

pub are_free : (blocks : List ℕ) (flags : List Bool) → AreRising 0 blocks → AreFree blocks (selected blocks flags)
are_free blocks flags rise = record {
  among = λ k d low. let at = from_selected blocks flags (get_or (selected blocks flags) k d) (Contains-get_or (selected blocks flags) k d low) in has_at blocks at.0 _ at.1;
  rising = adjacent_rise 0 (selected blocks flags) (rising_selected 0 blocks flags rise);
}

pub least_selected : (blocks : List ℕ) (flags : List Bool) (position block : ℕ) → AreRising 0 blocks → IsFirstTrue flags position → slice_get blocks position ≡ Some block → IsLeast (selected blocks flags) block
least_selected blocks flags position block rise first here = record {
  among = in_selected blocks flags position block here first.there;
  least = λ k d low.
      let other : ℕ = get_or (selected blocks flags) k d in
      let at = from_selected blocks flags other (Contains-get_or (selected blocks flags) k d low) in
      elim (cases_lt at.0 position) [
        | inl before ↦ let no : slice_get flags at.0 ≡ Some false = first.first at.0 before in absurd (cc (no, at.2))
        | inr from ↦ elim (cases_eq position at.0) [
          | inl same ↦
              let there : slice_get blocks at.0 ≡ Some block = ap (slice_get blocks) (sym same) ∙ here in
              let is : block ≡ other = cc (there, at.1) in
              omega arith
          | inr apart ↦ let more : block < other = rise_on 0 blocks position at.0 block other rise here at.1 (omega arith) in omega arith
        ]
      ];
}

-- ---- a flag that is cleared

filter_absent : (x : ℕ) (xs : List ℕ) → (Contains xs x → ⊥) → filter (λ other. not (other == x)) xs ≡ xs
filter_absent x [] none = refl
filter_absent x (y ∷ ys) none =
    let other : eqb y x ≡ false = ne_eqb y x (λ e. none (subst (Contains (y ∷ ys)) e (has_head y ys))) in
    let rest : filter (λ other. not (other == x)) ys ≡ ys = filter_absent x ys (λ h. none (has_tail y x ys h)) in
    rw (other, rest) refl

pub none_filtered : (x : ℕ) (xs : List ℕ) → (Contains xs x → ⊥) → xs ≡ filter (λ other. not (other == x)) xs
none_filtered x xs none = sym (filter_absent x xs none)

absent_above : (least x : ℕ) (xs : List ℕ) → AreRising least xs → x < least → Contains xs x → ⊥
absent_above least x [] rise low (k, within, there) = absurd (omega arith)
absent_above least x (y ∷ ys) rise low has =
    let high : least ≤ y = rise.0 in
    elim (cases_has y x ys has) [ inl here ↦ omega arith | inr later ↦ absent_above (y + 1) x ys rise.1 (omega arith) later ]

pub cleared_selected : (least : ℕ) (blocks : List ℕ) (flags : List Bool) (i x : ℕ) → AreRising least blocks → slice_get blocks i ≡ Some x
    → selected blocks (set flags i false) ≡ filter (λ other. not (other == x)) (selected blocks flags)
cleared_selected least [] flags i x rise here = absurd (cc)
cleared_selected least (block ∷ blocks) [] i x rise here = refl
cleared_selected least (block ∷ blocks) (flag ∷ flags) zero x rise here =
    let same : block ≡ x = cc in
    let equal : eqb block x ≡ true = eq-eqb block x same in
    let rest : filter (λ other. not (other == x)) (selected blocks flags) ≡ selected blocks flags =
    filter_absent x (selected blocks flags) (absent_above (block + 1) x (selected blocks flags) (rising_selected (block + 1) blocks flags rise.1) (omega arith)) in
    elim flag as (λ f. selected blocks flags ≡ filter (λ other. not (other == x)) (selected (block ∷ blocks) (f ∷ flags))) [ true ↦ rw (equal, rest) refl | false ↦ sym rest ]
cleared_selected least (block ∷ blocks) (flag ∷ flags) (suc i) x rise here =
    let above : block + 1 ≤ x = at_least (block + 1) blocks i x rise.1 here in
    let other : eqb block x ≡ false = ne_eqb block x (λ e. omega arith) in
    let rest : selected blocks (set flags i false) ≡ filter (λ other. not (other == x)) (selected blocks flags) = cleared_selected (block + 1) blocks flags i x rise.1 here in
    elim flag as (λ f. selected (block ∷ blocks) (f ∷ set flags i false) ≡ filter (λ other. not (other == x)) (selected (block ∷ blocks) (f ∷ flags))) [ true ↦ rw (other, rest) refl | false ↦ rest ]

pub one_less : (blocks : List ℕ) (flags : List Bool) (i x : ℕ) → slice_get blocks i ≡ Some x → slice_get flags i ≡ Some true → length (selected blocks flags) ≡ length (selected blocks (set flags i false)) + 1
one_less [] flags i x here there = absurd (cc)
one_less (block ∷ blocks) [] i x here there = absurd (cc)
one_less (block ∷ blocks) (true ∷ flags) zero x here there = omega arith
one_less (block ∷ blocks) (false ∷ flags) zero x here there = absurd (cc)
one_less (block ∷ blocks) (true ∷ flags) (suc i) x here there = let rest : length (selected blocks flags) ≡ length (selected blocks (set flags i false)) + 1 = one_less blocks flags i x here there in omega arith
one_less (block ∷ blocks) (false ∷ flags) (suc i) x here there = one_less blocks flags i x here there

-- ---- a flag that is set

pub one_more : (blocks : List ℕ) (flags : List Bool) (i x : ℕ) → slice_get blocks i ≡ Some x → slice_get flags i ≡ Some false → length (selected blocks (set flags i true)) ≡ length (selected blocks flags) + 1
one_more [] flags i x here there = absurd (cc)
one_more (block ∷ blocks) [] i x here there = absurd (cc)
one_more (block ∷ blocks) (true ∷ flags) zero x here there = absurd (cc)
one_more (block ∷ blocks) (false ∷ flags) zero x here there = omega arith
one_more (block ∷ blocks) (true ∷ flags) (suc i) x here there = let rest : length (selected blocks (set flags i true)) ≡ length (selected blocks flags) + 1 = one_more blocks flags i x here there in omega arith
one_more (block ∷ blocks) (false ∷ flags) (suc i) x here there = one_more blocks flags i x here there

flag_same : (flags : List Bool) (i : ℕ) (old new : Bool) → slice_get flags i ≡ Some old → slice_get (set flags i new) i ≡ Some new
flag_same [] i old new there = absurd (cc)
flag_same (flag ∷ flags) zero old new there = refl
flag_same (flag ∷ flags) (suc i) old new there = flag_same flags i old new there

flag_other : (flags : List Bool) (i j : ℕ) (new : Bool) → i ≢ j → slice_get (set flags i new) j ≡ slice_get flags j
flag_other [] i j new apart = refl
flag_other (flag ∷ flags) zero zero new apart = absurd (apart refl)
flag_other (flag ∷ flags) zero (suc j) new apart = refl
flag_other (flag ∷ flags) (suc i) zero new apart = refl
flag_other (flag ∷ flags) (suc i) (suc j) new apart = flag_other flags i j new (λ e. apart (ap suc e))

pub set_gives : (blocks : List ℕ) (flags : List Bool) (i x : ℕ) → slice_get blocks i ≡ Some x → slice_get flags i ≡ Some false → IsGiven blocks (selected blocks flags) (selected blocks (set flags i true)) x
set_gives blocks flags i x here clear other = (
  λ has.
      let at = from_selected blocks (set flags i true) other has in
      elim (cases_eq i at.0) [
        | inl same ↦
            let there : slice_get blocks at.0 ≡ Some x = ap (slice_get blocks) (sym same) ∙ here in
            let is : other ≡ x = cc (there, at.1) in
            inr (has_at blocks at.0 other at.1, is)
        | inr apart ↦ inl (in_selected blocks flags at.0 other at.1 (sym (flag_other flags i at.0 true apart) ∙ at.2))
      ],
  λ either. elim either [
    | inl was ↦
        let at = from_selected blocks flags other was in
        elim (cases_eq i at.0) [
          | inl same ↦ in_selected blocks (set flags i true) at.0 other at.1 (ap (slice_get (set flags i true)) (sym same) ∙ flag_same flags i false true clear)
          | inr apart ↦ in_selected blocks (set flags i true) at.0 other at.1 (flag_other flags i at.0 true apart ∙ at.2)
        ]
    | inr given ↦ in_selected blocks (set flags i true) i other (here ∙ ap Some (sym given.1)) (flag_same flags i false true clear)
  ],
)

-- where the block is free already, or no block of the pool, nothing changes
pub nothing_given : (blocks free : List ℕ) (x : ℕ) → (Contains blocks x → Contains free x) → IsGiven blocks free free x
nothing_given blocks free x already other = (
  λ has. inl has,
  λ either. elim either [
    | inl was ↦ was
    | inr given ↦ subst (Contains free) (sym given.1) (already (subst (Contains blocks) given.1 given.0))
  ],
)
