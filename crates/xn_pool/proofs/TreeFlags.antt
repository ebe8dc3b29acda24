-- The flags of the positions of a tree of words.
use Rattle.std.proofs.Common.{◌≡◌, inl, inr, ℕ, ◌+◌, ◌*◌, ◌/◌, ◌<◌, Bool, true, false, List, length, get_or, set, Some, refl, sym, ap, subst, ◌∙◌, arith, length-set, get_or-set_same, get_or-set_other}
use Rattle.std.specs.Prelude.{slice_get, ◌==◌, IsTrue, ◌↔◌}
use Rattle.std.proofs.lemmas.Bool.{cases_eq, eq-eqb, ne_eqb}
use Rattle.std.proofs.lemmas.List.{same_lists}
use Rattle.std.proofs.lemmas.List.FromFn.{length-map-range_with_len, get_or-map-range_with_len}
use Rattle.std.proofs.lemmas.Option.{slice_get-get_or}
use Rattle.xn_pool.specs.Marks.{bit_of, AreSummed, IsLeafChanged}
use Rattle.xn_pool.specs.Trees.{IsTree, flag_of, flags_of}

pub length-flags_of : (words : List ℕ) (first count : ℕ) → length (flags_of words first count) ≡ count
length-flags_of words first count = length-map-range_with_len (flag_of words first) 0 count

pub get_or-flags_of : (words : List ℕ) (first count position : ℕ) (d : Bool) → position < count → get_or (flags_of words first count) position d ≡ flag_of words first position
get_or-flags_of words first count position d low = get_or-map-range_with_len (flag_of words first) 0 count position position d low (omega arith)

pub slice_get-flags_of : (words : List ℕ) (first count position : ℕ) → position < count → slice_get (flags_of words first count) position ≡ Some (flag_of words first position)
slice_get-flags_of words first count position low =
    slice_get-get_or (flags_of words first count) position true (omega (arith, length-flags_of words first count))
    ∙ ap Some (get_or-flags_of words first count position true low)

-- a test of a bit gives the flag
pub flag_tested : (words : List ℕ) (first position : ℕ) (test : Bool) → (IsTrue test ↔ (bit_of words (64 * first + position) ≡ 1)) → flag_of words first position ≡ test
flag_tested words first position true tells = eq-eqb _ _ (tells.0 refl)
flag_tested words first position false tells = ne_eqb _ _ (λ e. let no = tells.1 e in absurd (cc))

-- the place of a position is in the words
pub place_within : (words : List ℕ) (first count position : ℕ) → IsTree words first count → position < count → (64 * first + position) / 64 < length words
place_within words first count position tree low = omega (arith, tree.long)

pub tree_changed : (words new : List ℕ) (first count position bit : ℕ) → IsTree words first count → position < count → IsLeafChanged first words new (64 * first + position) bit → IsTree new first count
tree_changed words new first count position bit tree low is = record {
  level = tree.level;
  long = is.long ∙ tree.long;
  summed = is.summed;
  none = λ p high. is.others p (omega arith) (λ e. omega arith) ∙ tree.none p high;
  small = tree.small;
  below = tree.below;
}

pub flags_changed : (words new : List ℕ) (first count position bit : ℕ) → position < count → IsLeafChanged first words new (64 * first + position) bit
    → flags_of new first count ≡ set (flags_of words first count) position (bit == 1)
flags_changed words new first count position bit low is =
    let old_length = length-flags_of words first count in
    let new_length = length-flags_of new first count in
    same_lists (flags_of new first count) (set (flags_of words first count) position (bit == 1))
    (new_length ∙ sym old_length ∙ sym (length-set (flags_of words first count) position (bit == 1)))
    (λ k d h.
    let within : k < count = omega arith in
    let mine : get_or (flags_of new first count) k d ≡ flag_of new first k = get_or-flags_of new first count k d within in
    mine ∙ elim (cases_eq k position) [
      | inl here ↦
          ap (λ j. flag_of new first j) here
          ∙ ap (λ b. b == 1) is.at
          ∙ sym (ap (λ j. get_or (set (flags_of words first count) position (bit == 1)) j d) here ∙ get_or-set_same (flags_of words first count) position (bit == 1) d (omega arith))
      | inr other ↦
          ap (λ b. b == 1) (is.others (64 * first + k) (omega arith) (λ e. other (omega arith)))
          ∙ sym (get_or-set_other (flags_of words first count) position k (bit == 1) d other ∙ get_or-flags_of words first count k d within)
    ])

-- a position of the flags is one of the tree's
pub position_below : (words : List ℕ) (first count position : ℕ) (flags : List Bool) → flags_of words first count ≡ flags → position < length flags → position < count
position_below words first count position flags same low = omega (arith, ap length same, length-flags_of words first count)

-- the fields after a bit was changed, and what they show
pub changed_tree : (items words new : List ℕ) (first count position bit : ℕ) → words ≡ items → IsTree items first count → position < count
    → (AreSummed first words → IsLeafChanged first words new (64 * first + position) bit) → IsTree new first count
changed_tree items words new first count position bit same tree low changes =
    tree_changed items new first count position bit tree low (subst (λ (ws : List ℕ). IsLeafChanged first ws new (64 * first + position) bit) same (changes (subst (AreSummed first) (sym same) tree.summed)))

pub changed_flags : (items words new : List ℕ) (first count position bit : ℕ) (flags : List Bool) → words ≡ items → IsTree items first count → position < count → flags_of items first count ≡ flags
    → (AreSummed first words → IsLeafChanged first words new (64 * first + position) bit) → flags_of new first count ≡ set flags position (bit == 1)
changed_flags items words new first count position bit flags same tree low shown changes =
    flags_changed items new first count position bit low (subst (λ (ws : List ℕ). IsLeafChanged first ws new (64 * first + position) bit) same (changes (subst (AreSummed first) (sym same) tree.summed)))
    ∙ ap (λ fs. set fs position (bit == 1)) shown
