-- What the rules say of entries and runs stays when these only move.
use Rattle.std.proofs.Common.{◌≡◌, ℕ, ◌+◌, List, [], ◌∷◌, map, cond, sym, ap, subst, ◌∙◌, inl, inr, ⊎_elim}
use Rattle.std.specs.Prelude.{◌==◌, ◌/◌, ◌≤◌, count_by, IsPermutation}
use Rattle.std.proofs.lemmas.List.Sorted.{All-permutation, IsPermutation-map, IsPermutation-sym, IsPermutation-trans, length_permutation, sum_by-IsPermutation}
use Rattle.xn_bytes.specs.Superblock.{Geometry}
use Rattle.xn_bytes.specs.Extents.{Run}
use Rattle.xn_meaning.specs.Manifests.{Manifest}
use Rattle.xn_rules.specs.NameRules.{BreaksDirectoryLinks, BreaksDots, BreaksLinks, BreaksRecords, BreaksRule, BreaksTree, HasDirectoryLinks, HasPlaceInTree, HasRightDotdot, IsUnnamed, says_directory}
use Rattle.xn_rules.specs.Namings.{Leads, Naming, naming, record_for, standing_in}
use Rattle.xn_rules.specs.Sound.{AreApart, HasRightRoot, MapOnce, Maps, most_entries}
use Rattle.xn_apart.proofs.Permuted.{AllPairs-permutation}
use Rattle.xn_sound.proofs.Permuted.{Any-permutation, filter-permutation, none-permutation}

-- ---- runs

turned : (a b : Run) → AreApart a b → AreApart b a
turned a b apart = ⊎_elim (λ before. inr before) (λ behind. inl behind) apart

pub MapOnce-moved : (live : List ℕ) (xs ys : List Run) → IsPermutation xs ys → MapOnce live xs → MapOnce live ys
MapOnce-moved live xs ys moved once = record {
  once = AllPairs-permutation AreApart turned xs ys moved once.once;
  clear = λ ino among. All-permutation (λ run. Maps (ino / 8) run → ⊥) xs ys moved (once.clear ino among);
}

-- ---- entries

pub HasRightRoot-moved : (g : Geometry) (m : Manifest) (image : List ℕ) (xs ys : List Naming) → IsPermutation xs ys
    → HasRightRoot g m image xs → HasRightRoot g m image ys
HasRightRoot-moved g m image xs ys moved root = record {
  live = root.live;
  directory = root.directory;
  few = subst (λ (n : ℕ). n ≤ most_entries) (sym (length_permutation xs ys moved)) root.few;
}

module _ (xs ys : List Naming) (moved : IsPermutation xs ys) where
  naming-moved : (ino : ℕ) → IsPermutation (naming ino xs) (naming ino ys)
  naming-moved ino = filter-permutation (λ n. n.ino == ino) xs ys moved

  standing-moved : (dir : ℕ) → IsPermutation (standing_in dir xs) (standing_in dir ys)
  standing-moved dir = filter-permutation (λ n. n.dir == dir) xs ys moved

  IsUnnamed-moved : (g : Geometry) (dir : ℕ) → IsUnnamed g xs dir → IsUnnamed g ys dir
  IsUnnamed-moved g dir unnamed =
      record { not_root = unnamed.not_root; none = none-permutation (naming dir xs) (naming dir ys) (naming-moved dir) unnamed.none }

  Leads-moved : (from : ℕ) (path : List ℕ) (to : ℕ) → Leads xs from path to → Leads ys from path to
  Leads-moved from [] to leads = leads
  Leads-moved from (next ∷ path) to (step, rest) =
      (Any-permutation (λ n. (n.dir ≡ from) × (n.ino ≡ next)) xs ys moved step, Leads-moved next path to rest)

  subdirectories-moved : (dir : ℕ) → count_by says_directory (standing_in dir xs) ≡ count_by says_directory (standing_in dir ys)
  subdirectories-moved dir =
      sym (sum_by-IsPermutation (λ n. cond (says_directory n) 1 0) (standing_in dir xs) (standing_in dir ys) (standing-moved dir))

-- ---- links, dotdot and the tree

HasDirectoryLinks-moved : (g : Geometry) (xs ys : List Naming) → IsPermutation xs ys → (dir links : ℕ) → HasDirectoryLinks g xs dir links
    → HasDirectoryLinks g ys dir links
HasDirectoryLinks-moved g xs ys moved dir links (inl (unnamed, none)) = inl (IsUnnamed-moved xs ys moved g dir unnamed, none)
HasDirectoryLinks-moved g xs ys moved dir links (inr (named, are)) = inr (
  λ unnamed. named (IsUnnamed-moved ys xs (IsPermutation-sym xs ys moved) g dir unnamed),
  are ∙ ap (λ n. 2 + n) (subdirectories-moved xs ys moved dir),
)

HasRightDotdot-moved : (g : Geometry) (xs ys : List Naming) → IsPermutation xs ys → (dir dotdot : ℕ) → HasRightDotdot g xs dir dotdot
    → HasRightDotdot g ys dir dotdot
HasRightDotdot-moved g xs ys moved dir dotdot (inl root) = inl root
HasRightDotdot-moved g xs ys moved dir dotdot (inr (inl unnamed)) = inr (inl (IsUnnamed-moved xs ys moved g dir unnamed))
HasRightDotdot-moved g xs ys moved dir dotdot (inr (inr (other, any))) =
    inr (inr (other, Any-permutation (λ n. n.dir ≡ dotdot) (naming dir xs) (naming dir ys) (naming-moved xs ys moved dir) any))

HasPlaceInTree-moved : (g : Geometry) (xs ys : List Naming) → IsPermutation xs ys → (dir : ℕ) → HasPlaceInTree g xs dir
    → HasPlaceInTree g ys dir
HasPlaceInTree-moved g xs ys moved dir (inl (root, none)) =
    inl (root, none-permutation (naming dir xs) (naming dir ys) (naming-moved xs ys moved dir) none)
HasPlaceInTree-moved g xs ys moved dir (inr (inl (unnamed, none))) =
    inr (inl (
      IsUnnamed-moved xs ys moved g dir unnamed,
      none-permutation (standing_in dir xs) (standing_in dir ys) (standing-moved xs ys moved dir) none,
    ))
HasPlaceInTree-moved g xs ys moved dir (inr (inr (other, once, (path, leads)))) =
    inr (inr (
      other,
      length_permutation (naming dir xs) (naming dir ys) (naming-moved xs ys moved dir) ∙ once,
      (path, Leads-moved xs ys moved g.root path dir leads),
    ))

-- ---- the rules between inodes

module _ (g : Geometry) (m : Manifest) (image : List ℕ) (xs ys : List Naming) (moved : IsPermutation xs ys) (ino : ℕ) where
  back : IsPermutation ys xs
  back = IsPermutation-sym xs ys moved

  BreaksLinks-moved : BreaksLinks g image xs ino → BreaksLinks g image ys ino
  BreaksLinks-moved breaks = record {
    core = breaks.core;
    forks = breaks.forks;
    other = breaks.other;
    wrong = λ right. breaks.wrong (right ∙ length_permutation (naming ino xs) (naming ino ys) (naming-moved xs ys moved ino));
  }

  BreaksDirectoryLinks-moved : BreaksDirectoryLinks g m image xs ino → BreaksDirectoryLinks g m image ys ino
  BreaksDirectoryLinks-moved breaks = record {
    entries = breaks.entries;
    dotdot = breaks.dotdot;
    whole = breaks.whole;
    wrong = λ right. breaks.wrong (HasDirectoryLinks-moved g ys xs back ino _ right);
  }

  BreaksDots-moved : BreaksDots g m image xs ino → BreaksDots g m image ys ino
  BreaksDots-moved breaks = record {
    entries = breaks.entries;
    dotdot = breaks.dotdot;
    whole = breaks.whole;
    wrong = λ right. breaks.wrong (right.0, HasRightDotdot-moved g ys xs back ino breaks.dotdot right.1);
  }

  BreaksTree-moved : BreaksTree g m image xs ino → BreaksTree g m image ys ino
  BreaksTree-moved breaks = record {
    entries = breaks.entries;
    dotdot = breaks.dotdot;
    whole = breaks.whole;
    wrong = λ right. breaks.wrong (HasPlaceInTree-moved g ys xs back ino right);
  }

  BreaksRecords-moved : BreaksRecords g image xs ino → BreaksRecords g image ys ino
  BreaksRecords-moved breaks = record {
    own = breaks.own;
    records = breaks.records;
    parents = breaks.parents;
    wrong = λ right. breaks.wrong (
        IsPermutation-trans breaks.records (map (record_for g image) (naming ino ys)) (map (record_for g image) (naming ino xs)) right
        (IsPermutation-map (record_for g image) (naming ino ys) (naming ino xs) (naming-moved ys xs back ino))
        );
  }

  pub BreaksRule-moved : (rule block : ℕ) → BreaksRule g m image xs ino rule block → BreaksRule g m image ys ino rule block
  BreaksRule-moved rule block (inl alone) = inl alone
  BreaksRule-moved rule block (inr (at, inl (is, inl breaks))) = inr (at, inl (is, inl (BreaksLinks-moved breaks)))
  BreaksRule-moved rule block (inr (at, inl (is, inr breaks))) = inr (at, inl (is, inr (BreaksDirectoryLinks-moved breaks)))
  BreaksRule-moved rule block (inr (at, inr (inl (is, breaks)))) = inr (at, inr (inl (is, breaks)))
  BreaksRule-moved rule block (inr (at, inr (inr (inl (is, breaks))))) = inr (at, inr (inr (inl (is, BreaksDots-moved breaks))))
  BreaksRule-moved rule block (inr (at, inr (inr (inr (inl (is, breaks)))))) = inr (at, inr (inr (inr (inl (is, BreaksTree-moved breaks)))))
  BreaksRule-moved rule block (inr (at, inr (inr (inr (inr (is, breaks)))))) =
      inr (at, inr (inr (inr (inr (is, BreaksRecords-moved breaks)))))
