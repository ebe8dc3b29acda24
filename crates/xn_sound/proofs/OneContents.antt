-- The contents of an image are one: its live inodes are one list, and its entries and its runs are the same but for their order.
use Rattle.std.proofs.Common.{◌≡◌, ℕ, ◌<◌, List, [], ◌∷◌, ◌++◌, length, map, refl, sym, ap, subst, ◌∙◌, inl, inr}
use Rattle.std.specs.Prelude.{Any, Contains, IsPermutation}
use Rattle.std.specs.List.{AllAdjacentBelow}
use Rattle.std.proofs.lemmas.List.Sorted.{IsPermutation-sym, IsPermutation-trans}
use Rattle.xn_bytes.specs.Superblock.{Geometry}
use Rattle.xn_bytes.specs.Entries.{Entry}
use Rattle.xn_bytes.specs.Extents.{Run}
use Rattle.xn_meaning.specs.Manifests.{Manifest}
use Rattle.xn_rules.specs.Namings.{AreLive, AreNamingsIn, AreNamingsOf, Naming, naming_of}
use Rattle.xn_rules.specs.Sound.{AreRunsIn, AreRunsOf, Contents}
use Rattle.xn_verdicts.proofs.OneList.{one_list}
use Rattle.xn_verdicts.proofs.Rising.{one_rising}

-- ---- numbers that rise

abbrev Rise : List ℕ → Type 0
Rise xs = AllAdjacentBelow (λ a b. a < b) xs (length xs)

is_there : (xs : List ℕ) (n : ℕ) → Any (λ x. x ≡ n) xs → Contains xs n
is_there xs n (k, x, low, same, is) = subst (λ (y : ℕ). Contains xs y) is (k, low, same)

any_there : (xs ys : List ℕ) → ((n : ℕ) → Contains xs n → Contains ys n) → (n : ℕ) → Any (λ x. x ≡ n) xs → Any (λ y. y ≡ n) ys
any_there xs ys to n any = let there = to n (is_there xs n any) in (there.0, n, there.1, there.2, refl)

-- of two lists of the same numbers
pub one_rise : (xs ys : List ℕ) → Rise xs → Rise ys → ((n : ℕ) → Contains xs n → Contains ys n)
    → ((n : ℕ) → Contains ys n → Contains xs n) → xs ≡ ys
one_rise xs ys up others to from =
    one_rising (λ (n : ℕ). n) (λ n. Unit {0}) (λ a b one other same. same) xs ys (λ k d low. tt) (λ k d low. tt) up others
    (any_there xs ys to) (any_there ys xs from)

one_live : (g : Geometry) (m : Manifest) (xs ys : List ℕ) → AreLive g m xs → AreLive g m ys → xs ≡ ys
one_live g m xs ys one other =
    one_rise xs ys one.rising other.rising (λ n has. (other.each n).1 ((one.each n).0 has)) (λ n has. (one.each n).1 ((other.each n).0 has))

-- ---- entries

one_namings_of : (g : Geometry) (m : Manifest) (image : List ℕ) (dir : ℕ) (xs ys : List Naming) → AreNamingsOf g m image dir xs
    → AreNamingsOf g m image dir ys → xs ≡ ys
one_namings_of g m image dir xs ys (inl (entries, dotdot, whole, are)) (inl (others, parent, too, they)) =
    let same = (one_list g image dir entries others dotdot parent whole.holds too.holds).0 in
    are ∙ ap (λ (es : List Entry). map (naming_of dir) es) same ∙ sym they
one_namings_of g m image dir xs ys (inl (entries, dotdot, whole, are)) (inr (none, empty)) = absurd (none entries dotdot whole)
one_namings_of g m image dir xs ys (inr (none, empty)) (inl (entries, dotdot, whole, are)) = absurd (none entries dotdot whole)
one_namings_of g m image dir xs ys (inr (none, empty)) (inr (neither, bare)) = empty ∙ sym bare

joined : {X : Type 0} (own other rest more : List X) → own ≡ other → rest ≡ more → own ++ rest ≡ other ++ more
joined own other rest more front behind = cc

one_namings : (g : Geometry) (m : Manifest) (image dirs : List ℕ) (xs ys : List Naming) → AreNamingsIn g m image dirs xs
    → AreNamingsIn g m image dirs ys → xs ≡ ys
one_namings g m image [] xs ys empty bare = empty ∙ sym bare
one_namings g m image (dir ∷ dirs) xs ys (own, rest, of, behind, are) (other, more, too, last, they) =
    are
    ∙ joined own other rest more (one_namings_of g m image dir own other of too) (one_namings g m image dirs rest more behind last)
    ∙ sym they

-- ---- runs

one_runs_of : (g : Geometry) (image : List ℕ) (ino : ℕ) (xs ys : List Run) → AreRunsOf g image ino xs → AreRunsOf g image ino ys → xs ≡ ys
one_runs_of g image ino xs ys (inl (own, directory, are)) (inl (too, also, they)) = are ∙ sym they
one_runs_of g image ino xs ys (inl (own, directory, are)) (inr (inl (too, other, they))) = absurd (other directory)
one_runs_of g image ino xs ys (inl (own, directory, are)) (inr (inr (not_own, empty))) = absurd (not_own own)
one_runs_of g image ino xs ys (inr (inl (own, other, are))) (inl (too, directory, they)) = absurd (other directory)
one_runs_of g image ino xs ys (inr (inl (own, other, are))) (inr (inl (too, also, they))) = are ∙ sym they
one_runs_of g image ino xs ys (inr (inl (own, other, are))) (inr (inr (not_own, empty))) = absurd (not_own own)
one_runs_of g image ino xs ys (inr (inr (not_own, empty))) (inl (own, directory, are)) = absurd (not_own own)
one_runs_of g image ino xs ys (inr (inr (not_own, empty))) (inr (inl (own, other, are))) = absurd (not_own own)
one_runs_of g image ino xs ys (inr (inr (not_own, empty))) (inr (inr (neither, bare))) = empty ∙ sym bare

one_runs : (g : Geometry) (image inodes : List ℕ) (xs ys : List Run) → AreRunsIn g image inodes xs → AreRunsIn g image inodes ys → xs ≡ ys
one_runs g image [] xs ys empty bare = empty ∙ sym bare
one_runs g image (ino ∷ inodes) xs ys (own, rest, of, behind, are) (other, more, too, last, they) =
    are ∙ joined own other rest more (one_runs_of g image ino own other of too) (one_runs g image inodes rest more behind last) ∙ sym they

-- ---- both contents

through : {X : Type 0} (turn other xs ys : List X) → turn ≡ other → IsPermutation turn xs → IsPermutation other ys → IsPermutation xs ys
through turn other xs ys same first second =
    IsPermutation-trans xs turn ys (IsPermutation-sym turn xs first) (subst (λ (list : List _). IsPermutation list ys) (sym same) second)

module _ (g : Geometry) (m : Manifest) (image live others : List ℕ) (xs ys : List Naming) (runs more : List Run) (one : Contents g m image live xs runs) (other : Contents g m image others ys more) where
  pub same_live : live ≡ others
  same_live = one_live g m live others one.are_live other.are_live

  pub same_namings : IsPermutation xs ys
  same_namings =
      let there = subst (λ (inodes : List ℕ). AreNamingsIn g m image inodes one.namings_in_turn) same_live one.are_namings in
      let same = one_namings g m image others one.namings_in_turn other.namings_in_turn there other.are_namings in
      through one.namings_in_turn other.namings_in_turn xs ys same one.same_namings other.same_namings

  pub same_runs : IsPermutation runs more
  same_runs =
      let there = subst (λ (inodes : List ℕ). AreRunsIn g image inodes one.runs_in_turn) same_live one.are_runs in
      let same = one_runs g image others one.runs_in_turn other.runs_in_turn there other.are_runs in
      through one.runs_in_turn other.runs_in_turn runs more same one.same_runs other.same_runs
