-- What is found of a directory among those that rise.
use Rattle.std.proofs.Common.{◌≡◌, ℕ, ◌+◌, ◌<◌, ◌≤◌, true, false, List, length, get_or, Option, Some, None, sym, subst, arith, inl, inr}
use Rattle.std.specs.Prelude.{◌≢◌, All}
use Rattle.std.specs.List.{AllAdjacentBelow}
use Rattle.std.specs.List.Sorted.{IsNonDecreasingBy, IsPartitionPoint}
use Rattle.std.proofs.lemmas.Bool.{cases_order}
use Rattle.std.proofs.lemmas.List.Elements.{All-contains}
use Rattle.std.proofs.lemmas.List.Sorted.{IsNonDecreasingBy-from_all_adjacent}
use Rattle.xn_bytes.specs.Superblock.{Geometry}
use Rattle.xn_meaning.specs.Manifests.{Manifest, IsLive}
use Rattle.xn_rules.specs.Namings.{Naming}
use Rattle.xn_rules.specs.NameRules.{BreaksEntries}
use Rattle.xn_census.specs.declared.sorted_out.Whole.{Whole}
use Rattle.xn_census.proofs.Meanings.{whole_is_held}
use Rattle.xn_check.specs.declared.names.Names.{Names}
use Rattle.xn_check.specs.Known.{IsNoWhole, IsNotHeld, IsRightWhole, IsWholeAmong, NamesHold, WholeHolds, WholeIs, meant}

-- ---- numbers that rise

pub never_falls : {X : Type 0} (n : X → ℕ) (xs : List X) → AllAdjacentBelow (λ a b. n a < n b) xs (length xs) → IsNonDecreasingBy n xs
never_falls n xs rises = IsNonDecreasingBy-from_all_adjacent n xs (λ k d lt. let step = rises k d lt in omega (arith, step))

-- each is less than any behind it
pub rises_apart : {X : Type 0} (n : X → ℕ) (xs : List X) → AllAdjacentBelow (λ a b. n a < n b) xs (length xs) → (i j : ℕ) (d : X) → i < j → j < length xs → n (get_or xs i d) < n (get_or xs j d)
rises_apart n xs rises i j d before within =
    let step = rises i d (omega (arith, before, within)) in
    let rest = never_falls n xs rises (i + 1) j d (omega (arith, before)) within in
    omega (arith, step, rest)

-- ---- a search by halves

-- where the directory at the place is another, and behind the last, none is this one
pub none_there : (wholes : List Whole) (dir at : ℕ) → AllAdjacentBelow (λ a b. a.dir < b.dir) wholes (length wholes)
    → IsPartitionPoint (λ w. w.dir < dir) (λ w. dir ≤ w.dir) wholes at
    → ((d : Whole) → at < length wholes → (get_or wholes at d).dir ≡ dir → ⊥) → All (λ w. w.dir ≢ dir) wholes
none_there wholes dir at rises point other k d within same = elim (cases_order k at) [
  | inl here ↦ other d (omega (arith, here, within)) (subst (λ (i : ℕ). (get_or wholes i d).dir ≡ dir) here same)
  | inr (inl before) ↦ let less : (get_or wholes k d).dir < dir = point.0 k d (omega arith) before in omega (arith, less, same)
  | inr (inr behind) ↦
      let there : at < length wholes = omega (arith, behind, within) in
      let low : dir ≤ (get_or wholes at d).dir = point.1 at d (omega arith) there in
      let more = rises_apart (λ (w : Whole). w.dir) wholes rises at k d behind within in
      omega (arith, low, more, same)
]

-- ---- what is so known

pub whole_is_of : (g : Geometry) (m : Manifest) (image : List ℕ) (names : Names) (dir : ℕ) (wholes : List Whole) (found : Option Whole) → wholes ≡ names.wholes.items
    → NamesHold g m image names → IsLive g m dir → IsWholeAmong wholes dir found → WholeIs g m image (meant names) dir found
whole_is_of g m image names dir wholes None are holds live among =
    holds.others dir live (subst (λ (ws : List Whole). All (λ w. w.dir ≢ dir) ws) are among)
whole_is_of g m image names dir wholes (Some whole) are holds live among =
    (among.1, All-contains (WholeHolds g m image (meant names)) wholes whole (subst (λ (ws : List Whole). All (WholeHolds g m image (meant names)) ws) (sym are) holds.wholes) among.0)

pub found_right : (g : Geometry) (m : Manifest) (image : List ℕ) (names : Names) (dir : ℕ) (found : Option Whole) (whole : Whole) → found ≡ Some whole → whole.is_right ≡ true
    → WholeIs g m image (meant names) dir found → (whole.dir ≡ dir) × IsRightWhole g m image (meant names) whole
found_right g m image names dir found whole is right known =
    let of = subst (λ (o : Option Whole). WholeIs g m image (meant names) dir o) is known in
    (of.0, of.1.right right)

pub found_wrong : (g : Geometry) (m : Manifest) (image : List ℕ) (names : Names) (dir : ℕ) (found : Option Whole) (whole : Whole) → found ≡ Some whole → whole.is_right ≡ false
    → WholeIs g m image (meant names) dir found → BreaksEntries g m image dir × IsNoWhole g m image dir
found_wrong g m image names dir found whole is wrong known =
    let of = subst (λ (o : Option Whole). WholeIs g m image (meant names) dir o) is known in
    subst (λ (d : ℕ). BreaksEntries g m image d × IsNoWhole g m image d) of.0 (of.1.wrong wrong)

pub held_none : (g : Geometry) (m : Manifest) (image : List ℕ) (namings : List Naming) (dir : ℕ) (found : Option Whole) → found ≡ None
    → WholeIs g m image namings dir found → IsNotHeld g image dir
held_none g m image namings dir found is known = subst (λ (o : Option Whole). WholeIs g m image namings dir o) is known

pub found_none : (g : Geometry) (m : Manifest) (image : List ℕ) (names : Names) (dir : ℕ) (found : Option Whole) → found ≡ None
    → WholeIs g m image (meant names) dir found → IsNoWhole g m image dir
found_none g m image names dir found is known entries dotdot whole =
    held_none g m image (meant names) dir found is known entries dotdot (whole_is_held g m image dir entries dotdot whole)
