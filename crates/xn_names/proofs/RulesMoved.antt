-- The rules between inodes stay what they are when entries only move: what is decided of the entries in order holds of those of
-- the image.
use Rattle.std.proofs.Common.{◌≡◌, ◌↔◌, ℕ, ◌+◌, List, [], ◌∷◌, map, refl, sym, ap, ◌∙◌, inl, inr}
use Rattle.std.specs.Prelude.{◌==◌, All, IsPermutation, filter}
use Rattle.std.proofs.lemmas.List.Elements.{All-head, All-tail, All-filter}
use Rattle.std.proofs.lemmas.List.Sorted.{IsPermutation-sym, IsPermutation-trans, IsPermutation-map}
use Rattle.xn_bytes.specs.Numbers.{number_at}
use Rattle.xn_bytes.specs.Superblock.{Geometry}
use Rattle.xn_bytes.specs.Inode.{inode_of}
use Rattle.xn_bytes.specs.Parents.{ParentRecord}
use Rattle.xn_items.specs.declared.parent.ParentRec.{ParentRec}
use Rattle.xn_items.specs.Viewed.{record_of}
use Rattle.xn_rules.specs.Namings as namings
use Rattle.xn_rules.specs.NameRules.{IsUnnamed, HasDirectoryLinks, HasRightDotdot, HasPlaceInTree, says_directory}
use Rattle.xn_names.specs.declared.entry.Naming.{Naming}
use Rattle.xn_names.specs.Names.{naming_of, asked_by}
use Rattle.xn_names.proofs.Filtered.{map-filter}
use Rattle.xn_names.proofs.Moved.{no_naming-moved, no_standing-moved, length_naming-moved, count_standing-moved, Any_naming-moved, Leads-moved}
use Rattle.xn_names.proofs.Permuted.{filter-permutation}

-- ---- links, dotdot and the tree

pub IsUnnamed-moved : (g : Geometry) (xs ys : List namings.Naming) → IsPermutation xs ys → (dir : ℕ) → IsUnnamed g xs dir → IsUnnamed g ys dir
IsUnnamed-moved g xs ys moved dir unnamed = record { not_root = unnamed.not_root; none = no_naming-moved dir xs ys moved unnamed.none }

pub HasDirectoryLinks-moved : (g : Geometry) (xs ys : List namings.Naming) → IsPermutation xs ys → (dir links : ℕ) → HasDirectoryLinks g xs dir links → HasDirectoryLinks g ys dir links
HasDirectoryLinks-moved g xs ys moved dir links (inl (unnamed, zero_links)) = inl (IsUnnamed-moved g xs ys moved dir unnamed, zero_links)
HasDirectoryLinks-moved g xs ys moved dir links (inr (has_name, two_more)) =
    inr (λ unnamed. has_name (IsUnnamed-moved g ys xs (IsPermutation-sym xs ys moved) dir unnamed), two_more ∙ ap (λ n. 2 + n) (count_standing-moved says_directory dir xs ys moved))

pub HasRightDotdot-moved : (g : Geometry) (xs ys : List namings.Naming) → IsPermutation xs ys → (dir dotdot : ℕ) → HasRightDotdot g xs dir dotdot → HasRightDotdot g ys dir dotdot
HasRightDotdot-moved g xs ys moved dir dotdot (inl root) = inl root
HasRightDotdot-moved g xs ys moved dir dotdot (inr (inl unnamed)) = inr (inl (IsUnnamed-moved g xs ys moved dir unnamed))
HasRightDotdot-moved g xs ys moved dir dotdot (inr (inr (ne, any))) = inr (inr (ne, Any_naming-moved (λ n. n.dir ≡ dotdot) dir xs ys moved any))

pub HasPlaceInTree-moved : (g : Geometry) (xs ys : List namings.Naming) → IsPermutation xs ys → (dir : ℕ) → HasPlaceInTree g xs dir → HasPlaceInTree g ys dir
HasPlaceInTree-moved g xs ys moved dir (inl (root, none)) = inl (root, no_naming-moved dir xs ys moved none)
HasPlaceInTree-moved g xs ys moved dir (inr (inl (unnamed, none))) = inr (inl (IsUnnamed-moved g xs ys moved dir unnamed, no_standing-moved dir xs ys moved none))
HasPlaceInTree-moved g xs ys moved dir (inr (inr (ne, once, (path, leads)))) =
    inr (inr (ne, sym (length_naming-moved dir xs ys moved) ∙ once, (path, Leads-moved xs ys moved g.root path dir leads)))

-- ---- parent records

-- an entry has the generation that its directory has in the image
abbrev pub HasGeneration : Geometry → List ℕ → Naming → Type 0
HasGeneration g image n = n.generation ≡ number_at 4 92 (inode_of g image n.dir)

abbrev made : ℕ → ℕ → List ℕ → ParentRecord
made dir generation name = record { dir = dir; generation = generation; name = name }

-- entries ask for the records that the rule speaks of
pub asked_for : (g : Geometry) (image : List ℕ) (listed : List Naming) → All (HasGeneration g image) listed → map asked_by listed ≡ map (namings.record_for g image) (map naming_of listed)
asked_for g image [] all = refl
asked_for g image (n ∷ listed) all =
    let generation : n.generation ≡ number_at 4 92 (inode_of g image n.dir) = All-head (HasGeneration g image) n listed all in
    let first : asked_by n ≡ namings.record_for g image (naming_of n) = ap (λ (m : ℕ). made n.dir m n.name) generation in
    let rest = asked_for g image listed (All-tail (HasGeneration g image) n listed all) in
    cc

asked_of_inode : (g : Geometry) (image : List ℕ) (ino : ℕ) (listed : List Naming) → All (HasGeneration g image) listed
    → map asked_by (filter (λ n. n.ino == ino) listed) ≡ map (namings.record_for g image) (namings.naming ino (map naming_of listed))
asked_of_inode g image ino listed all =
    asked_for g image (filter (λ n. n.ino == ino) listed) (All-filter (λ n. n.ino == ino) (HasGeneration g image) listed all)
    ∙ ap (map (namings.record_for g image)) (map-filter naming_of (λ n. n.ino == ino) listed)

-- so parents in order are those that the entries of an inode in order ask for just where the records are those that the rule wants
pub records_as_ruled : (g : Geometry) (image : List ℕ) (ino : ℕ) (xs : List namings.Naming) (listed : List Naming) (records : List ParentRecord) (parents : List ParentRec)
    → IsPermutation xs (map naming_of listed) → All (HasGeneration g image) listed → IsPermutation records (map record_of parents)
    → IsPermutation (map record_of parents) (map asked_by (filter (λ n. n.ino == ino) listed)) ↔ IsPermutation records (map (namings.record_for g image) (namings.naming ino xs))
records_as_ruled g image ino xs listed records parents moved all ordered =
    let asked = map (namings.record_for g image) (namings.naming ino (map naming_of listed)) in
    let wanted = map (namings.record_for g image) (namings.naming ino xs) in
    let same : IsPermutation wanted asked =
    IsPermutation-map (namings.record_for g image) (namings.naming ino xs) (namings.naming ino (map naming_of listed))
    (filter-permutation (λ (n : namings.Naming). n.ino == ino) xs (map naming_of listed) moved) in
    rw (asked_of_inode g image ino listed all) (
      λ told. IsPermutation-trans records asked wanted (IsPermutation-trans records (map record_of parents) asked ordered told) (IsPermutation-sym wanted asked same),
      λ right. IsPermutation-trans (map record_of parents) records asked (IsPermutation-sym records (map record_of parents) ordered) (IsPermutation-trans records wanted asked right same),
    )
