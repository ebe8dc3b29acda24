-- Whether one more attribute has room, form by form.
use Rattle.std.proofs.Common.{◌≡◌, ℕ, ◌+◌, ◌≤◌, Bool, false, List, length, Option, sym, ap, subst, arith, inl, inr}
use Rattle.std.specs.Prelude.{◌⊎◌, ◌↔◌, IsTrue, IfSome, sum_by}
use Rattle.std.proofs.lemmas.List.Sums.{sum_by-le-sum_by}
use Rattle.std.proofs.lemmas.Option.{IfSome_then}
use Rattle.xn_bytes.specs.Superblock.{Geometry}
use Rattle.xn_bytes.specs.Blocks.{block_of}
use Rattle.xn_bytes.specs.Inode.{attr_fork_of, inode_of}
use Rattle.xn_bytes.specs.Trees.{IsLeafFor, Tree, TreeFork, bytes_at}
use Rattle.xn_bytes.specs.declared.attribute.Attribute.{Attribute}
use Rattle.xn_bytes.specs.Attributes.{attribute_hash}
use Rattle.xn_bytes.specs.ShortAttributes.{ShortAttributesHold}
use Rattle.xn_bytes.specs.AttributeLeaves.{AttrLeafHolds, attribute_size}
use Rattle.xn_bytes.specs.AttributeForks.{AttrHolds, HasAttributes, HasNoAttrFork, IsEmptyFork, IsShortFork, IsTreeFork, attr_tree}
use Rattle.xn_bytes.specs.AttributeRoom.{HasAttrRoom, short_size_of}
use Rattle.xn_datree.specs.declared.fork.Fork.{Fork}
use Rattle.xn_datree.specs.Forks.{tree_fork}
use Rattle.xn_attrleaf.specs.Entries.{with_value_here}
use Rattle.xn_attrleaf.specs.Laws.{few_bytes, same_sizes}
use Rattle.xn_attrleaf.specs.Sizes.{leaf_size}
use Rattle.xn_attrleaf.proofs.ShortAttributesForms.{short_once}
use Rattle.xn_attr.specs.Inodes.{IsForkOf}
use Rattle.xn_attr.proofs.Lists.{IfSome_both}
use Rattle.xn_attr.proofs.OverImages.{fork_in, fork_is, no_tree_absent, no_tree_empty, no_tree_short, none_alone, those_in_short, those_in_tree, tree_by}
use Rattle.xn_attr.proofs.Reached.{leaf_for}

-- what fits a fork in short form
abbrev pub FitsFork : List ℕ → ℕ → List ℕ → List ℕ → Type 0
FitsFork inode size name value = (size + 3 + length name + length value ≤ length (attr_fork_of inode)) × (length value ≤ 255)

no_room_absent : (g : Geometry) (ino : ℕ) (inode : List ℕ) (blocks : ℕ → List ℕ) (attributes : List Attribute) (flags : ℕ) (name value : List ℕ) → HasNoAttrFork inode → HasAttrRoom g ino inode blocks attributes flags name value → ⊥
no_room_absent g ino inode blocks attributes flags name value none (inl short) = no_form inode none short.form where
  no_form : (inode : List ℕ) → HasNoAttrFork inode → IsShortFork inode ⊎ IsEmptyFork inode → ⊥
  no_form inode none (inl short) = short.there none
  no_form inode none (inr empty) = empty.there none
no_room_absent g ino inode blocks attributes flags name value none (inr leaf) = no_tree_absent inode none leaf.form

pub room_absent : (g : Geometry) (ino : ℕ) (image : Option (List ℕ)) (inode : List ℕ) (flags : ℕ) (name value : List ℕ) → IfSome image (λ x. inode ≡ inode_of g x ino) → HasNoAttrFork inode
    → IfSome image (λ x. (attributes : List Attribute) → AttrHolds g x ino attributes → (IsTrue false ↔ HasAttrRoom g ino (inode_of g x ino) (block_of g x) attributes flags name value))
room_absent g ino image inode flags name value same form =
    IfSome_then image same (λ x shown attributes holds. (λ t. absurd cc, λ room. absurd (no_room_absent g ino (inode_of g x ino) (block_of g x) attributes flags name value (subst HasNoAttrFork shown form) room)))

-- without a tree the room is that of the short form
short_alone : (g : Geometry) (ino : ℕ) (inode : List ℕ) (blocks : ℕ → List ℕ) (attributes : List Attribute) (flags : ℕ) (name value : List ℕ) (room : Bool) (size : ℕ) → IsShortFork inode ⊎ IsEmptyFork inode → (IsTreeFork inode → ⊥) → short_size_of attributes ≡ size
    → (IsTrue room ↔ FitsFork inode size name value) → (IsTrue room ↔ HasAttrRoom g ino inode blocks attributes flags name value)
short_alone g ino inode blocks attributes flags name value room size form other is fits = (
  λ t. inl (record { form = form; fits = omega (arith, (fits.0 t).0, is); short = (fits.0 t).1 }),
  λ has. back has,
) where
  back : HasAttrRoom g ino inode blocks attributes flags name value → IsTrue room
  back (inl short) = fits.1 (omega (arith, short.fits, is), short.short)
  back (inr leaf) = absurd (other leaf.form)

pub room_empty : (g : Geometry) (ino : ℕ) (image : Option (List ℕ)) (inode : List ℕ) (flags : ℕ) (name value : List ℕ) (room : Bool) → IfSome image (λ x. inode ≡ inode_of g x ino) → IsEmptyFork inode → (IsTrue room ↔ FitsFork inode 4 name value)
    → IfSome image (λ x. (attributes : List Attribute) → AttrHolds g x ino attributes → (IsTrue room ↔ HasAttrRoom g ino (inode_of g x ino) (block_of g x) attributes flags name value))
room_empty g ino image inode flags name value room same form fits =
    IfSome_then image same
    (λ x shown attributes holds.
    let here = subst IsEmptyFork shown form in
    let none = none_alone g ino (inode_of g x ino) (block_of g x) attributes (inr here) holds in
    short_alone g ino (inode_of g x ino) (block_of g x) attributes flags name value room 4 (inr here) (no_tree_empty (inode_of g x ino) here) (ap short_size_of none)
    (subst (λ (i : List ℕ). IsTrue room ↔ FitsFork i 4 name value) shown fits))

pub room_short : (g : Geometry) (ino : ℕ) (image : Option (List ℕ)) (inode : List ℕ) (flags : ℕ) (name value : List ℕ) (room : Bool) → IfSome image (λ x. inode ≡ inode_of g x ino) → IsShortFork inode
    → (attributes : List Attribute) × ShortAttributesHold (attr_fork_of inode) attributes × (IsTrue room ↔ FitsFork inode (short_size_of attributes) name value)
    → IfSome image (λ x. (attributes : List Attribute) → AttrHolds g x ino attributes → (IsTrue room ↔ HasAttrRoom g ino (inode_of g x ino) (block_of g x) attributes flags name value))
room_short g ino image inode flags name value room same form fits =
    IfSome_then image same
    (λ x shown attributes holds.
    let here = subst IsShortFork shown form in
    let those = those_in_short g ino (inode_of g x ino) (block_of g x) attributes here holds in
    let once : fits.0 ≡ attributes = short_once (attr_fork_of (inode_of g x ino)) fits.0 attributes (subst (λ (i : List ℕ). ShortAttributesHold (attr_fork_of i) fits.0) shown fits.1) those in
    short_alone g ino (inode_of g x ino) (block_of g x) attributes flags name value room (short_size_of fits.0) (inl here) (no_tree_short (inode_of g x ino) here) (ap short_size_of (sym once))
    (subst (λ (i : List ℕ). IsTrue room ↔ FitsFork i (short_size_of fits.0) name value) shown fits.2))

-- ---- in a tree

-- the leaf of the descent has room
abbrev pub FitsLeaf : Tree Attribute → ℕ → ℕ → Bool → Type 0
FitsLeaf tree hash size room =
    (leaf : ℕ) (entries : List Attribute) → IsLeafFor tree hash leaf → AttrLeafHolds (bytes_at tree leaf) entries → (IsTrue room ↔ sum_by leaf_size entries + size ≤ 4016)

small_size : (attribute : Attribute) (size taken : ℕ) → size ≡ leaf_size attribute → taken + size ≤ 4016 → attribute_size attribute ≡ size
small_size attribute size taken is fits = omega (arith, is, fits)

in_tree : (g : Geometry) (ino : ℕ) (inode : List ℕ) (blocks : ℕ → List ℕ) (attributes : List Attribute) (flags : ℕ) (name value : List ℕ) (hash size : ℕ) (room : Bool) → IsTreeFork inode → HasAttributes g ino inode blocks attributes
    → hash ≡ attribute_hash (with_value_here flags name value) → size ≡ leaf_size (with_value_here flags name value) → FitsLeaf (tree_by (fork_in g ino inode) blocks) hash size room
    → (IsTrue room ↔ HasAttrRoom g ino inode blocks attributes flags name value)
in_tree g ino inode blocks attributes flags name value hash size room form holds hash_is size_is fits = (there, back) where
  wanted : Attribute
  wanted = with_value_here flags name value

  there : IsTrue room → HasAttrRoom g ino inode blocks attributes flags name value
  there t =
      let tree = those_in_tree g ino inode blocks attributes form holds in
      let leaf = leaf_for (attr_tree g ino inode blocks) hash tree.0 tree.1 in
      let room_there = (fits leaf.0 leaf.1 leaf.2 leaf.3).0 t in
      let sizes = same_sizes leaf.1 (few_bytes (bytes_at (attr_tree g ino inode blocks) leaf.0) leaf.1 leaf.3) in
      let own = small_size wanted size (sum_by leaf_size leaf.1) size_is room_there in
      inr (record {
        form = form;
        leaf = leaf.0;
        is_leaf = subst (λ (h : ℕ). IsLeafFor (attr_tree g ino inode blocks) h leaf.0) hash_is leaf.2;
        entries = leaf.1;
        holds = leaf.3;
        fits = omega (arith, room_there, sizes, own);
      })

  back : HasAttrRoom g ino inode blocks attributes flags name value → IsTrue room
  back (inl short) = absurd (no_short short.form) where
    no_short : IsShortFork inode ⊎ IsEmptyFork inode → ⊥
    no_short (inl one) = no_tree_short inode one form
    no_short (inr one) = no_tree_empty inode one form
  back (inr leaf) =
      let less = sum_by-le-sum_by leaf_size attribute_size leaf.entries (λ attribute. omega arith) in
      let taken : leaf_size wanted ≤ attribute_size wanted = omega arith in
      (fits leaf.leaf leaf.entries (subst (λ (h : ℕ). IsLeafFor (attr_tree g ino inode blocks) h leaf.leaf) (sym hash_is) leaf.is_leaf) leaf.holds).1 (omega (arith, leaf.fits, less, taken, size_is))

pub room_tree : (g : Geometry) (ino : ℕ) (image : Option (List ℕ)) (inode : List ℕ) (fork : Fork) (flags : ℕ) (name value : List ℕ) (hash size : ℕ) (room : Bool) → IfSome image (λ x. inode ≡ inode_of g x ino) → IsTreeFork inode → IsForkOf ino inode fork
    → hash ≡ attribute_hash (with_value_here flags name value) → size ≡ leaf_size (with_value_here flags name value) → IfSome image (λ x. FitsLeaf (tree_by (tree_fork g fork) (block_of g x)) hash size room)
    → IfSome image (λ x. (attributes : List Attribute) → AttrHolds g x ino attributes → (IsTrue room ↔ HasAttrRoom g ino (inode_of g x ino) (block_of g x) attributes flags name value))
room_tree g ino image inode fork flags name value hash size room same form is hash_is size_is fits =
    IfSome_both image same fits
    (λ x shown there attributes holds.
    in_tree g ino (inode_of g x ino) (block_of g x) attributes flags name value hash size room (subst IsTreeFork shown form) holds hash_is size_is
    (subst (λ (f : TreeFork). FitsLeaf (tree_by f (block_of g x)) hash size room) (fork_is g ino x inode fork is shown) there))
