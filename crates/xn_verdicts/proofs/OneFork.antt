-- The attributes of an inode are one list, and the rule that it breaks is one, as is the block that is named; one that has its
-- attributes breaks none.
use Rattle.std.proofs.Common.{◌≡◌, ℕ, List, sym, ◌∙◌, inl, inr}
use Rattle.std.specs.Prelude.{◌⊎◌}
use Rattle.xn_bytes.specs.Superblock.{Geometry}
use Rattle.xn_bytes.specs.Blocks.{block_of}
use Rattle.xn_bytes.specs.Inode.{inode_of, attr_fork_of, HasCore, HasBothForks}
use Rattle.xn_bytes.specs.DirectoryForms.{HasForkLists}
use Rattle.xn_bytes.specs.DirectoryRules.{OrBreaks}
use Rattle.xn_bytes.specs.declared.attribute.Attribute.{Attribute}
use Rattle.xn_bytes.specs.ShortAttributes.{ShortAttributesHold}
use Rattle.xn_bytes.specs.AttributeLeaves.{AttrLeafHolds}
use Rattle.xn_bytes.specs.AttributeForks.{attr_tree, HasNoAttrFork, IsShortFork, IsEmptyFork, IsTreeFork, HasAttributes, AttrHolds, HasOwnInode, OrBreaksOwn, BreaksShortFork, BreaksTreeFork, AttrBreaks}
use Rattle.xn_bytes.specs.Trees.{TreeHolds}
use Rattle.xn_attrleaf.proofs.ShortAttributesForms.{short_once}
use Rattle.xn_verdicts.proofs.OneTree.{one_content, tree_or_fault, one_fault}

-- ---- the forms shut each other out

alone_or_short : (inode : List ℕ) → HasNoAttrFork inode ⊎ IsEmptyFork inode → IsShortFork inode → ⊥
alone_or_short inode (inl none) short = short.there none
alone_or_short inode (inr empty) short = let one = empty.is_extents in let other = short.is_local in absurd cc

alone_or_tree : (inode : List ℕ) → HasNoAttrFork inode ⊎ IsEmptyFork inode → IsTreeFork inode → ⊥
alone_or_tree inode (inl none) tree = tree.there none
alone_or_tree inode (inr empty) tree = tree.some empty.none

short_or_tree : (inode : List ℕ) → IsShortFork inode → IsTreeFork inode → ⊥
short_or_tree inode short tree = let one = short.is_local in let other = tree.is_extents in absurd cc

-- ---- one list

-- the bytes of a leaf have one list of attributes
leaf_once : (bytes : List ℕ) (a b : List Attribute) → AttrLeafHolds bytes a → AttrLeafHolds bytes b → a ≡ b
leaf_once bytes a b holds too = holds.are ∙ sym too.are

of_short : (g : Geometry) (ino : ℕ) (inode : List ℕ) (blocks : ℕ → List ℕ) (attributes : List Attribute) → IsShortFork inode → HasAttributes g ino inode blocks attributes → ShortAttributesHold (attr_fork_of inode) attributes
of_short g ino inode blocks attributes short (inl alone) = absurd (alone_or_short inode alone.0 short)
of_short g ino inode blocks attributes short (inr (inl holds)) = holds.1
of_short g ino inode blocks attributes short (inr (inr tree)) = absurd (short_or_tree inode short tree.0)

of_tree : (g : Geometry) (ino : ℕ) (inode : List ℕ) (blocks : ℕ → List ℕ) (attributes : List Attribute) → IsTreeFork inode → HasAttributes g ino inode blocks attributes → TreeHolds (attr_tree g ino inode blocks) attributes
of_tree g ino inode blocks attributes tree (inl alone) = absurd (alone_or_tree inode alone.0 tree)
of_tree g ino inode blocks attributes tree (inr (inl short)) = absurd (short_or_tree inode short.0 tree)
of_tree g ino inode blocks attributes tree (inr (inr holds)) = holds.1

has_once : (g : Geometry) (ino : ℕ) (inode : List ℕ) (blocks : ℕ → List ℕ) (a b : List Attribute) → HasAttributes g ino inode blocks a → HasAttributes g ino inode blocks b → a ≡ b
has_once g ino inode blocks a b (inl one) (inl other) = one.1 ∙ sym other.1
has_once g ino inode blocks a b (inl one) (inr (inl other)) = absurd (alone_or_short inode one.0 other.0)
has_once g ino inode blocks a b (inl one) (inr (inr other)) = absurd (alone_or_tree inode one.0 other.0)
has_once g ino inode blocks a b (inr (inl one)) other =
    short_once (attr_fork_of inode) a b one.1 (of_short g ino inode blocks b one.0 other)
has_once g ino inode blocks a b (inr (inr one)) other =
    one_content (attr_tree g ino inode blocks) leaf_once a b one.1 (of_tree g ino inode blocks b one.0 other)

pub one_attributes : (g : Geometry) (image : List ℕ) (ino : ℕ) (a b : List Attribute) → AttrHolds g image ino a → AttrHolds g image ino b → a ≡ b
one_attributes g image ino a b = has_once g ino (inode_of g image ino) (block_of g image) a b

-- ---- one rule after another

-- two verdicts name one rule and one block
abbrev pub IsOneFault : ℕ → ℕ → ℕ → ℕ → Type 0
IsOneFault r s b c = (r ≡ s) × (b ≡ c)

-- where the first fact fails for both it is named by both; else the rest goes on for both
or_once : (r s b c number place : ℕ) (Fact R S : Type 0) → (R → S → IsOneFault r s b c) → OrBreaks r b number place Fact R → OrBreaks s c number place Fact S → IsOneFault r s b c
or_once r s b c number place Fact R S rest (inl one) (inl other) = (one.0 ∙ sym other.0, one.1 ∙ sym other.1)
or_once r s b c number place Fact R S rest (inl one) (inr other) = absurd (one.2 other.0)
or_once r s b c number place Fact R S rest (inr one) (inl other) = absurd (other.2 one.0)
or_once r s b c number place Fact R S rest (inr one) (inr other) = rest one.1 other.1

-- where the fact holds, it is the rest that breaks
or_holds : (r b number place : ℕ) (Fact R : Type 0) → Fact → OrBreaks r b number place Fact R → R
or_holds r b number place Fact R fact (inl fails) = absurd (fails.2 fact)
or_holds r b number place Fact R fact (inr holds) = holds.1

module _ (g : Geometry) (ino : ℕ) (inode : List ℕ) where
  -- what comes behind the rules of the inode itself
  abbrev BehindLists : ℕ → ℕ → Type 0 → Type 0
  BehindLists rule block Rest = OrBreaks rule block 13 0 (HasForkLists g inode) Rest

  abbrev BehindForks : ℕ → ℕ → Type 0 → Type 0
  BehindForks rule block Rest = OrBreaks rule block 11 0 (HasBothForks g inode ino) (BehindLists rule block Rest)

  own_once : (r s b c : ℕ) (R S : Type 0) → (R → S → IsOneFault r s b c) → OrBreaksOwn g ino inode r b R → OrBreaksOwn g ino inode s c S → IsOneFault r s b c
  own_once r s b c R S rest =
      or_once r s b c 10 0 (HasCore inode ino g.meta_uuid) (BehindForks r b R) (BehindForks s c S)
      (or_once r s b c 11 0 (HasBothForks g inode ino) (BehindLists r b R) (BehindLists s c S)
      (or_once r s b c 13 0 (HasForkLists g inode) R S rest))

  own_holds : (r b : ℕ) (R : Type 0) → HasOwnInode g inode ino → OrBreaksOwn g ino inode r b R → R
  own_holds r b R own breaks =
      or_holds r b 13 0 (HasForkLists g inode) R own.lists
      (or_holds r b 11 0 (HasBothForks g inode ino) (BehindLists r b R) own.forks
      (or_holds r b 10 0 (HasCore inode ino g.meta_uuid) (BehindForks r b R) own.core breaks))

-- ---- the rules of a fork

-- the attribute fork of an inode breaks its rule
abbrev pub BreaksFork : Geometry → ℕ → List ℕ → (ℕ → List ℕ) → ℕ → ℕ → Type 0
BreaksFork g ino inode blocks rule block = BreaksShortFork inode rule block ⊎ BreaksTreeFork g ino inode blocks rule block

fork_once : (g : Geometry) (ino : ℕ) (inode : List ℕ) (blocks : ℕ → List ℕ) (r s b c : ℕ) → BreaksFork g ino inode blocks r b → BreaksFork g ino inode blocks s c → IsOneFault r s b c
fork_once g ino inode blocks r s b c (inl one) (inl other) = (one.0 ∙ sym other.0, one.1 ∙ sym other.1)
fork_once g ino inode blocks r s b c (inl one) (inr other) = absurd (short_or_tree inode one.2 other.1)
fork_once g ino inode blocks r s b c (inr one) (inl other) = absurd (short_or_tree inode other.2 one.1)
fork_once g ino inode blocks r s b c (inr one) (inr other) =
    (one.0 ∙ sym other.0, one_fault (attr_tree g ino inode blocks) leaf_once b c one.2 other.2)

-- a fork that has attributes breaks no rule
has_or_breaks : (g : Geometry) (ino : ℕ) (inode : List ℕ) (blocks : ℕ → List ℕ) (attributes : List Attribute) (rule block : ℕ) → HasAttributes g ino inode blocks attributes → BreaksFork g ino inode blocks rule block → ⊥
has_or_breaks g ino inode blocks attributes rule block has (inl short) = short.3 attributes (of_short g ino inode blocks attributes short.2 has)
has_or_breaks g ino inode blocks attributes rule block has (inr tree) =
    let holds = of_tree g ino inode blocks attributes tree.1 has in
    tree_or_fault (attr_tree g ino inode blocks) leaf_once holds.0 block holds.1 tree.2

-- ---- the rules of an inode's attributes

pub attributes_one_rule : (g : Geometry) (image : List ℕ) (ino r s b c : ℕ) → AttrBreaks g image ino r b → AttrBreaks g image ino s c → IsOneFault r s b c
attributes_one_rule g image ino r s b c =
    let inode : List ℕ = inode_of g image ino in
    let blocks : ℕ → List ℕ = block_of g image in
    own_once g ino inode r s b c (BreaksFork g ino inode blocks r b) (BreaksFork g ino inode blocks s c) (fork_once g ino inode blocks r s b c)

pub attributes_or_break : (g : Geometry) (image : List ℕ) (ino : ℕ) (attributes : List Attribute) (rule block : ℕ) → HasOwnInode g (inode_of g image ino) ino → AttrHolds g image ino attributes → AttrBreaks g image ino rule block → ⊥
attributes_or_break g image ino attributes rule block own holds breaks =
    let inode : List ℕ = inode_of g image ino in
    let blocks : ℕ → List ℕ = block_of g image in
    has_or_breaks g ino inode blocks attributes rule block holds (own_holds g ino inode rule block (BreaksFork g ino inode blocks rule block) own breaks)
