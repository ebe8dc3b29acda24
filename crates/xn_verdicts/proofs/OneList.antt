-- Of each directory there is one list of entries that it holds, and one dotdot: bytes hold one form, the data blocks are the
-- rising list of all that are mapped, and the forms of directories shut each other out.
use Rattle.std.proofs.Common.{◌≡◌, ℕ, List, ◌++◌, drop, Option, Some, refl, sym, ap, subst, ◌∙◌, inl, inr, arith}
use Rattle.std.specs.Prelude.{Any, Contains, IsSome, flat_map}
use Rattle.std.proofs.lemmas.List.Elements.{All-contains}
use Rattle.xn_bytes.specs.Numbers.{number_at}
use Rattle.xn_bytes.specs.Superblock.{Geometry}
use Rattle.xn_bytes.specs.Blocks.{block_of}
use Rattle.xn_bytes.specs.Inode.{inode_of, local_format, extents_format}
use Rattle.xn_bytes.specs.Extents.{Run, mapped}
use Rattle.xn_bytes.specs.Entries.{Entry}
use Rattle.xn_bytes.specs.ShortDirectory.{ShortForm, ShortHolds}
use Rattle.xn_bytes.specs.DataBlock.{DataForm, DataHolds, entries_among}
use Rattle.xn_bytes.specs.DirectoryForms.{IsBlockForm, IsDataNumber, HasDots, HoldsShort, HoldsFirst}
use Rattle.xn_bytes.specs.LeafForms.{DirFork, Placed, IsPlaced, AreData, HasData, HoldsHashed, with_first, entries_placed, data_fork_in}
use Rattle.xn_bytes.specs.DirectoryHolds.{Holds, DirHolds, StandIn, HasDotdotInBlocks, HasDotdot}
use Rattle.xn_short.proofs.Forms as short_forms
use Rattle.xn_data.proofs.Forms as data_forms
use Rattle.xn_verdicts.proofs.Rising.{HasKeysOf, one_rising}

-- ---- the forms shut each other out

pub in_extents : (inode : List ℕ) → number_at 1 5 inode ≡ extents_format → number_at 1 5 inode ≡ local_format → ⊥
in_extents inode two one = omega (arith, two, one)

-- ---- bytes hold one form

pub one_short : (bytes : List ℕ) (a b : ShortForm) → ShortHolds bytes a → ShortHolds bytes b → a ≡ b
one_short bytes a b of_a of_b = sym (short_forms.holds_read bytes a of_a).read ∙ (short_forms.holds_read bytes b of_b).read

one_data : (bytes : List ℕ) (a b : DataForm) → DataHolds bytes a → DataHolds bytes b → a ≡ b
one_data bytes a b of_a of_b = sym (data_forms.holds_read bytes a of_a).read ∙ (data_forms.holds_read bytes b of_b).read

pub one_number : (o : Option ℕ) (a b : ℕ) → o ≡ Some a → o ≡ Some b → a ≡ b
one_number o a b is_a is_b = let e = sym is_a ∙ is_b in cc

-- ---- dot and dotdot

-- what stands behind dot and dotdot is one list, and the inode of dotdot is one
pub record IsSame (a b : List Entry) (p q : ℕ) : Type 0 where
  pub entries : a ≡ b
  pub dotdot : p ≡ q

one_behind : (all a b : List Entry) (p q : ℕ) → HasDots all a p → HasDots all b q → IsSame a b p q
one_behind all a b p q of_a of_b =
    let e = sym of_a.first ∙ of_b.first in
    let parent : of_a.parent ≡ of_b.parent = cc in
    record {
      entries = ap (drop 2) e;
      dotdot = of_a.inode ∙ ap (λ (entry : Entry). entry.ino) parent ∙ sym of_b.inode;
    }

one_behind_same : (all both a b : List Entry) (p q : ℕ) → all ≡ both → HasDots all a p → HasDots both b q → IsSame a b p q
one_behind_same all both a b p q same of_a of_b = one_behind both a b p q (subst (λ (es : List Entry). HasDots es a p) same of_a) of_b

-- ---- short form

pub same_short : (inode : List ℕ) (a b : List Entry) (p q : ℕ) → HoldsShort inode a p → HoldsShort inode b q → IsSame a b p q
same_short inode a b p q of_a of_b =
    let form : of_a.form ≡ of_b.form = one_short _ of_a.form of_b.form of_a.holds of_b.holds in
    record {
      entries = of_a.entries_are ∙ ap (λ (f : ShortForm). f.entries) form ∙ sym of_b.entries_are;
      dotdot = of_a.dotdot_is ∙ ap (λ (f : ShortForm). f.parent) form ∙ sym of_b.dotdot_is;
    }

-- ---- block form

pub one_block : (runs : List Run) (a b : ℕ) → IsBlockForm runs a → IsBlockForm runs b → a ≡ b
one_block runs a b of_a of_b = one_number (mapped runs 0) a b of_a.first of_b.first

pub one_first : (g : Geometry) (dir block : ℕ) (bytes : List ℕ) (one other : DataForm) (a b : List Entry) (p q : ℕ) → HoldsFirst g dir block bytes one a p → HoldsFirst g dir block bytes other b q → one ≡ other
one_first g dir block bytes one other a b p q of_a of_b = one_data bytes one other of_a.data_block.holds of_b.data_block.holds

pub same_first : (g : Geometry) (dir block : ℕ) (bytes : List ℕ) (one other : DataForm) (a b : List Entry) (p q : ℕ) → HoldsFirst g dir block bytes one a p → HoldsFirst g dir block bytes other b q → IsSame a b p q
same_first g dir block bytes one other a b p q of_a of_b =
    one_behind_same (entries_among one.regions) (entries_among other.regions) a b p q (ap (λ (form : DataForm). entries_among form.regions) (one_first g dir block bytes one other a b p q of_a of_b)) of_a.dots of_b.dots

-- the same, where the block is known to be one
same_first_at : (g : Geometry) (dir at block : ℕ) (blocks : ℕ → List ℕ) (one other : DataForm) (a b : List Entry) (p q : ℕ) → at ≡ block → HoldsFirst g dir at (blocks at) one a p → HoldsFirst g dir block (blocks block) other b q → IsSame a b p q
same_first_at g dir at block blocks one other a b p q same of_a of_b =
    same_first g dir block (blocks block) one other a b p q (subst (λ (n : ℕ). HoldsFirst g dir n (blocks n) one a p) same of_a) of_b

-- ---- data blocks

-- the data block of a number is one
one_form : (d : DirFork) (number : ℕ) (a b : DataForm) → IsPlaced d (record { number = number; form = a }) → IsPlaced d (record { number = number; form = b }) → a ≡ b
one_form d number a b of_a of_b =
    let same : of_a.0 ≡ of_b.0 = one_number _ of_a.0 of_b.0 of_a.1 of_b.1 in
    let there : DataHolds (d.blocks of_b.0) a = subst (λ (block : ℕ). DataHolds (d.blocks block) a) same of_a.2.holds in
    one_data (d.blocks of_b.0) a b there of_b.2.holds

one_placed : (d : DirFork) (a b : Placed) → IsPlaced d a → IsPlaced d b → a.number ≡ b.number → a ≡ b
one_placed d a b of_a of_b same =
    let form : a.form ≡ b.form = one_form d b.number a.form b.form (subst (λ (n : ℕ). IsPlaced d (record { number = n; form = a.form })) same of_a) of_b in
    ap (λ (n : ℕ). record { number = n; form = a.form }) same ∙ ap (λ (f : DataForm). record { number = b.number; form = f }) form

pub some_is : (o : Option ℕ) (x : ℕ) → o ≡ Some x → IsSome o
some_is o x is = rw is refl

-- a number of one of the data blocks is that of a data block that is mapped
data_has_keys : (d : DirFork) (a b : List Placed) → AreData d a → AreData d b → HasKeysOf (λ (placed : Placed). placed.number) b a
data_has_keys d a b of_a of_b number (k, placed, low, there, is) =
    let within : Contains a placed = (k, low, there) in
    let placed_is : IsPlaced d placed = All-contains (IsPlaced d) a placed of_a.each within in
    let is_data : IsDataNumber placed.number = All-contains (λ (one : Placed). IsDataNumber one.number) a placed of_a.numbers within in
    subst (λ (n : ℕ). Any (λ (one : Placed). one.number ≡ n) b) is (of_b.complete placed.number is_data (some_is _ placed_is.0 placed_is.1))

one_data_list : (d : DirFork) (a b : List Placed) → AreData d a → AreData d b → a ≡ b
one_data_list d a b of_a of_b =
    one_rising (λ (placed : Placed). placed.number) (IsPlaced d) (one_placed d) a b of_a.each of_b.each of_a.rising of_b.rising (data_has_keys d a b of_a of_b) (data_has_keys d b a of_b of_a)

-- what is read of the data blocks is one
pub record IsSameData (first one : DataForm) (others more : List Placed) (front behind : List Entry) (p q : ℕ) : Type 0 where
  pub first_is : first ≡ one
  pub others_are : others ≡ more
  pub front_is : front ≡ behind
  pub dotdot_is : p ≡ q

pub same_data : (d : DirFork) (first one : DataForm) (others more : List Placed) (front behind : List Entry) (p q : ℕ) → HasData d first others front p → HasData d one more behind q → IsSameData first one others more front behind p q
same_data d first one others more front behind p q of_a of_b =
    let all = one_data_list d (with_first first others) (with_first one more) of_a.data_blocks of_b.data_blocks in
    let head : record { number = 0; form = first } ≡ record { number = 0; form = one } = cc in
    let form : first ≡ one = ap (λ (placed : Placed). placed.form) head in
    let same = one_behind_same (entries_among first.regions) (entries_among one.regions) front behind p q (ap (λ (f : DataForm). entries_among f.regions) form) of_a.dots of_b.dots in
    record {
      first_is = form;
      others_are = ap (drop 1) all;
      front_is = same.entries;
      dotdot_is = same.dotdot;
    }

pub first_placed : (d : DirFork) (first : DataForm) (others : List Placed) (front : List Entry) (dotdot : ℕ) → HasData d first others front dotdot → IsPlaced d (record { number = 0; form = first })
first_placed d first others front dotdot has =
    let first_one : Placed = record { number = 0; form = first } in
    let there : Contains (with_first first others) first_one = (0, omega arith, refl) in
    All-contains (IsPlaced d) (with_first first others) first_one has.data_blocks.each there

same_hashed : (d : DirFork) (a b : List Entry) (p q : ℕ) → HoldsHashed d a p → HoldsHashed d b q → IsSame a b p q
same_hashed d a b p q of_a of_b =
    let same = same_data d of_a.first of_b.first of_a.others of_b.others of_a.front of_b.front p q of_a.data_blocks of_b.data_blocks in
    record {
      entries =
          of_a.entries_are
          ∙ ap (λ (front : List Entry). front ++ flat_map entries_placed of_a.others) same.front_is
          ∙ ap (λ (others : List Placed). of_b.front ++ flat_map entries_placed others) same.others_are
          ∙ sym of_b.entries_are;
      dotdot = same.dotdot_is;
    }

-- ---- the directory

same_held : (g : Geometry) (dir : ℕ) (inode : List ℕ) (blocks : ℕ → List ℕ) (a b : List Entry) (p q : ℕ) → Holds g dir inode blocks a p → Holds g dir inode blocks b q → IsSame a b p q
same_held g dir inode blocks a b p q (inl one) (inl other) = same_short inode a b p q one other
same_held g dir inode blocks a b p q (inl one) (inr (inl other)) = absurd (in_extents inode other.is_extents one.is_local)
same_held g dir inode blocks a b p q (inl one) (inr (inr other)) = absurd (in_extents inode other.form.is_extents one.is_local)
same_held g dir inode blocks a b p q (inr (inl one)) (inl other) = absurd (in_extents inode one.is_extents other.is_local)
same_held g dir inode blocks a b p q (inr (inl one)) (inr (inl other)) =
    same_first_at g dir one.block other.block blocks one.form other.form a b p q (one_block _ one.block other.block one.alone other.alone) one.first other.first
same_held g dir inode blocks a b p q (inr (inl one)) (inr (inr other)) = absurd (other.form.not_alone one.block one.alone)
same_held g dir inode blocks a b p q (inr (inr one)) (inl other) = absurd (in_extents inode one.form.is_extents other.is_local)
same_held g dir inode blocks a b p q (inr (inr one)) (inr (inl other)) = absurd (one.form.not_alone other.block other.alone)
same_held g dir inode blocks a b p q (inr (inr one)) (inr (inr other)) = same_hashed (data_fork_in g dir inode blocks) a b p q one.holds other.holds

pub one_list : (g : Geometry) (image : List ℕ) (dir : ℕ) (a b : List Entry) (p q : ℕ) → DirHolds g image dir a p → DirHolds g image dir b q → (a ≡ b) × (p ≡ q)
one_list g image dir a b p q of_a of_b =
    let same = same_held g dir (inode_of g image dir) (block_of g image) a b p q of_a of_b in
    (same.entries, same.dotdot)

-- ---- the dotdot, whatever the leaf entries say

dotdot_standing : (g : Geometry) (dir : ℕ) (inode : List ℕ) (blocks : ℕ → List ℕ) (a b : List Entry) (p q : ℕ) → StandIn g dir inode blocks a p → Holds g dir inode blocks b q → p ≡ q
dotdot_standing g dir inode blocks a b p q (inl stand) (inl holds) = (same_short inode a b p q stand holds).dotdot
dotdot_standing g dir inode blocks a b p q (inl stand) (inr (inl holds)) = absurd (in_extents inode holds.is_extents stand.is_local)
dotdot_standing g dir inode blocks a b p q (inl stand) (inr (inr holds)) = absurd (in_extents inode holds.form.is_extents stand.is_local)
dotdot_standing g dir inode blocks a b p q (inr stand) (inl holds) = absurd (in_extents inode stand.2 holds.is_local)
dotdot_standing g dir inode blocks a b p q (inr stand) (inr (inl holds)) =
    (same_first_at g dir stand.0 holds.block blocks stand.1 holds.form a b p q (one_block _ stand.0 holds.block stand.3 holds.alone) stand.5 holds.first).dotdot
dotdot_standing g dir inode blocks a b p q (inr stand) (inr (inr holds)) = absurd (holds.form.not_alone stand.0 stand.3)

dotdot_in_blocks : (g : Geometry) (dir : ℕ) (inode : List ℕ) (blocks : ℕ → List ℕ) (b : List Entry) (p q : ℕ) → HasDotdotInBlocks g dir inode blocks p → Holds g dir inode blocks b q → p ≡ q
dotdot_in_blocks g dir inode blocks b p q has (inl holds) = absurd (in_extents inode has.form.is_extents holds.is_local)
dotdot_in_blocks g dir inode blocks b p q has (inr (inl holds)) = absurd (has.form.not_alone holds.block holds.alone)
dotdot_in_blocks g dir inode blocks b p q has (inr (inr holds)) =
    let d : DirFork = data_fork_in g dir inode blocks in
    let hashed = holds.holds in
    let placed = first_placed d hashed.first hashed.others hashed.front q hashed.data_blocks in
    let form : has.first ≡ hashed.first = one_form d 0 has.first hashed.first has.is_placed placed in
    (one_behind_same (entries_among has.first.regions) (entries_among hashed.first.regions) has.front hashed.front p q (ap (λ (f : DataForm). entries_among f.regions) form) has.dots hashed.data_blocks.dots).dotdot

pub one_dotdot : (g : Geometry) (image : List ℕ) (dir : ℕ) (b : List Entry) (p q : ℕ) → HasDotdot g image dir p → DirHolds g image dir b q → p ≡ q
one_dotdot g image dir b p q (inl stands) holds = dotdot_standing g dir (inode_of g image dir) (block_of g image) stands.0 b p q stands.1 holds
one_dotdot g image dir b p q (inr has) holds = dotdot_in_blocks g dir (inode_of g image dir) (block_of g image) b p q has holds
