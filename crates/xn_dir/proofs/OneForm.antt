-- Bytes hold one form. So where a directory holds entries, they are those that stand there, and what a look-up finds among
-- these, it finds in the directory.
use Rattle.std.proofs.Common.{◌≡◌, ℕ, List, drop, Option, Some, sym, ap, subst, ◌∙◌, inl, inr, arith}
use Rattle.std.specs.Prelude.{IfSome}
use Rattle.std.proofs.lemmas.Option.{IfSome_then}
use Rattle.xn_bytes.specs.Numbers.{number_at}
use Rattle.xn_bytes.specs.Superblock.{Geometry}
use Rattle.xn_bytes.specs.Blocks.{block_of}
use Rattle.xn_bytes.specs.Inode.{inode_of, local_format, extents_format}
use Rattle.xn_bytes.specs.Extents.{mapped}
use Rattle.xn_bytes.specs.Entries as held
use Rattle.xn_bytes.specs.ShortDirectory.{ShortForm, ShortHolds}
use Rattle.xn_bytes.specs.DataBlock.{DataForm, DataHolds, entries_among}
use Rattle.xn_bytes.specs.DirectoryForms.{IsBlockForm, data_runs_of, AreSorted, HasDots, IsIndexOf, HoldsShort, HoldsFirst, HoldsBlock}
use Rattle.xn_bytes.specs.DirectoryHolds.{Holds, StandIn, HasIndex}
use Rattle.xn_short.proofs.Forms as short_forms
use Rattle.xn_data.proofs.Forms as data_forms
use Rattle.xn_dir.specs.declared.entry.Entry.{Entry}
use Rattle.xn_dir.specs.Finding.{Finds, FindsOver, RestsOnAll}

pub in_extents : (inode : List ℕ) → number_at 1 5 inode ≡ extents_format → number_at 1 5 inode ≡ local_format → ⊥
in_extents inode two one = omega (arith, two, one)

-- ---- one form, one block, one list of entries

one_short : (bytes : List ℕ) (a b : ShortForm) → ShortHolds bytes a → ShortHolds bytes b → a ≡ b
one_short bytes a b of_a of_b = sym (short_forms.holds_read bytes a of_a).read ∙ (short_forms.holds_read bytes b of_b).read

pub one_data : (bytes : List ℕ) (a b : DataForm) → DataHolds bytes a → DataHolds bytes b → a ≡ b
one_data bytes a b of_a of_b = sym (data_forms.holds_read bytes a of_a).read ∙ (data_forms.holds_read bytes b of_b).read

pub same_block : (a b : ℕ) (o : Option ℕ) → o ≡ Some a → o ≡ Some b → a ≡ b
same_block a b o is_a is_b = let e = sym is_a ∙ is_b in cc

one_block : (inode : List ℕ) (a b : ℕ) → IsBlockForm (data_runs_of inode) a → IsBlockForm (data_runs_of inode) b → a ≡ b
one_block inode a b of_a of_b = same_block a b (mapped (data_runs_of inode) 0) of_a.first of_b.first

same_behind : (all a b : List held.Entry) (dotdot parent : ℕ) → HasDots all a dotdot → HasDots all b parent → a ≡ b
same_behind all a b dotdot parent of_a of_b = let e = sym of_a.first ∙ of_b.first in ap (drop 2) e

entries_in_first : (g : Geometry) (dir block : ℕ) (bytes : List ℕ) (one other : DataForm) (a b : List held.Entry) (dotdot parent : ℕ) → HoldsFirst g dir block bytes one a dotdot → HoldsFirst g dir block bytes other b parent → a ≡ b
entries_in_first g dir block bytes one other a b dotdot parent of_a of_b =
    let same : one ≡ other = one_data bytes one other of_a.data_block.holds of_b.data_block.holds in
    same_behind (entries_among other.regions) a b dotdot parent (subst (λ (form : DataForm). HasDots (entries_among form.regions) a dotdot) same of_a.dots) of_b.dots

entries_in_short : (inode : List ℕ) (a b : List held.Entry) (dotdot parent : ℕ) → HoldsShort inode a dotdot → HoldsShort inode b parent → a ≡ b
entries_in_short inode a b dotdot parent of_a of_b = of_a.entries_are ∙ ap (λ (form : ShortForm). form.entries) (one_short _ of_a.form of_b.form of_a.holds of_b.holds) ∙ sym of_b.entries_are

-- ---- where a directory holds entries, they are those that stand there, and its leaf entries are theirs

short_has_index : (inode : List ℕ) (blocks : ℕ → List ℕ) → number_at 1 5 inode ≡ local_format → HasIndex inode blocks
short_has_index inode blocks is_local = λ block form two alone holds. absurd (in_extents inode two is_local)

block_has_index : (g : Geometry) (dir : ℕ) (inode : List ℕ) (blocks : ℕ → List ℕ) (entries : List held.Entry) (dotdot : ℕ) → HoldsBlock g dir inode blocks entries dotdot → HasIndex inode blocks
block_has_index g dir inode blocks entries dotdot one = λ block form two alone holds.
    let at : one.block ≡ block = one_block inode one.block block one.alone alone in
    let there : DataHolds (blocks block) one.form = subst (λ (b : ℕ). DataHolds (blocks b) one.form) at one.first.data_block.holds in
    let same : one.form ≡ form = one_data (blocks block) one.form form there holds in
    subst (λ (f : DataForm). AreSorted f.leaves × IsIndexOf f.leaves (entries_among f.regions)) same (one.tail.sorted, one.index)

those_that_stand : (g : Geometry) (dir : ℕ) (inode : List ℕ) (blocks : ℕ → List ℕ) (a b : List held.Entry) (dotdot parent : ℕ) → StandIn g dir inode blocks a dotdot → Holds g dir inode blocks b parent
    → (a ≡ b) × HasIndex inode blocks
those_that_stand g dir inode blocks a b dotdot parent (inl stand) (inl holds) = (entries_in_short inode a b dotdot parent stand holds, short_has_index inode blocks stand.is_local)
those_that_stand g dir inode blocks a b dotdot parent (inl stand) (inr (inl holds)) = absurd (in_extents inode holds.is_extents stand.is_local)
those_that_stand g dir inode blocks a b dotdot parent (inl stand) (inr (inr holds)) = absurd (in_extents inode holds.form.is_extents stand.is_local)
those_that_stand g dir inode blocks a b dotdot parent (inr stand) (inl holds) = absurd (in_extents inode stand.2 holds.is_local)
those_that_stand g dir inode blocks a b dotdot parent (inr stand) (inr (inl holds)) =
    let at : holds.block ≡ stand.0 = one_block inode holds.block stand.0 holds.alone stand.3 in
    let first : HoldsFirst g dir stand.0 (blocks stand.0) holds.form b parent = subst (λ (block : ℕ). HoldsFirst g dir block (blocks block) holds.form b parent) at holds.first in
    (entries_in_first g dir stand.0 (blocks stand.0) stand.1 holds.form a b dotdot parent stand.5 first, block_has_index g dir inode blocks b parent holds)
those_that_stand g dir inode blocks a b dotdot parent (inr stand) (inr (inr holds)) = absurd (holds.form.not_alone stand.0 stand.3)

-- so what is found there is found in what the directory holds
pub finds_over : (g : Geometry) (dir : ℕ) (image : Option (List ℕ)) (name : List ℕ) (found : Option Entry) → IfSome image (λ x. RestsOnAll g x dir name found) → IfSome image (λ x. FindsOver g x dir name found)
finds_over g dir image name found stands =
    IfSome_then image stands
    (λ x there entries dotdot holds.
    let same = those_that_stand g dir (inode_of g x dir) (block_of g x) there.entries entries there.dotdot dotdot there.stand holds in
    subst (λ (es : List held.Entry). Finds name es found) same.0 (there.indexed same.1))
