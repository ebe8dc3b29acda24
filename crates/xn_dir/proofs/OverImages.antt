-- From the bytes of an inode and a block to the image that shows them.
use Rattle.std.proofs.Common.{◌≡◌, ◌≢◌, ℕ, zero, suc, get_or, ◌+◌, ◌*◌, ◌≤◌, ◌<◌, Bool, true, false, List, [], ◌∷◌, Option, Some, None, Result, Ok, Err, refl, sym, ap, ◌∙◌, arith, inl, inr}
use Rattle.std.specs.Prelude.{◌==◌, if◌then◌else◌, IfOk, IfSome, IsSome}
use Rattle.std.proofs.lemmas.Bool.{cases_eq}
use Rattle.std.proofs.lemmas.Option.{IfSome_then}
use Rattle.xn_bytes.specs.Superblock.{Geometry, IsBlock}
use Rattle.xn_bytes.specs.Blocks.{block_of}
use Rattle.xn_bytes.specs.Numbers.{number_at}
use Rattle.xn_bytes.specs.Inode.{CoreFields, inode_of, local_format}
use Rattle.xn_bytes.specs.Extents.{Run, mapped}
use Rattle.xn_bytes.specs.Entries as held
use Rattle.xn_bytes.specs.DataBlock.{DataForm, DataHolds, entries_among}
use Rattle.xn_bytes.specs.DirectoryForms.{HasBlocksSize, data_runs_of, HoldsShort, HoldsFirst, HasTail, IsIndexOf}
use Rattle.xn_bytes.specs.DirectoryHolds.{DirHolds, EntriesStand, HasDotdot}
use Rattle.xn_bytes.specs.Costs.{HasLookUpCost, IsLookUpCost, hash_most, list_cost, look_up_most, mapped_count}
use Rattle.xn_bytes.specs.DirectoryRules.{HasInode, OrBreaksInode, OrBreaksForm}
use Rattle.xn_bytes.specs.ShortDirectory.{ShortForm, ShortHolds}
use Rattle.xn_bytes.specs.Directory.{HasShortSize, short_bytes_of}
use Rattle.xn_inode.specs.declared.fork_fault.ForkFault.{ForkFault}
use Rattle.xn_inode.specs.declared.fork_fault.ForkFault.TheVariants.{Read, Memory, Broken}
use Rattle.xn_dir.specs.declared.entry.Entry.{Entry}
use Rattle.xn_dir.specs.declared.form.Form.{Form}
use Rattle.xn_dir.specs.declared.form.Form.TheVariants as forms
use Rattle.xn_dir.specs.Inodes.{IsDirectory, IsSoundInode, IsOfForm}
use Rattle.xn_dir.specs.Faults.{IsFormFault, IsShortFault, IsFirstFault, IsFaultOver, Breaks}
use Rattle.xn_dir.specs.Finding.{Finds, RestsOnAll, StandsOver, StandsInFirst}
use Rattle.xn_inode.proofs.Counts.{few_of_mapped}
use Rattle.xn_inode.proofs.HomeLists.{mapped_home}
use Rattle.xn_dir.proofs.ShortForms as short
use Rattle.xn_dir.proofs.Following.{every}
use Rattle.xn_dir.proofs.OneForm.{in_extents}

-- ---- the block of block form

pub block_in_range : (g : Geometry) (dir : ℕ) (inode : List ℕ) (core : CoreFields) (block : ℕ) → IsSoundInode g dir inode core → IsOfForm inode (forms.Block block) → IsBlock g block
block_in_range g dir inode core block sound form = (mapped_home g (data_runs_of inode) 0 block (sound.lists.of_data form.0).home form.1.first).place

-- the size of block form is that of one block
pub one_block : (g : Geometry) (dir : ℕ) (inode : List ℕ) (core : CoreFields) (block : ℕ) → IsSoundInode g dir inode core → IsOfForm inode (forms.Block block) → core.size ≡ 4096 → HasBlocksSize inode
one_block g dir inode core block sound form size = (
  0,
  record {
    is_data = omega arith;
    is_mapped = rw form.1.first refl;
    last = λ file_block behind _. form.1.alone file_block (omega (arith, behind));
  },
  sym sound.fields.size ∙ size,
)

not_mapped : {X : Type 0} (o : Option X) → o ≡ None → IsSome o → ⊥
not_mapped None e some = absurd cc
not_mapped (Some x) e some = absurd cc

pub other_size : (g : Geometry) (dir : ℕ) (inode : List ℕ) (core : CoreFields) (block : ℕ) → IsSoundInode g dir inode core → IsOfForm inode (forms.Block block) → core.size ≢ 4096 → HasBlocksSize inode → ⊥
other_size g dir inode core block sound form other has =
    elim (cases_eq has.0 0) [
      | inl first ↦ other (sound.fields.size ∙ has.2 ∙ ap (λ (n : ℕ). 4096 * (n + 1)) first)
      | inr later ↦ not_mapped (mapped (data_runs_of inode) has.0) (form.1.alone has.0 later) has.1.is_mapped
    ]

-- ---- the form

pub has_inode : (g : Geometry) (dir : ℕ) (image : Option (List ℕ)) (inode : List ℕ) (r : Result (CoreFields × Form) ForkFault) → IfSome image (λ x. inode ≡ inode_of g x dir)
    → IfOk r (λ found. IsSoundInode g dir inode found.0) → IfOk r (λ _. IfSome image (λ x. HasInode g (inode_of g x dir) dir))
has_inode g dir None inode (Ok found) same sound = tt
has_inode g dir (Some x) inode (Ok found) same sound = rw (← same) (record { core = sound.sound; forks = sound.forks; lists = sound.lists })
has_inode g dir image inode (Err fault) same sound = tt

-- ---- faults

of_inode : (g : Geometry) (dir : ℕ) (inode : List ℕ) (blocks : ℕ → List ℕ) (rule block : ℕ) (InBlocks : Type 0) → OrBreaksInode g dir inode rule block ⊥ → OrBreaksForm g dir inode blocks rule block InBlocks
of_inode g dir inode blocks rule block InBlocks (inl core) = inl core
of_inode g dir inode blocks rule block InBlocks (inr (core, inl forks)) = inr (core, inl forks)
of_inode g dir inode blocks rule block InBlocks (inr (core, inr (forks, inl lists))) = inr (core, inr (forks, inl lists))
of_inode g dir inode blocks rule block InBlocks (inr (core, inr (forks, inr none))) = absurd none.1

pub over_form : (B : Breaks) (g : Geometry) (dir : ℕ) (image : Option (List ℕ)) (inode : List ℕ) (before now : ℕ) (fault : ForkFault) → IfSome image (λ x. inode ≡ inode_of g x dir) → IfSome image (λ x. IsDirectory (inode_of g x dir))
    → IsFormFault g dir inode fault → IsFaultOver B g dir image before now fault
over_form B g dir None inode before now Read same is fault = absurd fault
over_form B g dir None inode before now Memory same is fault = tt
over_form B g dir None inode before now (Broken rule block) same is fault = tt
over_form B g dir (Some x) inode before now Read same is fault = absurd fault
over_form B g dir (Some x) inode before now Memory same is fault = tt
over_form B g dir (Some x) inode before now (Broken rule block) same is fault = of_inode g dir (inode_of g x dir) (block_of g x) rule block (B g dir (inode_of g x dir) (block_of g x) rule block) ((rw same at fault) is)

pub over_short : (B : Breaks) (g : Geometry) (dir : ℕ) (image : Option (List ℕ)) (inode : List ℕ) (core : CoreFields) (before now : ℕ) (fault : ForkFault) → IfSome image (λ x. inode ≡ inode_of g x dir) → IsSoundInode g dir inode core
    → IsOfForm inode forms.Short → IsShortFault inode fault → IsFaultOver B g dir image before now fault
over_short B g dir image inode core before now Read same sound form fault = absurd fault
over_short B g dir image inode core before now Memory same sound form fault = tt
over_short B g dir None inode core before now (Broken rule block) same sound form fault = tt
over_short B g dir (Some x) inode core before now (Broken rule block) same sound form fault =
    rw (← same) (inr (sound.sound, inr (sound.forks, inr (sound.lists, inl (form, fault)))))

pub over_size : (B : Breaks) (g : Geometry) (dir : ℕ) (image : Option (List ℕ)) (inode : List ℕ) (core : CoreFields) (block before now : ℕ) → IfSome image (λ x. inode ≡ inode_of g x dir) → IsSoundInode g dir inode core
    → IsOfForm inode (forms.Block block) → core.size ≢ 4096 → IsFaultOver B g dir image before now (Broken 15 0)
over_size B g dir None inode core block before now same sound form other = tt
over_size B g dir (Some x) inode core block before now same sound form other =
    rw (← same) (inr (sound.sound, inr (sound.forks, inr (sound.lists, inr (in_extents inode form.0, inl (block, form.1, inl (refl, refl, other_size g dir inode core block sound form other)))))))

pub over_first : (B : Breaks) (g : Geometry) (dir : ℕ) (image : Option (List ℕ)) (inode bytes : List ℕ) (core : CoreFields) (block before now : ℕ) (fault : ForkFault) → IfSome image (λ x. inode ≡ inode_of g x dir)
    → IfSome image (λ x. bytes ≡ block_of g x block) → IsSoundInode g dir inode core → IsOfForm inode (forms.Block block) → HasBlocksSize inode → IsFirstFault g dir block bytes fault → IsFaultOver B g dir image before now fault
over_first B g dir image inode bytes core block before now Read same shown sound form size fault = absurd fault
over_first B g dir image inode bytes core block before now Memory same shown sound form size fault = tt
over_first B g dir None inode bytes core block before now (Broken rule named) same shown sound form size fault = tt
over_first B g dir (Some x) inode bytes core block before now (Broken rule named) same shown sound form size fault =
    rw (← same) (inr (sound.sound, inr (sound.forks, inr (sound.lists, inr (in_extents inode form.0, inl (block, form.1, inr (size, rw shown at fault)))))))

-- ---- what a directory holds

pub holds_short : (g : Geometry) (dir : ℕ) (image : Option (List ℕ)) (inode : List ℕ) (entries : List held.Entry) → IfSome image (λ x. inode ≡ inode_of g x dir) → (dotdot : ℕ) × HoldsShort inode entries dotdot
    → IfSome image (λ x. (dotdot : ℕ) × DirHolds g x dir entries dotdot)
holds_short g dir None inode entries same holds = tt
holds_short g dir (Some x) inode entries same holds = (holds.0, inl (rw same at holds.1))

pub holds_block : (g : Geometry) (dir : ℕ) (image : Option (List ℕ)) (inode bytes : List ℕ) (block : ℕ) (entries : List held.Entry) → IfSome image (λ x. inode ≡ inode_of g x dir) → IfSome image (λ x. bytes ≡ block_of g x block)
    → IsOfForm inode (forms.Block block) → HasBlocksSize inode
    → (form : DataForm) × (dotdot : ℕ) × HoldsFirst g dir block bytes form entries dotdot × HasTail form × IsIndexOf form.leaves (entries_among form.regions)
    → IfSome image (λ x. (dotdot : ℕ) × DirHolds g x dir entries dotdot)
holds_block g dir None inode bytes block entries same shown form size holds = tt
holds_block g dir (Some x) inode bytes block entries same shown form size holds = (
  holds.1,
  inr (inl (record {
    is_extents = (rw same at form).0;
    block = block;
    alone = (rw same at form).1;
    size = rw same at size;
    form = holds.0;
    first = rw shown at holds.2;
    tail = holds.3;
    index = holds.4;
  })),
)

-- ---- what stands in a directory

stand_short : (g : Geometry) (dir : ℕ) (x inode : List ℕ) (entries : List held.Entry) (dotdot : ℕ) → inode ≡ inode_of g x dir → HoldsShort inode entries dotdot → EntriesStand g x dir entries dotdot
stand_short g dir x inode entries dotdot same holds = inl (rw same at holds)

stand_block : (g : Geometry) (dir : ℕ) (x inode bytes : List ℕ) (block : ℕ) (form : DataForm) (entries : List held.Entry) (dotdot : ℕ) → inode ≡ inode_of g x dir → bytes ≡ block_of g x block
    → IsOfForm inode (forms.Block block) → HasBlocksSize inode → HoldsFirst g dir block bytes form entries dotdot → EntriesStand g x dir entries dotdot
stand_block g dir x inode bytes block form entries dotdot same shown is size first =
    let there : IsOfForm (inode_of g x dir) (forms.Block block) = rw same at is in
    inr (block, form, there.0, there.1, rw same at size, rw shown at first)

if_found : (name : List ℕ) (entries : List held.Entry) (found : Option Entry) → Finds name entries found → IfSome found (λ entry. Finds name entries (Some entry))
if_found name entries None finds = tt
if_found name entries (Some entry) finds = finds

pub stands_short : (g : Geometry) (dir : ℕ) (image : Option (List ℕ)) (inode name : List ℕ) (found : Option Entry) → IfSome image (λ x. inode ≡ inode_of g x dir) → IsOfForm inode forms.Short
    → (form : ShortForm) × HasShortSize inode × ShortHolds (short_bytes_of inode) form × Finds name form.entries found → IfSome image (λ x. RestsOnAll g x dir name found)
stands_short g dir None inode name found same form finds = tt
stands_short g dir (Some x) inode name found same form finds = record {
  entries = finds.0.entries;
  dotdot = finds.0.parent;
  stand = stand_short g dir x inode finds.0.entries finds.0.parent same (short.holds_short inode finds.0 finds.0.entries finds.0.parent form (finds.1, finds.2) refl refl);
  there = if_found name finds.0.entries found finds.3;
  indexed = λ _. finds.3;
}

pub stands_block : (g : Geometry) (dir : ℕ) (image : Option (List ℕ)) (inode bytes name : List ℕ) (block : ℕ) (found : Option Entry) → IfSome image (λ x. inode ≡ inode_of g x dir) → IfSome image (λ x. bytes ≡ block_of g x block)
    → IsOfForm inode (forms.Block block) → HasBlocksSize inode → StandsInFirst g dir block bytes name found → IfSome image (λ x. RestsOnAll g x dir name found)
stands_block g dir None inode bytes name block found same shown form size stands = tt
stands_block g dir (Some x) inode bytes name block found same shown form size stands =
    let there : IsOfForm (inode_of g x dir) (forms.Block block) = rw same at form in
    let holds : DataHolds (block_of g x block) stands.form = rw shown at stands.first.data_block.holds in
    record {
      entries = stands.entries;
      dotdot = stands.dotdot;
      stand = stand_block g dir x inode bytes block stands.form stands.entries stands.dotdot same shown form size stands.first;
      there = stands.there;
      indexed = λ index. let both = index block stands.form there.0 there.1 holds in stands.indexed both.0 both.1;
    }

pub on_all_short : (g : Geometry) (dir : ℕ) (image : Option (List ℕ)) (inode name : List ℕ) (found : Option Entry) → IfSome image (λ x. inode ≡ inode_of g x dir) → IsOfForm inode forms.Short
    → (form : ShortForm) × HasShortSize inode × ShortHolds (short_bytes_of inode) form × Finds name form.entries found → IfSome image (λ x. StandsOver g x dir name found)
on_all_short g dir image inode name found same form finds = IfSome_then image (stands_short g dir image inode name found same form finds) (λ x stands. inl stands)

pub on_all_block : (g : Geometry) (dir : ℕ) (image : Option (List ℕ)) (inode bytes name : List ℕ) (block : ℕ) (found : Option Entry) → IfSome image (λ x. inode ≡ inode_of g x dir) → IfSome image (λ x. bytes ≡ block_of g x block)
    → IsOfForm inode (forms.Block block) → HasBlocksSize inode → StandsInFirst g dir block bytes name found → IfSome image (λ x. StandsOver g x dir name found)
on_all_block g dir image inode bytes name block found same shown form size stands = IfSome_then image (stands_block g dir image inode bytes name block found same shown form size stands) (λ x stands. inl stands)

pub parent_short : (g : Geometry) (dir : ℕ) (image : Option (List ℕ)) (inode : List ℕ) (dotdot : ℕ) → IfSome image (λ x. inode ≡ inode_of g x dir) → (entries : List held.Entry) × HoldsShort inode entries dotdot
    → IfSome image (λ x. HasDotdot g x dir dotdot)
parent_short g dir None inode dotdot same holds = tt
parent_short g dir (Some x) inode dotdot same holds = inl (holds.0, stand_short g dir x inode holds.0 dotdot same holds.1)

pub parent_block : (g : Geometry) (dir : ℕ) (image : Option (List ℕ)) (inode bytes : List ℕ) (block dotdot : ℕ) → IfSome image (λ x. inode ≡ inode_of g x dir) → IfSome image (λ x. bytes ≡ block_of g x block)
    → IsOfForm inode (forms.Block block) → HasBlocksSize inode → (form : DataForm) × (entries : List held.Entry) × HoldsFirst g dir block bytes form entries dotdot
    → IfSome image (λ x. HasDotdot g x dir dotdot)
parent_block g dir None inode bytes block dotdot same shown form size holds = tt
parent_block g dir (Some x) inode bytes block dotdot same shown form size holds = inl (holds.1, stand_block g dir x inode bytes block holds.0 holds.1 dotdot same shown form size holds.2)

-- ---- what is read

-- a look-up and a list read the inode at least
one_or_more : (b : Bool) (n : ℕ) → 1 ≤ (if b then 1 else 1 + n)
one_or_more true n = omega arith
one_or_more false n = omega arith

one_at_least : (g : Geometry) (dir : ℕ) (inode : List ℕ) (blocks : ℕ → List ℕ) (hash cost : ℕ) → IsLookUpCost g dir inode blocks hash cost → 1 ≤ cost
one_at_least g dir inode blocks hash cost (inl short) = omega (arith, short.1)
one_at_least g dir inode blocks hash cost (inr (inl block)) = omega (arith, block.2)
one_at_least g dir inode blocks hash cost (inr (inr hashed)) = omega (arith, hashed.1.2)

pub look_up_inode : (g : Geometry) (dir : ℕ) (image : Option (List ℕ)) (hash before after : ℕ) → after ≤ before + 1
    → IfSome image (λ x. (cost : ℕ) → HasLookUpCost g x dir hash cost → after ≤ before + cost)
look_up_inode g dir image hash before after few =
    every image _ (λ x cost costs. let one = one_at_least g dir (inode_of g x dir) (block_of g x) hash cost costs in omega (arith, few, one))

pub most_inode : (g : Geometry) (dir : ℕ) (image : Option (List ℕ)) (before after : ℕ) → after ≤ before + 1 → IfSome image (λ x. after ≤ before + look_up_most (inode_of g x dir))
most_inode g dir image before after few =
    every image _ (λ x. let one = one_or_more (number_at 1 5 (inode_of g x dir) == local_format) (hash_most (data_runs_of (inode_of g x dir))) in omega (arith, few, one))

pub list_inode : (g : Geometry) (dir : ℕ) (image : Option (List ℕ)) (before after : ℕ) → after ≤ before + 1 → IfSome image (λ x. after ≤ before + list_cost (inode_of g x dir))
list_inode g dir image before after few =
    every image _ (λ x. let one = one_or_more (number_at 1 5 (inode_of g x dir) == local_format) (mapped_count (data_runs_of (inode_of g x dir))) in omega (arith, few, one))

one_only : (P : ℕ → Type 0) (k d : ℕ) → k < 1 → P 0 → P (get_or (0 ∷ []) k d)
one_only P zero d below holds = holds
one_only P (suc k) d below holds = absurd (omega (arith, below))

one_mapped : (runs : List Run) → IsSome (mapped runs 0) → 1 ≤ mapped_count runs
one_mapped runs some = few_of_mapped runs (0 ∷ []) (λ i j d below within. absurd (omega (arith, below, within))) (λ k d below. one_only (λ n. IsSome (mapped runs n)) k d below some)

pub list_block : (g : Geometry) (dir : ℕ) (image : Option (List ℕ)) (inode : List ℕ) (block before after : ℕ) → IfSome image (λ x. inode ≡ inode_of g x dir) → IsOfForm inode (forms.Block block) → after ≤ before + 2
    → IfSome image (λ x. after ≤ before + list_cost (inode_of g x dir))
list_block g dir image inode block before after same form few = IfSome_then image same
    (λ x is. rw (← is) (let cost : list_cost inode ≡ 1 + mapped_count (data_runs_of inode) = rw form.0 refl in
    let some = one_mapped (data_runs_of inode) (rw form.1.first refl) in
    omega (arith, few, cost, some)))

block_cost : (g : Geometry) (dir : ℕ) (inode : List ℕ) (blocks : ℕ → List ℕ) (block hash cost before after : ℕ) → IsOfForm inode (forms.Block block) → after ≤ before + 2 → IsLookUpCost g dir inode blocks hash cost → after ≤ before + cost
block_cost g dir inode blocks block hash cost before after form few (inl short) = absurd (in_extents inode form.0 short.0)
block_cost g dir inode blocks block hash cost before after form few (inr (inl one)) = omega (arith, few, one.2)
block_cost g dir inode blocks block hash cost before after form few (inr (inr hashed)) = absurd (hashed.0.not_alone block form.1)

pub look_up_block : (g : Geometry) (dir : ℕ) (image : Option (List ℕ)) (inode : List ℕ) (block hash before after : ℕ) → IfSome image (λ x. inode ≡ inode_of g x dir) → IsOfForm inode (forms.Block block) → after ≤ before + 2
    → IfSome image (λ x. (cost : ℕ) → HasLookUpCost g x dir hash cost → after ≤ before + cost)
look_up_block g dir image inode block hash before after same form few = IfSome_then image same (λ x is cost costs. block_cost g dir (inode_of g x dir) (block_of g x) block hash cost before after (rw is at form) few costs)

pub most_block : (g : Geometry) (dir : ℕ) (image : Option (List ℕ)) (inode : List ℕ) (block before after : ℕ) → IfSome image (λ x. inode ≡ inode_of g x dir) → IsOfForm inode (forms.Block block) → after ≤ before + 2
    → IfSome image (λ x. after ≤ before + look_up_most (inode_of g x dir))
most_block g dir image inode block before after same form few = IfSome_then image same
    (λ x is. rw (← is) (let most : look_up_most inode ≡ 1 + hash_most (data_runs_of inode) = rw form.0 refl in
    omega (arith, few, most)))
