-- From the blocks of a directory in leaf or node form to the image that shows them.
use Rattle.std.proofs.Common.{◌≡◌, ℕ, ◌+◌, ◌≤◌, List, Option, Some, None, refl, sym, ap, subst, ◌∙◌, arith, inl, inr}
use Rattle.std.specs.Prelude.{IfSome}
use Rattle.std.proofs.lemmas.Option.{IfSome_then}
use Rattle.xn_bytes.specs.Superblock.{Geometry}
use Rattle.xn_bytes.specs.Blocks.{block_of}
use Rattle.xn_bytes.specs.Inode.{CoreFields, inode_of}
use Rattle.xn_bytes.specs.Entries as held
use Rattle.xn_bytes.specs.DirectoryForms.{HasBlocksSize, data_runs_of}
use Rattle.xn_bytes.specs.LeafForms.{DirFork, HoldsHashed, IsInBlocks, data_fork_in}
use Rattle.xn_bytes.specs.DirectoryHolds.{DirHolds, HasDotdot}
use Rattle.xn_bytes.specs.Costs.{HasLookUpCost, IsHashCost, IsLookUpCost, hash_most, list_cost, look_up_most, mapped_count}
use Rattle.xn_inode.specs.declared.store.Store.{Ghosts}
use Rattle.xn_inode.specs.Frames.{StoreStays}
use Rattle.xn_inode.specs.declared.fork_fault.ForkFault.{ForkFault}
use Rattle.xn_inode.specs.declared.fork_fault.ForkFault.TheVariants.{Read, Memory, Broken}
use Rattle.xn_datree.specs.declared.fork.Fork.{Fork}
use Rattle.xn_dir.specs.declared.entry.Entry.{Entry}
use Rattle.xn_dir.specs.declared.form.Form.TheVariants as forms
use Rattle.xn_dir.specs.Inodes.{IsSoundInode, IsOfForm}
use Rattle.xn_inode.specs.Faults.{IsRule}
use Rattle.xn_dir.specs.Faults.{Breaks, IsFaultOver, IsHashedFault}
use Rattle.xn_dir.specs.Finding.{Finds, FindsOver, StandsOver, named}
use Rattle.xn_dir.specs.Hashed.{HasDotdotFirst, IsForkOf, StandsIn, dir_fork}
use Rattle.xn_dir.proofs.Following.{IfSome_both}
use Rattle.xn_dir.proofs.OneForm.{in_extents}

-- the data fork over an image
pub fork_is : (g : Geometry) (dir : ℕ) (x inode : List ℕ) (fork : Fork) → IsForkOf dir inode fork → inode ≡ inode_of g x dir → dir_fork g fork x ≡ data_fork_in g dir (inode_of g x dir) (block_of g x)
fork_is g dir x inode fork is same = rw (is.owner, is.runs, same) refl

in_form : (g : Geometry) (dir : ℕ) (x inode : List ℕ) → inode ≡ inode_of g x dir → IsOfForm inode forms.Hashed → IsInBlocks (inode_of g x dir)
in_form g dir x inode same form = subst IsInBlocks same form

-- ---- faults

-- a fault of the blocks, as one of the directory
pub over_blocks : {S : Type 0} (store : Ghosts S) (B : Breaks) (Rest : DirFork → ℕ → ℕ → Type 0) (dir : ℕ) (inode : List ℕ) (core : CoreFields) (fork : Fork) (old mid new : S) (fault : ForkFault)
    → ((g : Geometry) (one : List ℕ) (blocks : ℕ → List ℕ) (rule block : ℕ) → IsInBlocks one → HasBlocksSize one → Rest (data_fork_in g dir one blocks) rule block → B g dir one blocks rule block)
    → StoreStays store old mid → IfSome (store.image old) (λ x. inode ≡ inode_of (store.shape old) x dir) → IsSoundInode (store.shape old) dir inode core → IsOfForm inode forms.Hashed → HasBlocksSize inode → IsForkOf dir inode fork
    → IsHashedFault store (λ x. Rest (dir_fork (store.shape old) fork x)) mid new fault → IsFaultOver B (store.shape old) dir (store.image old) (store.faults old) (store.faults new) fault
over_blocks store B Rest dir inode core fork old mid new Read leads stays same sound form size is fails = let later = stays.faults_later in omega arith
over_blocks store B Rest dir inode core fork old mid new Memory leads stays same sound form size is fails = tt
over_blocks store B Rest dir inode core fork old mid new (Broken rule block) leads stays same sound form size is fails =
    let g = store.shape old in
    let there = subst (λ (i : Option (List ℕ)). IfSome i (λ x. Rest (dir_fork g fork x) rule block)) stays.image_stays fails in
    IfSome_both (store.image old) same there
    (λ x shown breaks. rw (← shown) (inr (
      sound.sound,
      inr (
        sound.forks,
        inr (
          sound.lists,
          inr (
            in_extents inode form.is_extents,
            inr (leads g inode (block_of g x) rule block form size (subst (λ (d : DirFork). Rest d rule block) (fork_is g dir x inode fork is shown ∙ ap (λ (i : List ℕ). data_fork_in g dir i (block_of g x)) (sym shown)) breaks)),
          ),
        ),
      ),
    )))

-- rule 15
pub over_size : (B : Breaks) (g : Geometry) (dir : ℕ) (image : Option (List ℕ)) (inode : List ℕ) (core : CoreFields) (before now : ℕ) (fault : ForkFault)
    → ((one : List ℕ) (blocks : ℕ → List ℕ) (rule block : ℕ) → IsInBlocks one → (rule ≡ 15) × (block ≡ 0) × (HasBlocksSize one → ⊥) → B g dir one blocks rule block)
    → IfSome image (λ x. inode ≡ inode_of g x dir) → IsSoundInode g dir inode core → IsOfForm inode forms.Hashed → IsRule 15 (HasBlocksSize inode) fault → IsFaultOver B g dir image before now fault
over_size B g dir image inode core before now Read leads same sound form fails = absurd fails
over_size B g dir image inode core before now Memory leads same sound form fails = tt
over_size B g dir image inode core before now (Broken rule block) leads same sound form fails =
    IfSome_then image same
    (λ x shown. rw (← shown) (inr (sound.sound, inr (sound.forks, inr (sound.lists, inr (in_extents inode form.is_extents, inr (leads inode (block_of g x) rule block form fails)))))))

-- ---- what is found

pub stands_hashed : (g : Geometry) (dir : ℕ) (image : Option (List ℕ)) (inode name : List ℕ) (fork : Fork) (found : Option Entry) → IfSome image (λ x. inode ≡ inode_of g x dir) → IsOfForm inode forms.Hashed → HasBlocksSize inode → IsForkOf dir inode fork
    → IfSome found (λ entry. IfSome image (λ x. StandsIn (dir_fork g fork x) (named name entry))) → IfSome image (λ x. StandsOver g x dir name found)
stands_hashed g dir image inode name fork None same form size is stands = IfSome_then image same (λ x shown. inr (in_form g dir x inode shown form, tt))
stands_hashed g dir image inode name fork (Some entry) same form size is stands =
    IfSome_both image same stands
    (λ x shown there. let here = subst (λ (d : DirFork). StandsIn d (named name entry)) (fork_is g dir x inode fork is shown) there in
    inr (
      in_form g dir x inode shown form,
      record {
        form = in_form g dir x inode shown form;
        size = subst HasBlocksSize shown size;
        placed = here.placed;
        is_data = here.is_data;
        is_placed = here.is_placed;
        there = here.there;
      },
    ))

finds_in : (d : DirFork) (g : Geometry) (dir : ℕ) (x name : List ℕ) (found : Option Entry) (entries : List held.Entry) (dotdot : ℕ) → IsInBlocks (inode_of g x dir) → d ≡ data_fork_in g dir (inode_of g x dir) (block_of g x)
    → ((all : List held.Entry) (parent : ℕ) → HoldsHashed d all parent → Finds name all found) → DirHolds g x dir entries dotdot → Finds name entries found
finds_in d g dir x name found entries dotdot form same all (inl short) = absurd (in_extents (inode_of g x dir) form.is_extents short.is_local)
finds_in d g dir x name found entries dotdot form same all (inr (inl block)) = absurd (form.not_alone block.block block.alone)
finds_in d g dir x name found entries dotdot form same all (inr (inr blocks)) = all entries dotdot (subst (λ (one : DirFork). HoldsHashed one entries dotdot) (sym same) blocks.holds)

pub finds_hashed : (g : Geometry) (dir : ℕ) (image : Option (List ℕ)) (inode name : List ℕ) (fork : Fork) (found : Option Entry) → IfSome image (λ x. inode ≡ inode_of g x dir) → IsOfForm inode forms.Hashed → IsForkOf dir inode fork
    → IfSome image (λ x. (entries : List held.Entry) (dotdot : ℕ) → HoldsHashed (dir_fork g fork x) entries dotdot → Finds name entries found) → IfSome image (λ x. FindsOver g x dir name found)
finds_hashed g dir image inode name fork found same form is all =
    IfSome_both image same all
    (λ x shown those entries dotdot holds. finds_in (dir_fork g fork x) g dir x name found entries dotdot (in_form g dir x inode shown form) (fork_is g dir x inode fork is shown) those holds)

pub dotdot_hashed : (g : Geometry) (dir : ℕ) (image : Option (List ℕ)) (inode : List ℕ) (fork : Fork) (dotdot : ℕ) → IfSome image (λ x. inode ≡ inode_of g x dir) → IsOfForm inode forms.Hashed → HasBlocksSize inode → IsForkOf dir inode fork
    → IfSome image (λ x. HasDotdotFirst (dir_fork g fork x) dotdot) → IfSome image (λ x. HasDotdot g x dir dotdot)
dotdot_hashed g dir image inode fork dotdot same form size is has =
    IfSome_both image same has
    (λ x shown there. let here = subst (λ (d : DirFork). HasDotdotFirst d dotdot) (fork_is g dir x inode fork is shown) there in
    inr (record {
      form = in_form g dir x inode shown form;
      size = subst HasBlocksSize shown size;
      first = here.first;
      is_placed = here.is_placed;
      front = here.front;
      dots = here.dots;
    }))

-- ---- what is read

hashed_cost : (g : Geometry) (dir : ℕ) (inode : List ℕ) (blocks : ℕ → List ℕ) (hash cost before after : ℕ) → IsInBlocks inode
    → ((cost_of_hash : ℕ) → IsHashCost (data_fork_in g dir inode blocks) hash cost_of_hash → after ≤ before + 1 + cost_of_hash) → IsLookUpCost g dir inode blocks hash cost → after ≤ before + cost
hashed_cost g dir inode blocks hash cost before after form few (inl short) = absurd (in_extents inode form.is_extents short.0)
hashed_cost g dir inode blocks hash cost before after form few (inr (inl block)) = absurd (form.not_alone block.1.0 block.1.1)
hashed_cost g dir inode blocks hash cost before after form few (inr (inr hashed)) = let read = few hashed.1.0 hashed.1.1 in omega (arith, read, hashed.1.2)

pub look_up_hashed : (g : Geometry) (dir : ℕ) (image : Option (List ℕ)) (inode : List ℕ) (fork : Fork) (hash before mid after : ℕ) → IfSome image (λ x. inode ≡ inode_of g x dir) → IsOfForm inode forms.Hashed → IsForkOf dir inode fork → mid ≤ before + 1
    → IfSome image (λ x. (cost : ℕ) → IsHashCost (dir_fork g fork x) hash cost → after ≤ mid + cost) → IfSome image (λ x. (cost : ℕ) → HasLookUpCost g x dir hash cost → after ≤ before + cost)
look_up_hashed g dir image inode fork hash before mid after same form is first few =
    IfSome_both image same few
    (λ x shown reads cost costs. hashed_cost g dir (inode_of g x dir) (block_of g x) hash cost before after (in_form g dir x inode shown form)
    (λ of_hash is_cost. let read = reads of_hash (subst (λ (d : DirFork). IsHashCost d hash of_hash) (sym (fork_is g dir x inode fork is shown)) is_cost) in omega (arith, read, first)) costs)

pub most_hashed : (g : Geometry) (dir : ℕ) (image : Option (List ℕ)) (inode : List ℕ) (fork : Fork) (before mid after : ℕ) → IfSome image (λ x. inode ≡ inode_of g x dir) → IsOfForm inode forms.Hashed → IsForkOf dir inode fork → mid ≤ before + 1
    → after ≤ mid + hash_most fork.extents → IfSome image (λ x. after ≤ before + look_up_most (inode_of g x dir))
most_hashed g dir image inode fork before mid after same form is first few =
    IfSome_then image same
    (λ x shown. rw (← shown) (let most : look_up_most inode ≡ 1 + hash_most (data_runs_of inode) = rw form.is_extents refl in
    let runs : hash_most fork.extents ≡ hash_most (data_runs_of inode) = ap hash_most is.runs in
    omega (arith, first, few, most, runs)))

-- the number of blocks, by the inode and the data fork
pub list_hashed : (g : Geometry) (dir : ℕ) (image : Option (List ℕ)) (inode : List ℕ) (fork : Fork) (before mid after : ℕ) → IfSome image (λ x. inode ≡ inode_of g x dir) → IsOfForm inode forms.Hashed → IsForkOf dir inode fork → mid ≤ before + 1
    → after ≤ mid + mapped_count fork.extents → IfSome image (λ x. after ≤ before + list_cost (inode_of g x dir))
list_hashed g dir image inode fork before mid after same form is first few =
    IfSome_then image same
    (λ x shown. rw (← shown) (let cost : list_cost inode ≡ 1 + mapped_count (data_runs_of inode) = rw form.is_extents refl in
    let count : mapped_count fork.extents ≡ mapped_count (data_runs_of inode) = ap mapped_count is.runs in
    omega (arith, first, few, cost, count)))

-- ---- what a directory holds

pub holds_hashed : (g : Geometry) (dir : ℕ) (image : Option (List ℕ)) (inode : List ℕ) (fork : Fork) (entries : List held.Entry) → IfSome image (λ x. inode ≡ inode_of g x dir) → IsOfForm inode forms.Hashed → HasBlocksSize inode → IsForkOf dir inode fork
    → IfSome image (λ x. (dotdot : ℕ) × HoldsHashed (dir_fork g fork x) entries dotdot) → IfSome image (λ x. (dotdot : ℕ) × DirHolds g x dir entries dotdot)
holds_hashed g dir image inode fork entries same form size is holds =
    IfSome_both image same holds
    (λ x shown there. (
      there.0,
      inr (inr (record {
        form = in_form g dir x inode shown form;
        size = subst HasBlocksSize shown size;
        holds = subst (λ (d : DirFork). HoldsHashed d entries there.0) (fork_is g dir x inode fork is shown) there.1;
      })),
    ))
