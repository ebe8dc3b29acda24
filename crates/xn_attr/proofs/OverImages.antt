-- From the bytes of an inode and the blocks of its attribute fork to the image that shows them.
use Rattle.std.proofs.Common.{◌≡◌, ℕ, ◌+◌, ◌/◌, ◌≤◌, Bool, true, false, List, [], length, Option, Result, Ok, Err, refl, sym, ap, subst, ◌∙◌, arith, inl, inr}
use Rattle.std.specs.Prelude.{◌⊎◌, ◌↔◌, ◌==◌, Contains, IsTrue, IfOk, IfSome, filter}
use Rattle.std.proofs.lemmas.Bool.{eq-eqb, ne_eqb}
use Rattle.std.proofs.lemmas.Option.{IfSome_then}
use Rattle.xn_bytes.specs.Superblock.{Geometry}
use Rattle.xn_bytes.specs.Blocks.{block_of}
use Rattle.xn_bytes.specs.Costs.{mapped_count}
use Rattle.xn_bytes.specs.Inode.{CoreFields, CoreHolds, HasBothForks, HasCore, attr_fork_of, inode_of}
use Rattle.xn_bytes.specs.DirectoryForms.{HasForkLists}
use Rattle.xn_bytes.specs.Trees.{Held, IsTree, Tree, TreeFork, TreeHolds}
use Rattle.xn_bytes.specs.declared.attribute.Attribute.{Attribute}
use Rattle.xn_bytes.specs.Attributes.{attribute_hash}
use Rattle.xn_bytes.specs.ShortAttributes.{ShortAttributesHold}
use Rattle.xn_bytes.specs.AttributeLeaves.{AttrLeafHolds, attr_leaf_ends}
use Rattle.xn_bytes.specs.AttributeForks.{AttrHolds, BreaksShortFork, HasAttributes, HasNoAttrFork, HasOwnInode, IsEmptyFork, IsShortFork, IsTreeFork, OrBreaksOwn, attr_runs_of, attr_tree}
use Rattle.xn_bytes.specs.AttributeRoom.{IsAttrCost, IsAttrGrowth}
use Rattle.xn_inode.specs.declared.store.Store.{Ghosts}
use Rattle.xn_inode.specs.Frames.{StoreStays}
use Rattle.xn_inode.specs.Faults.{IsRule}
use Rattle.xn_inode.specs.declared.fork_fault.ForkFault.{ForkFault}
use Rattle.xn_inode.specs.declared.fork_fault.ForkFault.TheVariants.{Read, Memory, Broken}
use Rattle.xn_inode.proofs.Counts.{few_of_mapped}
use Rattle.xn_datree.specs.declared.fork.Fork.{Fork}
use Rattle.xn_datree.specs.Forks.{FetchesBlocks, IsTreeFault, tree_fork}
use Rattle.xn_attrleaf.proofs.ShortAttributesForms.{short_once}
use Rattle.xn_datree.specs.declared.fork.Grow.{Grow}
use Rattle.xn_attr.specs.declared.form.Form.{Form}
use Rattle.xn_attr.specs.declared.form.Form.TheVariants as forms
use Rattle.xn_attr.specs.Inodes.{IsForkOf, IsOfForm, IsSoundInode}
use Rattle.xn_attr.specs.Faults.{IsFaultBy, IsShortFault}
use Rattle.xn_attr.specs.Costs.{attr_blocks_of, find_most, list_most}
use Rattle.xn_attr.proofs.Lists.{IfSome_both, every, in_filter, in_none, of_filter}

-- ---- forms

-- an inode has no two forms
pub no_tree_absent : (inode : List ℕ) → HasNoAttrFork inode → IsTreeFork inode → ⊥
no_tree_absent inode none tree = tree.there none

pub no_tree_empty : (inode : List ℕ) → IsEmptyFork inode → IsTreeFork inode → ⊥
no_tree_empty inode empty tree = tree.some empty.none

pub no_tree_short : (inode : List ℕ) → IsShortFork inode → IsTreeFork inode → ⊥
no_tree_short inode short tree = omega (arith, short.is_local, tree.is_extents)

pub no_empty_short : (inode : List ℕ) → IsShortFork inode → IsEmptyFork inode → ⊥
no_empty_short inode short empty = omega (arith, short.is_local, empty.is_extents)

pub no_short_alone : (inode : List ℕ) → HasNoAttrFork inode ⊎ IsEmptyFork inode → IsShortFork inode → ⊥
no_short_alone inode (inl none) short = short.there none
no_short_alone inode (inr empty) short = no_empty_short inode short empty

pub no_tree_alone : (inode : List ℕ) → HasNoAttrFork inode ⊎ IsEmptyFork inode → IsTreeFork inode → ⊥
no_tree_alone inode (inl none) tree = no_tree_absent inode none tree
no_tree_alone inode (inr empty) tree = no_tree_empty inode empty tree

-- ---- the attributes of each form

pub none_alone : (g : Geometry) (ino : ℕ) (inode : List ℕ) (blocks : ℕ → List ℕ) (attributes : List Attribute) → HasNoAttrFork inode ⊎ IsEmptyFork inode → HasAttributes g ino inode blocks attributes → attributes ≡ []
none_alone g ino inode blocks attributes form (inl none) = none.1
none_alone g ino inode blocks attributes form (inr (inl short)) = absurd (no_short_alone inode form short.0)
none_alone g ino inode blocks attributes form (inr (inr tree)) = absurd (no_tree_alone inode form tree.0)

pub those_in_short : (g : Geometry) (ino : ℕ) (inode : List ℕ) (blocks : ℕ → List ℕ) (attributes : List Attribute) → IsShortFork inode → HasAttributes g ino inode blocks attributes → ShortAttributesHold (attr_fork_of inode) attributes
those_in_short g ino inode blocks attributes form (inl none) = absurd (no_short_alone inode none.0 form)
those_in_short g ino inode blocks attributes form (inr (inl short)) = short.1
those_in_short g ino inode blocks attributes form (inr (inr tree)) = absurd (no_tree_short inode form tree.0)

pub those_in_tree : (g : Geometry) (ino : ℕ) (inode : List ℕ) (blocks : ℕ → List ℕ) (attributes : List Attribute) → IsTreeFork inode → HasAttributes g ino inode blocks attributes → TreeHolds (attr_tree g ino inode blocks) attributes
those_in_tree g ino inode blocks attributes form (inl none) = absurd (no_tree_alone inode none.0 form)
those_in_tree g ino inode blocks attributes form (inr (inl short)) = absurd (no_tree_short inode short.0 form)
those_in_tree g ino inode blocks attributes form (inr (inr tree)) = tree.1

-- ---- the tree over an image

abbrev pub tree_by : TreeFork → (ℕ → List ℕ) → Tree Attribute
tree_by fork blocks = record { HoldsLeaf = AttrLeafHolds; ends_of_leaf = attr_leaf_ends; fork = fork; blocks = blocks }

abbrev pub fork_in : Geometry → ℕ → List ℕ → TreeFork
fork_in g ino inode = record { geometry = g; owner = ino; is_attribute = true; runs = attr_runs_of inode; root = 0 }

pub fork_is : (g : Geometry) (ino : ℕ) (x inode : List ℕ) (fork : Fork) → IsForkOf ino inode fork → inode ≡ inode_of g x ino → tree_fork g fork ≡ fork_in g ino (inode_of g x ino)
fork_is g ino x inode fork is same = rw (is.owner, is.is_attribute, is.root, is.runs, same) refl

-- ---- rules that hold

pub sound_of : (g : Geometry) (ino : ℕ) (inode : List ℕ) (core : CoreFields) → HasCore inode ino g.meta_uuid → HasBothForks g inode ino
    → HasForkLists g inode → CoreHolds inode core → IsSoundInode g ino inode core
sound_of g ino inode core ten eleven lists fields = record { own = record { core = ten; forks = eleven; lists = lists }; fields = fields }

pub own_shown : (g : Geometry) (ino : ℕ) (image : Option (List ℕ)) (inode : List ℕ) → IfSome image (λ x. inode ≡ inode_of g x ino)
    → HasCore inode ino g.meta_uuid → HasBothForks g inode ino → HasForkLists g inode
    → IfSome image (λ x. HasOwnInode g (inode_of g x ino) ino)
own_shown g ino image inode same ten eleven lists =
    IfSome_then image same (λ x is. rw (← is) (record { core = ten; forks = eleven; lists = lists }))

-- ---- faults

pub own_breaks : (g : Geometry) (ino : ℕ) (inode : List ℕ) (rule block : ℕ) (Rest : Type 0) → OrBreaksOwn g ino inode rule block ⊥ → OrBreaksOwn g ino inode rule block Rest
own_breaks g ino inode rule block Rest (inl core) = inl core
own_breaks g ino inode rule block Rest (inr (core, inl forks)) = inr (core, inl forks)
own_breaks g ino inode rule block Rest (inr (core, inr (forks, inl lists))) = inr (core, inr (forks, inl lists))
own_breaks g ino inode rule block Rest (inr (core, inr (forks, inr none))) = absurd none.1

-- a fault of the inode alone
pub over_inode : {S : Type 0} (store : Ghosts S) (Rest : List ℕ → ℕ → ℕ → Type 0) (ino : ℕ) (old new : S) (fault : ForkFault) → IsFaultBy store (λ x rule block. OrBreaksOwn (store.shape old) ino (inode_of (store.shape old) x ino) rule block ⊥) old new fault
    → IsFaultBy store (λ x rule block. OrBreaksOwn (store.shape old) ino (inode_of (store.shape old) x ino) rule block (Rest x rule block)) old new fault
over_inode store Rest ino old new Read fails = fails
over_inode store Rest ino old new Memory fails = tt
over_inode store Rest ino old new (Broken rule block) fails = IfSome_then (store.image old) fails (λ x breaks. own_breaks (store.shape old) ino (inode_of (store.shape old) x ino) rule block (Rest x rule block) breaks)

-- rule 13
pub over_lists : {S : Type 0} (store : Ghosts S) (Rest : List ℕ → ℕ → ℕ → Type 0) (ino : ℕ) (inode : List ℕ) (old new : S)
    → (fault : ForkFault) → IfSome (store.image old) (λ x. inode ≡ inode_of (store.shape old) x ino)
    → HasCore inode ino (store.shape old).meta_uuid → HasBothForks (store.shape old) inode ino
    → IsRule 13 (HasForkLists (store.shape old) inode) fault
    → IsFaultBy store (λ x rule block. OrBreaksOwn (store.shape old) ino (inode_of (store.shape old) x ino) rule block (Rest x rule block)) old new fault
over_lists store Rest ino inode old new Read same core forks fails = absurd fails
over_lists store Rest ino inode old new Memory same core forks fails = tt
over_lists store Rest ino inode old new (Broken rule block) same core forks fails =
    IfSome_then (store.image old) same (λ x is. rw (← is) (inr (core, inr (forks, inl fails))))

-- rule 24
pub over_short : {S : Type 0} (store : Ghosts S) (R : List ℕ → ℕ → ℕ → Type 0) (ino : ℕ) (inode : List ℕ) (core : CoreFields) (old new : S) (fault : ForkFault) → IfSome (store.image old) (λ x. inode ≡ inode_of (store.shape old) x ino)
    → IsSoundInode (store.shape old) ino inode core → IsShortFork inode → IsShortFault inode fault
    → IsFaultBy store (λ x rule block. OrBreaksOwn (store.shape old) ino (inode_of (store.shape old) x ino) rule block (BreaksShortFork (inode_of (store.shape old) x ino) rule block ⊎ R x rule block)) old new fault
over_short store R ino inode core old new Read same sound form fails = absurd fails
over_short store R ino inode core old new Memory same sound form fails = tt
over_short store R ino inode core old new (Broken rule block) same sound form fails =
    IfSome_then (store.image old) same
    (λ x is. rw (← is) (inr (sound.own.core, inr (sound.own.forks, inr (sound.own.lists, inl (fails.0, fails.1, form, λ attributes holds. fails.2 (attributes, holds)))))))

-- rule 25, by what the tree breaks
pub over_tree : {S : Type 0} (store : Ghosts S) (P : TreeFork → (ℕ → List ℕ) → ℕ → Type 0) (Rest : List ℕ → ℕ → ℕ → Type 0) (ino : ℕ) (inode : List ℕ) (core : CoreFields) (fork : Fork) (old mid new : S) (fault : ForkFault)
    → ((x : List ℕ) (rule block : ℕ) → rule ≡ 25 → IsTreeFork (inode_of (store.shape old) x ino) → P (fork_in (store.shape old) ino (inode_of (store.shape old) x ino)) (block_of (store.shape old) x) block → Rest x rule block)
    → StoreStays store old mid → IfSome (store.image old) (λ x. inode ≡ inode_of (store.shape old) x ino) → IsSoundInode (store.shape old) ino inode core → IsTreeFork inode → IsForkOf ino inode fork
    → IsTreeFault store (λ x. P (tree_fork (store.shape old) fork) (block_of (store.shape old) x)) fork mid new fault
    → IsFaultBy store (λ x rule block. OrBreaksOwn (store.shape old) ino (inode_of (store.shape old) x ino) rule block (Rest x rule block)) old new fault
over_tree store P Rest ino inode core fork old mid new Read leads stays same sound form is fails = let later = stays.faults_later in omega arith
over_tree store P Rest ino inode core fork old mid new Memory leads stays same sound form is fails = tt
over_tree store P Rest ino inode core fork old mid new (Broken rule block) leads stays same sound form is fails =
    let g = store.shape old in
    let rule_is : rule ≡ 25 = fails.0 ∙ rw is.is_attribute refl in
    let there = subst (λ (i : Option (List ℕ)). IfSome i (λ x. P (tree_fork g fork) (block_of g x) block)) stays.image_stays fails.1 in
    IfSome_both (store.image old) same there
    (λ x shown breaks.
    let here = subst (λ (f : TreeFork). P f (block_of g x) block) (fork_is g ino x inode fork is shown) breaks in
    let rest = leads x rule block rule_is (subst IsTreeFork shown form) here in
    inr (subst (λ (i : List ℕ). HasCore i ino g.meta_uuid) shown sound.own.core, inr (subst (λ (i : List ℕ). HasBothForks g i ino) shown sound.own.forks, inr (subst (λ (i : List ℕ). HasForkLists g i) shown sound.own.lists, rest))))

-- the same fault over a store that was read before
pub fault_later : {S : Type 0} (store : Ghosts S) (Breaks : List ℕ → ℕ → ℕ → Type 0) (old mid new : S) (fault : ForkFault)
    → StoreStays store old mid → IsFaultBy store Breaks mid new fault → IsFaultBy store Breaks old new fault
fault_later store Breaks old mid new Read stays fails = let later = stays.faults_later in omega arith
fault_later store Breaks old mid new Memory stays fails = tt
fault_later store Breaks old mid new (Broken rule block) stays fails =
    subst (λ (i : Option (List ℕ)). IfSome i (λ x. Breaks x rule block)) stays.image_stays fails

-- ---- what is read

-- the cost of an inode's attributes, of which one piece, the inode, is at hand
abbrev pub CostsRest : Geometry → ℕ → Option (List ℕ) → ℕ → ℕ → Type 0
CostsRest g ino image before after =
    IfSome image (λ x. (cost : ℕ) × IsAttrCost g ino (inode_of g x ino) (block_of g x) cost × (after + 1 ≤ before + cost))

pub cost_alone : (g : Geometry) (ino : ℕ) (image : Option (List ℕ)) (inode : List ℕ) (now : ℕ)
    → IfSome image (λ x. inode ≡ inode_of g x ino) → (IsTreeFork inode → ⊥) → CostsRest g ino image now now
cost_alone g ino image inode now same other =
    IfSome_then image same (λ x is. (1, inl (λ tree. other (subst IsTreeFork (sym is) tree), refl), omega arith))

pub cost_tree : (g : Geometry) (ino : ℕ) (image : Option (List ℕ)) (inode : List ℕ) (fork : Fork) (before after : ℕ)
    → IfSome image (λ x. inode ≡ inode_of g x ino) → IsTreeFork inode → IsForkOf ino inode fork
    → IfSome image
    (λ x. (helds : List (Held Attribute)) × IsTree (tree_by (tree_fork g fork) (block_of g x)) helds × (after ≤ before + length helds))
    → CostsRest g ino image before after
cost_tree g ino image inode fork before after same form is few =
    IfSome_both image same few
    (λ x shown reads.
    let whole = subst (λ (f : TreeFork). IsTree (tree_by f (block_of g x)) reads.0) (fork_is g ino x inode fork is shown) reads.1 in (
      1 + length reads.0,
      inr (subst IsTreeFork shown form, (reads.0, whole, refl)),
      omega (arith, reads.2),
    ))

pub cost_later : (g : Geometry) (ino : ℕ) (image : Option (List ℕ)) (before mid after : ℕ) → mid ≤ before + 1
    → CostsRest g ino image mid after
    → IfSome image (λ x. (cost : ℕ) × IsAttrCost g ino (inode_of g x ino) (block_of g x) cost × (after ≤ before + cost))
cost_later g ino image before mid after first rest =
    IfSome_then image rest (λ x reads. (reads.0, reads.1, omega (arith, first, reads.2)))

pub find_inode : (g : Geometry) (ino : ℕ) (image : Option (List ℕ)) (before after : ℕ) → after ≤ before + 1 → IfSome image (λ x. after ≤ before + find_most (inode_of g x ino))
find_inode g ino image before after few = every image _ (λ x. omega (arith, few))

blocks_of_tree : (inode : List ℕ) → IsTreeFork inode → attr_blocks_of inode ≡ mapped_count (attr_runs_of inode)
blocks_of_tree inode form = rw (ne_eqb _ _ form.there, form.is_extents) refl

pub few_blocks : (fork : Fork) (before after : ℕ) → FetchesBlocks fork before after → after ≤ before + mapped_count fork.extents
few_blocks fork before after reads = omega (arith, reads.fetches, few_of_mapped fork.extents reads.read reads.once reads.there)

pub most_tree : (g : Geometry) (ino : ℕ) (image : Option (List ℕ)) (inode : List ℕ) (fork : Fork) (before after : ℕ)
    → IfSome image (λ x. inode ≡ inode_of g x ino) → IsTreeFork inode → IsForkOf ino inode fork
    → after ≤ before + mapped_count fork.extents → IfSome image (λ x. after + 1 ≤ before + list_most (inode_of g x ino))
most_tree g ino image inode fork before after same form is few =
    IfSome_then image same (λ x shown. rw (← shown) (omega (arith, few, blocks_of_tree inode form, ap mapped_count is.runs)))

pub find_tree : (g : Geometry) (ino : ℕ) (image : Option (List ℕ)) (inode : List ℕ) (fork : Fork) (before mid after : ℕ) → IfSome image (λ x. inode ≡ inode_of g x ino) → IsTreeFork inode → IsForkOf ino inode fork → mid ≤ before + 1
    → after ≤ mid + 5 + mapped_count fork.extents → IfSome image (λ x. after ≤ before + find_most (inode_of g x ino))
find_tree g ino image inode fork before mid after same form is first few =
    IfSome_then image same (λ x shown. rw (← shown) (omega (arith, first, few, blocks_of_tree inode form, ap mapped_count is.runs)))

-- ---- what is found

pub found_alone : (g : Geometry) (ino : ℕ) (image : Option (List ℕ)) (inode : List ℕ) (wanted : Attribute) → IfSome image (λ x. inode ≡ inode_of g x ino) → HasNoAttrFork inode ⊎ IsEmptyFork inode
    → IfSome image (λ x. (attributes : List Attribute) → AttrHolds g x ino attributes → (IsTrue false ↔ Contains attributes wanted))
found_alone g ino image inode wanted same form =
    IfSome_then image same
    (λ x shown attributes holds. (λ t. absurd cc, λ there. absurd (in_none wanted (rw (none_alone g ino (inode_of g x ino) (block_of g x) attributes (subst (λ (i : List ℕ). HasNoAttrFork i ⊎ IsEmptyFork i) shown form) holds) at there))))

pub found_short : (g : Geometry) (ino : ℕ) (image : Option (List ℕ)) (inode : List ℕ) (wanted : Attribute) (found : Bool) → IfSome image (λ x. inode ≡ inode_of g x ino) → IsShortFork inode
    → (attributes : List Attribute) × ShortAttributesHold (attr_fork_of inode) attributes × (IsTrue found ↔ Contains attributes wanted)
    → IfSome image (λ x. (attributes : List Attribute) → AttrHolds g x ino attributes → (IsTrue found ↔ Contains attributes wanted))
found_short g ino image inode wanted found same form finds =
    IfSome_then image same
    (λ x shown attributes holds.
    let those = those_in_short g ino (inode_of g x ino) (block_of g x) attributes (subst IsShortFork shown form) holds in
    let once : finds.0 ≡ attributes = short_once (attr_fork_of (inode_of g x ino)) finds.0 attributes (subst (λ (i : List ℕ). ShortAttributesHold (attr_fork_of i) finds.0) shown finds.1) those in
    subst (λ (all : List Attribute). IsTrue found ↔ Contains all wanted) once finds.2)

pub found_tree : (g : Geometry) (ino : ℕ) (image : Option (List ℕ)) (inode : List ℕ) (fork : Fork) (wanted : Attribute) (hash : ℕ) (items : List Attribute) (found : Bool) → IfSome image (λ x. inode ≡ inode_of g x ino) → IsTreeFork inode → IsForkOf ino inode fork
    → hash ≡ attribute_hash wanted → (IsTrue found ↔ Contains items wanted)
    → IfSome image (λ x. (attributes : List Attribute) → TreeHolds (tree_by (tree_fork g fork) (block_of g x)) attributes → items ≡ filter (λ attribute. attribute_hash attribute == hash) attributes)
    → IfSome image (λ x. (attributes : List Attribute) → AttrHolds g x ino attributes → (IsTrue found ↔ Contains attributes wanted))
found_tree g ino image inode fork wanted hash items found same form is hash_is among all =
    IfSome_both image same all
    (λ x shown filtered attributes holds.
    let those = those_in_tree g ino (inode_of g x ino) (block_of g x) attributes (subst IsTreeFork shown form) holds in
    let here = filtered attributes (subst (λ (f : TreeFork). TreeHolds (tree_by f (block_of g x)) attributes) (sym (fork_is g ino x inode fork is shown)) those) in
    let passes : (attribute_hash wanted == hash) ≡ true = eq-eqb _ _ (sym hash_is) in (
      λ t. of_filter (λ attribute. attribute_hash attribute == hash) attributes wanted (rw here at (among.0 t)),
      λ there. among.1 (rw here (in_filter (λ attribute. attribute_hash attribute == hash) attributes wanted passes there)),
    ))

-- ---- growth

pub grows_alone : (g : Geometry) (ino : ℕ) (image : Option (List ℕ)) (inode : List ℕ) (grow : Grow) → IfSome image (λ x. inode ≡ inode_of g x ino) → (IsTreeFork inode → ⊥)
    → grow ≡ record { blocks = 1; extents = 0; extent_room = length (attr_fork_of inode) / 16; levels = 0 }
    → IfSome image (λ x. IsAttrGrowth g ino (inode_of g x ino) (block_of g x) grow.blocks grow.extents grow.extent_room grow.levels)
grows_alone g ino image inode grow same other is =
    IfSome_then image same (λ x shown. rw (is, ← shown) (record { room = refl; form = inl (other, refl, refl, refl) }))

pub no_tree_else : (inode : List ℕ) (form : Form) → (form ≡ forms.Tree → ⊥) → IsOfForm inode form → IsTreeFork inode → ⊥
no_tree_else inode forms.Absent other is = no_tree_absent inode is
no_tree_else inode forms.Short other is = no_tree_short inode is
no_tree_else inode forms.Empty other is = no_tree_empty inode is
no_tree_else inode forms.Tree other is = absurd (other refl)

pub IfOk_all : {T E : Type 0} (r : Result T E) (P : Type 0) → P → IfOk r (λ _. P)
IfOk_all (Ok x) P holds = holds
IfOk_all (Err e) P holds = tt
