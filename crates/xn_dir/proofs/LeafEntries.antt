-- The leaf entries of a directory in leaf or node form, as its tree or its single leaf has them.
use Rattle.std.proofs.Common.{◌≡◌, ℕ, ◌+◌, ◌*◌, ◌≤◌, List, [], ◌∷◌, length, Some, refl, sym, ap, subst, ◌∙◌, arith, inl, inr}
use Rattle.std.specs.Prelude.{◌==◌, count_by, filter, sum_by}
use Rattle.std.proofs.lemmas.Option.{IfSome_then}
use Rattle.std.proofs.lemmas.List.Sums.{count_by-le-length, length-filter, sum_by-cons}
use Rattle.xn_bytes.specs.Numbers.{number_at}
use Rattle.xn_bytes.specs.Superblock.{Geometry}
use Rattle.xn_bytes.specs.Blocks.{block_of}
use Rattle.xn_bytes.specs.Extents.{mapped}
use Rattle.xn_bytes.specs.DataBlock.{LeafEntry}
use Rattle.xn_bytes.specs.HashedTree.{DirLeafHolds, dir_leaf_ends, dir_leaves, is_live, leaf_file_block}
use Rattle.xn_bytes.specs.Trees.{FailsFor, Tree, Held, IsTree, TreeHolds, entries_in, leaves_to, levels_of_tree, tree_rule}
use Rattle.xn_bytes.specs.DirectoryForms.{IsLeafForm}
use Rattle.xn_bytes.specs.LeafForms.{DirFork, HasLeaves, IsSingleLeaf, tree_in}
use Rattle.xn_bytes.specs.DirectoryRules.{FailsLeaves}
use Rattle.xn_bytes.specs.Costs.{IsHashCost, count_of_hash}
use Rattle.xn_bytes.proofs.LeafEntries.{count_leaves}
use Rattle.xn_inode.specs.declared.store.Store.{Ghosts}
use Rattle.xn_inode.specs.declared.fork_fault.ForkFault.{ForkFault}
use Rattle.xn_inode.specs.declared.fork_fault.ForkFault.TheVariants.{Read, Memory, Broken}
use Rattle.xn_datree.specs.declared.fork.Fork.{Fork}
use Rattle.xn_datree.specs.Forks.{IsTreeFault, tree_of}
use Rattle.xn_dir.specs.Faults.{IsHashedFault}
use Rattle.xn_dir.specs.Hashed.{IsDirFork, dir_fork}
use Rattle.xn_dir.specs.SingleLeaves.{IsLeafRead}
use Rattle.xn_dir.specs.declared.single_leaf.SingleLeaf.{SingleLeaf}
use Rattle.xn_dir.proofs.OneForm.{same_block}

-- the tree of a directory's fork
pub tree_is : (g : Geometry) (fork : Fork) (x : List ℕ) → IsDirFork fork → tree_of DirLeafHolds dir_leaf_ends g fork x ≡ tree_in (dir_fork g fork x)
tree_is g fork x is = rw (is.is_data, is.root) refl

-- a directory in node form has the leaf entries of its tree
pub of_tree : (d : DirFork) (live : List LeafEntry) → (IsLeafForm d.runs → ⊥) → HasLeaves d live → TreeHolds (tree_in d) live
of_tree d live no_leaf_form (inl leaves) = absurd (no_leaf_form leaves.0)
of_tree d live no_leaf_form (inr leaves) = leaves.1

pub found_in_tree : (g : Geometry) (fork : Fork) (x : List ℕ) (hash : ℕ) (found : List LeafEntry) → IsDirFork fork → (IsLeafForm fork.extents → ⊥)
    → ((entries : List LeafEntry) → TreeHolds (tree_of DirLeafHolds dir_leaf_ends g fork x) entries → found ≡ filter (λ leaf. leaf.hash == hash) entries)
    → (live : List LeafEntry) → HasLeaves (dir_fork g fork x) live → found ≡ filter (λ leaf. leaf.hash == hash) live
found_in_tree g fork x hash found is no_leaf_form all live has =
    all live (subst (λ (T : Tree LeafEntry). TreeHolds T live) (sym (tree_is g fork x is)) (of_tree (dir_fork g fork x) live no_leaf_form has))

-- what is read of it
pub cost_in_tree : (g : Geometry) (fork : Fork) (x : List ℕ) (hash before after : ℕ) (found : List LeafEntry) → IsDirFork fork → (IsLeafForm fork.extents → ⊥)
    → ((entries : List LeafEntry) → TreeHolds (tree_of DirLeafHolds dir_leaf_ends g fork x) entries → found ≡ filter (λ leaf. leaf.hash == hash) entries)
    → ((helds : List (Held LeafEntry)) → IsTree (tree_of DirLeafHolds dir_leaf_ends g fork x) helds → after ≤ before + levels_of_tree (tree_of DirLeafHolds dir_leaf_ends g fork x) + leaves_to hash helds)
    → (cost : ℕ) → IsHashCost (dir_fork g fork x) hash cost → after + length found ≤ before + cost
cost_in_tree g fork x hash before after found is no_leaf_form all few cost (inl leaf) = absurd (no_leaf_form leaf.0)
cost_in_tree g fork x hash before after found is no_leaf_form all few cost (inr tree) =
    let T : Tree LeafEntry = tree_of DirLeafHolds dir_leaf_ends g fork x in
    let same : T ≡ tree_in (dir_fork g fork x) = tree_is g fork x is in
    let is_tree : IsTree T tree.1.0 = subst (λ (one : Tree LeafEntry). IsTree one tree.1.0) (sym same) tree.1.1 in
    let found_is : found ≡ filter (λ leaf. leaf.hash == hash) (entries_in tree.1.0) = all (entries_in tree.1.0) (tree.1.0, is_tree, refl) in
    let long : length found ≡ count_of_hash hash (entries_in tree.1.0) = ap length found_is ∙ length-filter (λ (leaf : LeafEntry). leaf.hash == hash) (entries_in tree.1.0) in
    let read = few tree.1.0 is_tree in
    let levels : levels_of_tree T ≡ levels_of_tree (tree_in (dir_fork g fork x)) = ap levels_of_tree same in
    omega (arith, long, read, levels, tree.1.2)

-- the same of what is read where nothing is found
pub read_in_tree : (g : Geometry) (fork : Fork) (x : List ℕ) (hash before after : ℕ) → IsDirFork fork → (IsLeafForm fork.extents → ⊥)
    → ((helds : List (Held LeafEntry)) → IsTree (tree_of DirLeafHolds dir_leaf_ends g fork x) helds → after ≤ before + levels_of_tree (tree_of DirLeafHolds dir_leaf_ends g fork x) + leaves_to hash helds)
    → (cost : ℕ) → IsHashCost (dir_fork g fork x) hash cost → after ≤ before + cost
read_in_tree g fork x hash before after is no_leaf_form few cost (inl leaf) = absurd (no_leaf_form leaf.0)
read_in_tree g fork x hash before after is no_leaf_form few cost (inr tree) =
    let T : Tree LeafEntry = tree_of DirLeafHolds dir_leaf_ends g fork x in
    let same : T ≡ tree_in (dir_fork g fork x) = tree_is g fork x is in
    let read = few tree.1.0 (subst (λ (one : Tree LeafEntry). IsTree one tree.1.0) (sym same) tree.1.1) in
    let levels : levels_of_tree T ≡ levels_of_tree (tree_in (dir_fork g fork x)) = ap levels_of_tree same in
    omega (arith, read, levels, tree.1.2)

-- a fault of the way of a hash
pub fault_in_tree : {S : Type 0} (store : Ghosts S) (fork : Fork) (hash : ℕ) (old new : S) (fault : ForkFault) → IsDirFork fork → (IsLeafForm fork.extents → ⊥)
    → IsTreeFault store (λ x. FailsFor (tree_of DirLeafHolds dir_leaf_ends (store.shape old) fork x) hash) fork old new fault
    → IsHashedFault store (λ x rule block. (rule ≡ 18) × FailsLeaves (dir_fork (store.shape old) fork x) block) old new fault
fault_in_tree store fork hash old new Read is no_leaf_form fails = fails
fault_in_tree store fork hash old new Memory is no_leaf_form fails = tt
fault_in_tree store fork hash old new (Broken rule block) is no_leaf_form fails =
    let of_data : tree_rule fork.attribute ≡ 18 = rw is.is_data refl in
    IfSome_then (store.image old) fails.1
    (λ x on_way. (fails.0 ∙ of_data, inr (no_leaf_form, (hash, subst (λ (T : Tree LeafEntry). FailsFor T hash block) (tree_is (store.shape old) fork x is) on_way))))

-- ---- the single leaf

pub same_leaves : (g : Geometry) (dir block : ℕ) (bytes : List ℕ) (a b : List LeafEntry) → IsSingleLeaf g dir block bytes a → IsSingleLeaf g dir block bytes b → a ≡ b
same_leaves g dir block bytes a b of_a of_b = of_a.holds.are ∙ sym of_b.holds.are

pub cost_in_leaf : (g : Geometry) (fork : Fork) (x : List ℕ) (hash before after : ℕ) (leaf : SingleLeaf) (found : List LeafEntry) → IsLeafForm fork.extents
    → (block : ℕ) × (mapped fork.extents leaf_file_block ≡ Some block) × IsLeafRead g fork.owner block (block_of g x block) leaf → found ≡ filter (λ one. one.hash == hash) leaf.live.items → after ≤ before + 1
    → (cost : ℕ) → IsHashCost (dir_fork g fork x) hash cost → after + length found ≤ before + cost
cost_in_leaf g fork x hash before after leaf found form read found_is few cost (inr tree) = absurd (tree.0 form)
cost_in_leaf g fork x hash before after leaf found form read found_is few cost (inl one) =
    let at : one.1.0 ≡ read.0 = same_block one.1.0 read.0 _ one.1.2 read.1 in
    let there : IsSingleLeaf g fork.owner read.0 (block_of g x read.0) one.1.1 = subst (λ (b : ℕ). IsSingleLeaf g fork.owner b (block_of g x b) one.1.1) at one.1.3 in
    let same : one.1.1 ≡ leaf.live.items = same_leaves g fork.owner read.0 (block_of g x read.0) one.1.1 leaf.live.items there read.2.0 in
    let long : length found ≡ count_of_hash hash one.1.1 = ap length found_is ∙ length-filter (λ (l : LeafEntry). l.hash == hash) leaf.live.items ∙ ap (count_of_hash hash) (sym same) in
    omega (arith, few, long, one.1.4)

pub read_in_leaf : (d : DirFork) (hash before after : ℕ) → IsLeafForm d.runs → after ≤ before + 1 → (cost : ℕ) → IsHashCost d hash cost → after ≤ before + cost
read_in_leaf d hash before after form few cost (inr tree) = absurd (tree.0 form)
read_in_leaf d hash before after form few cost (inl one) = omega (arith, few, one.1.4)

-- ---- how many leaf entries

eight_each : (leaves : List LeafEntry) → sum_by (λ leaf. 8) leaves ≡ 8 * length leaves
eight_each [] = refl
eight_each (leaf ∷ others) = let rest = eight_each others in omega (arith, rest, sum_by-cons (λ (one : LeafEntry). 8) leaf others)

-- as many as have room in these blocks, and in one more
pub few_in_tree : (leaves : List LeafEntry) (blocks : ℕ) → sum_by (λ leaf. 8) leaves ≤ 4032 * (1 + blocks) → length leaves ≤ 504 * (1 + blocks)
few_in_tree leaves blocks room = omega (arith, room, eight_each leaves)

pub few_in_leaf : (g : Geometry) (dir block : ℕ) (bytes : List ℕ) (live : List LeafEntry) → IsSingleLeaf g dir block bytes live → length live ≤ 504
few_in_leaf g dir block bytes live is =
    let all : length (dir_leaves bytes) ≡ number_at 2 56 bytes = count_leaves (number_at 2 56 bytes) 64 bytes in
    let long : length live ≡ count_by is_live (dir_leaves bytes) = ap length is.holds.are ∙ length-filter is_live (dir_leaves bytes) in
    omega (arith, all, long, count_by-le-length is_live (dir_leaves bytes), is.holds.leaf.few)

pub few_of_hash : (hash : ℕ) (live found : List LeafEntry) (blocks : ℕ) → length live ≤ 504 → found ≡ filter (λ leaf. leaf.hash == hash) live → length found ≤ 504 * (1 + blocks)
few_of_hash hash live found blocks few found_is =
    let long : length found ≡ count_by (λ leaf. leaf.hash == hash) live = ap length found_is ∙ length-filter (λ (leaf : LeafEntry). leaf.hash == hash) live in
    omega (arith, few, long, count_by-le-length (λ (leaf : LeafEntry). leaf.hash == hash) live)
