-- What a look-up by hash reads against how far the leaves of the hash reach: a leaf that ends with the hash has a leaf entry
-- with it, be it a stale one.
use Rattle.std.proofs.Common.{◌≡◌, ℕ, ◌+◌, ◌*◌, ◌≤◌, Bool, true, cond, List, [], ◌∷◌, ◌++◌, length, map, Option, refl, sym, ap, ◌∙◌, arith, inl, inr}
use Rattle.std.specs.Prelude.{◌==◌, ◌&&◌, count_by, filter, not, IfSome}
use Rattle.std.proofs.lemmas.Option.{IfSome_then}
use Rattle.std.proofs.lemmas.List.Sums.{sum_by-append, sum_by-cons}
use Rattle.std.proofs.lemmas.List.Filters.{sum_by-filter_both}
use Rattle.xn_bytes.specs.Superblock.{Geometry}
use Rattle.xn_bytes.specs.Blocks.{block_of}
use Rattle.xn_bytes.specs.Inode.{inode_of}
use Rattle.xn_bytes.specs.DataBlock.{LeafEntry}
use Rattle.xn_bytes.specs.HashedTree.{Child, DirLeafCounts, DirLeafHolds, dir_leaf_ends, dir_leaves, is_live, last_leaf_hash, leaf_ends}
use Rattle.xn_bytes.specs.Trees.{Held, HoldsBlock, Met, Stands, Visit, Walks, bytes_at, ends_at, entries_in, has_none, leaves_to, levels_of_tree, met_with, root_visit, visits_below}
use Rattle.xn_bytes.specs.LeafForms.{DirFork, counted_tree_in, data_fork_in, tree_in}
use Rattle.xn_bytes.specs.Costs.{HasHashReach, HasLookUpCost, IsHashCost, IsHashReach, count_of_hash, hash_most, look_up_most}
use Rattle.xn_datree.specs.declared.fork.Fork.{Fork}
use Rattle.xn_dir.specs.declared.form.Form.TheVariants as forms
use Rattle.xn_dir.specs.Hashed.{IsForkOf, dir_fork}
use Rattle.xn_dir.specs.Inodes.{IsOfForm}
use Rattle.xn_dir.proofs.HashedOver.{look_up_hashed, most_hashed}
use Rattle.xn_dir.proofs.Members.{yes_or_no}
use Rattle.xn_dir.proofs.OverImages.{look_up_block, look_up_inode, most_block, most_inode}

-- ---- counts

count_cons : {X : Type 0} (p : X → Bool) (x : X) (xs : List X) → count_by p (x ∷ xs) ≡ cond (p x) 1 0 + count_by p xs
count_cons p x xs = sum_by-cons (λ y. cond (p y) 1 0) x xs

-- those that pass a test as well are no more
count_filter : {X : Type 0} (p q : X → Bool) (xs : List X) → count_by p (filter q xs) ≤ count_by p xs
count_filter p q xs = let both = sum_by-filter_both q (λ x. not (q x)) (λ _. refl) (λ x. cond (p x) 1 0) xs in omega (arith, both)

count_hash_append : (hash : ℕ) (a b : List LeafEntry) → count_of_hash hash (a ++ b) ≡ count_of_hash hash a + count_of_hash hash b
count_hash_append hash a b = sum_by-append (λ (leaf : LeafEntry). cond (leaf.hash == hash) 1 0) a b

-- ---- the same tree without the stale ones

abbrev live_of : Held LeafEntry → Held LeafEntry
live_of held = record { entries = filter is_live held.entries; children = held.children; ends = held.ends }

live_block : (bytes : List ℕ) (held : Held LeafEntry) → HoldsBlock DirLeafCounts dir_leaf_ends bytes held → HoldsBlock DirLeafHolds dir_leaf_ends bytes (live_of held)
live_block bytes held (inl leaf) = inl (
  record {
    no_node = leaf.0.no_node;
    no_single = leaf.0.no_single;
    holds = record { leaf = leaf.0.holds.leaf; are = ap (filter is_live) leaf.0.holds.are };
  },
  leaf.1,
  leaf.2,
)
live_block bytes held (inr node) = inr (node.0, ap (filter is_live) node.1, node.2)

live_stands : (d : DirFork) (met : List Met) (visit : Visit) (held : Held LeafEntry) → Stands (counted_tree_in d) met visit held → Stands (tree_in d) met visit (live_of held)
live_stands d met visit held stands = record {
  alone = record {
    there = stands.alone.there;
    own = stands.alone.own;
    holds = live_block (bytes_at (tree_in d) visit.file_block) held stands.alone.holds;
    asked = stands.alone.asked;
    children = stands.alone.children;
  };
  new = stands.new;
  beside = stands.beside;
}

live_walks : (d : DirFork) (helds : List (Held LeafEntry)) (met : List Met) (agenda : List Visit) → Walks (counted_tree_in d) helds met agenda → Walks (tree_in d) (map live_of helds) met agenda
live_walks d [] met [] walks = walks
live_walks d [] met (visit ∷ agenda) walks = absurd walks
live_walks d (held ∷ others) met [] walks = absurd walks
live_walks d (held ∷ others) met (visit ∷ agenda) walks =
    let bytes = bytes_at (tree_in d) visit.file_block in
    (live_stands d met visit held walks.0, live_walks d others (met_with bytes visit held.ends ∷ met) (visits_below bytes held ++ agenda) walks.1)

-- ---- leaves that end with a hash

abbrev ends_with : ℕ → Held LeafEntry → Bool
ends_with hash held = has_none held.children && ends_at hash held.ends

same_leaves_to : (hash : ℕ) (helds : List (Held LeafEntry)) → leaves_to hash (map live_of helds) ≡ leaves_to hash helds
same_leaves_to hash [] = refl
same_leaves_to hash (held ∷ others) =
    let rest = same_leaves_to hash others in
    omega (arith, rest, count_cons (ends_with hash) (live_of held) (map live_of others), count_cons (ends_with hash) held others)

last_counts : (hash : ℕ) (leaf : LeafEntry) (others : List LeafEntry) → (last_leaf_hash leaf others == hash) ≡ true → 1 ≤ count_of_hash hash (leaf ∷ others)
last_counts hash leaf [] is =
    let here = count_cons (λ (one : LeafEntry). one.hash == hash) leaf [] in
    let one : ◌≡◌ {A = ℕ} (cond (leaf.hash == hash) 1 0) 1 = ap (λ (b : Bool). cond b 1 0) is in
    omega (arith, here, one)
last_counts hash leaf (next ∷ others) is =
    let rest = last_counts hash next others is in
    omega (arith, rest, count_cons (λ (one : LeafEntry). one.hash == hash) leaf (next ∷ others))

ends_count : (hash : ℕ) (leaves : List LeafEntry) → ends_at hash (leaf_ends leaves) ≡ true → 1 ≤ count_of_hash hash leaves
ends_count hash [] is = absurd cc
ends_count hash (leaf ∷ others) is = last_counts hash leaf others is

some_children : (hash : ℕ) (children : List Child) (ends : Option (ℕ × ℕ)) → 1 ≤ length children → (has_none children && ends_at hash ends) ≡ true → ⊥
some_children hash [] ends some is = omega (arith, some)
some_children hash (child ∷ others) ends some is = absurd cc

-- a block that ends with the hash, and is no node
block_counts : (hash : ℕ) (bytes : List ℕ) (held : Held LeafEntry) → HoldsBlock DirLeafCounts dir_leaf_ends bytes held → ends_with hash held ≡ true → 1 ≤ count_of_hash hash held.entries
block_counts hash bytes held (inl leaf) is =
    let ends : held.ends ≡ leaf_ends held.entries = leaf.2 ∙ ap leaf_ends (sym leaf.0.holds.are) in
    let at_end : ends_at hash held.ends ≡ true = ap (λ (children : List Child). has_none children && ends_at hash held.ends) (sym leaf.1) ∙ is in
    ends_count hash held.entries (ap (ends_at hash) (sym ends) ∙ at_end)
block_counts hash bytes held (inr node) is = absurd (some_children hash held.children held.ends node.0.some is)

leaves_counted : (d : DirFork) (hash : ℕ) (helds : List (Held LeafEntry)) (met : List Met) (agenda : List Visit) → Walks (counted_tree_in d) helds met agenda
    → leaves_to hash helds ≤ count_of_hash hash (entries_in helds)
leaves_counted d hash [] met [] walks = omega arith
leaves_counted d hash [] met (visit ∷ agenda) walks = absurd walks
leaves_counted d hash (held ∷ others) met [] walks = absurd walks
leaves_counted d hash (held ∷ others) met (visit ∷ agenda) walks =
    let bytes = bytes_at (tree_in d) visit.file_block in
    let rest = leaves_counted d hash others (met_with bytes visit held.ends ∷ met) (visits_below bytes held ++ agenda) walks.1 in
    let leaves = count_cons (ends_with hash) held others in
    let entries = count_hash_append hash held.entries (entries_in others) in
    elim (yes_or_no (ends_with hash held)) [
      | inl ends ↦
          let one : ◌≡◌ {A = ℕ} (cond (ends_with hash held) 1 0) 1 = ap (λ (b : Bool). cond b 1 0) ends in
          omega (arith, rest, leaves, entries, one, block_counts hash bytes held walks.0.alone.holds ends)
      | inr other ↦
          let none : ◌≡◌ {A = ℕ} (cond (ends_with hash held) 1 0) 0 = ap (λ (b : Bool). cond b 1 0) other in
          omega (arith, rest, leaves, entries, none)
    ]

live_counted : (hash : ℕ) (helds : List (Held LeafEntry)) → count_of_hash hash (entries_in (map live_of helds)) ≤ count_of_hash hash (entries_in helds)
live_counted hash [] = omega arith
live_counted hash (held ∷ others) =
    let rest = live_counted hash others in
    let fewer = count_filter (λ (leaf : LeafEntry). leaf.hash == hash) is_live held.entries in
    omega (arith, rest, fewer, count_hash_append hash (filter is_live held.entries) (entries_in (map live_of others)), count_hash_append hash held.entries (entries_in others))

-- ---- the cost

cost_of_reach : (d : DirFork) (hash levels count : ℕ) → IsHashReach d hash levels count → (cost : ℕ) × IsHashCost d hash cost × (cost ≤ levels + 2 * count)
cost_of_reach d hash levels count (inl leaf) =
    let leaves = dir_leaves (d.blocks leaf.2.0) in
    let fewer = count_filter (λ (one : LeafEntry). one.hash == hash) is_live leaves in
    let live : count_of_hash hash leaf.2.1 ≡ count_of_hash hash (filter is_live leaves) = ap (count_of_hash hash) leaf.2.3.holds.are in
    (1 + count_of_hash hash leaf.2.1, inl (leaf.0, (leaf.2.0, leaf.2.1, leaf.2.2, leaf.2.3, refl)), omega (arith, fewer, live, leaf.1, leaf.2.4))
cost_of_reach d hash levels count (inr tree) =
    let helds = tree.2.0 in
    let live = map live_of helds in
    let visits = root_visit (tree_in d).fork ∷ [] in
    let ends = leaves_counted d hash helds [] visits tree.2.1 in (
      levels_of_tree (tree_in d) + leaves_to hash live + count_of_hash hash (entries_in live),
      inr (tree.0, (live, live_walks d helds [] visits tree.2.1, refl)),
      omega (arith, ends, same_leaves_to hash helds, live_counted hash helds, tree.1, tree.2.2),
    )

-- the reach of the hash bounds what its cost bounds
pub within_reach : (g : Geometry) (image : Option (List ℕ)) (dir hash before after : ℕ) → IfSome image (λ x. (cost : ℕ) → HasLookUpCost g x dir hash cost → after ≤ before + cost)
    → IfSome image (λ x. (levels count : ℕ) → HasHashReach g x dir hash levels count → after ≤ before + 1 + levels + 2 * count)
within_reach g image dir hash before after few =
    IfSome_then image few
    (λ x reads levels count reach. let one = cost_of_reach (data_fork_in g dir (inode_of g x dir) (block_of g x)) hash levels count reach.1 in
    let read = reads (1 + one.0) (inr (inr (reach.0, (one.0, one.1, refl)))) in
    omega (arith, read, one.2))

-- ---- what a look-up reads

pub record ReadsAtMost (g : Geometry) (image : Option (List ℕ)) (dir hash before after : ℕ) : Type 0 where
  pub cost : IfSome image (λ x. (cost : ℕ) → HasLookUpCost g x dir hash cost → after ≤ before + cost)
  pub reach : IfSome image (λ x. (levels count : ℕ) → HasHashReach g x dir hash levels count → after ≤ before + 1 + levels + 2 * count)
  pub most : IfSome image (λ x. after ≤ before + look_up_most (inode_of g x dir))

-- the inode alone
pub of_inode : (g : Geometry) (image : Option (List ℕ)) (dir hash before after : ℕ) → after ≤ before + 1 → ReadsAtMost g image dir hash before after
of_inode g image dir hash before after few =
    let cost = look_up_inode g dir image hash before after few in
    record { cost = cost; reach = within_reach g image dir hash before after cost; most = most_inode g dir image before after few }

-- the inode, and the block of block form
pub of_block : (g : Geometry) (image : Option (List ℕ)) (dir hash before after : ℕ) (inode : List ℕ) (block : ℕ) → IfSome image (λ x. inode ≡ inode_of g x dir) → IsOfForm inode (forms.Block block) → after ≤ before + 2
    → ReadsAtMost g image dir hash before after
of_block g image dir hash before after inode block same form few =
    let cost = look_up_block g dir image inode block hash before after same form few in
    record { cost = cost; reach = within_reach g image dir hash before after cost; most = most_block g dir image inode block before after same form few }

-- the inode, and what the hash asks for in leaf and node form
pub of_hash : (g : Geometry) (image : Option (List ℕ)) (dir hash before mid after : ℕ) (inode : List ℕ) (fork : Fork) → IfSome image (λ x. inode ≡ inode_of g x dir) → IsOfForm inode forms.Hashed → IsForkOf dir inode fork → mid ≤ before + 1
    → IfSome image (λ x. (cost : ℕ) → IsHashCost (dir_fork g fork x) hash cost → after ≤ mid + cost) → after ≤ mid + hash_most fork.extents → ReadsAtMost g image dir hash before after
of_hash g image dir hash before mid after inode fork same form is first few most =
    let cost = look_up_hashed g dir image inode fork hash before mid after same form is first few in
    record { cost = cost; reach = within_reach g image dir hash before after cost; most = most_hashed g dir image inode fork before mid after same form is first most }
