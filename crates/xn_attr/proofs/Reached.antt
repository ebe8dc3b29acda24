-- The descent to a hash in a tree comes to a leaf.
use Rattle.std.proofs.Common.{◌≡◌, ℕ, suc, ◌-◌, ◌≤◌, Bool, true, false, List, [], ◌∷◌, ◌++◌, length, map, Option, Some, refl, sym, ap, subst, ◌∙◌, arith, inl, inr}
use Rattle.std.specs.Prelude.{if◌then◌else◌, nat_le, Contains}
use Rattle.std.proofs.lemmas.Bool.{ne_eqb}
use Rattle.std.proofs.lemmas.List.Elements.{Contains-append_left, Contains-append_right}
use Rattle.xn_bytes.specs.Numbers.{number_at}
use Rattle.xn_bytes.specs.HashedTree.{Child, children_at, node_magic}
use Rattle.xn_bytes.specs.Trees.{Asked, DescendsTo, IsAsked, Held, HoldsBlock, IsLeafFor, IsTree, Met, Stands, Tree, Visit, Walks, bytes_at, child_for, level_in, magic_in, met_with, root_visit, visit_to, visits_below}
use Rattle.xn_attr.proofs.Lists.{at_front, behind_front, front_or_behind, in_none}

leaf_level : (bytes : List ℕ) → (magic_in bytes ≡ node_magic → ⊥) → level_in bytes ≡ 0
leaf_level bytes other = rw (ne_eqb (magic_in bytes) node_magic other) refl

node_level : (bytes : List ℕ) → magic_in bytes ≡ node_magic → level_in bytes ≡ number_at 2 58 bytes
node_level bytes is = rw is refl

chosen : (b : Bool) (hash : ℕ) (child next : Child) (others : List Child) → Contains (next ∷ others) (child_for hash next others) → Contains (child ∷ next ∷ others) (if b then child else child_for hash next others)
chosen true hash child next others later = at_front child (next ∷ others)
chosen false hash child next others later = behind_front child (child_for hash next others) (next ∷ others) later

-- the child that is taken is one of them
child_among : (hash : ℕ) (child : Child) (others : List Child) → Contains (child ∷ others) (child_for hash child others)
child_among hash child [] = at_front child []
child_among hash child (next ∷ others) = chosen (nat_le hash child.hash) hash child next others (child_among hash next others)

in_map : (f : Child → Visit) (xs : List Child) (x : Child) → Contains xs x → Contains (map f xs) (f x)
in_map f [] x within = absurd (in_none x within)
in_map f (y ∷ xs) x within = elim (front_or_behind y x xs within) [
  | inl same ↦ subst (λ (z : Child). Contains (f y ∷ map f xs) (f z)) same (at_front (f y) (map f xs))
  | inr behind ↦ behind_front (f y) (f x) (map f xs) (in_map f xs x behind)
]

module _ {E : Type 0} (tree : Tree E) (hash : ℕ) where
  -- from a file block, so many levels down, the descent comes to a leaf that holds entries
  pub record Leads (level file_block : ℕ) : Type 0 where
    pub leaf : ℕ
    pub goes : DescendsTo level tree hash file_block leaf
    pub entries : List E
    pub holds : tree.HoldsLeaf (bytes_at tree leaf) entries

  leads_node : (file_block level : ℕ) (children : List Child) → level_in (bytes_at tree file_block) ≡ suc level → 1 ≤ length children → children ≡ children_at (number_at 2 56 (bytes_at tree file_block)) 64 (bytes_at tree file_block)
      → ((child : Child) → Contains children child → Leads level child.file_block) → Leads (suc level) file_block
  leads_node file_block level [] high some are deeper = absurd (omega (arith, some))
  leads_node file_block level (child ∷ others) high some are deeper =
      let below = deeper (child_for hash child others) (child_among hash child others) in
      record { leaf = below.leaf; goes = (child, others, sym are, below.goes); entries = below.entries; holds = below.holds }

  -- a block that stands, by its children
  leads_block : (visit : Visit) (held : Held E) → HoldsBlock tree.HoldsLeaf tree.ends_of_leaf (bytes_at tree visit.file_block) held
      → ((child : Child) → Contains held.children child → Leads (level_in (bytes_at tree visit.file_block) - 1) child.file_block) → Leads (level_in (bytes_at tree visit.file_block)) visit.file_block
  leads_block visit held (inl leaf) deeper =
      let flat = leaf_level (bytes_at tree visit.file_block) leaf.0.no_node in
      subst (λ (n : ℕ). Leads n visit.file_block) (sym flat) (record { leaf = visit.file_block; goes = refl; entries = held.entries; holds = leaf.0.holds })
  leads_block visit held (inr node) deeper =
      let bytes = bytes_at tree visit.file_block in
      let high : level_in bytes ≡ suc (level_in bytes - 1) = omega (arith, node_level bytes node.0.is_magic, node.0.level) in
      subst (λ (n : ℕ). Leads n visit.file_block) (sym high) (leads_node visit.file_block (level_in bytes - 1) held.children high node.0.some node.0.are deeper)

  at_level : (visit : Visit) (held : Held E) (met : List Met) (asked : Asked) → visit.asked ≡ Some asked → Stands tree met visit held → Leads (level_in (bytes_at tree visit.file_block)) visit.file_block → Leads asked.level visit.file_block
  at_level visit held met asked is stands leads =
      let asks = subst (λ (a : Option Asked). IsAsked (bytes_at tree visit.file_block) held.ends a) is stands.alone.asked in
      subst (λ (n : ℕ). Leads n visit.file_block) asks.0 leads

  -- each visit that the walk goes through, but for the root's
  reached : (helds : List (Held E)) (met : List Met) (agenda : List Visit) (visit : Visit) (asked : Asked) → Walks tree helds met agenda → Contains agenda visit → visit.asked ≡ Some asked → Leads asked.level visit.file_block
  reached [] met [] visit asked walks there is = absurd (in_none visit there)
  reached [] met (first ∷ agenda) visit asked walks there is = absurd walks
  reached (held ∷ others) met [] visit asked walks there is = absurd walks
  reached (held ∷ others) met (first ∷ agenda) visit asked walks there is =
      let bytes = bytes_at tree first.file_block in
      let below = visits_below bytes held in
      elim (front_or_behind first visit agenda there) [
        | inl same ↦
            let block = leads_block first held walks.0.alone.holds (λ child within.
            reached others (met_with bytes first held.ends ∷ met) (below ++ agenda) (visit_to (level_in bytes) child) (record { level = level_in bytes - 1; hash = child.hash }) walks.1
            (Contains-append_left below agenda (visit_to (level_in bytes) child) (in_map (visit_to (level_in bytes)) held.children child within)) refl) in
            let here : Leads asked.level first.file_block = at_level first held met asked (ap (λ (v : Visit). v.asked) same ∙ is) walks.0 block in
            subst (λ (v : Visit). Leads asked.level v.file_block) same here
        | inr behind ↦ reached others (met_with bytes first held.ends ∷ met) (below ++ agenda) visit asked walks.1 (Contains-append_right below agenda visit behind) is
      ]

  root_leads : (helds : List (Held E)) → IsTree tree helds → Leads (level_in (bytes_at tree tree.fork.root)) tree.fork.root
  root_leads [] walks = absurd walks
  root_leads (held ∷ others) walks =
      let first = root_visit tree.fork in
      let bytes = bytes_at tree tree.fork.root in
      let below = visits_below bytes held in
      leads_block first held walks.0.alone.holds (λ child within.
      reached others (met_with bytes first held.ends ∷ []) (below ++ []) (visit_to (level_in bytes) child) (record { level = level_in bytes - 1; hash = child.hash }) walks.1
      (Contains-append_left below [] (visit_to (level_in bytes) child) (in_map (visit_to (level_in bytes)) held.children child within)) refl)

-- a leaf of the descent, with what it holds
pub leaf_for : {E : Type 0} (tree : Tree E) (hash : ℕ) (helds : List (Held E)) → IsTree tree helds → (leaf : ℕ) × (entries : List E) × IsLeafFor tree hash leaf × tree.HoldsLeaf (bytes_at tree leaf) entries
leaf_for {E} tree hash helds is =
    let root = root_leads tree hash helds is in
    (root.leaf, root.entries, root.goes, root.holds)
