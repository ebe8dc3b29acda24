-- A walk that passes over all blocks under some visits: what it reads there, and where it is then.
use Rattle.std.proofs.Common.{◌≡◌, ℕ, zero, suc, ◌-◌, ◌<◌, ◌≤◌, Bool, cond, List, [], ◌∷◌, ◌++◌, Option, Some, refl, sym, ap, subst, ◌∙◌, inl, inr, append_assoc, append-nil, arith}
use Rattle.std.specs.Prelude.{All, IfSome, map}
use Rattle.std.specs.List.Sorted.{IsNonDecreasingBy}
use Rattle.std.proofs.lemmas.List.Elements.{All-append}
use Rattle.std.proofs.lemmas.Grind.{flat_map-append}
use Rattle.std.proofs.lemmas.Bool.Decides.{eqb_tells}
use Rattle.xn_bytes.specs.Numbers.{number_at}
use Rattle.xn_bytes.specs.HashedTree.{Child, node_magic}
use Rattle.xn_bytes.specs.Trees.{Tree, Held, Met, Visit, Asked, IsAsked, HoldsBlock, magic_in, IsLeaf, IsNode, Walks, entries_in, met_with, visit_to, bytes_at, level_in, last_hash, last_of, ends_of_children}
use Rattle.xn_datree.proofs.Rising.{RiseBy, rise_from_sorted}
use Rattle.xn_datree.proofs.Measures.{level_of_node}

sub-one-suc : (n : ℕ) → suc n - 1 ≡ n
sub-one-suc n = omega arith

pub level_of_other : (bytes : List ℕ) → (magic_in bytes ≡ node_magic → ⊥) → level_in bytes ≡ 0
level_of_other bytes other = elim (eqb_tells (magic_in bytes) node_magic) [
  | inl same ↦ absurd (other same.1)
  | inr differs ↦ ap (λ (b : Bool). cond b (number_at 2 58 bytes) 0) differs.0
]

-- what is known of the entries of every leaf, by their hashes
pub record LeafLaws {E : Type 0} (tree : Tree E) (hash : E → ℕ) : Type 0 where
  pub within : (bytes : List ℕ) (entries : List E) → tree.HoldsLeaf bytes entries → IfSome (tree.ends_of_leaf bytes) (λ both. (both.0 ≤ both.1) × All (λ entry. (both.0 ≤ hash entry) × (hash entry ≤ both.1)) entries)
  pub sorted : (bytes : List ℕ) (entries : List E) → tree.HoldsLeaf bytes entries → IsNonDecreasingBy hash entries

module _ {E : Type 0} (tree : Tree E) (hash : E → ℕ) (laws : LeafLaws tree hash) where
  -- The walk has gone on to what stands behind, and every entry that it read has a hash below one.
  pub record Passes (helds : List (Held E)) (agenda : List Visit) (limit : ℕ) : Type 0 where
    pub gone : List (Held E)
    pub left : List (Held E)
    pub met : List Met
    pub split : helds ≡ gone ++ left
    pub goes : Walks tree left met agenda
    pub lower : All (λ entry. hash entry < limit) (entries_in gone)

  -- a visit to a block of a level with a hash below one
  pub record IsLowVisit (level limit : ℕ) (visit : Visit) : Type 0 where
    pub greatest : ℕ
    pub asked : visit.asked ≡ Some (record { level = level; hash = greatest })
    pub low : greatest < limit

  unfoldable pub PassesOne : ℕ → Type 0
  PassesOne level = (limit : ℕ) (helds : List (Held E)) (met : List Met) (visit : Visit) (agenda : List Visit) → IsLowVisit level limit visit → Walks tree helds met (visit ∷ agenda) → Passes helds agenda limit

  pub pass_many : (level : ℕ) → PassesOne level → (limit : ℕ) (helds : List (Held E)) (met : List Met) (visits agenda : List Visit) → All (IsLowVisit level limit) visits → Walks tree helds met (visits ++ agenda) → Passes helds agenda limit
  unfolding PassesOne
  pass_many level one limit helds met [] agenda low walks = record { gone = []; left = helds; met = met; split = refl; goes = walks; lower = λ k d below. absurd (omega arith) }
  pass_many level one limit helds met (visit ∷ visits) agenda low walks =
      let first = one limit helds met visit (visits ++ agenda) (low 0 visit (omega arith)) walks in
      let rest = pass_many level one limit first.left first.met visits agenda (λ k d below. low (suc k) d (omega arith)) first.goes in
      record {
        gone = first.gone ++ rest.gone;
        left = rest.left;
        met = rest.met;
        split = first.split ∙ ap (λ (hs : List (Held E)). first.gone ++ hs) rest.split ∙ sym (append_assoc first.gone rest.gone rest.left);
        goes = rest.goes;
        lower = subst (All (λ entry. hash entry < limit)) (sym (flat_map-append (λ (h : Held E). h.entries) first.gone rest.gone)) (All-append (λ entry. hash entry < limit) (entries_in first.gone) (entries_in rest.gone) first.lower rest.lower);
      }

  pub level_of_leaf : (bytes : List ℕ) (held : Held E) → HoldsBlock tree.HoldsLeaf tree.ends_of_leaf bytes held → level_in bytes ≡ 0
      → IsLeaf tree.HoldsLeaf bytes held.entries × (held.children ≡ []) × (held.ends ≡ tree.ends_of_leaf bytes)
  level_of_leaf bytes held holds flat = elim holds [
    | inl leaf ↦ leaf
    | inr node ↦ absurd (let level = level_of_node bytes held.children node.0 in let some = node.0.level in omega arith)
  ]

  pub node_of_level : (bytes : List ℕ) (held : Held E) (level : ℕ) → HoldsBlock tree.HoldsLeaf tree.ends_of_leaf bytes held → level_in bytes ≡ suc level
      → IsNode bytes held.children × (held.entries ≡ []) × (held.ends ≡ ends_of_children held.children)
  node_of_level bytes held level holds high = elim holds [
    | inl leaf ↦ absurd (let flat = level_of_other bytes leaf.0.no_node in omega arith)
    | inr node ↦ node
  ]

  -- the entries of a leaf are at most its greatest hash
  pub entries_low : (bytes : List ℕ) (entries : List E) (ends : Option (ℕ × ℕ)) (first greatest limit : ℕ) → tree.HoldsLeaf bytes entries → ends ≡ tree.ends_of_leaf bytes → ends ≡ Some (first, greatest) → greatest < limit
      → All (λ entry. hash entry < limit) entries
  entries_low bytes entries ends first greatest limit holds is some low =
      let both = subst (λ (o : Option (ℕ × ℕ)). IfSome o (λ both. (both.0 ≤ both.1) × All (λ entry. (both.0 ≤ hash entry) × (hash entry ≤ both.1)) entries)) (sym is ∙ some) (laws.within bytes entries holds) in
      λ k d below. let one = both.1 k d below in omega (arith, one.1)

  lower_child : (child next : Child) (others : List Child) (limit : ℕ) → RiseBy (λ child. child.hash) child.hash (next ∷ others) → last_hash next others < limit → child.hash < limit
  lower_child child next [] limit rise low = omega (arith, rise.0)
  lower_child child next (more ∷ others) limit rise low = let later = lower_child next more others limit rise.1 low in omega (arith, rise.0)

  -- the children of a node are at most its greatest hash
  pub children_low : (children : List Child) (least first greatest limit level : ℕ) → RiseBy (λ child. child.hash) least children → ends_of_children children ≡ Some (first, greatest) → greatest < limit
      → All (IsLowVisit (level - 1) limit) (map (visit_to level) children)
  children_low [] least first greatest limit level rise ends low = λ k d below. absurd (omega arith)
  children_low (child ∷ children) least first greatest limit level rise ends low =
      let last : last_hash child children ≡ greatest = ap last_of ends in
      all_low child children limit level rise.1 (rw last low) where
        all_low : (child : Child) (children : List Child) (limit level : ℕ) → RiseBy (λ child. child.hash) child.hash children → last_hash child children < limit → All (IsLowVisit (level - 1) limit) (map (visit_to level) (child ∷ children))
        all_low child [] limit level rise low zero d below = record { greatest = child.hash; asked = refl; low = low }
        all_low child [] limit level rise low (suc k) d below = absurd (omega arith)
        all_low child (next ∷ others) limit level rise low zero d below = record { greatest = child.hash; asked = refl; low = lower_child child next others limit rise low }
        all_low child (next ∷ others) limit level rise low (suc k) d below = all_low next others limit level rise.1 low k d (omega arith)

  pub pass_one : (level : ℕ) → PassesOne level
  unfolding PassesOne
  pass_one level limit [] met visit agenda low walks = absurd walks
  pass_one zero limit (held ∷ others) met visit agenda low walks =
      let bytes = bytes_at tree visit.file_block in
      let alone = walks.0.alone in
      let asked = subst (λ (a : Option Asked). IsAsked bytes held.ends a) low.asked alone.asked in
      let leaf = level_of_leaf bytes held alone.holds asked.0 in
      record {
        gone = held ∷ [];
        left = others;
        met = met_with bytes visit held.ends ∷ met;
        split = refl;
        goes = subst (λ (cs : List Child). Walks tree others (met_with bytes visit held.ends ∷ met) (map (visit_to (level_in bytes)) cs ++ agenda)) leaf.1 walks.1;
        lower = subst (All (λ entry. hash entry < limit)) (sym (append-nil held.entries)) (entries_low bytes held.entries held.ends asked.1.0 low.greatest limit leaf.0.holds leaf.2 asked.1.1 low.low);
      }
  pass_one (suc level) limit (held ∷ others) met visit agenda low walks =
      let bytes = bytes_at tree visit.file_block in
      let alone = walks.0.alone in
      let asked = subst (λ (a : Option Asked). IsAsked bytes held.ends a) low.asked alone.asked in
      let node = node_of_level bytes held level alone.holds asked.0 in
      let children = children_low held.children 0 asked.1.0 low.greatest limit (level_in bytes) (rise_from_sorted (λ (child : Child). child.hash) held.children node.0.sorted) (sym node.2 ∙ asked.1.1) low.low in
      let below : All (IsLowVisit level limit) (map (visit_to (level_in bytes)) held.children) = subst (λ (l : ℕ). All (IsLowVisit l limit) (map (visit_to (level_in bytes)) held.children)) (ap (λ (l : ℕ). l - 1) asked.0 ∙ sub-one-suc level) children in
      let rest = pass_many level (pass_one level) limit others (met_with bytes visit held.ends ∷ met) (map (visit_to (level_in bytes)) held.children) agenda below walks.1 in
      record {
        gone = held ∷ rest.gone;
        left = rest.left;
        met = rest.met;
        split = ap (λ (hs : List (Held E)). held ∷ hs) rest.split;
        goes = rest.goes;
        lower = subst (λ (es : List E). All (λ entry. hash entry < limit) (es ++ entries_in rest.gone)) (sym node.1) rest.lower;
      }
