-- The one leaf to which a descent leads.
use Rattle.std.proofs.Common.{◌≡◌, ℕ, suc, ◌+◌, ◌-◌, ◌≤◌, Bool, List, [], ◌∷◌, Option, Some, None, sym, ap, subst, ◌∙◌, arith}
use Rattle.std.specs.Prelude.{IfSome, IsTrue, ◌↔◌, sum_by}
use Rattle.xn_bytes.specs.HashedTree.{Child, children_at}
use Rattle.xn_bytes.specs.Numbers.{number_at}
use Rattle.xn_bytes.specs.Trees.{Tree, TreeFork, Held, Visit, Asked, StandsAlone, IsAsked, DescendsTo, IsLeafFor, bytes_at, child_for, level_in, levels_of_tree, root_visit, visit_to}
use Rattle.xn_datree.proofs.Measures.{level_of_node}
use Rattle.xn_datree.proofs.Walking.{over_one, over_two}
use Rattle.xn_datree.proofs.Descents.{node_with_children}
use Rattle.xn_datree.proofs.Passing.{LeafLaws, level_of_leaf}

-- a leaf of the descent is one of the descent from here
abbrev pub LeadsOn : {E : Type 0} → (List ℕ → Tree E) → ℕ → List ℕ → Visit → List ℕ → Type 0
LeadsOn T hash bytes visit x = (leaf : ℕ) → IsLeafFor (T x) hash leaf → DescendsTo (level_in bytes) (T x) hash visit.file_block leaf

-- the leaf of the descent is here
abbrev pub LeadsHere : {E : Type 0} → (List ℕ → Tree E) → ℕ → Visit → List ℕ → Type 0
LeadsHere T hash visit x = (leaf : ℕ) → IsLeafFor (T x) hash leaf → leaf ≡ visit.file_block

-- the root's level, of which nothing is asked but that it is low
pub root_low : {E : Type 0} (H : List ℕ → List E → Type 0) (ends : List ℕ → Option (ℕ × ℕ)) (fork : TreeFork) (bytes : List ℕ) (visit : Visit) (held : Held E) → visit.asked ≡ None → StandsAlone H ends fork bytes visit held → level_in bytes ≤ 4
root_low H ends fork bytes visit held none alone = subst (λ (a : Option Asked). IsAsked bytes held.ends a) none alone.asked

same_child : (hash : ℕ) (first : Child) (rest : List Child) (child : Child) (others : List Child) → first ∷ rest ≡ child ∷ others → (child_for hash first rest).file_block ≡ (child_for hash child others).file_block
same_child hash first rest child others both = ap (λ (cs : List Child). elim cs as (λ _. ℕ) [ [] ↦ 0 | c ∷ more ↦ (child_for hash c more).file_block ]) both

module _ {E : Type 0} (T : List ℕ → Tree E) (hash : ℕ) where
  pub way_over_first : (image : Option (List ℕ)) (bytes : List ℕ) (visit : Visit) → ((x : List ℕ) → root_visit (T x).fork ≡ visit)
      → IfSome image (λ x. bytes ≡ bytes_at (T x) visit.file_block) → IfSome image (LeadsOn T hash bytes visit)
  way_over_first image bytes visit is read =
      over_one (λ x. bytes ≡ bytes_at (T x) visit.file_block) (LeadsOn T hash bytes visit) image
      (λ x b leaf to.
      let at : (T x).fork.root ≡ visit.file_block = ap (λ (v : Visit). v.file_block) (is x) in
      let level : level_in (bytes_at (T x) (T x).fork.root) ≡ level_in bytes = ap (λ (fb : ℕ). level_in (bytes_at (T x) fb)) at ∙ ap level_in (sym b) in
      subst (λ (fb : ℕ). DescendsTo (level_in bytes) (T x) hash fb leaf) at (subst (λ (l : ℕ). DescendsTo l (T x) hash (T x).fork.root leaf) level to)) read

  pub way_over_on : (image : Option (List ℕ)) (H : List ℕ → List E → Type 0) (ends : List ℕ → Option (ℕ × ℕ)) (fork : TreeFork) (bytes below : List ℕ) (visit next : Visit) (held now : Held E) (child : Child) (others : List Child)
      → StandsAlone H ends fork bytes visit held → held.children ≡ child ∷ others → next ≡ visit_to (level_in bytes) (child_for hash child others) → StandsAlone H ends fork below next now
      → IfSome image (λ x. bytes ≡ bytes_at (T x) visit.file_block)
      → IfSome image (LeadsOn T hash bytes visit) → IfSome image (LeadsOn T hash below next)
  way_over_on image H ends fork bytes below visit next held now child others alone children to under read way =
      let node = node_with_children H ends bytes held child others alone.holds children in
      let asked : next.asked ≡ Some (record { level = level_in bytes - 1; hash = (child_for hash child others).hash }) = ap (λ (v : Visit). v.asked) to in
      let asks = subst (λ (a : Option Asked). IsAsked below now.ends a) asked under.asked in
      let level : level_in bytes ≡ suc (level_in below) = omega (arith, level_of_node bytes held.children node, node.level, asks.0) in
      over_two (λ x. bytes ≡ bytes_at (T x) visit.file_block) (LeadsOn T hash bytes visit) (LeadsOn T hash below next) image
      (λ x b w leaf is.
      let on = subst (λ (l : ℕ). DescendsTo l (T x) hash visit.file_block leaf) level (w leaf is) in
      let both : on.0 ∷ on.1 ≡ child ∷ others = sym on.2 ∙ ap (λ (bs : List ℕ). children_at (number_at 2 56 bs) 64 bs) (sym b) ∙ sym node.are ∙ children in
      subst (λ (fb : ℕ). DescendsTo (level_in below) (T x) hash fb leaf) (same_child hash on.0 on.1 child others both ∙ ap (λ (v : Visit). v.file_block) (sym to)) on.3) read way

  pub way_over_last : (image : Option (List ℕ)) (bytes : List ℕ) (visit : Visit) → level_in bytes ≡ 0 → IfSome image (LeadsOn T hash bytes visit) → IfSome image (LeadsHere T hash visit)
  way_over_last image bytes visit flat way =
      over_one (LeadsOn T hash bytes visit) (LeadsHere T hash visit) image (λ x w leaf is. subst (λ (l : ℕ). DescendsTo l (T x) hash visit.file_block leaf) flat (w leaf is)) way

-- what fits into the leaf that was read
module _ {E : Type 0} (T : List ℕ → Tree E) (hash : E → ℕ) (laws : (x : List ℕ) → LeafLaws (T x) hash) (once : (x bytes : List ℕ) (a b : List E) → (T x).HoldsLeaf bytes a → (T x).HoldsLeaf bytes b → a ≡ b) (limit : ℕ) where
  pub fits_over : (image : Option (List ℕ)) (bytes : List ℕ) (visit : Visit) (held : Held E) (size : E → ℕ) (more capacity : ℕ) (fits : Bool)
      → ((x : List ℕ) → StandsAlone (T x).HoldsLeaf (T x).ends_of_leaf (T x).fork bytes visit held) → level_in bytes ≡ 0
      → IfSome image (λ x. bytes ≡ bytes_at (T x) visit.file_block) → IfSome image (LeadsHere T limit visit)
      → (IsTrue fits ↔ (sum_by size held.entries + more ≤ capacity))
      → IfSome image (λ x. (leaf : ℕ) (entries : List E) → IsLeafFor (T x) limit leaf → (T x).HoldsLeaf (bytes_at (T x) leaf) entries → (IsTrue fits ↔ (sum_by size entries + more ≤ capacity)))
  fits_over image bytes visit held size more capacity fits alone flat read way tells =
      over_two (λ x. bytes ≡ bytes_at (T x) visit.file_block) (LeadsHere T limit visit)
      (λ x. (leaf : ℕ) (entries : List E) → IsLeafFor (T x) limit leaf → (T x).HoldsLeaf (bytes_at (T x) leaf) entries → (IsTrue fits ↔ (sum_by size entries + more ≤ capacity))) image
      (λ x b w leaf entries is holds.
      let mine = (level_of_leaf (T x) hash (laws x) bytes held (alone x).holds flat).0.holds in
      let here : (T x).HoldsLeaf bytes entries = subst (λ (bs : List ℕ). (T x).HoldsLeaf bs entries) (ap (bytes_at (T x)) (w leaf is) ∙ sym b) holds in
      subst (λ (es : List E). IsTrue fits ↔ (sum_by size es + more ≤ capacity)) (once x bytes held.entries entries mine here) tells) read way

-- the root was read, with one fetch
pub exact_over_first : {E : Type 0} (T : List ℕ → Tree E) (image : Option (List ℕ)) (bytes : List ℕ) (visit : Visit) (old new : ℕ) → ((x : List ℕ) → root_visit (T x).fork ≡ visit) → new ≤ old + 1
    → IfSome image (λ x. bytes ≡ bytes_at (T x) visit.file_block) → IfSome image (λ x. new + level_in bytes ≤ old + levels_of_tree (T x))
exact_over_first T image bytes visit old new is one read =
    over_one (λ x. bytes ≡ bytes_at (T x) visit.file_block) (λ x. new + level_in bytes ≤ old + levels_of_tree (T x)) image
    (λ x b.
    let level : level_in (bytes_at (T x) (T x).fork.root) ≡ level_in bytes = ap (λ (v : Visit). level_in (bytes_at (T x) v.file_block)) (is x) ∙ ap level_in (sym b) in
    omega (arith, level, one)) read
