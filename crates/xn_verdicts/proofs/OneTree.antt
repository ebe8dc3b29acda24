-- The blocks of a hashed tree hold one thing, or there is one block that fails first, where the bytes of a leaf hold one thing.
use Rattle.std.proofs.Common.{◌≡◌, ℕ, ◌<◌, List, [], ◌∷◌, ◌++◌, Option, Some, refl, sym, ap, subst, ◌∙◌, inl, inr, arith}
use Rattle.std.specs.Prelude.{◌⊎◌, IfSome}
use Rattle.xn_bytes.specs.Trees.{Tree, Held, Met, Visit, Stands, Walks, WalksToFault, IsTree, TreeHolds, BreaksAt, AreEnds, IsOpenEnd, entries_in, root_visit, met_with, visits_below, bytes_at, block_number, left_on}
use Rattle.xn_datree.proofs.Descents.{held_once}

-- ---- the ends of the levels

-- where each level has an end, none is open
ends_or_open : (met : List Met) (last : Met) → AreEnds met → IsOpenEnd met last → ⊥
ends_or_open met last ends fault = fault.open_end (subst (λ (o : Option Met). IfSome o (λ one. one.right ≡ 0)) fault.is_last (ends fault.level))

-- the highest open end has no open end above it
not_above : (met : List Met) (low high : Met) → (below : IsOpenEnd met low) (above : IsOpenEnd met high) → below.level < above.level → ⊥
not_above met low high below above less = above.open_end (subst (λ (o : Option Met). IfSome o (λ one. one.right ≡ 0)) above.is_last (below.higher above.level less))

same_level : (met : List Met) (a b : Met) → (one : IsOpenEnd met a) (other : IsOpenEnd met b) → one.level ≡ other.level
same_level met a b one other = elim (three_ways one.level other.level) [
  | inl less ↦ absurd (not_above met a b one other less)
  | inr rest ↦ elim rest [
    | inl more ↦ absurd (not_above met b a other one more)
    | inr same ↦ same
  ]
] where
  three_ways : (m n : ℕ) → (m < n) ⊎ ((n < m) ⊎ (m ≡ n))
  three_ways m n = grind arith

open_once : (met : List Met) (a b : Met) → IsOpenEnd met a → IsOpenEnd met b → a ≡ b
open_once met a b one other =
    let same : Some a ≡ Some b = sym one.is_last ∙ ap (λ (level : ℕ). left_on level met) (same_level met a b one other) ∙ other.is_last in
    cc

-- ---- a tree

module _ {E : Type 0} (tree : Tree E) (once : (bytes : List ℕ) (a b : List E) → tree.HoldsLeaf bytes a → tree.HoldsLeaf bytes b → a ≡ b) where
  -- the block of a visit holds one thing
  stands_once : (met : List Met) (visit : Visit) (a b : Held E) → Stands tree met visit a → Stands tree met visit b → a ≡ b
  stands_once met visit a b stands too =
      held_once tree.HoldsLeaf tree.ends_of_leaf once (bytes_at tree visit.file_block) a b stands.alone.holds too.alone.holds

  -- what a walk does behind a block it does behind the same block
  walks_from : (others : List (Held E)) (met : List Met) (visit : Visit) (agenda : List Visit) (a b : Held E) → a ≡ b
      → Walks tree others (met_with (bytes_at tree visit.file_block) visit a.ends ∷ met) (visits_below (bytes_at tree visit.file_block) a ++ agenda)
      → Walks tree others (met_with (bytes_at tree visit.file_block) visit b.ends ∷ met) (visits_below (bytes_at tree visit.file_block) b ++ agenda)
  walks_from others met visit agenda a b same walks =
      subst (λ (h : Held E). Walks tree others (met_with (bytes_at tree visit.file_block) visit h.ends ∷ met) (visits_below (bytes_at tree visit.file_block) h ++ agenda)) same walks

  fails_from : (others : List (Held E)) (met : List Met) (visit : Visit) (agenda : List Visit) (block : ℕ) (a b : Held E) → a ≡ b
      → WalksToFault tree others (met_with (bytes_at tree visit.file_block) visit a.ends ∷ met) (visits_below (bytes_at tree visit.file_block) a ++ agenda) block
      → WalksToFault tree others (met_with (bytes_at tree visit.file_block) visit b.ends ∷ met) (visits_below (bytes_at tree visit.file_block) b ++ agenda) block
  fails_from others met visit agenda block a b same walks =
      subst (λ (h : Held E). WalksToFault tree others (met_with (bytes_at tree visit.file_block) visit h.ends ∷ met) (visits_below (bytes_at tree visit.file_block) h ++ agenda) block) same walks

  -- ---- one walk

  walks_once : (xs ys : List (Held E)) (met : List Met) (agenda : List Visit) → Walks tree xs met agenda → Walks tree ys met agenda → xs ≡ ys
  walks_once [] [] met agenda walks too = refl
  walks_once [] (y ∷ ys) met [] walks too = absurd too
  walks_once [] (y ∷ ys) met (visit ∷ agenda) walks too = absurd walks
  walks_once (x ∷ xs) [] met [] walks too = absurd walks
  walks_once (x ∷ xs) [] met (visit ∷ agenda) walks too = absurd too
  walks_once (x ∷ xs) (y ∷ ys) met [] walks too = absurd walks
  walks_once (x ∷ xs) (y ∷ ys) met (visit ∷ agenda) walks too =
      let bytes : List ℕ = bytes_at tree visit.file_block in
      let same = stands_once met visit x y walks.0 too.0 in
      let rest = walks_once xs ys (met_with bytes visit x.ends ∷ met) (visits_below bytes x ++ agenda) walks.1 (walks_from ys met visit agenda y x (sym same) too.1) in
      ap (λ (held : Held E). held ∷ xs) same ∙ ap (λ (helds : List (Held E)). y ∷ helds) rest

  -- the blocks of a tree hold one thing each
  pub one_tree : (xs ys : List (Held E)) → IsTree tree xs → IsTree tree ys → xs ≡ ys
  one_tree xs ys = walks_once xs ys [] (root_visit tree.fork ∷ [])

  -- so a tree has its entries in one order
  pub one_content : (xs ys : List E) → TreeHolds tree xs → TreeHolds tree ys → xs ≡ ys
  one_content xs ys holds too = holds.2 ∙ ap (λ (helds : List (Held E)). entries_in helds) (one_tree holds.0 too.0 holds.1 too.1) ∙ sym too.2

  -- ---- a walk to its end, or to a fault

  walks_or_fault : (xs ys : List (Held E)) (met : List Met) (agenda : List Visit) (block : ℕ) → Walks tree xs met agenda → WalksToFault tree ys met agenda block → ⊥
  walks_or_fault [] [] met [] block walks fault = ends_or_open met fault.0 walks fault.1
  walks_or_fault [] [] met (visit ∷ agenda) block walks fault = walks
  walks_or_fault [] (y ∷ ys) met [] block walks fault = fault
  walks_or_fault [] (y ∷ ys) met (visit ∷ agenda) block walks fault = walks
  walks_or_fault (x ∷ xs) [] met [] block walks fault = walks
  walks_or_fault (x ∷ xs) [] met (visit ∷ agenda) block walks fault = fault.1 x walks.0
  walks_or_fault (x ∷ xs) (y ∷ ys) met [] block walks fault = walks
  walks_or_fault (x ∷ xs) (y ∷ ys) met (visit ∷ agenda) block walks fault =
      let bytes : List ℕ = bytes_at tree visit.file_block in
      let same = stands_once met visit x y walks.0 fault.0 in
      walks_or_fault xs ys (met_with bytes visit x.ends ∷ met) (visits_below bytes x ++ agenda) block walks.1 (fails_from ys met visit agenda block y x (sym same) fault.1)

  -- no block of a tree fails
  pub tree_or_fault : (xs : List (Held E)) (block : ℕ) → IsTree tree xs → BreaksAt tree block → ⊥
  tree_or_fault xs block walks breaks = walks_or_fault xs breaks.0 [] (root_visit tree.fork ∷ []) block walks breaks.1

  -- ---- one fault

  faults_once : (xs ys : List (Held E)) (met : List Met) (agenda : List Visit) (a b : ℕ) → WalksToFault tree xs met agenda a → WalksToFault tree ys met agenda b → a ≡ b
  faults_once [] [] met [] a b fault too =
      fault.2 ∙ ap (λ (last : Met). block_number tree.fork last.file_block) (open_once met fault.0 too.0 fault.1 too.1) ∙ sym too.2
  faults_once [] [] met (visit ∷ agenda) a b fault too = fault.0 ∙ sym too.0
  faults_once [] (y ∷ ys) met [] a b fault too = absurd too
  faults_once [] (y ∷ ys) met (visit ∷ agenda) a b fault too = absurd (fault.1 y too.0)
  faults_once (x ∷ xs) [] met [] a b fault too = absurd fault
  faults_once (x ∷ xs) [] met (visit ∷ agenda) a b fault too = absurd (too.1 x fault.0)
  faults_once (x ∷ xs) (y ∷ ys) met [] a b fault too = absurd fault
  faults_once (x ∷ xs) (y ∷ ys) met (visit ∷ agenda) a b fault too =
      let bytes : List ℕ = bytes_at tree visit.file_block in
      let same = stands_once met visit x y fault.0 too.0 in
      faults_once xs ys (met_with bytes visit x.ends ∷ met) (visits_below bytes x ++ agenda) a b fault.1 (fails_from ys met visit agenda b y x (sym same) too.1)

  -- one block fails first
  pub one_fault : (a b : ℕ) → BreaksAt tree a → BreaksAt tree b → a ≡ b
  one_fault a b breaks too = faults_once breaks.0 too.0 [] (root_visit tree.fork ∷ []) a b breaks.1 too.1
