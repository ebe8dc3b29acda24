-- Where a descent has come to.
use Rattle.std.specs.Prelude.{◌≡◌, ◌⊎◌, ℕ, ◌<◌, ◌≤◌, List, [], ◌∷◌, ◌++◌, All, Some, IsSome}
use Rattle.xn_bytes.specs.Trees.{Tree, Held, Met, Visit, FollowsToFault, SeeksToFault, Stands, Walks, entries_in, met_with, root_visit, bytes_at, level_in}

-- Of a tree whose blocks hold these things, in the order of the walk: this file block, with these bytes, is a leaf and holds this;
-- in front of it there are lesser hashes alone; and it reaches the hash, or nothing is left to be read behind it.
pub record ComesDown {E : Type 0} (tree : Tree E) (hash : E → ℕ) (limit : ℕ) (helds : List (Held E)) (bytes : List ℕ) (file_block : ℕ) (held : Held E) : Type 0 where
  pub past : List (Held E)
  pub others : List (Held E)
  pub met : List Met
  pub visit : Visit
  pub place : visit.file_block ≡ file_block
  pub agenda : List Visit
  pub split : helds ≡ past ++ held ∷ others
  pub is : bytes ≡ bytes_at tree visit.file_block
  pub flat : level_in bytes ≡ 0
  pub stands : Stands tree met visit held
  pub goes : Walks tree others (met_with bytes visit held.ends ∷ met) agenda
  pub lower : All (λ entry. hash entry < limit) (entries_in past)
  pub asked : All (λ v. IsSome v.asked) agenda
  pub side : ((first : ℕ) × (last : ℕ) × (held.ends ≡ Some (first, last)) × (limit ≤ last)) ⊎ (agenda ≡ [])

-- no leaf stands there, behind those that were met
abbrev pub IsNoLeaf : {E : Type 0} → Tree E → List Met → Visit → Type 0
IsNoLeaf {E} tree met visit = (held : Held E) → level_in (bytes_at tree visit.file_block) ≡ 0 → ¬ Stands tree met visit held

-- A leaf to which a descent has come: a fault of the way along its right siblings is one of the whole way.
abbrev pub FollowsFrom : {E : Type 0} → Tree E → ℕ → List ℕ → Visit → Held E → Type 0
FollowsFrom {E} tree hash bytes visit held =
    (others : List (Held E)) (block : ℕ) → FollowsToFault tree hash others (met_with bytes visit held.ends) [] block
    → (helds : List (Held E)) × SeeksToFault tree hash helds (root_visit tree.fork) block
