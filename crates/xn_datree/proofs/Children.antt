-- The children of a node, one by one.
use Rattle.std.proofs.Common.{◌≡◌, ℕ, zero, suc, ◌+◌, ◌-◌, ◌*◌, ◌<◌, ◌≤◌, List, [], ◌∷◌, ◌++◌, length, get_or, Some, refl, sym, ap, subst, ◌∙◌, add-one, append_assoc, arith}
use Rattle.std.specs.List.Sorted.{IsNonDecreasingBy}
use Rattle.xn_bytes.specs.Numbers.{number_at}
use Rattle.xn_bytes.specs.Checksum.{HasChecksum}
use Rattle.xn_bytes.specs.HashedTree.{Child, children_at, node_magic}
use Rattle.xn_bytes.specs.Trees.{IsNode, magic_in, last_hash, ends_of_children}
use Rattle.xn_datree.specs.Nodes.{HasCounts}

-- the entry of a node at a place
abbrev pub child_at : ℕ → List ℕ → Child
child_at at bytes = record { hash = number_at 4 at bytes; file_block = number_at 4 (at + 4) bytes }

children_step : (left rest at next : ℕ) (bytes : List ℕ) → left ≡ rest + 1 → next ≡ at + 8 → children_at left at bytes ≡ child_at at bytes ∷ children_at rest next bytes
children_step left rest at next bytes e n = rw (n, e, add-one) refl

same_child : (a b : Child) → a.hash ≡ b.hash → a.file_block ≡ b.file_block → a ≡ b
same_child a b hash file_block = ap (λ (h : ℕ). record a { hash = h }) hash ∙ ap (λ (f : ℕ). record { hash = b.hash; file_block = f }) file_block

-- one more child that was read
pub children_more : (items new all : List Child) (child : Child) (index count : ℕ) (bytes : List ℕ)
    → new ≡ items ++ child ∷ [] → child.hash ≡ number_at 4 (64 + 8 * index) bytes → child.file_block ≡ number_at 4 (64 + 8 * index + 4) bytes → index < count
    → items ++ children_at (count - index) (64 + 8 * index) bytes ≡ all
    → new ++ children_at (count - (index + 1)) (64 + 8 * (index + 1)) bytes ≡ all
children_more items new all child index count bytes grown hash file_block below so_far =
    let is : child ≡ child_at (64 + 8 * index) bytes = same_child child (child_at (64 + 8 * index) bytes) hash file_block in
    let step = children_step (count - index) (count - (index + 1)) (64 + 8 * index) (64 + 8 * (index + 1)) bytes (omega arith) (omega arith) in
    let rest = children_at (count - (index + 1)) (64 + 8 * (index + 1)) bytes in
    rw (grown, append_assoc items (child ∷ []) rest, is, ← step) so_far

pub length-children_at : (count at : ℕ) (bytes : List ℕ) → length (children_at count at bytes) ≡ count
length-children_at zero at bytes = refl
length-children_at (suc count) at bytes = ap suc (length-children_at count (at + 8) bytes)

pub last_hash-place : (child : Child) (others : List Child) (d : Child) → last_hash child others ≡ (get_or (child ∷ others) (length others) d).hash
last_hash-place child [] d = refl
last_hash-place child (next ∷ others) d = last_hash-place next others d

-- a node has the counts that it says, and its children are those that stand there
pub counts_of_node : (bytes : List ℕ) (children : List Child) → IsNode bytes children → HasCounts bytes
counts_of_node bytes children node =
    let many : length children ≡ number_at 2 56 bytes = ap length node.are ∙ length-children_at (number_at 2 56 bytes) 64 bytes in
    record {
      some = omega (arith, node.some);
      few = omega (arith, node.few);
      level = node.level;
    }

pub is_node : (bytes : List ℕ) (children : List Child) → magic_in bytes ≡ node_magic → HasCounts bytes → HasChecksum bytes 12 → children ≡ children_at (number_at 2 56 bytes) 64 bytes
    → IsNonDecreasingBy (λ child. child.hash) children → IsNode bytes children
is_node bytes children magic counts checksum are sorted =
    let many : length children ≡ number_at 2 56 bytes = ap length are ∙ length-children_at (number_at 2 56 bytes) 64 bytes in
    record {
      is_magic = magic;
      checksum = checksum;
      level = counts.level;
      are = are;
      some = omega (arith, counts.some);
      few = omega (arith, counts.few);
      sorted = sorted;
    }

pub unsorted : (bytes : List ℕ) (children others : List Child) → children ≡ children_at (number_at 2 56 bytes) 64 bytes
    → (IsNonDecreasingBy (λ child. child.hash) children → ⊥) → IsNode bytes others → ⊥
unsorted bytes children others are falls node =
    falls (subst (λ (cs : List Child). IsNonDecreasingBy (λ child. child.hash) cs) (node.are ∙ sym are) node.sorted)

-- the hashes of the first and the last of two children or more
pub ends_by_places : (children : List Child) (first last : Child) → 2 ≤ length children → first ≡ get_or children 0 first → last ≡ get_or children (length children - 1) last
    → ends_of_children children ≡ Some (first.hash, last.hash)
ends_by_places [] first last some is_first is_last = absurd (omega arith)
ends_by_places (child ∷ others) first last some is_first is_last =
    let place : length (child ∷ others) - 1 ≡ length others = omega arith in
    let last_is : last_hash child others ≡ last.hash = last_hash-place child others last ∙ ap (λ (k : ℕ). (get_or (child ∷ others) k last).hash) (sym place) ∙ ap (λ (c : Child). c.hash) (sym is_last) in
    let first_is : child.hash ≡ first.hash = ap (λ (c : Child). c.hash) (sym is_first) in
    rw (last_is, first_is) refl
