-- Nodes that rise by their numbers: one that has a number is the only one, and a search by halves finds it.
use Rattle.std.proofs.Common.{◌≡◌, ℕ, ◌+◌, ◌<◌, ◌≤◌, List, length, get_or, map, sym, ap, inl, inr, subst, ◌∙◌, arith}
use Rattle.std.specs.Prelude.{Any, Contains}
use Rattle.std.specs.List.{AllAdjacentBelow}
use Rattle.std.specs.List.Sorted.{IsNonDecreasingBy, IsPartitionPoint}
use Rattle.std.proofs.lemmas.List.{get_or_default, get_or-map, length-map}
use Rattle.std.proofs.lemmas.List.Sorted.{IsNonDecreasingBy-from_all_adjacent}
use Rattle.std.proofs.lemmas.Bool.{cases_order}
use Rattle.xn_bytes.specs.Entries.{Entry}
use Rattle.xn_facts.specs.declared.facts.Node.{Node}
use Rattle.xn_census.specs.SortedOut.{IsOfKind, RightBy}

abbrev pub Rise : List Node → Type 0
Rise nodes = AllAdjacentBelow (λ a b. a.ino < b.ino) nodes (length nodes)

-- those of numbers that rise
pub rise_by_numbers : (nodes : List Node) (inodes : List ℕ) → map (λ (node : Node). node.ino) nodes ≡ inodes → AllAdjacentBelow (λ (a b : ℕ). a < b) inodes (length inodes) → Rise nodes
rise_by_numbers nodes inodes are rise k d low =
    let numbers : List ℕ = map (λ (node : Node). node.ino) nodes in
    let above : AllAdjacentBelow (λ (a b : ℕ). a < b) numbers (length numbers) = subst (λ (ns : List ℕ). AllAdjacentBelow (λ (a b : ℕ). a < b) ns (length ns)) (sym are) rise in
    let long : length numbers ≡ length nodes = length-map nodes (λ (node : Node). node.ino) in
    let less : get_or numbers k d.ino < get_or numbers (k + 1) d.ino = above k d.ino (omega (arith, low, long)) in
    let one : get_or numbers k d.ino ≡ (get_or nodes k d).ino = get_or-map (λ (node : Node). node.ino) nodes k d d.ino (omega (arith, low)) in
    let other : get_or numbers (k + 1) d.ino ≡ (get_or nodes (k + 1) d).ino = get_or-map (λ (node : Node). node.ino) nodes (k + 1) d d.ino low in
    omega (arith, less, one, other)

pub never_fall : (nodes : List Node) → Rise nodes → IsNonDecreasingBy (λ (node : Node). node.ino) nodes
never_fall nodes rise = IsNonDecreasingBy-from_all_adjacent (λ (node : Node). node.ino) nodes (λ k d low. let less : (get_or nodes k d).ino < (get_or nodes (k + 1) d).ino = rise k d low in omega (arith, less))

-- a later one has a greater number
pub later_above : (nodes : List Node) → Rise nodes → (i j : ℕ) (d : Node) → i < j → j < length nodes → (get_or nodes i d).ino < (get_or nodes j d).ino
later_above nodes rise i j d before low =
    let next : (get_or nodes i d).ino < (get_or nodes (i + 1) d).ino = rise i d (omega arith) in
    let rest : (get_or nodes (i + 1) d).ino ≤ (get_or nodes j d).ino = never_fall nodes rise (i + 1) j d (omega arith) low in
    omega (arith, next, rest)

-- where it has ended, the number is there or nowhere
pub there_or_nowhere : (nodes : List Node) (ino at : ℕ) → Rise nodes → IsPartitionPoint (λ (node : Node). node.ino < ino) (λ (node : Node). ino ≤ node.ino) nodes at
    → ((d : Node) → at < length nodes → (get_or nodes at d).ino ≡ ino → ⊥) → Any (λ (node : Node). node.ino ≡ ino) nodes → ⊥
there_or_nowhere nodes ino at rise point not_there (k, node, low, here, is) =
    elim (cases_order k at) [
      | inr (inl before) ↦ let less : (get_or nodes k node).ino < ino = point.0 k node (omega arith) before in let same = ap (λ (n : Node). n.ino) here in omega (arith, less, same, is)
      | inl now ↦ not_there node (omega arith) (ap (λ (n : ℕ). (get_or nodes n node).ino) (sym now) ∙ ap (λ (n : Node). n.ino) here ∙ is)
      | inr (inr after) ↦
          let more : ino ≤ (get_or nodes at node).ino = point.1 at node (omega arith) (omega arith) in
          let later : (get_or nodes at node).ino < (get_or nodes k node).ino = later_above nodes rise at k node after low in
          let same = ap (λ (n : Node). n.ino) here in
          omega (arith, more, later, same, is)
    ]

one_index : (nodes : List Node) → Rise nodes → (i j : ℕ) (d e : Node) → i < length nodes → j < length nodes → (get_or nodes i d).ino ≡ (get_or nodes j e).ino → i ≡ j
one_index nodes rise i j d e low_i low_j same =
    let there : get_or nodes j e ≡ get_or nodes j d = get_or_default nodes j e d low_j in
    let numbers : (get_or nodes j e).ino ≡ (get_or nodes j d).ino = ap (λ (n : Node). n.ino) there in
    elim (cases_order i j) [
      | inl now ↦ now
      | inr (inl before) ↦ let less : (get_or nodes i d).ino < (get_or nodes j d).ino = later_above nodes rise i j d before low_j in absurd (omega (arith, less, numbers, same))
      | inr (inr after) ↦ let less : (get_or nodes j d).ino < (get_or nodes i d).ino = later_above nodes rise j i d after low_i in absurd (omega (arith, less, numbers, same))
    ]

-- of one number there is one node
pub one_node : (nodes : List Node) (a b : Node) → Rise nodes → Contains nodes a → Contains nodes b → a.ino ≡ b.ino → a ≡ b
one_node nodes a b rise (i, low_i, is_a) (j, low_j, is_b) same =
    let at : i ≡ j = one_index nodes rise i j a b low_i low_j (ap (λ (n : Node). n.ino) is_a ∙ same ∙ ap (λ (n : Node). n.ino) (sym is_b)) in
    sym is_a ∙ ap (λ (k : ℕ). get_or nodes k a) at ∙ get_or_default nodes j a b low_j ∙ is_b

-- an entry is right exactly where the node of its number is of its kind
pub right_of : (nodes : List Node) (node : Node) (entry : Entry) → Rise nodes → Contains nodes node → node.ino ≡ entry.ino → RightBy nodes entry → IsOfKind entry.kind node.known
right_of nodes node entry rise has is (k, other, low, there, (number, kind)) =
    let same : other ≡ node = one_node nodes other node rise (k, low, there) has (number ∙ sym is) in
    subst (λ (n : Node). IsOfKind entry.kind n.known) same kind

pub is_right_by : (nodes : List Node) (node : Node) (entry : Entry) → Contains nodes node → node.ino ≡ entry.ino → IsOfKind entry.kind node.known → RightBy nodes entry
is_right_by nodes node entry (k, low, there) is kind = (k, node, low, there, (is, kind))

pub none_right : (nodes : List Node) (entry : Entry) → (Any (λ (node : Node). node.ino ≡ entry.ino) nodes → ⊥) → RightBy nodes entry → ⊥
none_right nodes entry none (k, node, low, there, (number, kind)) = none (k, node, low, there, number)
