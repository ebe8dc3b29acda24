-- What a block was read to hold, as the definition of trees sees it.
use Rattle.std.specs.Prelude.{◌≡◌, ℕ, List, []}
use Rattle.xn_bytes.specs.Trees.{Held as Holding, IsNode, ends_of_children}
use Rattle.xn_datree.specs.declared.held.Held.{Held}

abbrev pub held_of : {E : Type 0} → Held E → Holding E
held_of held = record { entries = held.entries.items; children = held.children.items; ends = held.ends }

-- the bytes are a node that holds this
abbrev pub HoldsNode : {E : Type 0} → List ℕ → Holding E → Type 0
HoldsNode bytes held = IsNode bytes held.children × (held.entries ≡ []) × (held.ends ≡ ends_of_children held.children)
