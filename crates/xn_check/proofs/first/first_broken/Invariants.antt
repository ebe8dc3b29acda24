use Rattle.std.proofs.Common.{ℕ, ◌<◌, List, map, get_or}
use Rattle.std.specs.Prelude.{All}
use Rattle.xn_meaning.specs.Manifests.{Manifest}
use Rattle.xn_rules.specs.Namings.{AreLive}
use Rattle.xn_rules.specs.NameRules.{Stands}
use Rattle.xn_facts.specs.declared.facts.Node.{Node}
use Rattle.xn_facts.specs.Facts.{NodeHolds}
use Rattle.xn_check.specs.Known.{NamesHold, meant}
use Rattle.xn_check.proofs.first.first_broken.Given as goal

-- the inodes before stand
abbrev pub invariant-loop-node : goal.invariant-loop-node
invariant-loop-node l =
    (m : Manifest) (image : List ℕ) → NamesHold l.geometry m image l.names → AreLive l.geometry m (map (λ node. node.ino) l.nodes)
    → All (NodeHolds l.geometry image) l.nodes → (k : ℕ) (d : Node) → k < l.node-index
    → Stands l.geometry m image (meant l.names) (get_or l.nodes k d).ino
