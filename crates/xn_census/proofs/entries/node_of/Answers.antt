use Rattle.std.proofs.Common.{arith, ap, ◌∙◌}
use Rattle.std.proofs.lemmas.List.{get_or_default}
use Rattle.xn_facts.specs.declared.facts.Node.{Node}
use Rattle.xn_census.proofs.Nodes.{never_fall, there_or_nowhere}
use Rattle.xn_census.proofs.entries.node_of.Goals as goal
use Rattle.xn_census.proofs.entries.node_of.Goals.{else-at-nodes-via-then-at-nodes+else-nodes-at, else-at-nodes-via-else-at-nodes}

pub count_below-at-requires : goal.count_below-at-requires
count_below-at-requires c = never_fall c.args.nodes.now c.requires

pub returns-else-at-nodes : goal.returns-else-at-nodes
returns-else-at-nodes c = there_or_nowhere c.args.nodes.now c.args.ino c.count_below-at.result c.requires c.count_below-at.ensures.point
    (elim c.else-at-nodes.branch [
      | else-at-nodes-via-then-at-nodes+else-nodes-at w ↦ λ d low is. w.if-nodes-at.false (ap (λ (n : Node). n.ino) (get_or_default c.args.nodes.now c.count_below-at.result w.index-nodes-at.result d low) ∙ is)
      | else-at-nodes-via-else-at-nodes w ↦ λ d low is. omega (arith, low)
    ])
