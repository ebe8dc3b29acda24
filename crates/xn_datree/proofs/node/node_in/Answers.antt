use Rattle.std.proofs.Common.{rules}
use Rattle.xn_datree.proofs.Children.{counts_of_node, is_node, unsorted}
use Rattle.xn_datree.proofs.node.node_in.Goals as goal
use Rattle.xn_datree.proofs.node.node_in.Goals.{then-not-has_counts-via-then-not-has_counts, then-not-has_counts-via-else-not-has_counts+then-not-has_checksum}

pub returns-then-not-has_counts : goal.returns-then-not-has_counts
returns-then-not-has_counts c = λ children node.
    elim c.then-not-has_counts.branch [
      | then-not-has_counts-via-then-not-has_counts w ↦ cc (c.has_counts.ensures.1 (counts_of_node c.args.block.now children node))
      | then-not-has_counts-via-else-not-has_counts+then-not-has_checksum w ↦ cc (w.has_checksum.ensures.1 node.checksum)
    ]

pub returns-then-is_sorted : goal.returns-then-is_sorted
returns-then-is_sorted c =
    is_node c.args.block.now c.in_ok-children.children.items c.requires.magic (search rules) (search rules) (search rules) (search rules)

pub returns-else-is_sorted : goal.returns-else-is_sorted
returns-else-is_sorted c = λ children node.
    unsorted c.args.block.now c.in_ok-children.children.items children (search rules) (search rules) node
