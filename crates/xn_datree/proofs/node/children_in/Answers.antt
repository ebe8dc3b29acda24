use Rattle.std.proofs.Common.{arith, rules}
use Rattle.xn_bytes.specs.HashedTree.{children_at}
use Rattle.xn_datree.proofs.Children.{children_more}
use Rattle.xn_datree.proofs.node.children_in.Goals as goal

pub loop-index-preserved : goal.loop-index-preserved
loop-index-preserved c =
    children_more c.loop-index.children.items c.push.new.self.items (children_at c.args.count 64 c.args.block.now) (record { hash = c.u32_at.result; file_block = c.u32_at-in-loop-index.result }) c.loop-index.index c.args.count c.args.block.now
    (search rules) (search rules) (search rules) (omega arith) c.loop-index.invariant
