use Rattle.std.proofs.Common.{arith}
use Rattle.xn_make.proofs.Laying.{leaves_step, leaves_end}
use Rattle.xn_make.proofs.layout.push_leaves.Goals as goal

pub loop-leaf-preserved : goal.loop-leaf-preserved
loop-leaf-preserved c =
    leaves_step _ c.loop-leaf.bytes.items c.extend_from_slice.new.self.items c.extend_from_slice-in-loop-leaf.new.self.items c.to_be_bytes.result c.to_be_bytes-in-loop-leaf.result
    c.args.leaves.now c.loop-leaf.leaf-index _ (omega arith) c.in_ok-extend_from_slice.ensures.items c.in_ok-extend_from_slice-2.ensures.items
    c.to_be_bytes.ensures c.to_be_bytes-in-loop-leaf.ensures c.loop-leaf.invariant

pub returns : goal.returns
returns c = leaves_end _ c.loop-leaf.bytes.items c.args.leaves.now c.loop-leaf.leaf-index (omega arith) c.loop-leaf.invariant
