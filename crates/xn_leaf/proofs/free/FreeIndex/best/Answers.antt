use Rattle.std.proofs.Common.{arith}
use Rattle.xn_leaf.proofs.FreeForms.{best_there, no_best_there}
use Rattle.xn_leaf.proofs.free.FreeIndex.best.Goals as goal

pub returns-then-best : goal.returns-then-best
returns-then-best c =
    no_best_there c.self.inside.bytes.now c.args.self.now c.args.slot c.best_in-best.result c.self.view_is (omega (arith, c.if-slot-from.false, c.u32_at.ensures)) c.best_in-best.ensures c.if-best.true

pub returns-else-best : goal.returns-else-best
returns-else-best c =
    best_there c.self.inside.bytes.now c.args.self.now c.args.slot c.best_in-best.result c.self.view_is (omega (arith, c.if-slot-from.false, c.u32_at.ensures)) c.best_in-best.ensures c.if-best.false
