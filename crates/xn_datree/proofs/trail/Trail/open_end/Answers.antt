use Rattle.std.proofs.Common.{◌-◌, ◌∙◌, ap, sym, arith}
use Rattle.xn_bytes.specs.Trees.{Met}
use Rattle.xn_datree.proofs.Trails.{are_ends, is_open_end}
use Rattle.xn_datree.proofs.trail.Trail.open_end.Goals as goal

pub returns-in-loop-level : goal.returns-in-loop-level
returns-in-loop-level c =
    is_open_end c.args.self.now (c.loop-level.level - 1) c.in-Some.last c.requires (sym c.left_on.ensures ∙ c.in-Some.is)
    (λ closed. c.if-last-ne0.true (ap (λ (m : Met). m.right) c.last.view_is ∙ closed))
    (λ other above within. c.loop-level.invariant other (omega arith) within)

pub returns : goal.returns
returns c = are_ends c.args.self.now c.requires (λ level from below. c.loop-level.invariant level (omega arith) below)
