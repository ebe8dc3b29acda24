use Rattle.std.proofs.Common.{◌∙◌}
use Rattle.xn_datree.proofs.Trails.{is_new}
use Rattle.xn_datree.proofs.trail.Trail.is_new.Goals as goal

pub returns : goal.returns
returns c = is_new c.args.self.now c.args.file_block c.contains.result (c.contains.ensures ∙ rw c.self.view_is at (c.self.invariant c.args.file_block))
