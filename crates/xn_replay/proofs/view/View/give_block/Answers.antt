use Rattle.std.proofs.Common.{subst}
use Rattle.xn_inode.specs.Stores.{IsGiven}
use Rattle.xn_replay.specs.Overlay.{ViewState}
use Rattle.xn_replay.proofs.view.View.give_block.Goals as goal

pub returns-clause-given : goal.returns-clause-given
returns-clause-given c = subst (λ (v : ViewState). IsGiven v.blocks v.free c.give.new.self.free c.args.block) c.self.view_is c.give.ensures.given
