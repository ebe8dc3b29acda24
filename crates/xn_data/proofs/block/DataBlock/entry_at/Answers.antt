use Rattle.xn_data.proofs.Forms.{finds_there}
use Rattle.xn_data.proofs.block.DataBlock.entry_at.Goals as goal

pub returns-clause-there : goal.returns-clause-there
returns-clause-there c = λ entry among place.
    finds_there c.self.inside.bytes.now c.args.self.now _ _ c.entry_in_place.result entry c.self.invariant c.self.view_is c.end_of_regions.ensures.value c.entry_in_place.ensures among place
