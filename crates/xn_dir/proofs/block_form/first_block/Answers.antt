use Rattle.xn_dir.proofs.FirstBlocks.{no_dots}
use Rattle.xn_dir.proofs.block_form.first_block.Goals as goal

pub returns-in-None-clause-fault : goal.returns-in-None-clause-fault
returns-in-None-clause-fault c =
    no_dots c.args.geometry.now c.args.dir c.args.block c.args.bytes.now c.in-Ok.held _ c.in-Ok.ensures.only c.entries-entries.ensures.entries (rw c.in-None.is at c.take_dots.ensures)
