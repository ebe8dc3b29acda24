use Rattle.std.proofs.Common.{subst}
use Rattle.xn_bytes.specs.DataBlock.{DataForm, block_size, data_in, entries_among, header_size}
use Rattle.xn_data.specs.Standing.{ArePlaced}
use Rattle.xn_data.proofs.Law.{placed_in_block}
use Rattle.xn_data.proofs.Forms.{stands_from, entries_are, entries_few}
use Rattle.xn_data.proofs.block.DataBlock.entries.Goals as goal

pub new-requires : goal.new-requires
new-requires c = stands_from c.self.inside.bytes.now _ _ c.self.invariant c.end_of_regions.ensures.value

pub returns-clause-entries : goal.returns-clause-entries
returns-clause-entries c = entries_are c.self.inside.bytes.now c.args.self.now _ _ c.new.ensures c.end_of_regions.ensures.value c.self.view_is

pub returns-clause-placed : goal.returns-clause-placed
returns-clause-placed c =
    subst (λ (form : DataForm). ArePlaced header_size block_size (entries_among form.regions)) c.self.view_is (placed_in_block c.self.inside.bytes.now (data_in c.self.inside.bytes.now) c.self.invariant)

pub returns-clause-few : goal.returns-clause-few
returns-clause-few c = entries_few c.self.inside.bytes.now c.args.self.now c.new.result c.self.invariant c.self.view_is (returns-clause-entries c)
