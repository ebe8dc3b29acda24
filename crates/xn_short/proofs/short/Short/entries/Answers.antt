use Rattle.std.proofs.Common.{subst}
use Rattle.xn_bytes.specs.ShortDirectory.{form_in, IsShortForm}
use Rattle.xn_short.specs.Widths.{byte_count}
use Rattle.xn_short.proofs.Forms.{stands_whole, entries_are}
use Rattle.xn_short.proofs.short.Short.entries.Goals as goal

pub new-requires : goal.new-requires
new-requires c = stands_whole c.self.inside.bytes.now (form_in c.self.inside.bytes.now) (byte_count c.for_wide_numbers-width.result) c.bytes.result c.self.invariant c.for_wide_numbers-width.ensures c.bytes.ensures

pub returns-clause-lawful : goal.returns-clause-lawful
returns-clause-lawful c = subst IsShortForm c.self.view_is c.self.invariant.lawful

pub returns-clause-entries : goal.returns-clause-entries
returns-clause-entries c = entries_are c.self.inside.bytes.now c.args.self.now (byte_count c.for_wide_numbers-width.result) c.bytes.result c.new.result c.new.ensures c.for_wide_numbers-width.ensures c.bytes.ensures c.self.view_is
