use Rattle.std.proofs.Common.{ap, arith, length}
use Rattle.xn_short.specs.Widths.{byte_count}
use Rattle.xn_short.specs.Viewed.{entry_of}
use Rattle.xn_short.proofs.Entries.{front_first}
use Rattle.xn_short.proofs.entry.ShortEntriesIterator.next.Goals as goal

pub returns-clause-steps : goal.returns-clause-steps
returns-clause-steps c = front_first c.args.self.now c.self.inside.left (byte_count c.self.inside.width) c.self.inside.rest.now c.read_entry.result.1.now (entry_of c.read_entry.result.0) c.self.view_is (omega arith) c.read_entry.ensures.entry c.read_entry.ensures.rest

pub returns-clause-goes : goal.returns-clause-goes
returns-clause-goes c =
    let steps = front_first c.args.self.now c.self.inside.left (byte_count c.self.inside.width) c.self.inside.rest.now c.read_entry.result.1.now (entry_of c.read_entry.result.0) c.self.view_is (omega arith) c.read_entry.ensures.entry c.read_entry.ensures.rest in
    record { on = λ _. (tt, tt, omega (arith, ap length steps)); keeps = tt; rests = λ _. tt }
