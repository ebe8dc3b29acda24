use Rattle.std.proofs.Common.{◌∙◌, sym, ap, arith, length}
use Rattle.xn_bytes.specs.DataBlock.{entries_among, most_regions}
use Rattle.xn_data.proofs.Walk.{list_end}
use Rattle.xn_data.proofs.Standing.{entry_front, not_free, front_first}
use Rattle.xn_data.proofs.entry.DataEntriesIterator.next.Goals as goal

pub returns-then-self-clause-steps : goal.returns-then-self-clause-steps
returns-then-self-clause-steps c = let none = sym c.self.view_is ∙ ap entries_among (list_end most_regions _ _ _ c.if-self.true) in (none, none)

pub read_entry-entry-requires : goal.read_entry-entry-requires
read_entry-entry-requires c =
    let front = entry_front _ _ _ _ c.self.invariant c.if-self.false (not_free _ _ _ c.self.invariant c.if-self.false) in
    omega (arith, front.within, c.self.invariant.within)

pub bounds-self-inside-self-inside : goal.bounds-self-inside-self-inside
bounds-self-inside-self-inside c =
    let front = entry_front _ _ _ _ c.self.invariant c.if-self.false (not_free _ _ _ c.self.invariant c.if-self.false) in
    omega (arith, front.within, front.some, c.self.invariant.within)

pub past_free-self-inside-requires : goal.past_free-self-inside-requires
past_free-self-inside-requires c =
    let front = entry_front _ _ _ _ c.self.invariant c.if-self.false (not_free _ _ _ c.self.invariant c.if-self.false) in
    rw c.entry_size.ensures front.rest

pub returns-clause-steps : goal.returns-clause-steps
returns-clause-steps c =
    front_first c.args.self.now _ _ _ _ _ _ c.self.invariant c.if-self.false c.self.view_is c.read_entry-entry.ensures c.entry_size.ensures c.past_free-self-inside.ensures.entries

pub returns-clause-goes : goal.returns-clause-goes
returns-clause-goes c =
    let steps = front_first c.args.self.now _ _ _ _ _ _ c.self.invariant c.if-self.false c.self.view_is c.read_entry-entry.ensures c.entry_size.ensures c.past_free-self-inside.ensures.entries in
    record { on = λ _. (tt, tt, omega (arith, ap length steps)); keeps = tt; rests = λ _. tt }
