use Rattle.xn_bytes.specs.Names.{IsName}
use Rattle.xn_bytes.specs.LeafForms.{placed_in}
use Rattle.std.proofs.Common.{map}
use Rattle.xn_data.specs.Viewed.{entry_of}
use Rattle.xn_dir.proofs.Gatherings.{listed_on, not_named}
use Rattle.xn_dir.proofs.NotListed.{lists_none, only_memory}
use Rattle.xn_dir.proofs.gather.add_listed.Goals as goal

pub loop-entry-preserved : goal.loop-entry-preserved
loop-entry-preserved c =
    listed_on c.args.number c.args.listed.now.items c.args.entries c.loop-entry.listed.items c.push.new.self.items c.loop-entry.entry-iterator c.next.new.self c.in-Ok.one (entry_of c.in-Some.entry) c.in-Some.ensures.steps
    c.in-Ok.ensures.0 c.in-Ok.ensures.1 c.in_ok-push-in-Ok.ensures.items c.loop-entry.invariant

pub returns-in-Err-clause-lists : goal.returns-in-Err-clause-lists
returns-in-Err-clause-lists c =
    let answer = c.not_listed.ensures c.in-Some.entry.name.now c.in-Err.ensures in
    lists_none (IsName c.in-Some.entry.name.now) c.args.listed.now.items c.loop-entry.listed.items (map (placed_in c.args.number) c.args.entries) c.not_listed.result answer
    (λ none. not_named c.args.number c.args.listed.now.items c.args.entries c.loop-entry.listed.items c.loop-entry.entry-iterator c.next.new.self (entry_of c.in-Some.entry) c.in-Some.ensures.steps none c.loop-entry.invariant)

pub returns-in-Err-clause-fault : goal.returns-in-Err-clause-fault
returns-in-Err-clause-fault c = only_memory _ c.not_listed.result (c.not_listed.ensures c.in-Some.entry.name.now c.in-Err.ensures)
