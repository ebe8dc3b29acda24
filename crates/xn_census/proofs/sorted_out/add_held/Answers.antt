use Rattle.xn_census.specs.declared.sorted_out.SortedOut.{SortedOut}
use Rattle.xn_census.proofs.Sortings.{sorts_more}
use Rattle.xn_census.proofs.sorted_out.add_held.Goals as goal

pub returns : goal.returns
returns c = λ helds sorts.
    let new : SortedOut = record { wholes = c.push.new.self; namings = c.take_entries.new.namings; steps = c.take_entries.new.steps } in
    sorts_more c.args.nodes.now helds c.args.held c.whole_of-whole.result c.args.out.now new c.whole_of-whole.ensures c.in_ok-push.ensures.items c.in_ok-take_entries.ensures.namings c.in_ok-take_entries.ensures.steps sorts
