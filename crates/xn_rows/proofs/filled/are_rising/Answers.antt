use Rattle.std.proofs.Common.{◌+◌, drop, subst}
use Rattle.std.proofs.lemmas.List.{drop_all}
use Rattle.xn_datree.proofs.Rising.{GoesOn, sorted_from, rise_from_sorted, goes_on, drop_at}
use Rattle.xn_rows.proofs.filled.are_rising.Goals as goal

pub loop-entry-init : goal.loop-entry-init
loop-entry-init g c =
    let hash = g.L.Leaf.hash in
    record { to = sorted_from hash 0 c.args.entries.now; back = rise_from_sorted hash c.args.entries.now }

pub loop-entry-preserved : goal.loop-entry-preserved
loop-entry-preserved g c =
    let hash = g.L.Leaf.hash in
    let all = c.args.entries.now in
    let i = c.loop-entry.entry-index in
    let entry = c.entry-item.result in
    let there = subst (GoesOn hash all c.loop-entry.least) (drop_at all i entry c.loop-entry-test.true c.entry-item.is) c.loop-entry.invariant in
    let is = c.hash_of-hash.ensures in
    rw is (goes_on hash all c.loop-entry.least entry (drop (i + 1) all) (rw is at c.if-hash-least.false) there)

pub returns : goal.returns
returns g c = λ _. c.loop-entry.invariant.to (rw (drop_all c.loop-entry.entry-index c.args.entries.now c.loop-entry-test.false) tt)
