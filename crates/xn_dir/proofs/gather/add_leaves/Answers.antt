use Rattle.xn_data.specs.Viewed.{entry_of}
use Rattle.xn_dir.proofs.Gatherings.{leaf_on, low_on}
use Rattle.xn_dir.proofs.gather.add_leaves.Goals as goal

pub loop-entry-preserved : goal.loop-entry-preserved
loop-entry-preserved c =
    let so_far = c.loop-entry.invariant in
    record {
      split = leaf_on c.args.number _ c.loop-entry.leaves.items c.push.new.self.items c.loop-entry.entry-iterator c.next.new.self (entry_of c.in-Some.entry) c.leaf_of.result c.in-Some.ensures.steps c.leaf_of.ensures c.in_ok-push.ensures.items so_far.split;
      placed = low_on c.loop-entry.entry-iterator c.next.new.self (entry_of c.in-Some.entry) c.in-Some.ensures.steps so_far.placed;
    }
