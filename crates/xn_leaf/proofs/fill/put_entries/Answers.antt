use Rattle.std.proofs.Common.{refl, arith}
use Rattle.xn_bytes.proofs.LeafEntries.{leaves_none}
use Rattle.xn_leaf.proofs.Filling.{puts_more, puts_all}
use Rattle.xn_leaf.proofs.fill.put_entries.Goals as goal

pub loop-index-init : goal.loop-index-init
loop-index-init c = record { whole = refl; there = leaves_none 64 c.args.block.now; before = refl }

pub loop-index-preserved : goal.loop-index-preserved
loop-index-preserved c =
    puts_more c.loop-index.index c.args.block.now c.loop-index.block c.put_entry.new.block c.index-entries-index.result c.args.entries.now c.requires.size (omega (arith, c.requires.few)) c.loop-index-test.true c.index-entries-index.is c.loop-index.invariant c.put_entry.ensures

pub returns : goal.returns
returns c = puts_all c.loop-index.index c.args.block.now c.loop-index.block c.args.entries.now (omega (arith, c.loop-index.auto.index-end)) c.loop-index.invariant
