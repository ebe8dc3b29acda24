use Rattle.std.proofs.Common.{arith}
use Rattle.xn_leaf.proofs.Filling.{puts_counts}
use Rattle.xn_leaf.proofs.fill.put_counts.Goals as goal

pub returns : goal.returns
returns c =
    let l1 = c.put_u16.ensures.length in
    let l2 = c.put_u16-2.ensures.length in
    let l3 = c.put_u16-3.ensures.length in
    let l4 = c.put_u32.ensures.length in
    puts_counts c.args.count c.args.block.now c.put_u16.new.bytes c.put_u16-2.new.bytes c.put_u16-3.new.bytes c.put_u32.new.bytes (omega (arith, c.ranges.count.fits)) c.requires
    (omega (arith, c.requires)) (omega (arith, c.requires)) (omega (arith, c.requires)) (omega (arith, c.requires))
    c.put_u16.ensures.value c.put_u16-2.ensures.value c.put_u16-3.ensures.value c.put_u32.ensures.value
