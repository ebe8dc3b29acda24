use Rattle.xn_attrleaf.proofs.Standing.{puts_more, room_for}
use Rattle.xn_attrleaf.proofs.fill.put_attributes.Goals as goal

pub put_attribute-end-requires-clause-room : goal.put_attribute-end-requires-clause-room
put_attribute-end-requires-clause-room c =
    room_for c.loop-index.index c.loop-index.end c.args.attributes.now c.index-attributes-index.result c.loop-index-test.true c.index-attributes-index.is c.requires.fits c.loop-index.invariant.end

pub loop-index-preserved : goal.loop-index-preserved
loop-index-preserved c =
    let both = puts_more c.loop-index.index c.loop-index.end c.put_attribute-end.result c.args.block.now c.loop-index.block c.put_attribute-end.new.block c.args.attributes.now c.index-attributes-index.result
    c.requires.size c.loop-index-test.true c.index-attributes-index.is c.requires.fits c.loop-index.invariant.end c.loop-index.invariant.puts c.put_attribute-end.ensures in
    record { puts = both.0; end = both.1 }
