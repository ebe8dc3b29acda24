use Rattle.xn_attrleaf.proofs.Names.{named_local, named_remote}
use Rattle.xn_attrleaf.proofs.put.put_name.Goals as goal

pub returns-in-Here : goal.returns-in-Here
returns-in-Here c =
    named_local c.args.place c.args.end c.args.block.now c.put_local.new.block c.args.attribute.now c.in-Here.value c.as_slice-name.result.now c.as_slice.result.now
    c.in-Here.is c.requires.lawful.no_local_bit c.as_slice-name.ensures c.as_slice.ensures c.put_local.ensures

pub returns-in-Remote : goal.returns-in-Remote
returns-in-Remote c =
    named_remote c.args.place c.args.end c.args.block.now c.put_remote.new.block c.args.attribute.now c.in-Remote.first c.in-Remote.length c.as_slice-name.result.now
    c.in-Remote.is c.requires.lawful.no_local_bit c.as_slice-name.ensures c.put_remote.ensures
