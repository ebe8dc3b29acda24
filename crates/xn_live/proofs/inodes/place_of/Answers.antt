use Rattle.xn_live.proofs.Places.{place_found}
use Rattle.xn_live.proofs.inodes.place_of.Goals as goal

pub returns : goal.returns
returns c = rw c.ok.ensures.value (place_found c.args.live.now c.args.ino c.binary_search.result c.requires c.binary_search.ensures.position)
