use Rattle.std.proofs.Common.{◌∙◌}
use Rattle.xn_dir.proofs.Repeats.{found_among}
use Rattle.xn_dir.proofs.listing.is_among.Goals as goal

pub returns : goal.returns
returns c = c.is_ok.ensures.value ∙ found_among c.args.hashes.now c.args.hash c.binary_search.result c.requires c.binary_search.ensures.position
