use Rattle.xn_make.proofs.WholeImages.{blank}
use Rattle.xn_make.proofs.images.blank.Goals as goal

pub returns : goal.returns
returns c = blank c.in_ok-vec.field-0.items c.args.sectors (c.in_ok-vec.ensures.items_if_clones_equal (λ y h. h))
