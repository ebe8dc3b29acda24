use Rattle.std.proofs.Common.{◌∙◌}
use Rattle.xn_dir.proofs.Comparing.{numbers_compare}
use Rattle.xn_dir.proofs.compare.compare.Goals as goal

pub returns : goal.returns
returns c = rw (c.in_one.ensures.value, c.in_one-2.ensures.value) at c.cmp.ensures ∙ numbers_compare _ _ _ _ c.in_one.ensures.small c.in_one-2.ensures.small
