use Rattle.std.proofs.Common.{arith, map}
use Rattle.xn_names.specs.Names.{naming_of}
use Rattle.std.proofs.lemmas.Grind.{common_steps}
use Rattle.xn_names.proofs.Dotdots.{dotdot_of_named}
use Rattle.xn_names.proofs.dots.has_dotdot.Goals as goal

pub returns-else-is_empty : goal.returns-else-is_empty
returns-else-is_empty c =
    dotdot_of_named c.args.geometry.now (map naming_of c.args.namings.now) c.args.dir c.args.dotdot c.any_stands_in.result c.naming-named.result.now
    (grind (arith, common_steps)) c.naming-named.ensures.viewed (grind (arith, common_steps)) c.any_stands_in.ensures
