use Rattle.xn_ns.proofs.MapLists.{listed_by_the_map}
use Rattle.xn_ns.proofs.law.lists_are_those_of_the_map.Goals as goal

pub returns : goal.returns
returns c = λ g m image names dir lines has ends. listed_by_the_map g m image names dir lines has ends
