use Rattle.xn_ns.proofs.MapWalks.{resolved_through_the_map}
use Rattle.xn_ns.proofs.law.replies_are_those_of_the_map.Goals as goal

pub returns : goal.returns
returns c = λ g m image path names reply has ends. resolved_through_the_map g m image path names reply has ends
