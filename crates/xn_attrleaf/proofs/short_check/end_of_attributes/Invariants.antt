use Rattle.xn_attrleaf.proofs.ShortEnds.{Goes}
use Rattle.xn_attrleaf.proofs.short_check.end_of_attributes.Given as goal

abbrev pub invariant-loop : goal.invariant-loop
invariant-loop l = Goes l.count l.counter l.at l.fork
