use Rattle.std.proofs.lemmas.Bool.{both_ways}
use Rattle.std.proofs.lemmas.Bool.Decides.{Decides-eqb}
use Rattle.std.proofs.lemmas.Slice.Eq.{slice_eq-Decides}
use Rattle.xn_short.proofs.Finding.{passes}
use Rattle.xn_short.proofs.short.Short.find.Goals as goal

pub loop-entry-preserved : goal.loop-entry-preserved
loop-entry-preserved c =
    let same = slice_eq-Decides Decides-eqb c.in-Some.entry.name.now c.args.name.now c.eq.result c.eq.ensures in
    passes c.args.name.now c.args.self.now.entries c.loop-entry.yielded c.loop-entry.entry-iterator c.next.new.self c.in-Some.entry c.in-Some.ensures.steps (λ e. both_ways c.eq.result c.if-eq.false (same.1 e)) c.loop-entry.invariant
