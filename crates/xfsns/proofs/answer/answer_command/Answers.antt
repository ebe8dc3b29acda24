use Rattle.std.proofs.Common.{inr}
use Rattle.std.proofs.lemmas.Result.{IfOk-weaker}
use Rattle.xfsns.proofs.AnswerLemmas.{command_reads}
use Rattle.xfsns.proofs.answer.answer_command.Goals as goal

pub returns-in-Manifest-clause-reads : goal.returns-in-Manifest-clause-reads
returns-in-Manifest-clause-reads g c =
    let found = rw c.in-Manifest.is at c.in_ok-manifest.ensures.found in
    command_reads c.args.command.now c.in-Manifest.manifest (g.F.Source.left c.args.source.now) (g.M.Machine.image c.args.machine.now) (g.M.Machine.reads c.args.machine.now) (g.M.Machine.reads c.answer_by.new.machine)
    found.1 c.answer_by.ensures.reads

pub returns-in-Manifest-clause-answer : goal.returns-in-Manifest-clause-answer
returns-in-Manifest-clause-answer g c =
    let found = rw c.in-Manifest.is at c.in_ok-manifest.ensures.found in
    IfOk-weaker c.answer_by.result _ _ (λ answer reads. inr (c.in-Manifest.manifest, found.0, found.1, reads)) c.answer_by.ensures.answer
