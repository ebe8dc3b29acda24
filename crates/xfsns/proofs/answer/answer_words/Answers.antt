use Rattle.std.proofs.lemmas.Result.{IfOk-weaker, IfErr-weaker}
use Rattle.xfsns.proofs.AnswerLemmas.{answers_words, reads_for, asks_something}
use Rattle.xfsns.proofs.CauseLemmas.{cause_for_words}
use Rattle.xfsns.proofs.answer.answer_words.Goals as goal

pub returns-in-Ok-clause-reads : goal.returns-in-Ok-clause-reads
returns-in-Ok-clause-reads g c =
    reads_for _ c.in-Ok.command _ (g.M.Machine.image c.args.machine.now) (g.M.Machine.reads c.args.machine.now) (g.M.Machine.reads c.answer_command.new.machine) c.in-Ok.ensures.ok c.answer_command.ensures.reads

pub returns-in-Ok-clause-reads_nothing : goal.returns-in-Ok-clause-reads_nothing
returns-in-Ok-clause-reads_nothing g c = λ none. absurd (asks_something _ c.in-Ok.command c.in-Ok.ensures.ok none)

pub returns-in-Ok-clause-answer : goal.returns-in-Ok-clause-answer
returns-in-Ok-clause-answer g c =
    IfOk-weaker c.answer_command.result _ _
    (λ answer reads. answers_words _ c.in-Ok.command _ _ answer.status answer.text.items c.in-Ok.ensures.ok reads)
    c.answer_command.ensures.answer

pub returns-in-Ok-clause-cause : goal.returns-in-Ok-clause-cause
returns-in-Ok-clause-cause g c =
    IfErr-weaker c.answer_command.result _ _
    (λ fault rose. cause_for_words _ c.in-Ok.command _ _ _ _ _ fault c.in-Ok.ensures.ok rose)
    c.answer_command.ensures.cause
