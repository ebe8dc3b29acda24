use Rattle.xfsns.proofs.TellLemmas.{is_outcome}
use Rattle.xfsns.proofs.top.xfsns.Goals as goal

pub returns-in-Ok-clause-outcome : goal.returns-in-Ok-clause-outcome
returns-in-Ok-clause-outcome g c =
    is_outcome _ _ _ c.in-Ok.answer.status c.in-Ok.answer.text.items (g.M.Machine.told c.answer_words.new.machine) (g.M.Machine.say_faults c.answer_words.new.machine) c.tell.result
    c.in-Ok.ensures.answer c.in-Ok.ensures.whole c.in-Ok.ensures.stays.told_stays c.in-Ok.ensures.stays.say_faults_later c.tell.ensures.told

pub returns-in-Ok-clause-reads_list : goal.returns-in-Ok-clause-reads_list
returns-in-Ok-clause-reads_list g c = λ ino asks. rw c.tell.ensures.reads (c.in-Ok.ensures.reads.list ino asks)

pub returns-in-Ok-clause-reads_refused : goal.returns-in-Ok-clause-reads_refused
returns-in-Ok-clause-reads_refused g c = λ ino asks. rw c.tell.ensures.reads (c.in-Ok.ensures.reads.refused ino asks)

pub returns-in-Ok-clause-reads_resolve : goal.returns-in-Ok-clause-reads_resolve
returns-in-Ok-clause-reads_resolve g c = λ path asks. rw c.tell.ensures.reads (c.in-Ok.ensures.reads.resolve path asks)

pub returns-in-Ok-clause-reads_parents : goal.returns-in-Ok-clause-reads_parents
returns-in-Ok-clause-reads_parents g c = λ ino asks. rw c.tell.ensures.reads (c.in-Ok.ensures.reads.parents ino asks)
