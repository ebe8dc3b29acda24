use Rattle.std.proofs.Common.{◌+◌}
use Rattle.std.proofs.lemmas.Result.{IfOk-weaker}
use Rattle.xfsns.specs.Home.{end_said}
use Rattle.xfsns.specs.Answer.{EndsWith}
use Rattle.xfsns.proofs.AnswerLemmas.{over_image, out_of_place, reads_over_image, few_reads}
use Rattle.xfsns.proofs.answer.answer_by.Goals as goal

pub returns-in_default-2-clause-reads : goal.returns-in_default-2-clause-reads
returns-in_default-2-clause-reads g c =
    few_reads c.args.command.now c.args.manifest.now (g.M.Machine.image c.args.machine.now) (g.M.Machine.reads c.args.machine.now + 1) (g.M.Machine.reads c.read_super.new.machine)
    c.in_ok-geometry.ensures.reads

pub returns-in_default-2-clause-answer : goal.returns-in_default-2-clause-answer
returns-in_default-2-clause-answer g c =
    let found = rw c.in-Some.is at c.in_ok-geometry.ensures.found in
    let wrong = rw c.in_default-2.is at c.in_ok-pool.ensures in
    IfOk-weaker c.broken-in_default-2.result _ _
    (λ answer told. out_of_place (EndsWith c.args.command.now) c.args.manifest.now (g.M.Machine.image c.args.machine.now) c.in-Some.geometry answer.status answer.text.items found wrong told)
    c.broken-in_default-2.ensures.answer

pub returns-clause-answer : goal.returns-clause-answer
returns-clause-answer g c =
    let found = rw c.in-Some.is at c.in_ok-geometry.ensures.found in
    let pool = rw c.in-Some-2.is at c.in_ok-pool.ensures in
    let ends = rw c.in_ok-geometry.ensures.stays.image_stays at c.ask_image-ended.ensures.ended.ends in
    IfOk-weaker c.answer_of.result _ _
    (λ answer said. over_image (EndsWith c.args.command.now) c.args.manifest.now (g.M.Machine.image c.args.machine.now) c.in-Some.geometry (end_said c.ask_image-ended.result) answer.status answer.text.items found pool.places ends said)
    c.answer_of.ensures.answer

pub returns-clause-reads : goal.returns-clause-reads
returns-clause-reads g c =
    let found = rw c.in-Some.is at c.in_ok-geometry.ensures.found in
    let reads = rw c.in_ok-geometry.ensures.stays.image_stays at c.ask_image-ended.ensures.reads in
    reads_over_image c.args.command.now c.args.manifest.now (g.M.Machine.image c.args.machine.now) c.in-Some.geometry (g.M.Machine.reads c.args.machine.now) (g.M.Machine.reads c.read_super.new.machine) (g.M.Machine.reads c.ask_image-ended.new.machine)
    found c.in_ok-geometry.ensures.reads reads
