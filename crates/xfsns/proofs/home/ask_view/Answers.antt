use Rattle.std.proofs.Common.{rules}
use Rattle.xn_text.specs.declared.words.Words.TheVariants as commands
use Rattle.xfsns.specs.Answer.{ReadsAtMost}
use Rattle.xfsns.proofs.HomeLemmas.{at_home, now_same, check_ended}
use Rattle.xfsns.proofs.home.ask_view.Goals as goal

pub returns-in-Check-clause-ended : goal.returns-in-Check-clause-ended
returns-in-Check-clause-ended g c =
    rw c.in-Check.is
    (check_ended c.args.view.now.shape c.args.manifest.now (g.M.Machine.image c.args.machine.now) c.args.view.now.kept (g.M.Machine.read_faults c.args.machine.now) (g.M.Machine.read_faults c.check.new.machine) c.check.result c.said_by.result
    c.requires.home c.said_by.ensures.end c.said_by.ensures.fault c.check.ensures.checks c.check.ensures.cause)

pub returns-in-List-clause-reads : goal.returns-in-List-clause-reads
returns-in-List-clause-reads g c =
    let kept = c.args.view.now.kept in
    let fetches = at_home _ (g.M.Machine.image c.args.machine.now) kept c.requires.home c.list_said.ensures.fetches in
    rw c.in-List.is
    (now_same (λ x n. ReadsAtMost (commands.List c.in-List.ino) c.args.view.now.shape c.args.manifest.now x (g.M.Machine.reads c.args.machine.now) n) (g.M.Machine.image c.args.machine.now) _ _ (search rules) fetches)
