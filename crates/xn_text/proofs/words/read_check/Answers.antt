use Rattle.xn_text.proofs.WordLemmas.{asks_check, check_refused}
use Rattle.xn_text.proofs.words.read_check.Goals as goal

pub returns-then-eq-clause-ok : goal.returns-then-eq-clause-ok
returns-then-eq-clause-ok c = asks_check c.args.command.now c.args.rest.now c.if-eq.ensures c.requires.two c.requires.words
