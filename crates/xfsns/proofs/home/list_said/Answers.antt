use Rattle.xfsns.proofs.AnswerLemmas.{asked_list}
use Rattle.xfsns.proofs.home.list_said.Goals as goal

pub returns-clause-fetches : goal.returns-clause-fetches
returns-clause-fetches g c =
    let store = c.args.store.now in
    asked_list (g.S.Store.shape store) c.args.manifest.now (g.S.Store.image store) c.args.ino (g.S.Store.fetches store) (g.S.Store.fetches c.list.new.store) c.list.ensures.fetches c.list.ensures.looks
