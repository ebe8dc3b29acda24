use Rattle.std.proofs.Common.{[], Some, sym, refl}
use Rattle.std.proofs.lemmas.List.{append-nil}
use Rattle.xn_transactions.specs.Viewed.{live_of}
use Rattle.xn_transactions.proofs.WalkLemmas.{walked-more}
use Rattle.xn_transactions.proofs.walk.Walk.start.Goals as goal

pub returns : goal.returns
returns c = λ done h.
    walked-more c.args.self.now _ (live_of c.args.start) (Some c.by.result) [] done h (rw (c.requires.starts, c.requires.commits_not, c.by.ensures) refl) c.in_ok-insert.ensures.updates.0 (rw c.requires.commits_not refl) (sym (append-nil _))
