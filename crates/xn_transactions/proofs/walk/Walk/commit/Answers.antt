use Rattle.std.proofs.Common.{None, sym, ◌∙◌, refl}
use Rattle.std.proofs.lemmas.List.{append-nil}
use Rattle.xn_transactions.specs.Viewed.{live_of}
use Rattle.xn_transactions.proofs.WalkLemmas.{walked-more}
use Rattle.xn_transactions.proofs.walk.Walk.commit.Goals as goal

pub returns-in_ok-push : goal.returns-in_ok-push
returns-in_ok-push c = λ done h.
    walked-more c.args.self.now _ (live_of c.args.commit) None _ done h (rw c.requires refl) c.remove-started.ensures.updates.0 (c.in-Some.ensures ∙ rw (c.requires, c.remove-started.ensures.value) refl) c.in_ok-push.ensures.items

pub returns-in_default : goal.returns-in_default
returns-in_default c = λ done h.
    walked-more c.args.self.now _ (live_of c.args.commit) None _ done h (rw c.requires refl) c.remove-started.ensures.updates.0 (c.in_default.ensures ∙ rw (c.requires, c.remove-started.ensures.value) refl) (sym (append-nil _))
