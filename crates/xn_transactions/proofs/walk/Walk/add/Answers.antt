use Rattle.std.proofs.Common.{[], None, Some, sym, ap, refl}
use Rattle.std.proofs.lemmas.List.{append-nil}
use Rattle.std.specs.BTreeMap.{get, get_by}
use Rattle.std.specs.Option.{IsSome}
use Rattle.std.specs.Ordering.{nat_cmp}
use Rattle.xn_transactions.specs.Viewed.{live_of}
use Rattle.xn_transactions.proofs.WalkLemmas.{absent_stays, walked-more}
use Rattle.xn_transactions.proofs.walk.Walk.add.Goals as goal

pub returns-in_ok-add : goal.returns-in_ok-add
returns-in_ok-add c = λ done h.
    let there : IsSome (get_by (nat_cmp c.args.part.op.now.tid) c.args.self.now.started) = rw (← c.in-Some.ensures.value) refl in
    let through = c.get_mut.follows.holds c.add.new.self in
    walked-more c.args.self.now _ (live_of c.args.part) (Some c.add.new.self) [] done h
    (rw (c.requires.starts_not, c.requires.commits_not, ← c.in-Some.ensures.value) (ap Some (sym c.in_ok-add.ensures)))
    (through.3 there).0 (rw c.requires.commits_not refl) (sym (append-nil _))

pub returns-in_default : goal.returns-in_default
returns-in_default c = λ done h.
    let started = c.args.self.now.started in
    let tid = c.args.part.op.now.tid in
    rw c.get_mut.follows.holds-at-none
    (walked-more c.args.self.now _ (live_of c.args.part) None [] done h
    (rw (c.requires.starts_not, c.requires.commits_not, ← c.in_default.ensures.value) refl)
    (absent_stays (get nat_cmp started) tid (sym c.in_default.ensures.value)) (rw c.requires.commits_not refl) (sym (append-nil _)))
