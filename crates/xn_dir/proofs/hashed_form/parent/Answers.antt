use Rattle.std.proofs.Common.{◌∙◌, refl, sym}
use Rattle.std.proofs.lemmas.Option.{IfSome_then}
use Rattle.xn_dir.specs.Hashed.{dir_fork}
use Rattle.xn_dir.proofs.Following.{no_first}
use Rattle.xn_dir.proofs.hashed_form.parent.Goals as goal

pub returns-in-None-clause-fault : goal.returns-in-None-clause-fault
returns-in-None-clause-fault g c =
    let S = g.S.Store in
    let read = c.in_ok-block.ensures in
    let wrong = rw (c.geometry.ensures ∙ read.shape) at c.in-None.ensures in
    IfSome_then (S.image c.args.store.now) read.bytes
    (λ x shown. (refl, no_first (dir_fork (S.shape c.args.store.now) c.args.fork.now x) c.in-Some.block (sym c.in-Some.ensures) (rw shown at wrong)))
