use Rattle.std.proofs.Common.{◌∙◌}
use Rattle.std.proofs.lemmas.Option.{IfSome_then}
use Rattle.xn_dir.proofs.Gatherings.{low_in, on_ok_placed}
use Rattle.xn_dir.proofs.gather.gather_next.Goals as goal

pub add-requires-clause-listed : goal.add-requires-clause-listed
add-requires-clause-listed g c = low_in _ c.in-Some.held c.entries.result c.in-Some.ensures.holds c.entries.ensures.entries

pub returns-clause-holds : goal.returns-clause-holds
returns-clause-holds g c =
    let S = g.S.Store in
    let read = c.in_ok-block.ensures in
    let holds = rw (c.geometry.ensures ∙ read.shape) at c.in-Some.ensures in
    on_ok_placed (S.shape c.args.store.now) c.args.fork.now (S.image c.args.store.now) c.args.number c.args.block c.args.gathered.now c.add.new.gathered c.in-Some.held c.entries.result c.add.result c.requires.there c.entries.ensures.entries
    (IfSome_then (S.image c.args.store.now) read.bytes (λ x shown. rw shown at holds)) c.add.ensures.holds
