use Rattle.std.proofs.Common.{subst, ◌∙◌}
use Rattle.xn_bytes.specs.Superblock.{Geometry}
use Rattle.xn_meaning.specs.Manifests.{IsLive}
use Rattle.xn_bytes.proofs.TestLemmas.{holds}
use Rattle.xn_ns.proofs.ParentEnds.{parents_fault, parents_listed}
use Rattle.xn_ns.proofs.parent_list.parents.Goals as goal

pub returns-in_ok-lines_of-in-Ok-clause-answered : goal.returns-in_ok-lines_of-in-Ok-clause-answered
returns-in_ok-lines_of-in-Ok-clause-answered g c =
    let live = subst (λ (shape : Geometry). IsLive shape c.args.manifest.now c.args.ino) c.geometry.ensures (holds c.if-not-is_live.ensures) in
    parents_listed (g.S.Store.shape c.args.store.now) c.args.manifest.now c.args.ino (g.S.Store.image c.args.store.now) (g.S.Store.faults c.args.store.now) (g.S.Store.faults c.parents.new.store) c.in-Ok.records.items c.new.result
    live (c.new.ensures ∙ c.in_ok-lines_of-in-Ok.ensures) c.in-Ok.ensures.listed

pub returns-in-Err-clause-answered : goal.returns-in-Err-clause-answered
returns-in-Err-clause-answered g c =
    let live = subst (λ (shape : Geometry). IsLive shape c.args.manifest.now c.args.ino) c.geometry.ensures (holds c.if-not-is_live.ensures) in
    rw c.of_inode.ensures (parents_fault g.S.Store c.args.manifest.now c.args.ino c.args.store.now c.parents.new.store c.in-Err.fault live c.in-Err.ensures.fault)
