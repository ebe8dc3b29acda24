use Rattle.std.proofs.Common.{ap}
use Rattle.xn_replay.specs.Overlay.{shown}
use Rattle.xn_check.proofs.FreeLemmas.{blocks_small_by_runs}
use Rattle.xn_check.proofs.Checking.{accepted_over, frees_over}
use Rattle.xn_check.proofs.checker.check.Goals as goal

pub mark_mapped-requires : goal.mark_mapped-requires
mark_mapped-requires g c =
    let small = blocks_small_by_runs c.args.manifest.now c.args.view.now.blocks c.runs-runs.ensures.lawful c.requires.pool in
    rw (c.in_ok-examined.ensures.view, c.requires.all_free) small

pub returns-clause-checks : goal.returns-clause-checks
returns-clause-checks g c =
    let marked = rw (c.in_ok-examined.ensures.view, c.deref.ensures.value) at c.mark_mapped.ensures.free in
    let others = rw c.in_ok-examined.ensures.view at c.mark_mapped.ensures.others in
    let set = rw (ap (λ v. v.blocks) others) at c.free_count.ensures.set in
    accepted_over c.args.view.now.shape c.args.manifest.now c.in_ok-examined.examined c.args.view.now.blocks c.args.view.now.free c.mark_mapped.new.view.free set c.requires.pool c.requires.all_free marked
    (g.M.Machine.image c.args.machine.now) (λ x. shown x c.args.view.now.kept) c.free_count.result c.free_count.ensures.count c.in_ok-examined.ensures.examined

pub returns-clause-free : goal.returns-clause-free
returns-clause-free g c =
    let marked = rw (c.in_ok-examined.ensures.view, c.deref.ensures.value) at c.mark_mapped.ensures.free in
    let others = rw c.in_ok-examined.ensures.view at c.mark_mapped.ensures.others in
    let set = rw (ap (λ v. v.blocks) others) at c.free_count.ensures.set in
    frees_over c.args.view.now.shape c.args.manifest.now c.in_ok-examined.examined c.args.view.now.blocks c.args.view.now.free c.mark_mapped.new.view.free set c.requires.pool c.requires.all_free marked
    (g.M.Machine.image c.args.machine.now) (λ x. shown x c.args.view.now.kept) c.in_ok-examined.ensures.examined
