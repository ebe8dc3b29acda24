use Rattle.std.proofs.Common.{ℕ, List, sym, ap}
use Rattle.std.proofs.lemmas.Result.{err_from_is_err_and}
use Rattle.xn_bytes.specs.Trees.{Visit}
use Rattle.xn_inode.proofs.Frames.{stays_at_first}
use Rattle.xn_datree.specs.Forks.{tree_of}
use Rattle.xn_datree.proofs.Descents.{root_fault, first_over}
use Rattle.xn_datree.proofs.walk.Tree.levels.Goals as goal

pub returns-in_err-read_alone-clause-fault : goal.returns-in_err-read_alone-clause-fault
returns-in_err-read_alone-clause-fault g c =
    let store = c.args.store.now in
    let T = λ (x : List ℕ). tree_of g.L.Leaf.Holds g.L.Leaf.ends (g.S.Store.shape store) c.args.fork.now x in
    let p = err_from_is_err_and c.from_residual.result c.from_residual.ensures.1 in
    rw (p.1, p.2)
    (root_fault g.S.Store T c.args.fork.now g.L.Leaf.hash 0 c.root_visit.result c.args.fork.now.root store store c.read_alone.new.store c.in_err-read_alone.field-0.0
    (stays_at_first g.S.Store store c.requires.whole (g.met.S.Store.only_read_at_first store)) (ap (λ (v : Visit). v.file_block) c.root_visit.ensures)
    (first_over T g.L.Leaf.hash (λ x. record { within = g.met.L.Leaf.within_ends; sorted = g.met.L.Leaf.are_sorted }) (λ x. g.met.L.Leaf.holds_once) 0 (g.S.Store.image store) c.root_visit.result (λ x. sym c.root_visit.ensures))
    c.in_err-read_alone.ensures.fault)
