use Rattle.std.proofs.Common.{ℕ, List}
use Rattle.xn_datree.specs.Held.{held_of}
use Rattle.xn_datree.specs.Forks.{tree_of}
use Rattle.xn_datree.proofs.Ways.{fits_over}
use Rattle.xn_datree.proofs.walk.Tree.fits.Goals as goal

pub returns-clause-fits : goal.returns-clause-fits
returns-clause-fits g c =
    let store = c.args.store.now in
    let T = λ (x : List ℕ). tree_of g.L.Leaf.Holds g.L.Leaf.ends (g.S.Store.shape store) c.args.fork.now x in
    let leaf = c.in_ok-held.ensures in
    fits_over T g.L.Leaf.hash (λ x. record { within = g.met.L.Leaf.within_ends; sorted = g.met.L.Leaf.are_sorted }) (λ x. g.met.L.Leaf.holds_once) c.args.hash (g.S.Store.image store)
    c.descend.new.bytes c.in_ok-held.field-0-0 (held_of c.in_ok-held.held) g.L.Leaf.size c.args.size g.L.Leaf.CAPACITY c.has_room.result (λ x. leaf.alone) leaf.flat leaf.bytes leaf.path (rw c.deref.ensures.value at c.has_room.ensures)
