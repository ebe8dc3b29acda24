use Rattle.std.proofs.Common.{◌≡◌, ℕ, List, ◌+◌, ◌≤◌, refl, sym, ap, ◌∙◌, arith, rules}
use Rattle.std.proofs.lemmas.Result.{err_from_is_err_and}
use Rattle.xn_bytes.specs.Trees.{Visit, child_for, visit_to, level_in, levels_of_tree}
use Rattle.xn_inode.proofs.Frames.{stays_at_first, stays_on}
use Rattle.xn_datree.specs.Held.{held_of}
use Rattle.xn_datree.specs.Forks.{tree_fork, tree_of}
use Rattle.xn_datree.proofs.Descents.{alone_fault, first_over, down_over, leaf_over, level_falls, some_level, flat_without, taken_among, seeks_over_first, seeks_over_down, follows_over_leaf}
use Rattle.xn_datree.proofs.Walking.{over_all, over_one}
use Rattle.xn_datree.proofs.Ways.{exact_over_first, root_low, way_over_first, way_over_on, way_over_last}
use Rattle.xn_datree.proofs.find.descend.Goals as goal

pub returns-in_err-held-clause-fault : goal.returns-in_err-held-clause-fault
returns-in_err-held-clause-fault g c =
    let store = c.args.store.now in
    let T = λ (x : List ℕ). tree_of g.L.Leaf.Holds g.L.Leaf.ends (g.S.Store.shape store) c.args.fork.now x in
    let p = err_from_is_err_and c.from_residual.result c.from_residual.ensures.1 in
    rw (p.1, p.2)
    (alone_fault g.S.Store T c.args.fork.now g.L.Leaf.hash c.args.hash c.root_visit-visit.result store store c.read_alone.new.store c.in_err-held.field-0.0
    (stays_at_first g.S.Store store c.requires.whole (g.met.S.Store.only_read_at_first store)) (λ x. refl)
    (first_over T g.L.Leaf.hash (λ x. record { within = g.met.L.Leaf.within_ends; sorted = g.met.L.Leaf.are_sorted }) (λ x. g.met.L.Leaf.holds_once) c.args.hash (g.S.Store.image store) c.root_visit-visit.result (λ x. sym c.root_visit-visit.ensures))
    (seeks_over_first T c.args.hash (g.S.Store.image store) c.root_visit-visit.result (λ x. sym c.root_visit-visit.ensures))
    c.in_err-held.ensures.fault)

pub returns-in_err-held-clause-levels : goal.returns-in_err-held-clause-levels
returns-in_err-held-clause-levels g c =
    let store = c.args.store.now in
    let T = λ (x : List ℕ). tree_of g.L.Leaf.Holds g.L.Leaf.ends (g.S.Store.shape store) c.args.fork.now x in
    over_all (λ x. g.S.Store.fetches c.read_alone.new.store ≤ g.S.Store.fetches store + levels_of_tree (T x)) (g.S.Store.image store) (λ x. omega (arith, c.in_err-held.ensures.fetches))

pub loop-child-init : goal.loop-child-init
loop-child-init g c =
    let store = c.args.store.now in
    let T = λ (x : List ℕ). tree_of g.L.Leaf.Holds g.L.Leaf.ends (g.S.Store.shape store) c.args.fork.now x in
    record {
      stays = c.in_ok-held.ensures.stays;
      at = record {
        alone = c.in_ok-held.ensures.alone;
        is = c.in_ok-held.ensures.bytes;
        leads = first_over T g.L.Leaf.hash (λ x. record { within = g.met.L.Leaf.within_ends; sorted = g.met.L.Leaf.are_sorted }) (λ x. g.met.L.Leaf.holds_once) c.args.hash (g.S.Store.image store) c.root_visit-visit.result (λ x. sym c.root_visit-visit.ensures);
        seeks = seeks_over_first T c.args.hash (g.S.Store.image store) c.root_visit-visit.result (λ x. sym c.root_visit-visit.ensures);
      };
      way = way_over_first T c.args.hash (g.S.Store.image store) c.read_alone.new.bytes c.root_visit-visit.result (λ x. sym c.root_visit-visit.ensures) c.in_ok-held.ensures.bytes;
      few = let low = root_low g.L.Leaf.Holds g.L.Leaf.ends (tree_fork (g.S.Store.shape store) c.args.fork.now) c.read_alone.new.bytes c.root_visit-visit.result (held_of c.in_ok-held.held) (ap (λ (v : Visit). v.asked) c.root_visit-visit.ensures) c.in_ok-held.ensures.alone in
          omega (arith, c.in_ok-held.ensures.fetches);
      exact = exact_over_first T (g.S.Store.image store) c.read_alone.new.bytes c.root_visit-visit.result (g.S.Store.fetches store) (g.S.Store.fetches c.read_alone.new.store) (λ x. sym c.root_visit-visit.ensures) c.in_ok-held.ensures.fetches c.in_ok-held.ensures.bytes;
    }

pub read_alone-requires-in-Some-clause-blocks : goal.read_alone-requires-in-Some-clause-blocks
read_alone-requires-in-Some-clause-blocks g c = rw c.loop-child.invariant.stays.shape_stays c.requires.blocks

pub returns-in_err-held-2-clause-fault : goal.returns-in_err-held-2-clause-fault
returns-in_err-held-2-clause-fault g c =
    let store = c.args.store.now in
    let loop = c.loop-child.invariant in
    let T = λ (x : List ℕ). tree_of g.L.Leaf.Holds g.L.Leaf.ends (g.S.Store.shape store) c.args.fork.now x in
    let none = rw c.deref.ensures.value at c.child_to.ensures.none in
    let some = rw c.deref.ensures.value at c.child_to.ensures.child in
    let taken = taken_among c.loop-child.held.children.items c.child_to.result c.in-Some.child c.args.hash none.1 some c.in-Some.is in
    let to : c.visit_to-visit.result ≡ visit_to (level_in c.loop-child.bytes) (child_for c.args.hash taken.0 taken.1) =
    c.visit_to-visit.ensures ∙ ap (λ (l : ℕ). visit_to l c.in-Some.child) c.level_of.ensures ∙ ap (visit_to (level_in c.loop-child.bytes)) taken.3 in
    let p = err_from_is_err_and c.from_residual-in_err-held-2.result c.from_residual-in_err-held-2.ensures.1 in
    rw (p.1, p.2)
    (alone_fault g.S.Store T c.args.fork.now g.L.Leaf.hash c.args.hash c.visit_to-visit.result store c.loop-child.store c.read_alone-in-Some.new.store c.in_err-held-2.field-0.0
    loop.stays (λ x. refl)
    (down_over T g.L.Leaf.hash (λ x. record { within = g.met.L.Leaf.within_ends; sorted = g.met.L.Leaf.are_sorted }) (λ x. g.met.L.Leaf.holds_once) c.args.hash (g.S.Store.image store) c.loop-child.visit (held_of c.loop-child.held) c.loop-child.bytes
    taken.0 taken.1 c.visit_to-visit.result (λ x. loop.at.alone) taken.2 to loop.at.is loop.at.leads)
    (seeks_over_down T c.args.hash (g.S.Store.image store) c.loop-child.visit (held_of c.loop-child.held) c.loop-child.bytes taken.0 taken.1 c.visit_to-visit.result
    (λ x. loop.at.alone) taken.2 to loop.at.is loop.at.seeks)
    (rw loop.stays.shape_stays at c.in_err-held-2.ensures.fault))

pub returns-in_err-held-2-clause-levels : goal.returns-in_err-held-2-clause-levels
returns-in_err-held-2-clause-levels g c =
    let store = c.args.store.now in
    let loop = c.loop-child.invariant in
    let T = λ (x : List ℕ). tree_of g.L.Leaf.Holds g.L.Leaf.ends (g.S.Store.shape store) c.args.fork.now x in
    let none = rw c.deref.ensures.value at c.child_to.ensures.none in
    let some = rw c.deref.ensures.value at c.child_to.ensures.child in
    let taken = taken_among c.loop-child.held.children.items c.child_to.result c.in-Some.child c.args.hash none.1 some c.in-Some.is in
    let high = some_level g.L.Leaf.Holds g.L.Leaf.ends c.loop-child.bytes (held_of c.loop-child.held) taken.0 taken.1 loop.at.alone.holds taken.2 in
    over_one (λ x. g.S.Store.fetches c.loop-child.store + level_in c.loop-child.bytes ≤ g.S.Store.fetches store + levels_of_tree (T x)) (λ x. g.S.Store.fetches c.read_alone-in-Some.new.store ≤ g.S.Store.fetches store + levels_of_tree (T x)) (g.S.Store.image store)
    (λ x so. omega (arith, so, high, c.in_err-held-2.ensures.fetches)) loop.exact

pub loop-child-preserved : goal.loop-child-preserved
loop-child-preserved g c =
    let store = c.args.store.now in
    let loop = c.loop-child.invariant in
    let T = λ (x : List ℕ). tree_of g.L.Leaf.Holds g.L.Leaf.ends (g.S.Store.shape store) c.args.fork.now x in
    let none = rw c.deref.ensures.value at c.child_to.ensures.none in
    let some = rw c.deref.ensures.value at c.child_to.ensures.child in
    let taken = taken_among c.loop-child.held.children.items c.child_to.result c.in-Some.child c.args.hash none.1 some c.in-Some.is in
    let to : c.visit_to-visit.result ≡ visit_to (level_in c.loop-child.bytes) (child_for c.args.hash taken.0 taken.1) =
    c.visit_to-visit.ensures ∙ ap (λ (l : ℕ). visit_to l c.in-Some.child) c.level_of.ensures ∙ ap (visit_to (level_in c.loop-child.bytes)) taken.3 in
    record {
      stays = stays_on g.S.Store g.met.S.Store.only_read_on _ _ _ loop.stays c.in_ok-held-2.ensures.stays;
      at = record {
        alone = rw loop.stays.shape_stays at c.in_ok-held-2.ensures.alone;
        is = rw (loop.stays.image_stays, loop.stays.shape_stays) at c.in_ok-held-2.ensures.bytes;
        leads = down_over T g.L.Leaf.hash (λ x. record { within = g.met.L.Leaf.within_ends; sorted = g.met.L.Leaf.are_sorted }) (λ x. g.met.L.Leaf.holds_once) c.args.hash (g.S.Store.image store) c.loop-child.visit (held_of c.loop-child.held) c.loop-child.bytes
            taken.0 taken.1 c.visit_to-visit.result (λ x. loop.at.alone) taken.2 to loop.at.is loop.at.leads;
        seeks = seeks_over_down T c.args.hash (g.S.Store.image store) c.loop-child.visit (held_of c.loop-child.held) c.loop-child.bytes taken.0 taken.1 c.visit_to-visit.result
            (λ x. loop.at.alone) taken.2 to loop.at.is loop.at.seeks;
      };
      way = way_over_on T c.args.hash (g.S.Store.image store) g.L.Leaf.Holds g.L.Leaf.ends (tree_fork (g.S.Store.shape store) c.args.fork.now) c.loop-child.bytes c.read_alone-in-Some.new.bytes c.loop-child.visit c.visit_to-visit.result (held_of c.loop-child.held) (held_of c.in_ok-held-2.held)
          taken.0 taken.1 loop.at.alone taken.2 to (rw loop.stays.shape_stays at c.in_ok-held-2.ensures.alone) loop.at.is loop.way;
      few = let less = level_falls g.L.Leaf.Holds g.L.Leaf.ends (tree_fork (g.S.Store.shape store) c.args.fork.now) c.loop-child.bytes c.read_alone-in-Some.new.bytes c.loop-child.visit c.visit_to-visit.result (held_of c.loop-child.held) (held_of c.in_ok-held-2.held)
          taken.0 taken.1 c.args.hash loop.at.alone taken.2 to (rw loop.stays.shape_stays at c.in_ok-held-2.ensures.alone) in
          omega (arith, c.in_ok-held-2.ensures.fetches, loop.few);
      exact = let less = level_falls g.L.Leaf.Holds g.L.Leaf.ends (tree_fork (g.S.Store.shape store) c.args.fork.now) c.loop-child.bytes c.read_alone-in-Some.new.bytes c.loop-child.visit c.visit_to-visit.result (held_of c.loop-child.held) (held_of c.in_ok-held-2.held)
          taken.0 taken.1 c.args.hash loop.at.alone taken.2 to (rw loop.stays.shape_stays at c.in_ok-held-2.ensures.alone) in
          over_one (λ x. g.S.Store.fetches c.loop-child.store + level_in c.loop-child.bytes ≤ g.S.Store.fetches store + levels_of_tree (T x)) (λ x. g.S.Store.fetches c.read_alone-in-Some.new.store + level_in c.read_alone-in-Some.new.bytes ≤ g.S.Store.fetches store + levels_of_tree (T x)) (g.S.Store.image store)
          (λ x so. omega (arith, so, less, c.in_ok-held-2.ensures.fetches)) loop.exact;
    }

pub returns-clause-leaf : goal.returns-clause-leaf
returns-clause-leaf g c =
    let store = c.args.store.now in
    let loop = c.loop-child.invariant in
    let T = λ (x : List ℕ). tree_of g.L.Leaf.Holds g.L.Leaf.ends (g.S.Store.shape store) c.args.fork.now x in
    let none = rw c.deref.ensures.value at c.child_to.ensures.none in
    leaf_over T g.L.Leaf.hash (λ x. record { within = g.met.L.Leaf.within_ends; sorted = g.met.L.Leaf.are_sorted }) (λ x. g.met.L.Leaf.holds_once) c.args.hash (g.S.Store.image store) c.loop-child.visit (held_of c.loop-child.held) c.loop-child.bytes
    (λ x. loop.at.alone) (none.0 (search rules)) loop.at.is loop.at.leads

pub returns-clause-path : goal.returns-clause-path
returns-clause-path g c =
    let store = c.args.store.now in
    let loop = c.loop-child.invariant in
    let T = λ (x : List ℕ). tree_of g.L.Leaf.Holds g.L.Leaf.ends (g.S.Store.shape store) c.args.fork.now x in
    let none = rw c.deref.ensures.value at c.child_to.ensures.none in
    way_over_last T c.args.hash (g.S.Store.image store) c.loop-child.bytes c.loop-child.visit
    (flat_without g.L.Leaf.Holds g.L.Leaf.ends c.loop-child.bytes (held_of c.loop-child.held) loop.at.alone.holds (none.0 (search rules))) loop.way

pub returns-clause-flat : goal.returns-clause-flat
returns-clause-flat g c =
    let none = rw c.deref.ensures.value at c.child_to.ensures.none in
    flat_without g.L.Leaf.Holds g.L.Leaf.ends c.loop-child.bytes (held_of c.loop-child.held) c.loop-child.invariant.at.alone.holds (none.0 (search rules))

pub returns-clause-alone : goal.returns-clause-alone
returns-clause-alone g c = c.loop-child.invariant.at.alone

pub returns-clause-bytes : goal.returns-clause-bytes
returns-clause-bytes g c = c.loop-child.invariant.at.is

pub returns-clause-levels : goal.returns-clause-levels
returns-clause-levels g c =
    let store = c.args.store.now in
    let T = λ (x : List ℕ). tree_of g.L.Leaf.Holds g.L.Leaf.ends (g.S.Store.shape store) c.args.fork.now x in
    over_one (λ x. g.S.Store.fetches c.loop-child.store + level_in c.loop-child.bytes ≤ g.S.Store.fetches store + levels_of_tree (T x)) (λ x. g.S.Store.fetches c.loop-child.store ≤ g.S.Store.fetches store + levels_of_tree (T x)) (g.S.Store.image store)
    (λ x so. omega (arith, so)) c.loop-child.invariant.exact

pub returns-clause-leads : goal.returns-clause-leads
returns-clause-leads g c =
    let store = c.args.store.now in
    let loop = c.loop-child.invariant in
    let T = λ (x : List ℕ). tree_of g.L.Leaf.Holds g.L.Leaf.ends (g.S.Store.shape store) c.args.fork.now x in
    let none = rw c.deref.ensures.value at c.child_to.ensures.none in
    follows_over_leaf T c.args.hash (g.S.Store.image store) c.loop-child.visit (held_of c.loop-child.held) c.loop-child.bytes
    (λ x. loop.at.alone) (none.0 (search rules)) loop.at.is loop.at.seeks

pub returns-clause-there : goal.returns-clause-there
returns-clause-there g c = c.loop-child.invariant.at.alone.there
