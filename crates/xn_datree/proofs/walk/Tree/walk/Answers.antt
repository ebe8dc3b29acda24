use Rattle.std.proofs.Common.{◌≡◌, ℕ, List, [], ◌∷◌, length, ap, arith, refl, rules}
use Rattle.std.proofs.lemmas.Result.{err_from_is_err_and}
use Rattle.xn_bytes.specs.Trees.{Visit}
use Rattle.xn_inode.proofs.Frames.{stays_at_first, stays_on}
use Rattle.xn_datree.specs.Held.{held_of}
use Rattle.xn_datree.specs.Forks.{tree_of, tree_fork}
use Rattle.xn_datree.proofs.Measures.{none_met_low, first_low, smaller, still_low, met_low}
use Rattle.xn_datree.proofs.Walking.{led_over_first, led_over_on, led_over_end, led_over_open_end, led_over_reads}
use Rattle.xn_datree.proofs.Faults.{visit_fault}
use Rattle.xn_datree.proofs.Fetched.{meets_first, meets_on, fetches_met, fetches_next}
use Rattle.xn_datree.proofs.walk.Tree.walk.Goals as goal

pub loop-visit-init : goal.loop-visit-init
loop-visit-init g c =
    let store = c.args.store.now in
    let visit = c.root_visit.result in
    let agenda : c.push_back.new.self.items ≡ visit ∷ [] = search rules in
    record {
      stays = stays_at_first g.S.Store store c.requires.whole (g.met.S.Store.only_read_at_first store);
      low = none_met_low c.new-trail.result c.new-trail.ensures;
      agenda_low = first_low c.push_back.new.self.items visit agenda (search rules);
      led = led_over_first (λ (x : List ℕ). tree_of g.L.Leaf.Holds g.L.Leaf.ends (g.S.Store.shape store) c.args.fork.now x) (g.S.Store.image store) visit (λ x. search rules)
          c.new-entries.result.items c.new-trail.result c.push_back.new.self.items (search rules) c.new-trail.ensures agenda;
      meets = meets_first c.args.fork.now visit c.new-trail.result c.push_back.new.self.items (ap (λ (v : Visit). v.file_block) c.root_visit.ensures) c.new-trail.ensures agenda;
      few = omega arith;
    }

pub returns-in_err-held-clause-fault : goal.returns-in_err-held-clause-fault
returns-in_err-held-clause-fault g c =
    let store = c.args.store.now in
    let loop = c.loop-visit.invariant in
    let p = err_from_is_err_and c.from_residual-in_err-held.result c.from_residual-in_err-held.ensures.1 in
    rw (p.1, p.2)
    (visit_fault g.S.Store (λ (x : List ℕ). tree_of g.L.Leaf.Holds g.L.Leaf.ends (g.S.Store.shape store) c.args.fork.now x) c.args.fork.now c.in-Some.visit c.loop-visit.entries.items c.loop-visit.trail
    c.pop_front.new.self.items c.loop-visit.agenda.items store c.loop-visit.store c.read_visit.new.store c.in_err-held.field-0.0
    loop.stays (λ x. refl) c.in-Some.ensures.items loop.led (rw loop.stays.shape_stays at c.in_err-held.ensures.fault))

pub returns-in_err-meet-clause-stays : goal.returns-in_err-meet-clause-stays
returns-in_err-meet-clause-stays g c = stays_on g.S.Store g.met.S.Store.only_read_on _ _ _ c.loop-visit.invariant.stays c.in_ok-held.ensures.stays

pub returns-in_err-ask_for_children-clause-stays : goal.returns-in_err-ask_for_children-clause-stays
returns-in_err-ask_for_children-clause-stays g c = stays_on g.S.Store g.met.S.Store.only_read_on _ _ _ c.loop-visit.invariant.stays c.in_ok-held.ensures.stays

pub returns-in_err-append-clause-stays : goal.returns-in_err-append-clause-stays
returns-in_err-append-clause-stays g c = stays_on g.S.Store g.met.S.Store.only_read_on _ _ _ c.loop-visit.invariant.stays c.in_ok-held.ensures.stays

pub loop-visit-smaller : goal.loop-visit-smaller
loop-visit-smaller g c =
    smaller g.L.Leaf.Holds g.L.Leaf.ends (tree_fork (g.S.Store.shape c.loop-visit.store) c.args.fork.now) c.read_visit.new.bytes c.in-Some.visit (held_of c.in_ok-held.held)
    c.loop-visit.agenda.items c.pop_front.new.self.items c.ask_for_children.new.agenda.items c.level_of.result
    c.in-Some.ensures.items c.loop-visit.invariant.agenda_low c.in_ok-held.ensures.alone c.level_of.ensures (search rules)

pub loop-visit-preserved : goal.loop-visit-preserved
loop-visit-preserved g c =
    let store = c.args.store.now in
    let loop = c.loop-visit.invariant in
    let fork = tree_fork (g.S.Store.shape c.loop-visit.store) c.args.fork.now in
    let held = held_of c.in_ok-held.held in
    record {
      stays = stays_on g.S.Store g.met.S.Store.only_read_on _ _ _ loop.stays c.in_ok-held.ensures.stays;
      low = met_low g.L.Leaf.Holds g.L.Leaf.ends fork c.read_visit.new.bytes c.in-Some.visit held c.loop-visit.agenda.items c.pop_front.new.self.items c.ask_for_children.new.agenda.items c.level_of.result
          c.loop-visit.trail c.meet.new.self c.in-Some.ensures.items loop.agenda_low c.in_ok-held.ensures.alone loop.low (search rules);
      agenda_low = still_low g.L.Leaf.Holds g.L.Leaf.ends fork c.read_visit.new.bytes c.in-Some.visit held c.loop-visit.agenda.items c.pop_front.new.self.items c.ask_for_children.new.agenda.items c.level_of.result
          c.in-Some.ensures.items loop.agenda_low c.in_ok-held.ensures.alone c.level_of.ensures (search rules);
      led = led_over_on (λ (x : List ℕ). tree_of g.L.Leaf.Holds g.L.Leaf.ends (g.S.Store.shape store) c.args.fork.now x) (g.S.Store.image store) c.loop-visit.entries.items c.loop-visit.trail c.in-Some.visit c.pop_front.new.self.items held
          c.read_visit.new.bytes c.loop-visit.agenda.items c.append.new.self.items c.meet.new.self c.ask_for_children.new.agenda.items
          c.in-Some.ensures.items (search rules) (search rules) (rw (c.level_of.ensures, c.deref.ensures.value) at c.in_ok-ask_for_children.ensures)
          (rw (loop.stays.image_stays, loop.stays.shape_stays) at c.in_ok-held.ensures.bytes) (rw (loop.stays.image_stays, loop.stays.shape_stays) at c.in_ok-held.ensures.stands) loop.led;
      meets = meets_on g.L.Leaf.Holds g.L.Leaf.ends (g.S.Store.shape c.loop-visit.store) c.args.fork.now c.read_visit.new.bytes c.in-Some.visit held
          c.loop-visit.agenda.items c.pop_front.new.self.items c.ask_for_children.new.agenda.items c.level_of.result c.loop-visit.trail c.meet.new.self
          c.in-Some.ensures.items (search rules) (search rules) c.in_ok-held.ensures.alone c.in_ok-held.ensures.new loop.meets;
      few = let met : c.meet.new.self ≡ c.met_in.result ∷ c.loop-visit.trail = search rules in let longer = ap length met in omega (arith, loop.few, longer, c.in_ok-held.ensures.fetches);
    }

pub returns-in-Some-open_end-clause-fault : goal.returns-in-Some-open_end-clause-fault
returns-in-Some-open_end-clause-fault g c =
    let store = c.args.store.now in
    rw c.broken.ensures (
      refl,
      led_over_open_end (λ (x : List ℕ). tree_of g.L.Leaf.Holds g.L.Leaf.ends (g.S.Store.shape store) c.args.fork.now x) (g.S.Store.image store) c.loop-visit.entries.items c.loop-visit.trail c.loop-visit.agenda.items
          c.in-Some-open_end.last c.unwrap_or.result (search rules) (search rules) (λ x. search rules) c.loop-visit.invariant.led,
    )

pub returns-clause-holds : goal.returns-clause-holds
returns-clause-holds g c =
    let store = c.args.store.now in
    led_over_end (λ (x : List ℕ). tree_of g.L.Leaf.Holds g.L.Leaf.ends (g.S.Store.shape store) c.args.fork.now x) (g.S.Store.image store) c.loop-visit.entries.items c.loop-visit.trail c.loop-visit.agenda.items
    (search rules) (search rules) c.loop-visit.invariant.led

pub returns-clause-fetches : goal.returns-clause-fetches
returns-clause-fetches g c =
    let store = c.args.store.now in
    led_over_reads (λ (x : List ℕ). tree_of g.L.Leaf.Holds g.L.Leaf.ends (g.S.Store.shape store) c.args.fork.now x) (g.S.Store.image store) c.loop-visit.entries.items c.loop-visit.trail c.loop-visit.agenda.items
    (g.S.Store.fetches store) (g.S.Store.fetches c.loop-visit.store) (search rules) (search rules) c.loop-visit.invariant.few c.loop-visit.invariant.led

pub returns-in_err-held-clause-once : goal.returns-in_err-held-clause-once
returns-in_err-held-clause-once g c =
    fetches_next c.args.fork.now c.loop-visit.trail c.in-Some.visit c.loop-visit.agenda.items c.pop_front.new.self.items (g.S.Store.fetches c.args.store.now) (g.S.Store.fetches c.loop-visit.store) (g.S.Store.fetches c.read_visit.new.store)
    c.in-Some.ensures.items c.loop-visit.invariant.meets c.loop-visit.invariant.few (search rules) (search rules)

pub returns-in_err-meet-clause-once : goal.returns-in_err-meet-clause-once
returns-in_err-meet-clause-once g c =
    fetches_next c.args.fork.now c.loop-visit.trail c.in-Some.visit c.loop-visit.agenda.items c.pop_front.new.self.items (g.S.Store.fetches c.args.store.now) (g.S.Store.fetches c.loop-visit.store) (g.S.Store.fetches c.read_visit.new.store)
    c.in-Some.ensures.items c.loop-visit.invariant.meets c.loop-visit.invariant.few (search rules) (search rules)

pub returns-in_err-ask_for_children-clause-once : goal.returns-in_err-ask_for_children-clause-once
returns-in_err-ask_for_children-clause-once g c =
    fetches_next c.args.fork.now c.loop-visit.trail c.in-Some.visit c.loop-visit.agenda.items c.pop_front.new.self.items (g.S.Store.fetches c.args.store.now) (g.S.Store.fetches c.loop-visit.store) (g.S.Store.fetches c.read_visit.new.store)
    c.in-Some.ensures.items c.loop-visit.invariant.meets c.loop-visit.invariant.few (search rules) (search rules)

pub returns-in_err-append-clause-once : goal.returns-in_err-append-clause-once
returns-in_err-append-clause-once g c =
    fetches_next c.args.fork.now c.loop-visit.trail c.in-Some.visit c.loop-visit.agenda.items c.pop_front.new.self.items (g.S.Store.fetches c.args.store.now) (g.S.Store.fetches c.loop-visit.store) (g.S.Store.fetches c.read_visit.new.store)
    c.in-Some.ensures.items c.loop-visit.invariant.meets c.loop-visit.invariant.few (search rules) (search rules)

pub returns-in-Some-open_end-clause-once : goal.returns-in-Some-open_end-clause-once
returns-in-Some-open_end-clause-once g c =
    fetches_met c.args.fork.now c.loop-visit.trail c.loop-visit.agenda.items (g.S.Store.fetches c.args.store.now) (g.S.Store.fetches c.loop-visit.store) c.loop-visit.invariant.meets c.loop-visit.invariant.few

pub returns-clause-once : goal.returns-clause-once
returns-clause-once g c =
    fetches_met c.args.fork.now c.loop-visit.trail c.loop-visit.agenda.items (g.S.Store.fetches c.args.store.now) (g.S.Store.fetches c.loop-visit.store) c.loop-visit.invariant.meets c.loop-visit.invariant.few
