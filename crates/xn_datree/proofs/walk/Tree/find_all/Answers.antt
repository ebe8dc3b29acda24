use Rattle.std.proofs.Common.{◌≡◌, ◌+◌, ◌≤◌, arith, length, ℕ, List, [], ◌∷◌, refl, sym, ap, ◌∙◌, inl, inr, rules}
use Rattle.std.proofs.lemmas.Bool.{false≢true}
use Rattle.std.proofs.lemmas.Result.{err_from_is_err_and}
use Rattle.xn_inode.proofs.Frames.{stays_on}
use Rattle.xn_datree.specs.Held.{held_of}
use Rattle.xn_datree.specs.Forks.{tree_of}
use Rattle.xn_datree.proofs.Chains.{not_above, chain_over_first, chain_over_last, chain_over_on, chain_fault, few_over_last, few_over_next, few_over_way, follows_over_on}
use Rattle.xn_datree.proofs.Fetched.{once_few, once_more, once_none}
use Rattle.xn_datree.proofs.Rooms.{room_on, room_within}
use Rattle.xn_datree.proofs.Walking.{over_one}
use Rattle.xn_bytes.specs.Costs.{mapped_count}
use Rattle.xn_bytes.specs.Trees.{levels_of_tree, met_with}
use Rattle.std.specs.Prelude.{sum_by, ◌==◌}
use Rattle.xn_datree.proofs.Hashes.{of_hash_on}
use Rattle.std.proofs.lemmas.List.Elements.{All-nil}
use Rattle.xn_datree.proofs.walk.Tree.find_all.Goals as goal

pub loop-init : goal.loop-init
loop-init g c =
    let store = c.args.store.now in
    let T = λ (x : List ℕ). tree_of g.L.Leaf.Holds g.L.Leaf.ends (g.S.Store.shape store) c.args.fork.now x in
    record {
      stays = c.in_ok-visit.ensures.stays;
      chain = rw c.new-trail.ensures (chain_over_first T g.L.Leaf.hash (λ x. record { within = g.met.L.Leaf.within_ends; sorted = g.met.L.Leaf.are_sorted }) (λ x. g.met.L.Leaf.holds_once) c.args.hash (g.S.Store.image store)
          c.descend.new.bytes c.in_ok-visit.visit.file_block (held_of c.in_ok-visit.held) c.in_ok-visit.visit c.take_with_hash.new.found.items c.met_in-left.result
          refl c.met_in-left.ensures (search rules) c.in_ok-visit.ensures.leaf);
      few = over_one (λ x. g.S.Store.fetches c.descend.new.store ≤ g.S.Store.fetches store + levels_of_tree (T x)) (λ x. g.S.Store.fetches c.descend.new.store ≤ g.S.Store.fetches store + levels_of_tree (T x) + length c.new-trail.result) (g.S.Store.image store)
          (λ x so. omega (arith, so)) c.in_ok-visit.ensures.levels;
      follows = rw (c.new-trail.ensures, c.met_in-left.ensures) c.in_ok-visit.ensures.leads;
      once = rw (c.new-trail.ensures, c.met_in-left.ensures) (once_more c.args.fork.now.extents _ [] (c.in_ok-visit.ensures.there, λ k d below. absurd (omega arith)) (once_none c.args.fork.now.extents));
      most = omega (arith, c.in_ok-visit.ensures.fetches);
      room = rw c.new-trail.ensures (room_on g.L.Leaf.Holds g.L.Leaf.ends g.L.Leaf.size g.L.Leaf.CAPACITY g.met.L.Leaf.fit (λ entry. g.L.Leaf.hash entry == c.args.hash) c.descend.new.bytes (held_of c.in_ok-visit.held) 0 1 [] c.take_with_hash.new.found.items
          (omega arith) c.in_ok-visit.ensures.alone.holds (search rules) (omega arith));
      of_hash = of_hash_on g.L.Leaf.hash c.args.hash [] c.in_ok-visit.held.entries.items c.take_with_hash.new.found.items (All-nil (λ entry. g.L.Leaf.hash entry ≡ c.args.hash)) (search rules);
    }

pub returns-then-is_last_for-clause-found : goal.returns-then-is_last_for-clause-found
returns-then-is_last_for-clause-found g c =
    let store = c.args.store.now in
    let T = λ (x : List ℕ). tree_of g.L.Leaf.Holds g.L.Leaf.ends (g.S.Store.shape store) c.args.fork.now x in
    chain_over_last T g.L.Leaf.hash (λ x. record { within = g.met.L.Leaf.within_ends; sorted = g.met.L.Leaf.are_sorted }) (λ x. g.met.L.Leaf.holds_once) c.args.hash (g.S.Store.image store)
    c.loop.found.items c.loop.trail c.loop.left (c.is_last_for.ensures.0 (search rules)) c.loop.invariant.chain

pub returns-in_err-held-clause-fault : goal.returns-in_err-held-clause-fault
returns-in_err-held-clause-fault g c =
    let store = c.args.store.now in
    let T = λ (x : List ℕ). tree_of g.L.Leaf.Holds g.L.Leaf.ends (g.S.Store.shape store) c.args.fork.now x in
    let loop = c.loop.invariant in
    let met : c.meet.new.self ≡ c.loop.left ∷ c.loop.trail = search rules in
    let p = err_from_is_err_and c.from_residual-in_err-held.result c.from_residual-in_err-held.ensures.1 in
    rw (p.1, p.2)
    (chain_fault g.S.Store T c.args.fork.now g.L.Leaf.hash (λ x. record { within = g.met.L.Leaf.within_ends; sorted = g.met.L.Leaf.are_sorted }) c.args.hash c.loop.found.items c.loop.trail c.loop.left
    store c.loop.store c.read_leaf.new.store c.in_err-held.field-0.0 (λ none. false≢true (sym c.if-is_last_for.false ∙ c.is_last_for.ensures.1 (inl none))) (not_above c.loop.left.last c.args.hash (λ above. false≢true (sym c.if-is_last_for.false ∙ c.is_last_for.ensures.1 (inr above)))) loop.stays (λ x. refl) loop.chain loop.follows
    (rw (loop.stays.shape_stays, met, c.right_of-visit.ensures) at c.in_err-held.ensures.fault))

pub loop-preserved : goal.loop-preserved
loop-preserved g c =
    let store = c.args.store.now in
    let T = λ (x : List ℕ). tree_of g.L.Leaf.Holds g.L.Leaf.ends (g.S.Store.shape store) c.args.fork.now x in
    let loop = c.loop.invariant in
    let met : c.meet.new.self ≡ c.loop.left ∷ c.loop.trail = search rules in
    record {
      stays = stays_on g.S.Store g.met.S.Store.only_read_on _ _ _ loop.stays c.in_ok-held.ensures.stays;
      chain = rw met (chain_over_on T g.L.Leaf.hash (λ x. record { within = g.met.L.Leaf.within_ends; sorted = g.met.L.Leaf.are_sorted }) (λ x. g.met.L.Leaf.holds_once) c.args.hash (g.S.Store.image store)
          c.loop.found.items c.take_with_hash-in-loop.new.found.items c.loop.trail c.loop.left c.met_in-left-in-loop.result (held_of c.in_ok-held.held) c.read_leaf.new.bytes
          (λ none. false≢true (sym c.if-is_last_for.false ∙ c.is_last_for.ensures.1 (inl none))) (not_above c.loop.left.last c.args.hash (λ above. false≢true (sym c.if-is_last_for.false ∙ c.is_last_for.ensures.1 (inr above))))
          (search rules) (rw c.right_of-visit.ensures at c.met_in-left-in-loop.ensures)
          (rw (loop.stays.image_stays, loop.stays.shape_stays, c.right_of-visit.ensures) at c.in_ok-held.ensures.bytes)
          (rw (loop.stays.image_stays, loop.stays.shape_stays, met, c.right_of-visit.ensures) at c.in_ok-held.ensures.stands)
          loop.chain);
      few = let longer = ap length met in
          over_one (λ x. g.S.Store.fetches c.loop.store ≤ g.S.Store.fetches store + levels_of_tree (T x) + length c.loop.trail) (λ x. g.S.Store.fetches c.read_leaf.new.store ≤ g.S.Store.fetches store + levels_of_tree (T x) + length c.meet.new.self) (g.S.Store.image store)
          (λ x so. omega (arith, so, longer, c.in_ok-held.ensures.fetches)) loop.few;
      follows = rw met (follows_over_on T c.args.hash (g.S.Store.image store) c.loop.trail c.loop.left c.met_in-left-in-loop.result (held_of c.in_ok-held.held) c.read_leaf.new.bytes (λ none. false≢true (sym c.if-is_last_for.false ∙ c.is_last_for.ensures.1 (inl none))) (not_above c.loop.left.last c.args.hash (λ above. false≢true (sym c.if-is_last_for.false ∙ c.is_last_for.ensures.1 (inr above))))
          c.in_ok-held.ensures.flat (rw c.right_of-visit.ensures at c.met_in-left-in-loop.ensures)
          (rw (loop.stays.image_stays, loop.stays.shape_stays, c.right_of-visit.ensures) at c.in_ok-held.ensures.bytes)
          (rw (loop.stays.image_stays, loop.stays.shape_stays, met, c.right_of-visit.ensures) at c.in_ok-held.ensures.stands)
          loop.follows);
      once = rw (met, c.met_in-left-in-loop.ensures) (once_more c.args.fork.now.extents (met_with c.read_leaf.new.bytes c.right_of-visit.result c.in_ok-held.held.ends) (c.loop.left ∷ c.loop.trail) (c.in_ok-held.ensures.there, rw met at c.in_ok-held.ensures.new) loop.once);
      most = let longer = ap length met in omega (arith, loop.most, longer, c.in_ok-held.ensures.fetches);
      room = let longer = ap length met in room_on g.L.Leaf.Holds g.L.Leaf.ends g.L.Leaf.size g.L.Leaf.CAPACITY g.met.L.Leaf.fit (λ entry. g.L.Leaf.hash entry == c.args.hash) c.read_leaf.new.bytes (held_of c.in_ok-held.held) (1 + length c.loop.trail) (1 + length c.meet.new.self) c.loop.found.items c.take_with_hash-in-loop.new.found.items
          (omega (arith, longer)) c.in_ok-held.ensures.alone.holds (search rules) loop.room;
      of_hash = of_hash_on g.L.Leaf.hash c.args.hash c.loop.found.items c.in_ok-held.held.entries.items c.take_with_hash-in-loop.new.found.items loop.of_hash (search rules);
    }

pub returns-in_err-visit-clause-fetches : goal.returns-in_err-visit-clause-fetches
returns-in_err-visit-clause-fetches g c =
    let store = c.args.store.now in
    let T = λ (x : List ℕ). tree_of g.L.Leaf.Holds g.L.Leaf.ends (g.S.Store.shape store) c.args.fork.now x in
    few_over_way T c.args.hash (g.S.Store.image store) (g.S.Store.fetches store) (g.S.Store.fetches c.descend.new.store) (search rules)

pub returns-in_err-take_with_hash-clause-fetches : goal.returns-in_err-take_with_hash-clause-fetches
returns-in_err-take_with_hash-clause-fetches g c =
    let store = c.args.store.now in
    let T = λ (x : List ℕ). tree_of g.L.Leaf.Holds g.L.Leaf.ends (g.S.Store.shape store) c.args.fork.now x in
    few_over_way T c.args.hash (g.S.Store.image store) (g.S.Store.fetches store) (g.S.Store.fetches c.descend.new.store) (search rules)

pub returns-then-is_last_for-clause-fetches : goal.returns-then-is_last_for-clause-fetches
returns-then-is_last_for-clause-fetches g c =
    let store = c.args.store.now in
    let T = λ (x : List ℕ). tree_of g.L.Leaf.Holds g.L.Leaf.ends (g.S.Store.shape store) c.args.fork.now x in
    few_over_last T g.L.Leaf.hash (λ x. record { within = g.met.L.Leaf.within_ends; sorted = g.met.L.Leaf.are_sorted }) (λ x. g.met.L.Leaf.holds_once) c.args.hash (g.S.Store.image store)
    c.loop.found.items c.loop.trail c.loop.left (g.S.Store.fetches store) (g.S.Store.fetches c.loop.store) c.loop.invariant.chain c.loop.invariant.few

pub returns-then-is_last_for-clause-most : goal.returns-then-is_last_for-clause-most
returns-then-is_last_for-clause-most g c = let few = once_few c.args.fork.now.extents (c.loop.left ∷ c.loop.trail) c.loop.invariant.once in omega (arith, few, c.loop.invariant.most)

pub returns-in_err-meet-clause-fetches : goal.returns-in_err-meet-clause-fetches
returns-in_err-meet-clause-fetches g c =
    let store = c.args.store.now in
    let T = λ (x : List ℕ). tree_of g.L.Leaf.Holds g.L.Leaf.ends (g.S.Store.shape store) c.args.fork.now x in
    few_over_last T g.L.Leaf.hash (λ x. record { within = g.met.L.Leaf.within_ends; sorted = g.met.L.Leaf.are_sorted }) (λ x. g.met.L.Leaf.holds_once) c.args.hash (g.S.Store.image store)
    c.loop.found.items c.loop.trail c.loop.left (g.S.Store.fetches store) (g.S.Store.fetches c.loop.store) c.loop.invariant.chain c.loop.invariant.few

pub returns-in_err-meet-clause-most : goal.returns-in_err-meet-clause-most
returns-in_err-meet-clause-most g c = let few = once_few c.args.fork.now.extents (c.loop.left ∷ c.loop.trail) c.loop.invariant.once in omega (arith, few, c.loop.invariant.most)

pub returns-clause-fetches : goal.returns-clause-fetches
returns-clause-fetches g c =
    let store = c.args.store.now in
    let T = λ (x : List ℕ). tree_of g.L.Leaf.Holds g.L.Leaf.ends (g.S.Store.shape store) c.args.fork.now x in
    few_over_last T g.L.Leaf.hash (λ x. record { within = g.met.L.Leaf.within_ends; sorted = g.met.L.Leaf.are_sorted }) (λ x. g.met.L.Leaf.holds_once) c.args.hash (g.S.Store.image store)
    c.loop.found.items c.loop.trail c.loop.left (g.S.Store.fetches store) (g.S.Store.fetches c.loop.store) c.loop.invariant.chain c.loop.invariant.few

pub returns-clause-most : goal.returns-clause-most
returns-clause-most g c = let few = once_few c.args.fork.now.extents (c.loop.left ∷ c.loop.trail) c.loop.invariant.once in omega (arith, few, c.loop.invariant.most)

pub returns-in_err-held-clause-fetches : goal.returns-in_err-held-clause-fetches
returns-in_err-held-clause-fetches g c =
    let store = c.args.store.now in
    let T = λ (x : List ℕ). tree_of g.L.Leaf.Holds g.L.Leaf.ends (g.S.Store.shape store) c.args.fork.now x in
    few_over_next T g.L.Leaf.hash (λ x. record { within = g.met.L.Leaf.within_ends; sorted = g.met.L.Leaf.are_sorted }) (λ x. g.met.L.Leaf.holds_once) c.args.hash (g.S.Store.image store)
    c.loop.found.items c.loop.trail c.loop.left (g.S.Store.fetches store) (g.S.Store.fetches c.loop.store) (g.S.Store.fetches c.read_leaf.new.store) (λ none. false≢true (sym c.if-is_last_for.false ∙ c.is_last_for.ensures.1 (inl none))) (not_above c.loop.left.last c.args.hash (λ above. false≢true (sym c.if-is_last_for.false ∙ c.is_last_for.ensures.1 (inr above))))
    (search rules) c.loop.invariant.chain c.loop.invariant.few

pub returns-in_err-held-clause-most : goal.returns-in_err-held-clause-most
returns-in_err-held-clause-most g c =
    let few = once_few c.args.fork.now.extents (c.loop.left ∷ c.loop.trail) c.loop.invariant.once in
    let one : g.S.Store.fetches c.read_leaf.new.store ≤ g.S.Store.fetches c.loop.store + 1 = search rules in
    omega (arith, few, one, c.loop.invariant.most)

pub returns-in_err-take_with_hash-2-clause-fetches : goal.returns-in_err-take_with_hash-2-clause-fetches
returns-in_err-take_with_hash-2-clause-fetches g c =
    let store = c.args.store.now in
    let T = λ (x : List ℕ). tree_of g.L.Leaf.Holds g.L.Leaf.ends (g.S.Store.shape store) c.args.fork.now x in
    few_over_next T g.L.Leaf.hash (λ x. record { within = g.met.L.Leaf.within_ends; sorted = g.met.L.Leaf.are_sorted }) (λ x. g.met.L.Leaf.holds_once) c.args.hash (g.S.Store.image store)
    c.loop.found.items c.loop.trail c.loop.left (g.S.Store.fetches store) (g.S.Store.fetches c.loop.store) (g.S.Store.fetches c.read_leaf.new.store) (λ none. false≢true (sym c.if-is_last_for.false ∙ c.is_last_for.ensures.1 (inl none))) (not_above c.loop.left.last c.args.hash (λ above. false≢true (sym c.if-is_last_for.false ∙ c.is_last_for.ensures.1 (inr above))))
    (search rules) c.loop.invariant.chain c.loop.invariant.few

pub returns-in_err-take_with_hash-2-clause-most : goal.returns-in_err-take_with_hash-2-clause-most
returns-in_err-take_with_hash-2-clause-most g c =
    let few = once_few c.args.fork.now.extents (c.loop.left ∷ c.loop.trail) c.loop.invariant.once in
    let one : g.S.Store.fetches c.read_leaf.new.store ≤ g.S.Store.fetches c.loop.store + 1 = search rules in
    omega (arith, few, one, c.loop.invariant.most)

pub returns-then-is_last_for-clause-room : goal.returns-then-is_last_for-clause-room
returns-then-is_last_for-clause-room g c =
    let few = once_few c.args.fork.now.extents (c.loop.left ∷ c.loop.trail) c.loop.invariant.once in
    room_within g.L.Leaf.CAPACITY (1 + length c.loop.trail) (1 + mapped_count c.args.fork.now.extents) (sum_by g.L.Leaf.size c.loop.found.items) (omega (arith, few)) c.loop.invariant.room

pub returns-in_err-take_with_hash-2-clause-stays : goal.returns-in_err-take_with_hash-2-clause-stays
returns-in_err-take_with_hash-2-clause-stays g c = stays_on g.S.Store g.met.S.Store.only_read_on _ _ _ c.loop.invariant.stays c.in_ok-held.ensures.stays
