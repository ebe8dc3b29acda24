use Rattle.std.proofs.Common.{List, ℕ, map, refl, subst}
use Rattle.std.specs.Prelude.{IsPermutation}
use Rattle.xn_bytes.proofs.TestLemmas.{holds, fails}
use Rattle.xn_dir.proofs.HashedNames.{in_one, once_where_hashes_rise, hashes_rise_where_once}
use Rattle.xn_dir.proofs.listing.check_once.Goals as goal

pub returns-then-rise : goal.returns-then-rise
returns-then-rise c =
    let sorted = c.in_ok-in_order.field-0.items in
    let same = subst (λ (names : List (List ℕ)). IsPermutation names (map in_one sorted)) c.in_ok-names_of.ensures c.in_ok-in_order.ensures.same in
    once_where_hashes_rise c.args.listed.now sorted same (rw c.deref.ensures.value at (holds c.if-rise.ensures))

pub returns-else-rise : goal.returns-else-rise
returns-else-rise c =
    let sorted = c.in_ok-in_order.field-0.items in
    let same = subst (λ (names : List (List ℕ)). IsPermutation names (map in_one sorted)) c.in_ok-names_of.ensures c.in_ok-in_order.ensures.same in
    rw c.of_rule.ensures (
      refl,
      refl,
      λ once. fails c.if-rise.ensures (rw c.deref.ensures.value (hashes_rise_where_once c.args.listed.now sorted same c.in_ok-in_order.ensures.sorted once)),
    )
