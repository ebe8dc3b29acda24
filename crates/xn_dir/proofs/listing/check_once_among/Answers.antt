use Rattle.std.proofs.Common.{List, ℕ, map, refl, subst}
use Rattle.std.specs.Prelude.{IsPermutation, filter}
use Rattle.xn_bytes.proofs.TestLemmas.{holds, fails}
use Rattle.xn_dir.specs.Repeats.{has_hash_among}
use Rattle.xn_dir.proofs.HashedNames.{in_one, once_where_hashes_rise, hashes_rise_where_once}
use Rattle.xn_dir.proofs.Repeats.{kept_where_once, once_where_kept}
use Rattle.xn_dir.proofs.listing.check_once_among.Goals as goal

pub returns-then-rise : goal.returns-then-rise
returns-then-rise c =
    let repeated = c.in_ok-repeated.repeated.items in
    let sorted = c.in_ok-in_order.field-0.items in
    let same = subst (λ (names : List (List ℕ)). IsPermutation names (map in_one sorted)) (rw c.deref.ensures.value at c.in_ok-names_among.ensures) c.in_ok-in_order.ensures.same in
    once_where_kept c.args.leaves.now repeated c.args.listed.now c.in_ok-repeated.ensures.all c.requires.among
    (once_where_hashes_rise (filter (has_hash_among repeated) c.args.listed.now) sorted same (rw c.deref-2.ensures.value at (holds c.if-rise.ensures)))

pub returns : goal.returns
returns c =
    let repeated = c.in_ok-repeated.repeated.items in
    let sorted = c.in_ok-in_order.field-0.items in
    let same = subst (λ (names : List (List ℕ)). IsPermutation names (map in_one sorted)) (rw c.deref.ensures.value at c.in_ok-names_among.ensures) c.in_ok-in_order.ensures.same in
    rw c.of_rule.ensures (
      refl,
      refl,
      λ once.
          fails c.if-rise.ensures (rw c.deref-2.ensures.value
          (hashes_rise_where_once (filter (has_hash_among repeated) c.args.listed.now) sorted same c.in_ok-in_order.ensures.sorted (kept_where_once repeated c.args.listed.now once))),
    )
