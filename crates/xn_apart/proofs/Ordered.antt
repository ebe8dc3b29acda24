-- What a sort of spans gives.
use Rattle.std.proofs.Common.{◌≡◌, ℕ, ◌≤◌, false, List, get_or, AllPairs, Ordering, arith}
use Rattle.std.specs.List.Sorted.{IsSorted}
use Rattle.std.specs.Ordering.{nat_cmp, ordering_then, is_lt}
use Rattle.std.proofs.lemmas.Bool.Decides.{nat_tests}
use Rattle.std.proofs.lemmas.Cmp.{nat_cmp_total, on_total, then_total}
use Rattle.std.proofs.lemmas.List.Sorted.{ranks_by, sorted_far}
use Rattle.xn_apart.specs.Spans.{IsNoLater}
use Rattle.xn_apart.specs.declared.span.Span.{Span}

-- by block, and then by count
abbrev span_cmp : Span → Span → Ordering
span_cmp a b = ordering_then (nat_cmp a.block b.block) (nat_cmp a.count b.count)

starts_from_not_less : (block count other many : ℕ) → is_lt (ordering_then (nat_cmp other block) (nat_cmp many count)) ≡ false → block ≤ other
starts_from_not_less block count other many not_less = grind (arith, nat_tests)

ends_from_not_less : (block count other many : ℕ) → is_lt (ordering_then (nat_cmp other block) (nat_cmp many count)) ≡ false → block ≡ other → count ≤ many
ends_from_not_less block count other many not_less same = grind (arith, nat_tests)

pub in_order_from_sort : (spans : List Span) → IsSorted span_cmp spans → AllPairs IsNoLater spans
in_order_from_sort spans sorted i j d less within =
    let far : is_lt (span_cmp (get_or spans j d) (get_or spans i d)) ≡ false =
    sorted_far (λ a b. is_lt (span_cmp a b)) (ranks_by (then_total (on_total (λ (s : Span). s.block) nat_cmp_total) (on_total (λ (s : Span). s.count) nat_cmp_total)) (λ (s : Span). s)) spans sorted i j d (omega arith) within in
    record {
      starts = starts_from_not_less _ (get_or spans i d).count _ (get_or spans j d).count far;
      ends = ends_from_not_less (get_or spans i d).block _ (get_or spans j d).block _ far;
    }
