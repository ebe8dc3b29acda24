use Rattle.std.proofs.Common.{List, rules, subst}
use Rattle.std.specs.Prelude.{IsPermutation}
use Rattle.std.specs.Ordering.{nat_cmp, is_lt}
use Rattle.std.specs.Cmp.Lexicographic.{slice_cmp, nat_list_cmp_total}
use Rattle.std.proofs.lemmas.List.Sorted.{answers_always, ranks_by, IsPermutation-trans}
use Rattle.xn_text.specs.declared.line.ListLine.{ListLine}
use Rattle.xn_ns.proofs.Listings.{are_lines}
use Rattle.xn_ns.proofs.listing.sorted_lines.Goals as goal

pub returns : goal.returns
returns c =
    let call = c.in_ok-sort_by.ensures in
    let moved = IsPermutation-trans c.in_ok-lines.lines.items c.sort_by_cached_key.new.self.items c.sort_by.new.self.items c.in_ok-sort_by_cached_key.ensures.permutation call.permutation in
    are_lines c.args.listed.items c.sort_by.new.self.items c.requires (subst (λ (lines : List ListLine). IsPermutation lines c.sort_by.new.self.items) c.in_ok-lines.ensures moved)
    (call.sorted (λ a b. is_lt (slice_cmp nat_cmp a.name b.name)) (ranks_by nat_list_cmp_total (λ (line : ListLine). line.name)) (answers_always _ _ _ (λ f a r t k. search rules)))
