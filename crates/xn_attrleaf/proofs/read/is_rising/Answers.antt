use Rattle.std.proofs.Common.{◌+◌, ℕ, refl, sym, ap, subst, arith}
use Rattle.xn_bytes.specs.Numbers.{number_at}
use Rattle.xn_bytes.specs.AttributeLeaves.{AttrEntry, attr_entries}
use Rattle.xn_datree.proofs.Rising.{RiseBy, GoesOn, sorted_from, rise_from_sorted, goes_on, falls}
use Rattle.xn_attrleaf.specs.EntriesRead.{entries_from, from_step, none_left, all_left}
use Rattle.xn_attrleaf.proofs.read.is_rising.Goals as goal

abbrev hash_of : AttrEntry → ℕ
hash_of entry = entry.hash

pub loop-index-init : goal.loop-index-init
loop-index-init c =
    let bytes = c.args.block.now in
    subst (GoesOn hash_of (attr_entries bytes) 0) (sym (all_left (number_at 2 56 bytes) bytes)) (record {
      to = sorted_from hash_of 0 (attr_entries bytes);
      back = rise_from_sorted hash_of (attr_entries bytes);
    })

pub loop-index-preserved : goal.loop-index-preserved
loop-index-preserved c =
    let bytes = c.args.block.now in
    let count = number_at 2 56 bytes in
    let entry = c.entry_in-entry.result in
    let rest = entries_from (c.loop-index.index + 1) count bytes in
    let step = from_step c.loop-index.index count entry bytes (omega (arith, c.count_in-index-end.ensures.count)) c.entry_in-entry.ensures in
    let there = subst (GoesOn hash_of (attr_entries bytes) c.loop-index.least) step c.loop-index.invariant in
    let hash = ap hash_of c.entry.view_is in
    rw hash (goes_on hash_of (attr_entries bytes) c.loop-index.least entry rest (rw hash at c.if-entry-least.false) there)

pub returns-then-entry-least : goal.returns-then-entry-least
returns-then-entry-least c =
    let bytes = c.args.block.now in
    let count = number_at 2 56 bytes in
    let entry = c.entry_in-entry.result in
    let rest = entries_from (c.loop-index.index + 1) count bytes in
    let step = from_step c.loop-index.index count entry bytes (omega (arith, c.count_in-index-end.ensures.count)) c.entry_in-entry.ensures in
    let there = subst (GoesOn hash_of (attr_entries bytes) c.loop-index.least) step c.loop-index.invariant in
    let hash = ap hash_of c.entry.view_is in
    (λ f. absurd cc, λ sorted. absurd (falls hash_of (attr_entries bytes) c.loop-index.least entry rest (rw hash at c.if-entry-least.true) there sorted))

pub returns : goal.returns
returns c =
    let bytes = c.args.block.now in
    let gone = none_left c.loop-index.index (number_at 2 56 bytes) bytes (omega (arith, c.count_in-index-end.ensures.count)) in
    (λ t. c.loop-index.invariant.to (subst (RiseBy hash_of c.loop-index.least) (sym gone) tt), λ sorted. refl)
