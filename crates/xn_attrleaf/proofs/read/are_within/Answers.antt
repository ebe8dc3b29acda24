use Rattle.std.proofs.Common.{refl, arith}
use Rattle.xn_bytes.specs.AttributeLeaves.{IsWithin}
use Rattle.xn_attrleaf.specs.EntriesRead.{all_entries, below_one_more, each_entry}
use Rattle.xn_attrleaf.proofs.read.are_within.Goals as goal

pub loop-index-init : goal.loop-index-init
loop-index-init c = λ k below. absurd (omega arith)

pub returns-then-not-is_within : goal.returns-then-not-is_within
returns-then-not-is_within c =
    let bytes = c.args.block.now in
    (λ f. absurd cc, λ all. c.if-not-is_within.ensures.1 (each_entry (IsWithin bytes) bytes c.loop-index.index c.entry_in.result all (omega (arith, c.count_in-index-end.ensures.count)) c.entry_in.ensures))

pub loop-index-preserved : goal.loop-index-preserved
loop-index-preserved c =
    let bytes = c.args.block.now in
    below_one_more (IsWithin bytes) bytes c.loop-index.index c.entry_in.result c.entry_in.ensures c.loop-index.invariant (c.if-not-is_within.ensures.0 refl)

pub returns : goal.returns
returns c =
    let bytes = c.args.block.now in
    (λ t. all_entries (IsWithin bytes) bytes c.loop-index.index (omega (arith, c.count_in-index-end.ensures.count)) c.loop-index.invariant, λ all. refl)
