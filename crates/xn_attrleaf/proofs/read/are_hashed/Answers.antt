use Rattle.std.proofs.Common.{◌≡◌, List, ℕ, refl, sym, ap, ◌∙◌, arith}
use Rattle.xn_bytes.specs.Attributes.{attribute_hash}
use Rattle.xn_bytes.specs.AttributeLeaves.{AttrEntry, attribute_at}
use Rattle.xn_attrleaf.specs.EntriesRead.{all_entries, below_one_more, each_entry, entry_inside}
use Rattle.xn_attrleaf.proofs.read.are_hashed.Goals as goal

abbrev IsHashed : List ℕ → AttrEntry → Type 0
IsHashed bytes entry = entry.hash ≡ attribute_hash (attribute_at bytes entry)

pub loop-index-init : goal.loop-index-init
loop-index-init c = λ k below. absurd (omega arith)

pub hash_in-requires-clause-inside : goal.hash_in-requires-clause-inside
hash_in-requires-clause-inside c =
    entry_inside c.args.block.now c.loop-index.index c.entry_in-entry.result c.requires.within (omega (arith, c.count_in-index-end.ensures.count)) c.entry_in-entry.ensures

pub returns-then-entry-hash_in : goal.returns-then-entry-hash_in
returns-then-entry-hash_in c =
    let bytes = c.args.block.now in
    let hash = ap (λ (entry : AttrEntry). entry.hash) c.entry.view_is in (
      λ f. absurd cc,
      λ all.
          absurd (c.if-entry-hash_in.true (hash ∙ each_entry (IsHashed bytes) bytes c.loop-index.index c.entry_in-entry.result all (omega (arith, c.count_in-index-end.ensures.count)) c.entry_in-entry.ensures ∙ sym c.hash_in.ensures)),
    )

pub loop-index-preserved : goal.loop-index-preserved
loop-index-preserved c =
    let bytes = c.args.block.now in
    let hash = ap (λ (entry : AttrEntry). entry.hash) c.entry.view_is in
    below_one_more (IsHashed bytes) bytes c.loop-index.index c.entry_in-entry.result c.entry_in-entry.ensures c.loop-index.invariant (sym hash ∙ c.if-entry-hash_in.false ∙ c.hash_in.ensures)

pub returns : goal.returns
returns c =
    let bytes = c.args.block.now in
    (λ t. all_entries (IsHashed bytes) bytes c.loop-index.index (omega (arith, c.count_in-index-end.ensures.count)) c.loop-index.invariant, λ all. refl)
