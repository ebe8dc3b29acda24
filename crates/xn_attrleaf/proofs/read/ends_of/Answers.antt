use Rattle.std.proofs.Common.{ℕ, ap, ◌∙◌, arith}
use Rattle.xn_bytes.specs.AttributeLeaves.{AttrEntry, attr_entries_at, entry_ends}
use Rattle.xn_attrleaf.specs.EntriesRead.{ends_at}
use Rattle.xn_attrleaf.proofs.read.ends_of.Goals as goal

pub returns : goal.returns
returns c =
    let bytes = c.args.block.now in
    let count = c.count_in-count.result in
    let ends = ends_at count bytes c.entry_in.result c.entry_in-2.result (omega (arith, c.if-count-eq0.false)) c.entry_in.ensures c.entry_in-2.ensures in
    rw (ap (λ (entry : AttrEntry). entry.hash) c.result.view_is, ap (λ (entry : AttrEntry). entry.hash) c.result-2.view_is)
    (ends ∙ ap (λ (n : ℕ). entry_ends (attr_entries_at n 80 bytes)) c.count_in-count.ensures.count)
