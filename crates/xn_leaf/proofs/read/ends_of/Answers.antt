use Rattle.std.proofs.Common.{ℕ, sym, ap, ◌∙◌, arith}
use Rattle.xn_bytes.specs.DataBlock.{LeafEntry, leaves_at}
use Rattle.xn_bytes.specs.HashedTree.{leaf_ends}
use Rattle.xn_bytes.proofs.LeafEntries.{leaves_none}
use Rattle.xn_leaf.proofs.Reading.{ends_at}
use Rattle.xn_leaf.proofs.read.ends_of.Goals as goal

pub returns-then-count-eq0 : goal.returns-then-count-eq0
returns-then-count-eq0 c =
    let none = sym c.count_in-count.ensures.count ∙ c.if-count-eq0.true in
    sym (ap (λ (n : ℕ). leaf_ends (leaves_at n 64 c.args.block.now)) none ∙ ap leaf_ends (leaves_none 64 c.args.block.now))

pub returns : goal.returns
returns c =
    let bytes = c.args.block.now in
    let count = c.count_in-count.result in
    let ends = ends_at count bytes c.entry_in.result c.entry_in-2.result (omega (arith, c.if-count-eq0.false)) c.entry_in.ensures c.entry_in-2.ensures in
    rw (ap (λ (leaf : LeafEntry). leaf.hash) c.result.view_is, ap (λ (leaf : LeafEntry). leaf.hash) c.result-2.view_is)
    (ends ∙ ap (λ (n : ℕ). leaf_ends (leaves_at n 64 bytes)) c.count_in-count.ensures.count)
