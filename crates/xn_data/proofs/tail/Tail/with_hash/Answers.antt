use Rattle.std.proofs.Common.{◌≡◌, ◌+◌, ◌*◌, ◌∙◌, sym, subst, List, ap, eqb}
use Rattle.std.specs.Prelude.{All, Contains, filter}
use Rattle.std.specs.List.Sorted.{IsNonDecreasingBy}
use Rattle.xn_bytes.specs.DataBlock.{LeafEntry, leaves_at}
use Rattle.xn_data.proofs.Searching.{rise_from, all_found, are_among}
use Rattle.xn_data.proofs.tail.Tail.with_hash.Goals as goal

pub returns-clause-rising : goal.returns-clause-rising
returns-clause-rising c = λ sorted.
    let rise = rise_from _ _ _ (subst (λ (leaves : List LeafEntry). IsNonDecreasingBy (λ leaf. leaf.hash) leaves) (sym c.self.view_is) sorted) in
    c.new.ensures
    ∙ all_found _ _ _ _ _ _ c.first_with_hash-first.ensures.within rise (c.first_with_hash-first.ensures.parts rise) c.count_with_hash-left.ensures
    ∙ ap (filter (λ leaf. eqb leaf.hash c.args.hash)) c.self.view_is

pub returns-clause-always : goal.returns-clause-always
returns-clause-always c =
    let among = are_among _ _ _ _ _ _ c.first_with_hash-first.ensures.within c.count_with_hash-left.ensures in
    rw c.new.ensures (subst (λ (leaves : List LeafEntry). All (λ leaf. (leaf.hash ≡ c.args.hash) × Contains leaves leaf) (leaves_at c.count_with_hash-left.result (c.self.inside.at + 8 * c.first_with_hash-first.result) c.self.inside.bytes.now)) c.self.view_is among)
