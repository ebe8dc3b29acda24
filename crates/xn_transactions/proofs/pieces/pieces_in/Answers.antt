use Rattle.std.proofs.Common.{◌+◌, ◌*◌, ◌++◌, drop, get_or, sym, ap, ◌∙◌, append_assoc, arith}
use Rattle.std.proofs.lemmas.Grind.{common_steps}
use Rattle.std.proofs.lemmas.List.{at_drop_all}
use Rattle.xn_changes.specs.Items.{pieces_from, pieces_of_word}
use Rattle.xn_transactions.proofs.PieceLemmas.{pieces_from-more, pieces_from-none}
use Rattle.xn_transactions.proofs.pieces.pieces_in.Goals as goal

pub loop-k-preserved : goal.loop-k-preserved
loop-k-preserved c =
    let k = c.loop-k.k in
    let words = c.args.words.now in
    rw c.in_ok-push_pieces.ensures
    (append_assoc c.loop-k.pieces.items (pieces_of_word (32 * k) 32 (get_or words k 0)) (pieces_from (32 * (k + 1)) (drop (k + 1) words))
    ∙ ap (λ ps. c.loop-k.pieces.items ++ ps) (sym (pieces_from-more k words (omega arith)))
    ∙ c.loop-k.invariant)

pub returns : goal.returns
returns c =
    let none = at_drop_all (pieces_from (32 * c.loop-k.k)) c.args.words.now c.loop-k.k (omega arith) ∙ pieces_from-none (32 * c.loop-k.k) in
    let e = rw none at c.loop-k.invariant in
    grind (arith, common_steps)
