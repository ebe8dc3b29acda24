use Rattle.std.proofs.Common.{◌≡◌, ◌+◌, ◌-◌, ◌%◌, ◌++◌, false, eqb, sym, ap, ◌∙◌, arith}
use Rattle.std.proofs.lemmas.Bool.Decides.{nat_tests}
use Rattle.std.proofs.lemmas.Grind.{common_steps}
use Rattle.xn_transactions.proofs.PieceLemmas.{pieces_of_word-none, pieces_of_word-clear, pieces_with-set}
use Rattle.xn_transactions.proofs.pieces.push_pieces.Goals as goal
use Rattle.xn_transactions.proofs.pieces.push_pieces.Goals.{then-bits-eq1+in_ok-push, else-bits-eq1}

pub loop-piece-preserved : goal.loop-piece-preserved
loop-piece-preserved c =
    let before = c.loop-piece in
    let end = c.args.from + 32 in
    elim c.if-bits-eq1.branch [
      | then-bits-eq1+in_ok-push w ↦
          rw (w.pieces-is, w.in_ok-push.ensures.items)
          (pieces_with-set before.pieces.items before.piece (end - before.piece) (end - (before.piece + 1)) before.bits (omega arith) w.if-bits-eq1.true ∙ before.invariant)
      | else-bits-eq1 w ↦
          let clear : eqb (before.bits % 2) 1 ≡ false = grind (arith, nat_tests) in
          rw w.pieces-is
          (ap (λ ps. before.pieces.items ++ ps) (sym (pieces_of_word-clear before.piece (end - before.piece) (end - (before.piece + 1)) before.bits (omega arith) clear)) ∙ before.invariant)
    ]

pub returns : goal.returns
returns c =
    let none : c.args.from + 32 - c.loop-piece.piece ≡ 0 = omega arith in
    let e = rw (none, pieces_of_word-none) at c.loop-piece.invariant in
    grind (arith, common_steps)
