use Rattle.std.proofs.Common.{◌∙◌, sym}
use Rattle.xn_settled.proofs.Pieces.{none_left, piece_laid}
use Rattle.xn_settled.proofs.blocks.lay_pieces.Goals as goal

pub loop-k-preserved : goal.loop-k-preserved
loop-k-preserved c = record {
  left = piece_laid c.loop-k.k c.args.pieces.now c.args.bytes.now c.loop-k.block c.lay_piece.new.block c.loop-k-test.true c.lay_piece.ensures.value ∙ c.loop-k.invariant.left;
  same = c.lay_piece.ensures.length ∙ c.loop-k.invariant.same;
}

pub returns-clause-value : goal.returns-clause-value
returns-clause-value c = sym (none_left c.loop-k.k c.args.pieces.now _ c.loop-k.block c.loop-k-test.false) ∙ c.loop-k.invariant.left
