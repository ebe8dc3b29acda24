use Rattle.std.specs.Prelude.{◌≡◌, ◌*◌, drop, length}
use Rattle.xn_settled.specs.Blocks.{with_pieces}
use Rattle.xn_settled.proofs.blocks.lay_pieces.Given as goal

-- what is left to be laid down makes of the block what all pieces made of it at first
abbrev pub invariant-loop-k : goal.invariant-loop-k
invariant-loop-k l = record {
  left : with_pieces (drop l.k l.fn.pieces) (drop (128 * l.k) l.fn.bytes) l.block ≡ with_pieces l.fn.pieces l.fn.bytes l.fn.block;
  same : length l.block ≡ length l.fn.block;
}
