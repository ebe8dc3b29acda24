use Rattle.std.proofs.Common.{◌++◌, ◌∷◌, ◌∙◌, [], List, ℕ, ap, arith}
use Rattle.std.specs.Prelude.{codes, decimal}
use Rattle.xn_meaning.specs.Manifests.{hex_digits}
use Rattle.xn_meaning.specs.Replies.{newline, space}
use Rattle.xn_text.proofs.NumberLemmas.{mask_text}
use Rattle.xn_text.proofs.WritingLemmas.{chunk_words}
use Rattle.xn_text.proofs.writer.chunk_line.Goals as goal

pub returns : goal.returns
returns c =
    rw (c.laid_out.ensures, c.in_radix.ensures) at c.in_ok-format.ensures.ok
    ∙ ap (λ (mask : List ℕ). codes "chunk " ++ (decimal c.args.chunk.0 ++ (space ∷ (mask ++ newline ∷ [])))) (mask_text c.args.chunk.1 (omega arith))
    ∙ chunk_words (decimal c.args.chunk.0) (hex_digits 16 c.args.chunk.1)
