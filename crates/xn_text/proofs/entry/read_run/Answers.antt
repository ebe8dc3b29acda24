use Rattle.std.specs.Prelude.{decimal}
use Rattle.xn_text.proofs.NumberLemmas.{decimal_words}
use Rattle.xn_text.proofs.entry.read_run.Goals as goal

pub returns-in_err-block : goal.returns-in_err-block
returns-in_err-block c = rw c.from_residual.ensures (λ pair small same.
    c.in_err-block.ensures.only (decimal pair.0) (decimal pair.1) (decimal_words pair small) same)

pub returns-in_err-block-2 : goal.returns-in_err-block-2
returns-in_err-block-2 c = rw c.from_residual-in_err-block-2.ensures (λ pair small same.
    let words = c.in_ok-block.ensures.only (decimal pair.0) (decimal pair.1) (decimal_words pair small) same in
    c.in_err-block-2.ensures pair.0 small.0 words.0)

pub returns-in_err-count : goal.returns-in_err-count
returns-in_err-count c = rw c.from_residual-in_err-count.ensures (λ pair small same.
    let words = c.in_ok-block.ensures.only (decimal pair.0) (decimal pair.1) (decimal_words pair small) same in
    c.in_err-count.ensures pair.1 small.1 words.1)
