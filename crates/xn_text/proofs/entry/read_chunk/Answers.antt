use Rattle.std.proofs.Common.{◌∙◌, ◌∷◌, ◌++◌, List, ℕ, ap₂}
use Rattle.std.specs.Prelude.{codes, decimal}
use Rattle.xn_meaning.specs.Replies.{space}
use Rattle.xn_meaning.specs.Manifests.{hex_digits}
use Rattle.xn_text.proofs.NumberLemmas.{mask_words}
use Rattle.xn_text.proofs.entry.read_chunk.Goals as goal

pub returns-in_err-start : goal.returns-in_err-start
returns-in_err-start c = rw c.from_residual.ensures (λ pair small same.
    c.in_err-start.ensures.only (decimal pair.0) (hex_digits 16 pair.1) (mask_words pair small) same)

pub returns-in_err-start-2 : goal.returns-in_err-start-2
returns-in_err-start-2 c = rw c.from_residual-in_err-start-2.ensures (λ pair small same.
    let words = c.in_ok-start.ensures.only (decimal pair.0) (hex_digits 16 pair.1) (mask_words pair small) same in
    c.in_err-start-2.ensures pair.0 small.0 words.0)

pub returns-in_err-mask : goal.returns-in_err-mask
returns-in_err-mask c = rw c.from_residual-in_err-mask.ensures (λ pair small same.
    let words = c.in_ok-start.ensures.only (decimal pair.0) (hex_digits 16 pair.1) (mask_words pair small) same in
    c.in_err-mask.ensures pair.1 small.1 words.1)

pub returns : goal.returns
returns c =
    c.in_ok-start.ensures.found
    ∙ ap₂ (λ (start mask : List ℕ). codes "chunk " ++ start ++ space ∷ mask) c.in_ok-start-2.ensures c.in_ok-mask.ensures
