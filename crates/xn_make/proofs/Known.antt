-- A piece laid over bytes that are known.
use Rattle.std.proofs.Common.{◌≡◌, ℕ, List, ap, ◌∙◌}
use Rattle.byteorder.specs.Endian.{big_bytes}
use Rattle.xn_bytes.specs.Numbers.{overlaid}

pub over : {old known new : List ℕ} (at : ℕ) (piece : List ℕ) → new ≡ overlaid old at piece → old ≡ known → new ≡ overlaid known at piece
over at piece e h = e ∙ ap (λ (bytes : List ℕ). overlaid bytes at piece) h

-- the piece is a number that is known too
pub over_number : {old known new : List ℕ} {number : ℕ} (at width is : ℕ) → number ≡ is → new ≡ overlaid old at (big_bytes width number) → old ≡ known → new ≡ overlaid known at (big_bytes width is)
over_number {old = old} at width is same e h = e ∙ ap (λ (n : ℕ). overlaid old at (big_bytes width n)) same ∙ ap (λ (bytes : List ℕ). overlaid bytes at (big_bytes width is)) h
