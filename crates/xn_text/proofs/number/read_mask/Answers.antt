use Rattle.std.proofs.Common.{◌≡◌, ◌∙◌, ◌∷◌, ◌++◌, ◌<◌, [], List, ℕ, ap, ap₂, sym, get_or, arith}
use Rattle.std.proofs.lemmas.List.{take_more}
use Rattle.xn_bytes.specs.Escapes.{hex_digit}
use Rattle.xn_text.proofs.NumberLemmas.{digit_at, one_more, fits_digit, fits_mask}
use Rattle.xn_text.proofs.number.read_mask.Goals as goal

pub overflow_mul-mask : goal.overflow_mul-mask
overflow_mul-mask c = omega (arith, fits_mask c.loop-digit.digit-index c.loop-digit.mask 0 (omega arith) c.loop-digit.invariant.0 (omega arith))

pub returns-in_err-digit_value : goal.returns-in_err-digit_value
returns-in_err-digit_value c = rw c.from_residual.ensures (λ mask small same.
    let d = digit_at 16 mask c.loop-digit.digit-index (omega arith) in
    c.in_err-digit_value.ensures.none d.0 d.1
    (sym d.2 ∙ ap (λ (text : List ℕ). get_or text c.loop-digit.digit-index 0) (sym same ∙ sym c.as_bytes-digits.ensures.value)))

pub overflow_add-mask : goal.overflow_add-mask
overflow_add-mask c =
    let d : c.from.result < 16 = omega (arith, c.from.ensures, c.in_ok-digit_value.ensures.found.0) in
    omega (arith, fits_mask c.loop-digit.digit-index c.loop-digit.mask c.from.result (omega arith) c.loop-digit.invariant.0 d)

pub loop-digit-preserved : goal.loop-digit-preserved
loop-digit-preserved c =
    let d : c.from.result < 16 = omega (arith, c.from.ensures, c.in_ok-digit_value.ensures.found.0) in
    let is : hex_digit c.from.result ≡ get_or c.as_bytes-digits.result.now c.loop-digit.digit-index 0 = ap hex_digit c.from.ensures ∙ c.in_ok-digit_value.ensures.found.1 in (
      fits_digit c.loop-digit.digit-index c.loop-digit.mask c.from.result (omega arith) c.loop-digit.invariant.0 d,
      take_more c.as_bytes-digits.result.now c.loop-digit.digit-index 0 (omega arith)
          ∙ ap₂ (λ (front : List ℕ) (last : ℕ). front ++ last ∷ []) c.loop-digit.invariant.1 (sym is)
          ∙ sym (one_more c.loop-digit.digit-index c.loop-digit.mask c.from.result d),
    )
