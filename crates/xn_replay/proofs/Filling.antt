-- A piece of the image, with what is kept laid over it, is that piece of the image that is shown.
use Rattle.std.proofs.Common.{◌≡◌, ◌⊎◌, inl, inr, ℕ, ◌+◌, ◌-◌, ◌*◌, ◌/◌, ◌<◌, ◌≤◌, List, length, Option, Some, None, Result, Ok, Err, true, refl, sym, ap, subst, ◌∙◌, arith}
use Rattle.std.specs.Prelude.{unwrap_or, slice_range, IfSome, IsSome, OnOk}
use Rattle.std.specs.Result.{is_ok}
use Rattle.xn_bytes.specs.Numbers.{sector_of}
use Rattle.xn_bytes.proofs.Overlays.{length-slice_range, slice_range-slice_range, same_by_pieces}
use Rattle.xn_machine.specs.Device.{IsSectors, read_from}
use Rattle.xn_replay.specs.Overlay.{shown, kept_at, AreKept, AreAllKept}
use Rattle.xn_replay.proofs.Kept.{length-shown, sector_of-shown}

either : (kept : Option (List ℕ)) → IsSome kept → (xs ys : List ℕ) → unwrap_or kept xs ≡ unwrap_or kept ys
either None is xs ys = absurd (cc)
either (Some bytes) is xs ys = refl

-- a sector of a piece
sector_of_piece : (xs : List ℕ) (first bytes k : ℕ) → 512 * first + bytes ≤ length xs → 512 * k + 512 ≤ bytes → sector_of (slice_range xs (512 * first) (512 * first + bytes)) k ≡ sector_of xs (first + k)
sector_of_piece xs first bytes k room low =
    let from : 512 * first + 512 * k ≡ 512 * (first + k) = omega arith in
    let to : 512 * first + (512 * k + 512) ≡ 512 * (first + k) + 512 = omega arith in
    slice_range-slice_range xs (512 * first) (512 * first + bytes) (512 * k) (512 * k + 512) (omega arith) room
    ∙ ap (λ n. slice_range xs n (512 * first + (512 * k + 512))) from
    ∙ ap (slice_range xs (512 * (first + k))) to

pub filled : (kept : List (ℕ × List ℕ)) (sectors : ℕ) (image : List ℕ) (first : ℕ) (read now : List ℕ) → length image ≡ 512 * sectors → AreKept sectors kept → IsSectors sectors first (length read) → length now ≡ length read
    → ((k : ℕ) → k < length read / 512 → sector_of now k ≡ unwrap_or (kept_at kept (first + k)) (sector_of read k))
    → AreAllKept kept first (length read / 512) ⊎ (read ≡ read_from image first (length read))
    → now ≡ slice_range (shown image kept) (512 * first) (512 * first + length read)
filled kept sectors image first read now long all place as_long laid source =
    let whole : length read ≡ 512 * (length read / 512) = omega (arith, place.whole) in
    let within : 512 * first + length read ≤ 512 * sectors = omega (arith, place.within) in
    let len : length (shown image kept) ≡ 512 * sectors = length-shown sectors image kept long all in
    same_by_pieces 512 (length read / 512) now _ (omega arith)
    (length-slice_range (shown image kept) (512 * first) (512 * first + length read) (omega arith) ∙ (let e : 512 * first + length read - 512 * first ≡ 512 * (length read / 512) = omega arith in e))
    (λ k low.
    let there : sector_of (shown image kept) (first + k) ≡ unwrap_or (kept_at kept (first + k)) (sector_of image (first + k)) =
    sector_of-shown sectors image kept long all (first + k) (omega arith) in
    let right : sector_of (slice_range (shown image kept) (512 * first) (512 * first + length read)) k ≡ sector_of (shown image kept) (first + k) =
    sector_of_piece (shown image kept) first (length read) k (omega arith) (omega arith) in
    let same : unwrap_or (kept_at kept (first + k)) (sector_of read k) ≡ unwrap_or (kept_at kept (first + k)) (sector_of image (first + k)) =
    elim source [
      | inl every ↦ either (kept_at kept (first + k)) (every k low) _ _
      | inr was ↦ ap (unwrap_or (kept_at kept (first + k))) (ap (λ ys. sector_of ys k) was ∙ sector_of_piece image first (length read) k (omega arith) (omega arith))
    ] in
    laid k low ∙ same ∙ sym there ∙ sym right)

-- the same where the image may not be told
pub filled_where_told : (kept : List (ℕ × List ℕ)) (sectors : ℕ) (image : Option (List ℕ)) (first bytes : ℕ) (read now : List ℕ) → IfSome image (λ x. length x ≡ 512 * sectors) → AreKept sectors kept → IsSectors sectors first bytes → length read ≡ bytes → length now ≡ length read
    → ((k : ℕ) → k < length read / 512 → sector_of now k ≡ unwrap_or (kept_at kept (first + k)) (sector_of read k))
    → AreAllKept kept first (bytes / 512) ⊎ IfSome image (λ x. read ≡ read_from x first bytes)
    → IfSome image (λ x. now ≡ slice_range (shown x kept) (512 * first) (512 * first + bytes))
filled_where_told kept sectors None first bytes read now long all place size as_long laid source = tt
filled_where_told kept sectors (Some x) first bytes read now long all place size as_long laid source =
    subst (λ n. now ≡ slice_range (shown x kept) (512 * first) (512 * first + n)) size
    (filled kept sectors x first read now long all (subst (IsSectors sectors first) (sym size) place) as_long laid
    (elim source [
      | inl every ↦ inl (subst (λ n. AreAllKept kept first (n / 512)) (sym size) every)
      | inr was ↦ inr (subst (λ n. read ≡ read_from x first n) (sym size) was)
    ]))

-- what held of a call that succeeded, where its error was changed
pub on_ok_then : {T D E : Type 0} (P : Type 0) (r : Result T D) (s : Result T E) (x : T) → is_ok s ≡ is_ok r → s ≡ Ok x → OnOk r P → P
on_ok_then P (Ok _) s x same was h = h
on_ok_then P (Err _) s x same was h = absurd (let e : is_ok s ≡ true = ap is_ok was in cc)
