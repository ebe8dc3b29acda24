-- Pieces of bytes that stand behind others.
use Rattle.std.proofs.Common.{◌≡◌, ℕ, ◌+◌, ◌-◌, ◌≤◌, List, ◌++◌, length, take, drop, sym, ap, ◌∙◌, arith, length-drop}
use Rattle.std.specs.Prelude.{slice_range}
use Rattle.std.proofs.lemmas.List.{drop-append-le, drop-drop, drop_at, take-append-le}

-- a piece at the front of two
pub slice-append_left : (xs ys : List ℕ) (from to : ℕ) → from ≤ to → to ≤ length xs → slice_range (xs ++ ys) from to ≡ slice_range xs from to
slice-append_left xs ys from to order h =
    ap (take (to - from)) (drop-append-le from xs ys (omega arith)) ∙ take-append-le (to - from) (drop from xs) ys (omega (arith, length-drop from xs))

-- a piece of what stands behind a place
pub slice_behind : (bytes behind : List ℕ) (at from to : ℕ) → drop at bytes ≡ behind → slice_range bytes (at + from) (at + to) ≡ slice_range behind from to
slice_behind bytes behind at from to e =
    let width : at + to - (at + from) ≡ to - from = omega arith in
    ap (λ (n : ℕ). take n (drop (at + from) bytes)) width
    ∙ ap (take (to - from)) (sym (drop-drop from at bytes) ∙ ap (drop from) e)

pub slice-append_right : (xs ys : List ℕ) (at from to : ℕ) → length xs ≡ at → slice_range (xs ++ ys) (at + from) (at + to) ≡ slice_range ys from to
slice-append_right xs ys at from to e = slice_behind (xs ++ ys) ys at from to (drop_at xs ys at e)

-- a piece of a piece that stands behind a place, with more behind it
pub slice_within : (bytes piece rest : List ℕ) (at from to : ℕ) → drop at bytes ≡ piece ++ rest → from ≤ to → to ≤ length piece → slice_range bytes (at + from) (at + to) ≡ slice_range piece from to
slice_within bytes piece rest at from to e order h = slice_behind bytes (piece ++ rest) at from to e ∙ slice-append_left piece rest from to order h
