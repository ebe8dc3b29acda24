-- Pieces that are laid down one behind the other.
use Rattle.std.specs.Prelude.{ℕ, ◌≡◌, ◌+◌, ◌≤◌, List, ◌++◌, length}
use Rattle.std.proofs.Common.{ap, ◌∙◌, arith}
use Rattle.std.proofs.lemmas.List.{length-append}
use Rattle.xn_bytes.specs.Numbers.{overlaid}
use Rattle.xn_bytes.proofs.Overlays.{overlaid-append}

-- bytes with a piece laid down, and one more behind it
pub laid_on : (xs ys zs : List ℕ) (at next : ℕ) (a b : List ℕ) → ys ≡ overlaid xs at a → zs ≡ overlaid ys next b → next ≡ at + length a → at ≤ length xs → zs ≡ overlaid xs at (a ++ b)
laid_on xs ys zs at next a b first second place within = second ∙ ap (λ bytes. overlaid bytes next b) first ∙ overlaid-append xs at a b next place within

pub laid_3 : (xs x1 x2 x3 : List ℕ) (at n1 n2 : ℕ) (a b c : List ℕ) → at ≤ length xs → x1 ≡ overlaid xs at a → n1 ≡ at + length a → x2 ≡ overlaid x1 n1 b → n2 ≡ n1 + length b → x3 ≡ overlaid x2 n2 c → x3 ≡ overlaid xs at (a ++ b ++ c)
laid_3 xs x1 x2 x3 at n1 n2 a b c within e1 p1 e2 p2 e3 =
    laid_on xs x2 x3 at n2 (a ++ b) c (laid_on xs x1 x2 at n1 a b e1 e2 p1 within) e3 (omega (arith, length-append a b, p1, p2)) within

pub laid_4 : (xs x1 x2 x3 x4 : List ℕ) (at n1 n2 n3 : ℕ) (a b c d : List ℕ) → at ≤ length xs → x1 ≡ overlaid xs at a → n1 ≡ at + length a → x2 ≡ overlaid x1 n1 b → n2 ≡ n1 + length b → x3 ≡ overlaid x2 n2 c → n3 ≡ n2 + length c → x4 ≡ overlaid x3 n3 d → x4 ≡ overlaid xs at (a ++ b ++ c ++ d)
laid_4 xs x1 x2 x3 x4 at n1 n2 n3 a b c d within e1 p1 e2 p2 e3 p3 e4 =
    laid_on xs x3 x4 at n3 (a ++ b ++ c) d (laid_3 xs x1 x2 x3 at n1 n2 a b c within e1 p1 e2 p2 e3) e4 (omega (arith, length-append a b, length-append (a ++ b) c, p1, p2, p3)) within

pub laid_5 : (xs x1 x2 x3 x4 x5 : List ℕ) (at n1 n2 n3 n4 : ℕ) (a b c d e : List ℕ) → at ≤ length xs → x1 ≡ overlaid xs at a → n1 ≡ at + length a → x2 ≡ overlaid x1 n1 b → n2 ≡ n1 + length b → x3 ≡ overlaid x2 n2 c → n3 ≡ n2 + length c → x4 ≡ overlaid x3 n3 d → n4 ≡ n3 + length d → x5 ≡ overlaid x4 n4 e → x5 ≡ overlaid xs at (a ++ b ++ c ++ d ++ e)
laid_5 xs x1 x2 x3 x4 x5 at n1 n2 n3 n4 a b c d e within e1 p1 e2 p2 e3 p3 e4 p4 e5 =
    laid_on xs x4 x5 at n4 (a ++ b ++ c ++ d) e (laid_4 xs x1 x2 x3 x4 at n1 n2 n3 a b c d within e1 p1 e2 p2 e3 p3 e4) e5 (omega (arith, length-append a b, length-append (a ++ b) c, length-append (a ++ b ++ c) d, p1, p2, p3, p4)) within
