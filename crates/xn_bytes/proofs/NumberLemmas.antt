-- Numbers at places in bytes.
use Rattle.std.proofs.Common.{◌≡◌, ℕ, ◌+◌, ◌-◌, ◌^◌, ◌<◌, ◌≤◌, List, [], ◌++◌, length, take, drop, get_or, slice_index, refl, sym, ap, ◌∙◌, arith, add-zero, append_assoc}
use Rattle.std.proofs.lemmas.List.{get_or-drop}
use Rattle.byteorder.specs.Endian.{little_bytes, little_number}
use Rattle.byteorder.specs.Numbers.{little_number-reads_back}
use borrow.Rule.Slice.PartMut.{put_mid}
use Rattle.std.proofs.lemmas.List.{drop_all, take_all, drop-drop, append-nil, length-drop, length-take, length-append, take_at, drop_at}
use Rattle.xn_bytes.specs.Numbers.{number_at, little_number_at, overlaid}

-- the number of one byte is that byte
pub one_byte : (at : ℕ) (bytes : List ℕ) → number_at 1 at bytes ≡ slice_index bytes at
unfolding number_at
one_byte at bytes = let e : get_or (drop at bytes) 0 0 ≡ get_or bytes at 0 = rw (get_or-drop, add-zero) refl in omega (arith, e)

-- a piece written at the front of what is left from a place on is laid over the bytes there
pub laid : (xs : List ℕ) (at n : ℕ) (over ys : List ℕ) → length over ≡ n → at + n ≤ length xs → ys ≡ over ++ drop n (take (length xs - at) (drop at xs)) → put_mid at (length xs - at) xs ys ≡ overlaid xs at over
laid xs at n over ys e h written =
    let none : drop (length xs - at) (drop at xs) ≡ [] = drop_all (length xs - at) (drop at xs) (omega (arith, length-drop at xs)) in
    let all : take (length xs - at) (drop at xs) ≡ drop at xs = take_all (length xs - at) (drop at xs) (omega (arith, length-drop at xs)) in
    let rest : drop n (drop at xs) ≡ drop (at + length over) xs = rw (drop-drop, e) refl in
    rw (written, all, none, append-nil, rest) (sym (append_assoc (take at xs) over (drop (at + length over) xs)))

-- what was laid over is laid over again
pub overlaid-overlaid : (xs : List ℕ) (at : ℕ) (first second : List ℕ) → length first ≡ length second → at + length first ≤ length xs → overlaid (overlaid xs at first) at second ≡ overlaid xs at second
overlaid-overlaid xs at first second e h =
    let front : length (take at xs) ≡ at = omega (arith, length-take at xs) in
    let taken : take at (overlaid xs at first) ≡ take at xs = rw append_assoc (take_at (take at xs) (first ++ drop (at + length first) xs) at front) in
    let both : length (take at xs ++ first) ≡ at + length second = omega (arith, length-append (take at xs) first) in
    let left : drop (at + length second) (overlaid xs at first) ≡ drop (at + length first) xs = drop_at (take at xs ++ first) (drop (at + length first) xs) (at + length second) both in
    rw (taken, left, e) refl

-- the number that was laid down is read again
pub little_number_at-overlaid : (xs : List ℕ) (at n : ℕ) → n < 2 ^ 32 → at + 4 ≤ length xs → little_number_at 4 at (overlaid xs at (little_bytes 4 n)) ≡ n
unfolding little_number_at
little_number_at-overlaid xs at n small h =
    let front : length (take at xs) ≡ at = omega (arith, length-take at xs) in
    let there : drop at (overlaid xs at (little_bytes 4 n)) ≡ little_bytes 4 n ++ drop (at + 4) xs = rw append_assoc (drop_at (take at xs) (little_bytes 4 n ++ drop (at + 4) xs) at front) in
    ap (little_number 4) there ∙ little_number-reads_back 4 n (drop (at + 4) xs) small
