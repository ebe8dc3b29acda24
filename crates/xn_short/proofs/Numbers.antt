-- Numbers that are read from bytes, and the bytes that they are written in.
use Rattle.std.proofs.Common.{◌≡◌, ℕ, ◌+◌, ◌^◌, ◌<◌, ◌≤◌, List, length, get_or, take, drop, arith, inl, inr}
use Rattle.std.proofs.lemmas.Bool.{cases_lt}
use Rattle.std.proofs.lemmas.List.{length-take, length-take-le, get_or-drop, get_or-take, get_or_past}
use Rattle.std.proofs.lemmas.Nat.{be_bytes_2, be_bytes_4, be_bytes_8}
use Rattle.byteorder.specs.Endian.{big_number, big_bytes}
use Rattle.byteorder.specs.Numbers.{big_from-take}

abbrev pub IsBytes : List ℕ → Type 0
IsBytes bytes = (i : ℕ) → get_or bytes i 0 < 256

pub IsBytes-drop : (n : ℕ) (bytes : List ℕ) → IsBytes bytes → IsBytes (drop n bytes)
IsBytes-drop n bytes h i = rw get_or-drop (h (n + i))

pub IsBytes-take : (n : ℕ) (bytes : List ℕ) → IsBytes bytes → IsBytes (take n bytes)
IsBytes-take n bytes h i =
    elim (cases_lt i n) [
      | inl lt ↦ rw (get_or-take n bytes i 0 lt) (h i)
      | inr le ↦ rw (get_or_past (take n bytes) i 0 (omega (arith, length-take n bytes))) (omega arith)
    ]

-- at this width, what is read is written again
pub record IsWidth (width : ℕ) : Type 0 where
  pub back : (bytes : List ℕ) → IsBytes bytes → width ≤ length bytes → big_bytes width (big_number width bytes) ≡ take width bytes
  pub below : 256 ^ width ≤ 2 ^ 64
  pub some : 2 ≤ width

pub two_bytes : IsWidth 2
two_bytes = record {
  back = λ bytes fits long.
      let e = big_from-take 0 2 2 bytes (omega arith) in
      be_bytes_2 (take 2 bytes) (big_number 2 bytes) (length-take-le 2 bytes long) (IsBytes-take 2 bytes fits) (omega (arith, e));
  below = omega arith;
  some = omega arith;
}

pub four_bytes : IsWidth 4
four_bytes = record {
  back = λ bytes fits long.
      let e = big_from-take 0 4 4 bytes (omega arith) in
      be_bytes_4 (take 4 bytes) (big_number 4 bytes) (length-take-le 4 bytes long) (IsBytes-take 4 bytes fits) (omega (arith, e));
  below = omega arith;
  some = omega arith;
}

pub eight_bytes : IsWidth 8
eight_bytes = record {
  back = λ bytes fits long.
      let e = big_from-take 0 8 8 bytes (omega arith) in
      be_bytes_8 (take 8 bytes) (big_number 8 bytes) (length-take-le 8 bytes long) (IsBytes-take 8 bytes fits) (omega (arith, e));
  below = omega arith;
  some = omega arith;
}
