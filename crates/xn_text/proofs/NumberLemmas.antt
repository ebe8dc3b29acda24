-- The texts of decimal numbers.
use Rattle.std.proofs.Common.{◌≡◌, ◌≢◌, ℕ, zero, suc, ◌+◌, ◌*◌, ◌/◌, ◌%◌, ◌^◌, ◌<◌, ◌≤◌, true, List, [], ◌∷◌, ◌++◌, length, get_or, Result, Ok, Err, refl, sym, ap, ap₂, subst, ◌∙◌, inl, inr, arith, lit<, lit≤, add-one, length-append, false, replicate, append_assoc, append-nil, ◌-◌}
use Rattle.std.specs.Prelude.{MatchOption, decimal}
use Rattle.std.proofs.Math.Nat.{pow-suc, pow-le-pow_right}
use Rattle.std.proofs.lemmas.Bool.{cases_lt}
use Rattle.std.proofs.lemmas.List.{get_or_append_left, get_or_at, get_or_past, replicate_more, same_from_push}
use Rattle.std.specs.Result.{result_ok}
use Rattle.std.specs.Str.{all_ascii_digits, IsAscii}
use Rattle.std.specs.Fmt.{char_count, digits, digits_onto, format_spec, padded_integral}
use Rattle.std.proofs.lemmas.Bool.Decides.{eqb_tells}
use Rattle.std.specs.Str.Parse.{ParsesUnsigned, digits_value}
use Rattle.std.proofs.lemmas.Str.Parse.{IsNumeralModel, numerals_by_value, tells_all_ascii_digits, parse_plain, not_in_digits}
use Rattle.std.proofs.lemmas.Fmt.{digits_decimal, digits_value-decimal, decimal-digits_value, decimal_nonempty, first_decimal, decimal_digit, IsAscii-decimal}
use Rattle.xn_bytes.specs.Escapes.{hex_digit}
use Rattle.xn_bytes.proofs.EscapeLemmas.{one_digit}
use Rattle.xn_meaning.specs.Manifests.{hex_digits}
use Rattle.xn_meaning.specs.Words.{IsWord}
use Rattle.xn_meaning.specs.Replies.{space}
use Rattle.xn_text.specs.Numbers.{HasPlainFront, AreSmall}
use Rattle.xn_text.specs.Parts.{AreWords}

own : IsNumeralModel (λ ds. all_ascii_digits ds ≡ true) (digits_value 10)
own = numerals_by_value _ tells_all_ascii_digits

-- a text that begins with a zero is that of 0
zero_in_front : (n : ℕ) → n < 2 ^ 64 → get_or (decimal n) 0 0 ≡ 48 → length (decimal n) ≡ 1
zero_in_front zero h e = ap length (decimal_digit 0 (omega arith))
zero_in_front (suc n) h e = let above = first_decimal (suc n) (omega arith) h in absurd (omega (arith, above, e))

-- a number's text has no sign in front, and begins with a zero only if it is that digit
pub decimal_front : (n : ℕ) → n < 2 ^ 64 → HasPlainFront (decimal n)
decimal_front n h = record {
  no_sign = not_in_digits own (decimal n) 43 (digits_decimal own n h) (λ r. omega arith) 0 (decimal_nonempty n h);
  no_zero = zero_in_front n h;
}

-- what std's parse answers to a text with a plain front is the number whose text it is
pub parsed : {E : Type 0} (bs : List ℕ) (r : Result ℕ E) → ParsesUnsigned 64 10 bs r → HasPlainFront bs → MatchOption (result_ok r) ((n : ℕ) → n < 2 ^ 64 → bs ≢ decimal n) (λ n. bs ≡ decimal n)
parsed {E} bs (Ok x) h front =
    let k = parse_plain own {E = E} 64 bs (Ok x) h front.no_sign in
    sym (ap decimal k.1 ∙ decimal-digits_value own bs k.0.0 k.0.1 front.no_zero k.0.2)
parsed {E} bs (Err e) h front = λ n lt same.
    let value = digits_value-decimal own n lt in
    let P : List ℕ → Type 0 = λ ds. (all_ascii_digits ds ≡ true) × (0 < length ds) × (digits_value 10 ds < 2 ^ 64) in
    parse_plain own {E = E} 64 bs (Err e) h front.no_sign
    (subst P (sym same) (digits_decimal own n lt, decimal_nonempty n lt, omega arith))

-- a number's text is a word
pub decimal_word : (n : ℕ) → n < 2 ^ 64 → IsWord (decimal n)
decimal_word n h = record {
  some = decimal_nonempty n h;
  no_dash = not_in_digits own (decimal n) 45 (digits_decimal own n h) (λ r. omega arith) 0 (decimal_nonempty n h);
}

-- ---- hexadecimal digits

pub length-hex_digits : (count n : ℕ) → length (hex_digits count n) ≡ count
length-hex_digits zero n = refl
length-hex_digits (suc count) n = omega (arith, length-append (hex_digits count (n / 16)) (hex_digit (n % 16) ∷ []), length-hex_digits count (n / 16))

-- each of them is one
pub digit_at : (count n k : ℕ) → k < count → (d : ℕ) × (d < 16) × (get_or (hex_digits count n) k 0 ≡ hex_digit d)
digit_at zero n k within = absurd (omega (arith, within))
digit_at (suc count) n k within =
    elim (cases_lt k count) [
      | inl before ↦
          let d = digit_at count (n / 16) k before in
          (d.0, d.1, get_or_append_left (hex_digits count (n / 16)) (hex_digit (n % 16) ∷ []) 0 k (omega (arith, length-hex_digits count (n / 16), before)) ∙ d.2)
      | inr last ↦
          (n % 16, omega arith, get_or_at (hex_digits count (n / 16)) (hex_digit (n % 16)) [] 0 k (omega (arith, length-hex_digits count (n / 16), within, last)))
    ]

-- one digit more
pub one_more : (count n d : ℕ) → d < 16 → hex_digits (count + 1) (n * 16 + d) ≡ hex_digits count n ++ hex_digit d ∷ []
one_more count n d small =
    let next : count + 1 ≡ suc count = omega arith in
    let front : (n * 16 + d) / 16 ≡ n = omega arith in
    let last : (n * 16 + d) % 16 ≡ d = omega arith in
    ap (λ (c : ℕ). hex_digits c (n * 16 + d)) next
    ∙ ap₂ (λ (f l : ℕ). hex_digits count f ++ hex_digit l ∷ []) front last

-- so many digits tell the number
pub hex_injective : (count m n : ℕ) → m < 16 ^ count → n < 16 ^ count → hex_digits count m ≡ hex_digits count n → m ≡ n
hex_injective zero m n hm hn e = omega (arith, hm, hn)
hex_injective (suc count) m n hm hn e =
    let parts = same_from_push (hex_digits count (m / 16)) (hex_digits count (n / 16)) (hex_digit (m % 16)) (hex_digit (n % 16)) e in
    let last : m % 16 ≡ n % 16 = one_digit (m % 16) (n % 16) (omega arith) (omega arith) parts.1 in
    let power : 16 ^ suc count ≡ 16 ^ count * 16 = pow-suc 16 count in
    let front : m / 16 ≡ n / 16 = hex_injective count (m / 16) (n / 16) (omega (arith, hm, power)) (omega (arith, hn, power)) parts.0 in
    omega arith

-- a number of fewer than 16 digits takes one more
pub fits_digit : (k n d : ℕ) → k < 16 → n < 16 ^ k → d < 16 → n * 16 + d < 16 ^ (k + 1)
fits_digit k n d few small digit =
    let power : 16 ^ (k + 1) ≡ 16 ^ k * 16 = ap (λ (e : ℕ). 16 ^ e) (add-one k) ∙ pow-suc 16 k in
    omega (arith, small, digit, power)

pub fits_mask : (k n d : ℕ) → k < 16 → n < 16 ^ k → d < 16 → n * 16 + d < 2 ^ 64
fits_mask k n d few small digit =
    let more : n * 16 + d < 16 ^ (k + 1) = fits_digit k n d few small digit in
    let most : 16 ^ (k + 1) ≤ 16 ^ 16 = pow-le-pow_right (lit< tt) {i = k + 1} {j = 16} (omega arith) in
    omega (arith, more, most)

-- ---- numbers as words

-- a front's word is one as well
pub tail_words : (x : ℕ) (first second : List ℕ) → AreWords (x ∷ first) second → AreWords first second
tail_words x first second are = record {
  first_ascii = λ k. are.first_ascii (suc k);
  second_ascii = are.second_ascii;
  no_space = λ k within. are.no_space (suc k) (omega (arith, within));
}

no_space : (n : ℕ) → n < 2 ^ 64 → (k : ℕ) → k < length (decimal n) → get_or (decimal n) k 0 ≢ space
no_space n small = not_in_digits own (decimal n) space (digits_decimal own n small) (λ r. omega arith)

digit_ascii : (d : ℕ) → d < 16 → hex_digit d < 128
digit_ascii d small = grind arith

hex_ascii : (count n : ℕ) → IsAscii (hex_digits count n)
hex_ascii count n k =
    elim (cases_lt k count) [
      | inl within ↦ let d = digit_at count n k within in let small : hex_digit d.0 < 128 = digit_ascii d.0 d.1 in omega (arith, d.2, small)
      | inr past ↦ omega (arith, get_or_past (hex_digits count n) k 0 (omega (arith, length-hex_digits count n, past)))
    ]

pub decimal_words : (pair : ℕ × ℕ) → AreSmall pair → AreWords (decimal pair.0) (decimal pair.1)
decimal_words pair small = record {
  first_ascii = IsAscii-decimal pair.0 small.0;
  second_ascii = IsAscii-decimal pair.1 small.1;
  no_space = no_space pair.0 small.0;
}

pub mask_words : (pair : ℕ × ℕ) → AreSmall pair → AreWords (decimal pair.0) (hex_digits 16 pair.1)
mask_words pair small = record {
  first_ascii = IsAscii-decimal pair.0 small.0;
  second_ascii = hex_ascii 16 pair.1;
  no_space = no_space pair.0 small.0;
}

-- ---- hexadecimal digits as std writes them

zeros : (count : ℕ) → hex_digits count 0 ≡ replicate count 48
zeros zero = refl
zeros (suc count) =
    let next : count + 1 ≡ suc count = omega arith in
    ap (λ (front : List ℕ). front ++ 48 ∷ []) (zeros count) ∙ replicate_more count 48 ∙ ap (λ (n : ℕ). replicate n 48) next

some_digits : (count n : ℕ) → n < 16 ^ count → n ≢ 0 → 0 < count
some_digits zero n small some = absurd (some (omega (arith, small)))
some_digits (suc count) n small some = omega arith

-- what is short of so many digits are zeros
record ArePadded (digits behind wanted : List ℕ) (count : ℕ) : Type 0 where
  few : length digits ≤ count + length behind
  same : replicate (count + length behind - length digits) 48 ++ digits ≡ wanted ++ behind

padded_digits : (fuel count n : ℕ) (behind : List ℕ) → count ≤ fuel → 0 < count → n < 16 ^ count → ArePadded (digits_onto fuel 16 false n behind) behind (hex_digits count n) count
padded_digits zero count n behind le some small = absurd (omega (arith, le, some))
padded_digits (suc fuel) zero n behind le some small = absurd (omega (arith, some))
padded_digits (suc fuel) (suc count) n behind le some small =
    elim (eqb_tells (n / 16) 0) [
      | inl equal ↦
          let left : suc count + length behind - suc (length behind) ≡ count = omega arith in
          rw equal.0 (record {
            few = omega arith;
            same =
                ap (λ (k : ℕ). replicate k 48 ++ hex_digit (n % 16) ∷ behind) left
                ∙ ap (λ (front : List ℕ). front ++ hex_digit (n % 16) ∷ behind) (sym (zeros count) ∙ ap (hex_digits count) (sym equal.1))
                ∙ sym (append_assoc (hex_digits count (n / 16)) (hex_digit (n % 16) ∷ []) behind);
          })
      | inr differ ↦
          let power : 16 ^ suc count ≡ 16 ^ count * 16 = pow-suc 16 count in
          let front : n / 16 < 16 ^ count = omega (arith, small, power) in
          let rest = padded_digits fuel count (n / 16) (hex_digit (n % 16) ∷ behind) (omega (arith, le)) (some_digits count (n / 16) front differ.1) front in
          let left : suc count + length behind - length (digits_onto fuel 16 false (n / 16) (hex_digit (n % 16) ∷ behind)) ≡ count + suc (length behind) - length (digits_onto fuel 16 false (n / 16) (hex_digit (n % 16) ∷ behind)) = omega arith in
          rw differ.0 (record {
            few = omega (arith, rest.few);
            same =
                ap (λ (k : ℕ). replicate k 48 ++ digits_onto fuel 16 false (n / 16) (hex_digit (n % 16) ∷ behind)) left
                ∙ rest.same
                ∙ sym (append_assoc (hex_digits count (n / 16)) (hex_digit (n % 16) ∷ []) behind);
          })
    ]

digits_are : (n : ℕ) → digits 16 false n ≡ digits_onto 64 16 false n []
unfolding digits
digits_are n = refl

all_digits : (n : ℕ) → n < 2 ^ 64 → replicate (16 - length (digits 16 false n)) 48 ++ digits 16 false n ≡ hex_digits 16 n
all_digits n small =
    let padded = padded_digits 64 16 n [] (lit≤ tt) (lit< tt) small in
    ap (λ (ds : List ℕ). replicate (16 - length ds) 48 ++ ds) (digits_are n) ∙ padded.same

with_zeros : (ds : List ℕ) → padded_integral (format_spec 32 0 4 16 (2 ^ 64 - 1)) false [] ds ≡ replicate (16 - length ds) 48 ++ ds
unfolding padded_integral char_count
with_zeros ds =
    let short : 16 - length ds - 0 - 0 ≡ 16 - length ds = omega arith in
    ap (λ (k : ℕ). replicate k 48 ++ (ds ++ [])) short ∙ ap (λ (t : List ℕ). replicate (16 - length ds) 48 ++ t) (append-nil ds)

-- what `{:016x}` writes
pub mask_text : (n : ℕ) → n < 2 ^ 64 → padded_integral (format_spec 32 0 4 16 (2 ^ 64 - 1)) false [] (digits 16 false n) ≡ hex_digits 16 n
mask_text n small = with_zeros (digits 16 false n) ∙ all_digits n small
