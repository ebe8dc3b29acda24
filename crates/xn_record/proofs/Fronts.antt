-- Numbers and pieces of bytes, read from the front of the bytes.
use Rattle.std.proofs.Common.{◌≡◌, ℕ, ◌+◌, ◌-◌, ◌≤◌, List, take, drop, sym, ap, ◌∙◌, arith}
use Rattle.std.specs.Prelude.{slice_range}
use Rattle.std.proofs.lemmas.List.{drop-take, take-take}
use Rattle.byteorder.specs.Endian.{big_number, little_number}
use Rattle.byteorder.specs.Numbers.{big_from-take, little_from-take}
use Rattle.xn_bytes.specs.Numbers.{number_at, little_number_at}

pub drop-of_take : (n at : ℕ) (xs : List ℕ) → at ≤ n → drop at (take n xs) ≡ take (n - at) (drop at xs)
drop-of_take n at xs h =
    let whole : n ≡ at + (n - at) = omega arith in
    ap (λ (m : ℕ). drop at (take m xs)) whole ∙ drop-take at (n - at) xs

pub slice_range-take : (n from to : ℕ) (xs : List ℕ) → from ≤ to → to ≤ n → slice_range (take n xs) from to ≡ slice_range xs from to
slice_range-take n from to xs order h =
    ap (take (to - from)) (drop-of_take n from xs (omega arith)) ∙ take-take (to - from) (n - from) (drop from xs) (omega arith)

pub number_at-take : (width at n : ℕ) (xs : List ℕ) → at + width ≤ n → number_at width at (take n xs) ≡ number_at width at xs
unfolding number_at
number_at-take width at n xs h =
    ap (big_number width) (drop-of_take n at xs (omega arith)) ∙ big_from-take 0 width (n - at) (drop at xs) (omega arith)

pub little_number_at-take : (width at n : ℕ) (xs : List ℕ) → at + width ≤ n → little_number_at width at (take n xs) ≡ little_number_at width at xs
unfolding little_number_at
little_number_at-take width at n xs h =
    ap (little_number width) (drop-of_take n at xs (omega arith)) ∙ little_from-take 0 width (n - at) (drop at xs) (omega arith)

-- bytes with the same front have the same numbers there
pub number_same : (width at n : ℕ) (xs ys : List ℕ) → at + width ≤ n → take n xs ≡ take n ys → number_at width at xs ≡ number_at width at ys
number_same width at n xs ys h same =
    sym (number_at-take width at n xs h) ∙ ap (number_at width at) same ∙ number_at-take width at n ys h
