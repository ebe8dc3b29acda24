-- Outlines in falling order of their sequence numbers.
use Rattle.std.proofs.Common.{◌≡◌, ℕ, zero, suc, ◌+◌, ◌-◌, ◌<◌, ◌≤◌, List, length, get_or, ap, subst, arith}
use Rattle.std.specs.Ordering.{nat_cmp}
use Rattle.std.specs.List.Sorted.{IsPermutation, IsSortedByKey}
use Rattle.std.specs.declared.cmp.Reverse.{Reverse}
use Rattle.std.proofs.lemmas.Map.Keys.{ge_from_not_lt}
use Rattle.xn_log.specs.declared.outline.Outline.{Outline}
use Rattle.xn_ring.specs.Chains.{lsn_told}
use Rattle.xn_ring.specs.Labels.{AreNewestFirst}

-- the key by which they are put in order
abbrev pub newest_key : Outline → Reverse ℕ
newest_key o = record { 0 = lsn_told o }

abbrev pub by_newest_key : List Outline → Type 0
by_newest_key newest = IsSortedByKey newest_key (λ (x y : Reverse ℕ). nat_cmp y.0 x.0) newest

neighbours_fall : (newest : List Outline) → by_newest_key newest → (k : ℕ) (d : Outline) → k + 1 < length newest → lsn_told (get_or newest (k + 1) d) ≤ lsn_told (get_or newest k d)
neighbours_fall newest sorted k d within = ge_from_not_lt (lsn_told (get_or newest k d)) (lsn_told (get_or newest (k + 1) d)) (sorted k d (omega arith) within)

falls_over : (newest : List Outline) → by_newest_key newest → (i n : ℕ) (d : Outline) → i + n < length newest → lsn_told (get_or newest (i + n) d) ≤ lsn_told (get_or newest i d)
falls_over newest sorted i zero d within = let e : i + 0 ≡ i = omega arith in let f : lsn_told (get_or newest (i + 0) d) ≡ lsn_told (get_or newest i d) = ap (λ k. lsn_told (get_or newest k d)) e in omega arith
falls_over newest sorted i (suc n) d within =
    let before : lsn_told (get_or newest (i + n) d) ≤ lsn_told (get_or newest i d) = falls_over newest sorted i n d (omega arith) in
    let last : lsn_told (get_or newest (i + n + 1) d) ≤ lsn_told (get_or newest (i + n) d) = neighbours_fall newest sorted (i + n) d (omega arith) in
    let e : i + suc n ≡ i + n + 1 = omega arith in
    let f : lsn_told (get_or newest (i + suc n) d) ≡ lsn_told (get_or newest (i + n + 1) d) = ap (λ k. lsn_told (get_or newest k d)) e in
    omega arith

pub in_order : (outlines copied newest : List Outline) → copied ≡ outlines → IsPermutation copied newest → by_newest_key newest → AreNewestFirst outlines newest
in_order outlines copied newest same moved sorted = record {
  same = subst (λ os. IsPermutation os newest) same moved;
  fall = λ i j d le lt.
      let n : ℕ = j - i in
      let e : i + n ≡ j = omega arith in
      let f : lsn_told (get_or newest (i + n) d) ≡ lsn_told (get_or newest j d) = ap (λ k. lsn_told (get_or newest k d)) e in
      let over : lsn_told (get_or newest (i + n) d) ≤ lsn_told (get_or newest i d) = falls_over newest sorted i n d (omega arith) in
      omega arith;
}
