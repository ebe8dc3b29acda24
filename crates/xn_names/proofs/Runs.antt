-- The elements of which a number is one, in a list that is sorted by that number: one run.
use Rattle.std.proofs.Common.{◌≡◌, ℕ, ◌+◌, ◌-◌, ◌<◌, ◌≤◌, Bool, true, false, List, ◌++◌, length, get_or, take, drop, sym, ap, ◌∙◌, arith, append-nil, eq-eqb, ne_eqb}
use Rattle.std.specs.Prelude.{◌==◌, All, filter}
use Rattle.std.specs.List.Sorted.{IsPartitionPoint}
use Rattle.std.proofs.lemmas.List.{take-append-drop, length-take-le, length-drop, get_or-take, get_or-drop}
use Rattle.std.proofs.lemmas.List.Elements.{filter-append}
use Rattle.xn_names.proofs.Filtered.{filter_none, filter_each}

-- a filter of a list in three parts, of which the middle one passes
three_parts : {X : Type 0} (p : X → Bool) (xs ys zs : List X) → All (λ x. p x ≡ false) xs → All (λ x. p x ≡ true) ys → All (λ x. p x ≡ false) zs → filter p (xs ++ (ys ++ zs)) ≡ ys
three_parts p xs ys zs before within behind =
    rw (filter-append p xs (ys ++ zs), filter-append p ys zs, filter_none p xs before, filter_each p ys within, filter_none p zs behind) (append-nil ys)

pub run_of_filter : {X : Type 0} (n : X → ℕ) (t : ℕ) (xs : List X) (start : ℕ) (ys : List X) (count : ℕ) → start ≤ length xs → ys ≡ drop start xs
    → IsPartitionPoint (λ y. n y < t) (λ y. t ≤ n y) xs start
    → count ≤ length ys → IsPartitionPoint (λ y. n y ≤ t) (λ y. t < n y) ys count
    → take count ys ≡ filter (λ y. n y == t) xs
run_of_filter {X} n t xs start ys count within are first few last =
    let whole : take start xs ++ (take count ys ++ drop count ys) ≡ xs = rw (take-append-drop count ys, are) (take-append-drop start xs) in
    let long : length ys ≡ length xs - start = rw are (length-drop start xs) in
    let before : All (λ y. (n y == t) ≡ false) (take start xs) = λ k d lt.
    let k_lt : k < start = rw (length-take-le start xs within) at lt in
    let below : n (get_or xs k d) < t = first.0 k d (omega arith) k_lt in
    rw (get_or-take start xs k d k_lt) (ne_eqb (n (get_or xs k d)) t (λ e. omega arith)) in
    let here : All (λ y. (n y == t) ≡ true) (take count ys) = λ k d lt.
    let k_lt : k < count = rw (length-take-le count ys few) at lt in
    let upto : n (get_or ys k d) ≤ t = last.0 k d (omega arith) k_lt in
    let place : get_or ys k d ≡ get_or xs (start + k) d = rw are (get_or-drop start xs k d) in
    let from : t ≤ n (get_or xs (start + k) d) = first.1 (start + k) d (omega arith) (omega arith) in
    let no_less : t ≤ n (get_or ys k d) = rw place from in
    rw (get_or-take count ys k d k_lt) (eq-eqb (n (get_or ys k d)) t (omega arith)) in
    let behind : All (λ y. (n y == t) ≡ false) (drop count ys) = λ k d lt.
    let shown : k < length ys - count = rw (length-drop count ys) at lt in
    let above : t < n (get_or ys (count + k) d) = last.1 (count + k) d (omega arith) (omega arith) in
    rw (get_or-drop count ys k d) (ne_eqb (n (get_or ys (count + k) d)) t (λ e. omega arith)) in
    sym (ap (filter (λ y. n y == t)) (sym whole) ∙ three_parts (λ y. n y == t) (take start xs) (take count ys) (drop count ys) before here behind)
