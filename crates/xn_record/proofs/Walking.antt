-- Operations, one behind the other, walked by their places.
use Rattle.std.proofs.Common.{◌≡◌, ℕ, suc, ◌+◌, ◌-◌, ◌<◌, ◌≤◌, Bool, true, false, List, length, drop, Some, None, ◌&&◌, refl, sym, ap, ◌∙◌, arith, length-drop, subst}
use Rattle.std.specs.Prelude.{nat_le, is_some, if◌then◌else◌}
use Rattle.std.proofs.lemmas.List.{drop-drop}
use Rattle.std.proofs.lemmas.Bool.Decides.{nat_tests}
use Rattle.xn_bytes.specs.Numbers.{number_at}
use Rattle.xn_log.specs.Records.{are_whole, body_of, count_in, holds_unmount, is_unmount, operation_in, operation_size}
use Rattle.xn_record.specs.Bodies.{operation_end}

-- whether the operation at the front stands whole
abbrev stands : List ℕ → Bool
stands body = nat_le 12 (length body) && nat_le (operation_size body) (length body)

-- a number behind a place
pub number_behind : (width at more : ℕ) (body : List ℕ) → number_at width more (drop at body) ≡ number_at width (at + more) body
unfolding number_at
number_behind width at more body = rw drop-drop refl

-- ---- where the operation at a place ends

pub end_short : (body : List ℕ) (place : ℕ) → length body < place + 12 → operation_end body place ≡ None
end_short body place h =
    let left : length (drop place body) ≡ length body - place = length-drop place body in
    let no : nat_le 12 (length (drop place body)) ≡ false = grind (arith, nat_tests) in
    rw no refl

pub end_there : (body : List ℕ) (place number : ℕ) → number ≡ number_at 4 (place + 4) body → place + (12 + number) ≤ length body → operation_end body place ≡ Some (place + (12 + number))
end_there body place number e h =
    let left : length (drop place body) ≡ length body - place = length-drop place body in
    let read : number_at 4 4 (drop place body) ≡ number = number_behind 4 place 4 body ∙ sym e in
    let header : nat_le 12 (length (drop place body)) ≡ true = grind (arith, nat_tests) in
    let whole : nat_le (12 + number) (length (drop place body)) ≡ true = grind (arith, nat_tests) in
    rw (read, header, whole) refl

pub end_cut : (body : List ℕ) (place number : ℕ) → number ≡ number_at 4 (place + 4) body → length body < place + (12 + number) → operation_end body place ≡ None
end_cut body place number e h =
    let left : length (drop place body) ≡ length body - place = length-drop place body in
    let read : number_at 4 4 (drop place body) ≡ number = number_behind 4 place 4 body ∙ sym e in
    let cut : nat_le (12 + number) (length (drop place body)) ≡ false = grind (arith, nat_tests) in
    let P : Bool → Type 0 = λ b. (if nat_le 12 (length (drop place body)) && b then Some (place + (12 + number)) else None) ≡ None in
    rw read (subst P (sym cut) (elim (nat_le 12 (length (drop place body))) as (λ b. (if b && false then Some (place + (12 + number)) else None) ≡ None) [ true ↦ refl | false ↦ refl ]))

-- ---- what that says of the operations from there on

chosen : (b : Bool) (x end : ℕ) → (if b then Some x else None) ≡ Some end → (b ≡ true) × (x ≡ end)
chosen true x end e = (refl, cc)
chosen false x end e = absurd cc

not_chosen : (b : Bool) (x : ℕ) → (if b then Some x else None) ≡ None → b ≡ false
not_chosen true x e = absurd cc
not_chosen false x e = refl

pub both : (a b : Bool) → (a && b) ≡ true → (a ≡ true) × (b ≡ true)
both true true e = (refl, refl)
both true false e = absurd cc
both false b e = absurd cc

pub whole_more : (body : List ℕ) (place end count : ℕ) → Some end ≡ operation_end body place → are_whole (suc count) (drop place body) ≡ are_whole count (drop end body)
unfolding are_whole
whole_more body place end count e =
    let rest : List ℕ = drop place body in
    let c = chosen (stands rest) (place + operation_size rest) end (sym e) in
    rw c.0 (ap (are_whole count) (drop-drop (operation_size rest) place body ∙ ap (λ (at : ℕ). drop at body) c.1))

pub whole_none : (body : List ℕ) (place count : ℕ) → None ≡ operation_end body place → are_whole (suc count) (drop place body) ≡ false
unfolding are_whole
whole_none body place count e =
    let rest : List ℕ = drop place body in
    let no = not_chosen (stands rest) (place + operation_size rest) (sym e) in
    rw no refl

pub end_within : (body : List ℕ) (place end : ℕ) → place ≤ length body → Some end ≡ operation_end body place → (place + 12 ≤ end) × (end ≤ length body)
end_within body place end h e =
    let rest : List ℕ = drop place body in
    let c = chosen (stands rest) (place + operation_size rest) end (sym e) in
    let b = both (nat_le 12 (length rest)) (nat_le (operation_size rest) (length rest)) c.0 in
    let left : length rest ≡ length body - place = length-drop place body in
    let size : operation_size rest ≤ length rest = grind (arith, nat_tests, b.1) in
    let header : 12 ≤ length rest = grind (arith, nat_tests, b.0) in
    (omega (arith, c.1), omega (arith, c.1))

pub first_whole : (body : List ℕ) → is_some (operation_end body 0) ≡ are_whole 1 body
unfolding are_whole
first_whole body = elim (stands body) as (λ b. is_some (if b then Some (0 + operation_size body) else None) ≡ b && true) [ true ↦ refl | false ↦ refl ]

-- the first operation stands whole and is the unmount operation, and is the only one
pub unmount_if : (bytes : List ℕ) (is_whole is_it : Bool) → count_in bytes ≡ 1 → is_whole ≡ are_whole 1 (body_of bytes) → is_it ≡ is_unmount (operation_in (body_of bytes)) → holds_unmount bytes ≡ (is_whole && is_it)
unmount_if bytes is_whole is_it one whole it = rw (one, ← whole, ← it) refl

pub no_more : (body : List ℕ) → true ≡ are_whole 0 body
unfolding are_whole
no_more body = refl
