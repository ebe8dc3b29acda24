-- Operations are read as they were spelled.
use Rattle.std.proofs.Common.{◌≡◌, ℕ, suc, ◌+◌, ◌-◌, ◌^◌, ◌<◌, ◌≤◌, Bool, true, List, [], ◌∷◌, ◌++◌, length, drop, ◌&&◌, refl, sym, ap, ◌∙◌, arith, length-append}
use Rattle.std.specs.Prelude.{All, nat_le, slice_range}
use Rattle.std.proofs.lemmas.List.{drop_at, take_at}
use Rattle.std.proofs.lemmas.Bool.Decides.{nat_tests}
use Rattle.byteorder.specs.Numbers.{big_number-reads_back}
use Rattle.xn_bytes.specs.Numbers.{number_at}
use Rattle.xn_bytes.proofs.NumberLemmas.{one_byte}
use Rattle.xn_log.specs.Records.{are_whole, operation_in, operation_size, operations_in}
use Rattle.xn_log.specs.Spelled.{greatest_spelled, operation_spelling, operations_spelling}
use Rattle.xn_log.specs.declared.operation.Op.{Op}
use Rattle.xn_record.proofs.Appending.{length-operation_spelling}

size_read : (op : Op) (rest : List ℕ) → length op.bytes ≤ greatest_spelled → operation_size (operation_spelling op ++ rest) ≡ 12 + length op.bytes
unfolding number_at
size_read op rest few = ap (λ (n : ℕ). 12 + n) (big_number-reads_back 4 (length op.bytes) [] (omega arith))

rest_read : (op : Op) (rest : List ℕ) → length op.bytes ≤ greatest_spelled → drop (operation_size (operation_spelling op ++ rest)) (operation_spelling op ++ rest) ≡ rest
rest_read op rest few =
    drop_at (operation_spelling op) rest (operation_size (operation_spelling op ++ rest)) (length-operation_spelling op ∙ sym (size_read op rest few))

tid_read : (op : Op) (rest : List ℕ) → op.tid < 2 ^ 32 → number_at 4 0 (operation_spelling op ++ rest) ≡ op.tid
unfolding number_at
tid_read op rest small = big_number-reads_back 4 op.tid [] (omega arith)

bytes_read : (op : Op) (rest : List ℕ) → length op.bytes ≤ greatest_spelled → slice_range (operation_spelling op ++ rest) 12 (operation_size (operation_spelling op ++ rest)) ≡ op.bytes
bytes_read op rest few =
    take_at op.bytes rest (operation_size (operation_spelling op ++ rest) - 12) (omega (arith, size_read op rest few))

op_of : ℕ → ℕ → ℕ → List ℕ → Op
op_of tid client flags bytes = record { tid = tid; client = client; flags = flags; bytes = bytes }

op_read : (op : Op) (rest : List ℕ) → op.tid < 2 ^ 32 → length op.bytes ≤ greatest_spelled → operation_in (operation_spelling op ++ rest) ≡ op
unfolding op_of
op_read op rest small few =
    let body : List ℕ = operation_spelling op ++ rest in
    ap (λ (tid : ℕ). op_of tid (number_at 1 8 body) (number_at 1 9 body) (slice_range body 12 (operation_size body))) (tid_read op rest small)
    ∙ ap (λ (client : ℕ). op_of op.tid client (number_at 1 9 body) (slice_range body 12 (operation_size body))) (one_byte 8 body)
    ∙ ap (λ (flags : ℕ). op_of op.tid op.client flags (slice_range body 12 (operation_size body))) (one_byte 9 body)
    ∙ ap (λ (bytes : List ℕ). op_of op.tid op.client op.flags bytes) (bytes_read op rest few)

front_stands : (op : Op) (rest : List ℕ) → length op.bytes ≤ greatest_spelled → (nat_le 12 (length (operation_spelling op ++ rest)) && nat_le (operation_size (operation_spelling op ++ rest)) (length (operation_spelling op ++ rest))) ≡ true
front_stands op rest few =
    let body : List ℕ = operation_spelling op ++ rest in
    let long : length body ≡ length (operation_spelling op) + length rest = length-append (operation_spelling op) rest in
    let own : length (operation_spelling op) ≡ 12 + length op.bytes = length-operation_spelling op in
    let size : operation_size body ≡ 12 + length op.bytes = size_read op rest few in
    let header : nat_le 12 (length body) ≡ true = grind (arith, nat_tests) in
    let whole : nat_le (operation_size body) (length body) ≡ true = grind (arith, nat_tests) in
    rw (header, whole) refl

pub whole_spelled : (ops : List Op) → length (operations_spelling ops) ≤ greatest_spelled → are_whole (length ops) (operations_spelling ops) ≡ true
unfolding are_whole
whole_spelled [] few = refl
whole_spelled (op ∷ ops) few =
    let rest : List ℕ = operations_spelling ops in
    let long = length-append (operation_spelling op) rest in
    let own = length-operation_spelling op in
    ap (λ (b : Bool). b && are_whole (length ops) (drop (operation_size (operation_spelling op ++ rest)) (operation_spelling op ++ rest))) (front_stands op rest (omega arith))
    ∙ ap (are_whole (length ops)) (rest_read op rest (omega arith))
    ∙ whole_spelled ops (omega arith)

pub ops_spelled : (ops : List Op) → length (operations_spelling ops) ≤ greatest_spelled → All (λ op. op.tid < 2 ^ 32) ops → operations_in (length ops) (operations_spelling ops) ≡ ops
unfolding operations_in
ops_spelled [] few small = refl
ops_spelled (op ∷ ops) few small =
    let rest : List ℕ = operations_spelling ops in
    let long = length-append (operation_spelling op) rest in
    let own = length-operation_spelling op in
    ap (λ (first : Op). first ∷ operations_in (length ops) (drop (operation_size (operation_spelling op ++ rest)) (operation_spelling op ++ rest))) (op_read op rest (small 0 op (omega arith)) (omega arith))
    ∙ ap (λ (body : List ℕ). op ∷ operations_in (length ops) body) (rest_read op rest (omega arith))
    ∙ ap (λ (others : List Op). op ∷ others) (ops_spelled ops (omega arith) (λ k other lt. small (suc k) other (omega arith)))
