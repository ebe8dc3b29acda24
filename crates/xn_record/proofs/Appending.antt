-- Pieces put one behind the other.
use Rattle.std.proofs.Common.{◌≡◌, ℕ, zero, suc, ◌+◌, ◌*◌, ◌<◌, ◌≤◌, List, [], ◌∷◌, ◌++◌, length, take, get_or, sym, ap, ◌∙◌, arith, add-zero, append_assoc, length-append}
use Rattle.std.specs.Prelude.{slice_range}
use Rattle.std.proofs.lemmas.List.{append-nil, flat_map_more, take_more}
use Rattle.byteorder.specs.Endian.{big_bytes}
use Rattle.xn_log.specs.Spelled.{first_words, operation_spelling, operations_spelling, stamped_from}
use Rattle.xn_log.specs.declared.operation.Op.{Op}

pub nothing_more : (old : List ℕ) → old ≡ old ++ []
nothing_more old = sym (append-nil old)

-- ---- operations

pub length-operation_spelling : (op : Op) → length (operation_spelling op) ≡ 12 + length op.bytes
length-operation_spelling op = omega arith

pub one_of_all : (ops : List Op) (op : Op) (index : ℕ) → index < length ops → length (operation_spelling (get_or ops index op)) ≤ length (operations_spelling ops)
one_of_all [] op index h = absurd (omega arith)
one_of_all (first ∷ ops) op zero h = omega (arith, length-append (operation_spelling first) (operations_spelling ops))
one_of_all (first ∷ ops) op (suc index) h = omega (arith, length-append (operation_spelling first) (operations_spelling ops), one_of_all ops op index (omega arith))

pub operations_more : (old now next : List ℕ) (ops : List Op) (op : Op) (index : ℕ) → index < length ops → op ≡ get_or ops index op
    → now ≡ old ++ operations_spelling (take index ops) → next ≡ now ++ operation_spelling op → next ≡ old ++ operations_spelling (take (index + 1) ops)
operations_more old now next ops op index h here so_far more =
    more ∙ ap (λ (front : List ℕ). front ++ operation_spelling op) so_far
    ∙ flat_map_more operation_spelling old (take index ops) op
    ∙ ap (λ (last : Op). old ++ operations_spelling (take index ops ++ last ∷ [])) here
    ∙ ap (λ (front : List Op). old ++ operations_spelling front) (sym (take_more ops index op h))

-- ---- words and stamped sectors

words_behind : (body : List ℕ) (k count : ℕ) → first_words body k (suc count) ≡ first_words body k count ++ slice_range body (512 * (k + count)) (512 * (k + count) + 4)
unfolding first_words
words_behind body k zero = append-nil (slice_range body (512 * k) (512 * k + 4)) ∙ ap (λ (at : ℕ). slice_range body (512 * at) (512 * at + 4)) (sym (add-zero k))
words_behind body k (suc count) =
    let same : suc k + count ≡ k + suc count = omega arith in
    ap (λ (behind : List ℕ). slice_range body (512 * k) (512 * k + 4) ++ behind) (words_behind body (suc k) count ∙ ap (λ (at : ℕ). first_words body (suc k) count ++ slice_range body (512 * at) (512 * at + 4)) same)
    ∙ sym (append_assoc (slice_range body (512 * k) (512 * k + 4)) (first_words body (suc k) count) (slice_range body (512 * (k + suc count)) (512 * (k + suc count) + 4)))

pub no_words : (old body : List ℕ) → old ≡ old ++ first_words body 0 0
unfolding first_words
no_words old body = nothing_more old

pub words_more : (old now next body : List ℕ) (index : ℕ) → now ≡ old ++ first_words body 0 index → next ≡ now ++ slice_range body (512 * index) (512 * index + 4) → next ≡ old ++ first_words body 0 (index + 1)
words_more old now next body index so_far more =
    let one : index + 1 ≡ suc index = omega arith in
    let here : 0 + index ≡ index = omega arith in
    more ∙ ap (λ (front : List ℕ). front ++ slice_range body (512 * index) (512 * index + 4)) so_far
    ∙ append_assoc old (first_words body 0 index) (slice_range body (512 * index) (512 * index + 4))
    ∙ ap (λ (at : ℕ). old ++ (first_words body 0 index ++ slice_range body (512 * at) (512 * at + 4))) (sym here)
    ∙ ap (λ (words : List ℕ). old ++ words) (sym (words_behind body 0 index))
    ∙ ap (λ (count : ℕ). old ++ first_words body 0 count) (sym one)

-- a sector of a body with its stamp
abbrev pub stamped_sector : (ℕ → ℕ) → List ℕ → ℕ → List ℕ
stamped_sector stamp body k = big_bytes 4 (stamp k) ++ slice_range body (512 * k + 4) (512 * suc k)

stamped_behind : (stamp : ℕ → ℕ) (body : List ℕ) (k count : ℕ) → stamped_from stamp body k (suc count) ≡ stamped_from stamp body k count ++ stamped_sector stamp body (k + count)
unfolding stamped_from
stamped_behind stamp body k zero = append-nil (stamped_sector stamp body k) ∙ ap (stamped_sector stamp body) (sym (add-zero k))
stamped_behind stamp body k (suc count) =
    let same : suc k + count ≡ k + suc count = omega arith in
    ap (λ (behind : List ℕ). stamped_sector stamp body k ++ behind) (stamped_behind stamp body (suc k) count ∙ ap (λ (at : ℕ). stamped_from stamp body (suc k) count ++ stamped_sector stamp body at) same)
    ∙ sym (append_assoc (stamped_sector stamp body k) (stamped_from stamp body (suc k) count) (stamped_sector stamp body (k + suc count)))

pub none_stamped : (old : List ℕ) (stamp : ℕ → ℕ) (body : List ℕ) → old ≡ old ++ stamped_from stamp body 0 0
unfolding stamped_from
none_stamped old stamp body = nothing_more old

pub stamped_more : (old now first next : List ℕ) (stamp : ℕ → ℕ) (body : List ℕ) (index number : ℕ) → now ≡ old ++ stamped_from stamp body 0 index → number ≡ stamp index
    → first ≡ now ++ big_bytes 4 number → next ≡ first ++ slice_range body (512 * index + 4) (512 * index + 512) → next ≡ old ++ stamped_from stamp body 0 (index + 1)
stamped_more old now first next stamp body index number so_far e more1 more2 =
    let one : index + 1 ≡ suc index = omega arith in
    let here : 0 + index ≡ index = omega arith in
    let end : 512 * index + 512 ≡ 512 * suc index = omega arith in
    more2
    ∙ ap (λ (to : ℕ). first ++ slice_range body (512 * index + 4) to) end
    ∙ ap (λ (front : List ℕ). front ++ slice_range body (512 * index + 4) (512 * suc index)) more1
    ∙ append_assoc now (big_bytes 4 number) (slice_range body (512 * index + 4) (512 * suc index))
    ∙ ap (λ (n : ℕ). now ++ (big_bytes 4 n ++ slice_range body (512 * index + 4) (512 * suc index))) e
    ∙ ap (λ (front : List ℕ). front ++ stamped_sector stamp body index) so_far
    ∙ append_assoc old (stamped_from stamp body 0 index) (stamped_sector stamp body index)
    ∙ ap (λ (at : ℕ). old ++ (stamped_from stamp body 0 index ++ stamped_sector stamp body at)) (sym here)
    ∙ ap (λ (all : List ℕ). old ++ all) (sym (stamped_behind stamp body 0 index))
    ∙ ap (λ (count : ℕ). old ++ stamped_from stamp body 0 count) (sym one)
