-- Pieces laid down one by one.
use Rattle.std.proofs.Common.{◌≡◌, ℕ, zero, suc, ◌+◌, ◌*◌, ◌-◌, ◌<◌, ◌≤◌, List, [], ◌∷◌, length, take, drop, ap, refl, sym, ◌∙◌, arith}
use Rattle.std.specs.Prelude.{slice_index_or}
use Rattle.std.proofs.Math.ListN.{drop_of_length-le}
use Rattle.std.proofs.lemmas.List.{drop-drop, length-drop, take_all}
use Rattle.xn_bytes.specs.Numbers.{overlaid}
use Rattle.xn_settled.specs.Blocks.{with_pieces}

-- the number at a place is the first of those from there on
first_of_rest : (k : ℕ) (pieces : List ℕ) → k < length pieces → drop k pieces ≡ slice_index_or pieces k 0 ∷ drop (suc k) pieces
first_of_rest zero [] lt = absurd (omega arith)
first_of_rest zero (piece ∷ pieces) lt = refl
first_of_rest (suc k) [] lt = absurd (omega arith)
first_of_rest (suc k) (piece ∷ pieces) lt = first_of_rest k pieces (omega arith)

-- one piece of those that are left
one_of_left : (piece : ℕ) (pieces bytes block : List ℕ) → with_pieces (piece ∷ pieces) bytes block ≡ with_pieces pieces (drop 128 bytes) (overlaid block (128 * piece) (take 128 bytes))
unfolding with_pieces
one_of_left piece pieces bytes block = refl

one_laid : (k : ℕ) (pieces bytes block laid : List ℕ) → k < length pieces → laid ≡ overlaid block (128 * slice_index_or pieces k 0) (take 128 (drop (128 * k) bytes)) → with_pieces (drop (k + 1) pieces) (drop (128 * (k + 1)) bytes) laid ≡ with_pieces (drop k pieces) (drop (128 * k) bytes) block
one_laid k pieces bytes block laid lt is =
    let next : k + 1 ≡ suc k = omega arith in
    let further : 128 * k + 128 ≡ 128 * (k + 1) = omega arith in
    let behind : drop (128 * (k + 1)) bytes ≡ drop 128 (drop (128 * k) bytes) = ap (λ n. drop n bytes) (sym further) ∙ sym (drop-drop 128 (128 * k) bytes) in
    ap (λ n. with_pieces (drop n pieces) (drop (128 * (k + 1)) bytes) laid) next
    ∙ ap (λ xs. with_pieces (drop (suc k) pieces) xs laid) behind
    ∙ ap (with_pieces (drop (suc k) pieces) (drop 128 (drop (128 * k) bytes))) is
    ∙ sym (one_of_left (slice_index_or pieces k 0) (drop (suc k) pieces) (drop (128 * k) bytes) block)
    ∙ ap (λ ps. with_pieces ps (drop (128 * k) bytes) block) (sym (first_of_rest k pieces lt))

nothing_left : (bytes block : List ℕ) → with_pieces [] bytes block ≡ block
unfolding with_pieces
nothing_left bytes block = refl

pub none_left : (k : ℕ) (pieces bytes block : List ℕ) → length pieces ≤ k → with_pieces (drop k pieces) bytes block ≡ block
none_left k pieces bytes block past = ap (λ ps. with_pieces ps bytes block) (drop_of_length-le pieces past) ∙ nothing_left bytes block

-- bytes from a place on, as a slice to the end
to_the_end : (bytes : List ℕ) (at : ℕ) → take (length bytes - at) (drop at bytes) ≡ drop at bytes
to_the_end bytes at = take_all (length bytes - at) (drop at bytes) (omega (arith, length-drop at bytes))

pub piece_laid : (k : ℕ) (pieces bytes block laid : List ℕ) → k < length pieces → laid ≡ overlaid block (128 * slice_index_or pieces k 0) (take 128 (take (length bytes - 128 * k) (drop (128 * k) bytes))) → with_pieces (drop (k + 1) pieces) (drop (128 * (k + 1)) bytes) laid ≡ with_pieces (drop k pieces) (drop (128 * k) bytes) block
piece_laid k pieces bytes block laid lt is =
    one_laid k pieces bytes block laid lt (is ∙ ap (λ xs. overlaid block (128 * slice_index_or pieces k 0) (take 128 xs)) (to_the_end bytes (128 * k)))
