-- Pieces of words, and regions that cover pieces, one step on.
use Rattle.std.proofs.Common.{◌≡◌, ℕ, suc, ◌+◌, ◌*◌, ◌/◌, ◌%◌, ◌<◌, ◌≤◌, true, false, eqb, List, [], ◌∷◌, ◌++◌, ◌&&◌, length, get_or, drop, refl, sym, ap, ◌∙◌, add-one, arith, append_assoc}
use Rattle.std.proofs.lemmas.List.{drop_more, at_drop_all}
use Rattle.std.proofs.lemmas.Bool.Decides.{nat_tests}
use Rattle.xn_changes.specs.Decoded.{bytes_of}
use Rattle.xn_changes.specs.Transactions.{Region}
use Rattle.xn_changes.specs.Items.{cover, piece_size, pieces_from, pieces_of_word}
use Rattle.xn_transactions.specs.Pieces.{covers}

pub pieces_of_word-none : (from word : ℕ) → pieces_of_word from 0 word ≡ []
unfolding pieces_of_word
pieces_of_word-none from word = refl

pub pieces_of_word-set : (from left count word : ℕ) → left ≡ count + 1 → word % 2 ≡ 1 → pieces_of_word from left word ≡ from ∷ pieces_of_word (from + 1) count (word / 2)
unfolding pieces_of_word
pieces_of_word-set from left count word e set = rw (e, add-one, set, add-one) refl

pub pieces_of_word-clear : (from left count word : ℕ) → left ≡ count + 1 → eqb (word % 2) 1 ≡ false → pieces_of_word from left word ≡ pieces_of_word (from + 1) count (word / 2)
unfolding pieces_of_word
pieces_of_word-clear from left count word e clear = rw (e, add-one, clear, add-one) refl

-- pieces that were there, one that is added, and those of the bits that are left
pub pieces_with-set : (items : List ℕ) (from left count word : ℕ) → left ≡ count + 1 → word % 2 ≡ 1 → (items ++ from ∷ []) ++ pieces_of_word (from + 1) count (word / 2) ≡ items ++ pieces_of_word from left word
pieces_with-set items from left count word e set =
    append_assoc items (from ∷ []) (pieces_of_word (from + 1) count (word / 2)) ∙ ap (λ ps. items ++ ps) (sym (pieces_of_word-set from left count word e set))

pub pieces_from-none : (from : ℕ) → pieces_from from [] ≡ []
unfolding pieces_from
pieces_from-none from = refl

pub pieces_from-more : (k : ℕ) (words : List ℕ) → k < length words → pieces_from (32 * k) (drop k words) ≡ pieces_of_word (32 * k) 32 (get_or words k 0) ++ pieces_from (32 * (k + 1)) (drop (k + 1) words)
unfolding pieces_from
pieces_from-more k words lt =
    let next : 32 * (k + 1) ≡ 32 * k + 32 = omega arith in
    rw (drop_more words k 0 lt, next) refl

cover-end : (pieces : List ℕ) → cover [] pieces ≡ eqb (length pieces) 0
unfolding cover
cover-end [] = refl
cover-end (piece ∷ pieces) = let some : eqb (suc (length pieces)) 0 ≡ false = grind (arith, nat_tests) in sym some

cover-parts : (region : List ℕ) (regions : List (List ℕ)) (pieces : List ℕ) → cover (region ∷ regions) pieces ≡ (covers region pieces && cover regions (drop (length region / piece_size) pieces))
unfolding cover
cover-parts region regions pieces = refl

-- a region that covers the first pieces, in front of those from a place on
pub cover-more : (k : ℕ) (regions : List Region) (region : Region) (pieces : List ℕ) → k < length regions → region ≡ get_or regions k region → covers region.bytes pieces ≡ true → cover (bytes_of (drop k regions)) pieces ≡ cover (bytes_of (drop (k + 1) regions)) (drop (length region.bytes / piece_size) pieces)
cover-more k regions region pieces lt is covered =
    rw (drop_more regions k region lt, ← is) (cover-parts region.bytes (bytes_of (drop (k + 1) regions)) pieces ∙ rw covered refl)

-- the same where it covers none
pub cover-stops : (k : ℕ) (regions : List Region) (region : Region) (pieces : List ℕ) → k < length regions → region ≡ get_or regions k region → covers region.bytes pieces ≡ false → cover (bytes_of (drop k regions)) pieces ≡ false
cover-stops k regions region pieces lt is uncovered =
    rw (drop_more regions k region lt, ← is) (cover-parts region.bytes (bytes_of (drop (k + 1) regions)) pieces ∙ rw uncovered refl)

-- all regions cover all pieces where no piece is left
pub cover-all : (k : ℕ) (regions : List Region) (pieces : List ℕ) → length regions ≤ k → cover (bytes_of (drop k regions)) pieces ≡ eqb (length pieces) 0
cover-all k regions pieces past = at_drop_all (λ rest. cover (bytes_of rest) pieces) regions k past ∙ cover-end pieces
