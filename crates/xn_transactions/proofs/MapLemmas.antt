-- The words of a buffer's map, one step on.
use Rattle.std.proofs.Common.{◌≡◌, ℕ, ◌+◌, List, [], ◌∷◌, ◌++◌, refl, sym, ap, ◌∙◌, add-one, append_assoc}
use Rattle.xn_bytes.specs.Numbers.{little_number_at}
use Rattle.xn_changes.specs.Items.{words_from}

pub words_from-none : (at : ℕ) (first : List ℕ) → words_from at 0 first ≡ []
unfolding words_from
words_from-none at first = refl

words_from-more : (at count : ℕ) (first : List ℕ) → words_from at (count + 1) first ≡ little_number_at 4 at first ∷ words_from (at + 4) count first
unfolding words_from
words_from-more at count first = rw add-one refl

-- words that were read, the next one, and those that are left
pub words_with-next : (words : List ℕ) (at next left count : ℕ) (first : List ℕ) → left ≡ count + 1 → next ≡ at + 4 → (words ++ little_number_at 4 at first ∷ []) ++ words_from next count first ≡ words ++ words_from at left first
words_with-next words at next left count first e n =
    rw (e, n) (append_assoc words (little_number_at 4 at first ∷ []) (words_from (at + 4) count first) ∙ ap (λ ws. words ++ ws) (sym (words_from-more at count first)))
