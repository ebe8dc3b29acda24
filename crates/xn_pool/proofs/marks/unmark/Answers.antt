use Rattle.std.proofs.Common.{◌/◌, ◌≤◌, ℕ, get_or, get_or-set_same, sym, subst}
use Rattle.std.proofs.lemmas.Nat.{and_le_l}
use Rattle.xn_pool.proofs.BitsOfWords.{cleared_at}
use Rattle.xn_pool.proofs.marks.unmark.Goals as goal

pub returns-clause-at : goal.returns-clause-at
returns-clause-at c = cleared_at c.args.words.now c.args.place c.requires

pub returns-clause-no_more : goal.returns-clause-no_more
returns-clause-no_more c =
    subst (λ (word : ℕ). word ≤ get_or c.args.words.now (c.args.place / 64) 0) (sym (get_or-set_same c.args.words.now (c.args.place / 64) _ 0 c.requires)) (and_le_l _ _)
