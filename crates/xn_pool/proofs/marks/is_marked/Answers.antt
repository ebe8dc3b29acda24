use Rattle.std.proofs.Common.{◌/◌, ◌%◌, get_or, sym, ◌∙◌}
use Rattle.std.proofs.lemmas.Bool.{eq-eqb, eqb-true}
use Rattle.std.proofs.lemmas.Nat.Bits.{shr_and_one}
use Rattle.xn_pool.specs.Marks.{bit_of}
use Rattle.xn_pool.proofs.marks.is_marked.Goals as goal

pub returns : goal.returns
unfolding bit_of
returns c =
    let test = shr_and_one (get_or c.args.words.now (c.args.place / 64) 0) (c.args.place % 64) in
    (λ set. sym test ∙ eqb-true _ _ set, λ there. eq-eqb _ _ (test ∙ there))
