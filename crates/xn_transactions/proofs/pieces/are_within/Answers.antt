use Rattle.std.proofs.Common.{◌*◌, not, leb, ap, rules, tests}
use Rattle.std.proofs.lemmas.Iterator.{YieldsList-from_slice}
use Rattle.std.proofs.lemmas.Iterator.Search.{any_from_yields_List}
use Rattle.xn_transactions.proofs.pieces.are_within.Goals as goal

pub returns : goal.returns
returns c =
    ap not (any_from_yields_List (λ piece. leb (4 * c.args.sectors) piece) _ _ _ c.any.ensures.ran (YieldsList-from_slice c.args.pieces.now cc) (λ x b q k. search (rules, tests)))
