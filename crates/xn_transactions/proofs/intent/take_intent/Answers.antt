use Rattle.std.proofs.Common.{sym, ◌∙◌, arith}
use Rattle.xn_changes.specs.Decoded.{bytes_of}
use Rattle.xn_transactions.proofs.ItemLemmas.{take_intent-replace}
use Rattle.xn_transactions.proofs.intent.take_intent.Goals as goal

pub returns-in_ok-act-in-6 : goal.returns-in_ok-act-in-6
returns-in_ok-act-in-6 c =
    rw (c.taken_with-in-6.ensures.item, c.taken_with-in-6.ensures.behind)
    (take_intent-replace c.args.first.now (bytes_of c.args.rest.now) c.in_ok-act-in-6.act (omega arith) (sym c.little_u32_at.ensures ∙ c.in-6.is) c.in_ok-act-in-6.ensures)
