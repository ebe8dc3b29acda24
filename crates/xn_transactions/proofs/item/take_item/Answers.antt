use Rattle.std.proofs.Common.{sym, ◌∙◌, arith}
use Rattle.xn_changes.specs.Decoded.{bytes_of}
use Rattle.xn_transactions.proofs.ItemLemmas.{take_item-done}
use Rattle.xn_transactions.proofs.WithinLemmas.{done_taken_within, intent_taken_within}
use Rattle.xn_transactions.proofs.item.take_item.Goals as goal

pub returns-in-4678-clause-within : goal.returns-in-4678-clause-within
returns-in-4678-clause-within c = intent_taken_within c.args.first.now c.args.rest.now c.take_intent.result c.take_intent.ensures

pub returns-in-4679-clause-item : goal.returns-in-4679-clause-item
returns-in-4679-clause-item c =
    let rest = bytes_of c.args.rest.now in
    rw (take_item-done c.args.first.now rest (omega arith) (sym c.little_u16_at.ensures ∙ c.in-4679.is)) (c.take_done.ensures rest)

pub returns-in-4679-clause-within : goal.returns-in-4679-clause-within
returns-in-4679-clause-within c = done_taken_within c.args.first.now c.args.rest.now c.take_done.result (c.take_done.ensures (bytes_of c.args.rest.now))
