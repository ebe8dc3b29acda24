use Rattle.std.proofs.lemmas.Result.{err_from_is_err_and}
use Rattle.std.proofs.lemmas.List.{take_rest}
use Rattle.xn_short.specs.Widths.{byte_count}
use Rattle.xn_short.proofs.Loop.{reaches, goes_on, stops, is_done}
use Rattle.xn_short.proofs.check.end_of_entries.Goals as goal

pub returns-in_err-check_entry : goal.returns-in_err-check_entry
returns-in_err-check_entry c =
    let p = err_from_is_err_and c.from_residual.result c.from_residual.ensures.1 in
    rw (p.1, p.2) (stops _ c.loop.counter (byte_count c.args.width) c.loop.least c.end_limit-limit.result c.loop.at c.in_err-check_entry.field-0.0.at c.args.bytes.now _ _ c.loop-test.true (take_rest c.args.bytes.now c.loop.at) c.in_err-check_entry.ensures c.loop.invariant.ends)

pub end_in_block-least-requires : goal.end_in_block-least-requires
end_in_block-least-requires c = (reaches (byte_count c.args.width) c.loop.least c.end_limit-limit.result c.loop.at c.args.bytes.now _ (take_rest c.args.bytes.now c.loop.at) c.in_ok-check_entry.ensures).0

pub bounds-bytes-at : goal.bounds-bytes-at
bounds-bytes-at c = (reaches (byte_count c.args.width) c.loop.least c.end_limit-limit.result c.loop.at c.args.bytes.now _ (take_rest c.args.bytes.now c.loop.at) c.in_ok-check_entry.ensures).1

pub loop-preserved : goal.loop-preserved
loop-preserved c =
    goes_on _ c.loop.counter (byte_count c.args.width) c.bytes.result c.loop.least c.end_limit-limit.result c.loop.at c.end_in_block-least.result c.from.result c.args.bytes.now _ _ c.loop-test.true c.loop.invariant.within (take_rest c.args.bytes.now c.loop.at) c.in_ok-check_entry.ensures c.end_in_block-least.ensures c.from.ensures c.bytes.ensures c.loop.invariant.ends

pub returns : goal.returns
returns c = is_done _ c.loop.counter (byte_count c.args.width) c.loop.least c.end_limit-limit.result c.loop.at _ _ c.loop-test.false c.loop.invariant.ends
