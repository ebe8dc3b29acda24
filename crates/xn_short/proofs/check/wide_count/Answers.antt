use Rattle.std.proofs.Common.{◌+◌, sym, ◌∙◌, arith}
use Rattle.std.proofs.lemmas.Bool.{ltb-false}
use Rattle.xn_short.specs.Widths.{byte_count}
use Rattle.xn_short.proofs.Counting.{counts_from, counts_on, counts_missing, counts_past, counts_all}
use Rattle.xn_short.proofs.check.wide_count.Goals as goal

pub loop-init : goal.loop-init
loop-init c = counts_from c.args.bytes.now (byte_count c.args.width) c.bytes-at.result c.wide_at-wide.result c.requires.width c.requires.within c.bytes-at.ensures c.wide_at-wide.ensures

pub returns-in_err-get : goal.returns-in_err-get
returns-in_err-get c = c.from_residual.ensures ∙ sym (counts_past _ c.loop.counter (byte_count c.args.width) c.loop.wide c.loop.at c.args.bytes.now _ c.loop.invariant c.loop-test.true (ltb-false _ _ (sym c.in_err-get.ensures.lookup.0)))

pub returns-then-bytes-at : goal.returns-then-bytes-at
returns-then-bytes-at c =
    let byte = c.from.ensures ∙ c.in_ok-get.ensures.lookup.3.1 0 in
    sym (counts_missing _ c.loop.counter (byte_count c.args.width) c.bytes.result c.loop.wide c.loop.at c.from.result c.args.bytes.now _ c.loop.invariant c.loop-test.true byte c.bytes.ensures (omega arith))

pub loop-preserved : goal.loop-preserved
loop-preserved c =
    let byte = c.from.ensures ∙ c.in_ok-get.ensures.lookup.3.1 0 in
    counts_on _ c.loop.counter (byte_count c.args.width) c.bytes.result c.loop.wide c.wide_at.result c.loop.at c.from.result (c.loop.at + 3 + 1 + c.from.result) (c.loop.at + 3 + 1 + c.from.result + c.bytes.result) c.args.bytes.now _ c.loop.invariant c.loop-test.true byte c.bytes.ensures (omega arith) (omega arith) (omega arith) c.wide_at.ensures

pub returns : goal.returns
returns c = sym (counts_all _ c.loop.counter (byte_count c.args.width) c.loop.wide c.loop.at c.args.bytes.now _ c.loop.invariant c.loop-test.false)
