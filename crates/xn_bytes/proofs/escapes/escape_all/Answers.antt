use Rattle.std.proofs.Common.{arith, length-drop}
use Rattle.std.proofs.lemmas.List.{take_rest}
use Rattle.xn_bytes.proofs.EscapeLemmas.{texts_on}
use Rattle.xn_bytes.proofs.escapes.escape_all.Goals as goal

pub loop-at-preserved : goal.loop-at-preserved
loop-at-preserved c =
    let run = rw (take_rest c.args.bytes.now c.loop-at.at) at c.in_ok-at.ensures in
    record {
      within = omega (arith, run.some.1, length-drop c.loop-at.at c.args.bytes.now, c.loop-at.invariant.within);
      text = texts_on c.args.out.now.items c.loop-at.out.items c.escape_run.new.out.items c.args.bytes.now c.loop-at.at c.in_ok-at.field-0 c.loop-at.invariant.text run.ok;
    }
