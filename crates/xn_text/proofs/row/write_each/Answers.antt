use Rattle.xn_text.proofs.ListLemmas.{front_of, on_err}
use Rattle.xn_text.proofs.row.write_each.Goals as goal

pub returns-in_err-write-clause-err : goal.returns-in_err-write-clause-err
returns-in_err-write-clause-err g c =
    on_err _ (front_of c.args.out.now.items _ c.loop-row.out.items c.write.new.out.items c.loop-row.invariant c.in_err-write.ensures.err)
