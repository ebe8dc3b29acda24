use Rattle.std.proofs.lemmas.Result.{on_err_weaker}
use Rattle.xn_text.proofs.ListLemmas.{front_of}
use Rattle.xn_text.proofs.row.write_rows.Goals as goal

pub returns-clause-err : goal.returns-clause-err
returns-clause-err g c =
    on_err_weaker _ (front_of c.args.out.now.items _ c.extend_from_slice.new.self.items c.write_each.new.out.items c.in_ok-extend_from_slice.ensures.items) c.write_each.ensures.err
