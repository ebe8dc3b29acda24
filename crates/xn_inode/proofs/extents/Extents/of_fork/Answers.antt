use Rattle.std.proofs.Common.{refl}
use Rattle.xn_inode.proofs.FirstBad.{bad_is_none}
use Rattle.xn_inode.proofs.extents.Extents.of_fork.Goals as goal

pub returns-in-Err-Bad : goal.returns-in-Err-Bad
returns-in-Err-Bad c =
    let bad = rw c.in-Err-Bad.field-0-is at c.in-Err-Bad.ensures in
    rw c.of_rule.ensures (refl, refl, λ list. bad_is_none c.args.count 0 c.args.fork.now c.in-Err-Bad.field-0-0 bad list.records)
