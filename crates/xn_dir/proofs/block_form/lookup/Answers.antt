use Rattle.std.proofs.Common.{subst}
use Rattle.std.proofs.lemmas.Result.{IfOk-weaker}
use Rattle.xn_bytes.specs.DataBlock.{DataForm}
use Rattle.xn_bytes.specs.DirectoryForms.{AreSorted}
use Rattle.xn_dir.specs.Finding.{AllMiss}
use Rattle.xn_dir.proofs.Indexes.{stands_first}
use Rattle.xn_dir.proofs.block_form.lookup.Goals as goal

pub returns-clause-none : goal.returns-clause-none
returns-clause-none c =
    IfOk-weaker c.find.result _ _
    (λ found none is form holds. subst (λ (one : DataForm). AreSorted one.leaves → AllMiss c.args.name.now one) (c.in_ok-first.ensures.only form holds) (none is))
    c.find.ensures.none

pub returns-clause-stands : goal.returns-clause-stands
returns-clause-stands c =
    let first = c.in_ok-first.first in
    stands_first c.args.geometry.now c.args.dir c.args.block c.args.bytes.now c.args.name.now first.held first.entries first.dotdot c.find.result c.in_ok-first.ensures.holds c.in_ok-first.ensures.placed c.find.ensures.there c.find.ensures.none
