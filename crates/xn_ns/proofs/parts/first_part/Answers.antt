use Rattle.std.proofs.Common.{◌∙◌}
use Rattle.xn_ns.proofs.PathParts.{only_slashes, begins, part_before, one_part}
use Rattle.xn_ns.proofs.parts.first_part.Goals as goal

pub returns-in_err-start-clause-parts : goal.returns-in_err-start-clause-parts
returns-in_err-start-clause-parts c = rw c.from_residual.ensures (only_slashes c.args.path.now c.in_err-start.ensures)

pub returns-in-Some-clause-parts : goal.returns-in-Some-clause-parts
returns-in-Some-clause-parts c =
    let from = begins c.args.path.now c.split_at.result.1.now c.in_ok-start.start c.in_ok-start.ensures c.split_at.ensures.back in
    let cut = c.split_at-in-Some.ensures in
    from.same ∙ rw (cut.front, cut.back) (part_before c.in-Some.at c.split_at.result.1.now from.first c.in-Some.ensures)

pub returns-in-None-clause-parts : goal.returns-in-None-clause-parts
returns-in-None-clause-parts c =
    let from = begins c.args.path.now c.split_at.result.1.now c.in_ok-start.start c.in_ok-start.ensures c.split_at.ensures.back in
    from.same ∙ one_part c.split_at.result.1.now from.some c.in-None.ensures
