use Rattle.std.proofs.Common.{◌<◌, arith}
use Rattle.xn_inode.specs.Fields.{geometry_from}
use Rattle.xn_inode.proofs.HomeRuns.{by_log, by_group}
use Rattle.xn_inode.proofs.superblock.Super.is_home_run.Goals as goal

pub returns-then-is_run_of_group : goal.returns-then-is_run_of_group
returns-then-is_run_of_group c =
    let some : 0 < c.args.count = omega arith in
    by_log (geometry_from c.self.inside.fields) c.args.self.now c.args.block c.args.count c.is_run_outside_log.result
    c.self.view_is c.self.invariant some (c.is_run_of_group.ensures.0 c.if-is_run_of_group.true) c.is_run_outside_log.ensures

pub returns-else-is_run_of_group : goal.returns-else-is_run_of_group
returns-else-is_run_of_group c =
    let some : 0 < c.args.count = omega arith in
    by_group (geometry_from c.self.inside.fields) c.args.self.now c.args.block c.args.count c.is_run_of_group.result
    c.self.view_is c.self.invariant some c.is_run_of_group.ensures c.if-is_run_of_group.false
