use Rattle.std.proofs.Common.{◌++◌, List, length, ap, ◌∙◌, arith}
use Rattle.std.proofs.lemmas.List.{take_all}
use Rattle.xn_log.specs.Spelled.{operation_spelling, operations_spelling}
use Rattle.xn_log.specs.declared.operation.Op.{Op}
use Rattle.xn_record.proofs.Appending.{length-operation_spelling, nothing_more, one_of_all, operations_more}
use Rattle.xn_record.proofs.append.append_operations.Goals as goal

pub loop-op-init : goal.loop-op-init
loop-op-init c = nothing_more c.args.bytes.now.items

pub append_operation-requires : goal.append_operation-requires
append_operation-requires c =
    let ops = c.args.ops.now in
    let op = c.op-item.result in
    let same = ap (λ (op : Op). length (operation_spelling op)) c.op-item.is in
    omega (arith, length-operation_spelling op, same, one_of_all ops op c.loop-op.op-index c.loop-op-test.true, c.requires)

pub loop-op-preserved : goal.loop-op-preserved
loop-op-preserved c =
    operations_more c.args.bytes.now.items c.loop-op.bytes.items c.append_operation.new.bytes.items c.args.ops.now c.op-item.result c.loop-op.op-index c.loop-op-test.true c.op-item.is c.loop-op.invariant c.in_ok-append_operation.ensures

pub returns : goal.returns
returns c =
    c.loop-op.invariant ∙ ap (λ (ops : List Op). c.args.bytes.now.items ++ operations_spelling ops) (take_all c.loop-op.op-index c.args.ops.now c.loop-op-test.false)
