use Rattle.std.proofs.Common.{◌≡◌, ℕ, suc, ◌+◌, ◌-◌, ◌++◌, List, drop, sym, ap, ◌∙◌, arith}
use Rattle.xn_log.specs.Records.{are_whole, operations_in}
use Rattle.xn_log.specs.declared.operation.Op.{Op}
use Rattle.xn_record.proofs.Reading.{front_whole, read_all, read_more}
use Rattle.xn_record.proofs.operations.read_operations.Goals as goal

pub loop-init : goal.loop-init
loop-init c =
    let all : c.args.count - 0 ≡ c.args.count = omega arith in
    record {
      whole = ap (λ (n : ℕ). are_whole n c.args.body.now) all ∙ c.requires;
      read = ap (λ (ops : List Op). ops ++ operations_in (c.args.count - 0) c.args.body.now) c.new-ops.ensures.items ∙ ap (λ (n : ℕ). operations_in n c.args.body.now) all;
    }

pub read_operation-requires-clause-header : goal.read_operation-requires-clause-header
read_operation-requires-clause-header c =
    (front_whole (c.args.count - (c.loop.counter + 1)) (c.args.count - c.loop.counter) c.loop.rest.now (omega arith) c.loop.invariant.whole).header

pub read_operation-requires-clause-whole : goal.read_operation-requires-clause-whole
read_operation-requires-clause-whole c =
    (front_whole (c.args.count - (c.loop.counter + 1)) (c.args.count - c.loop.counter) c.loop.rest.now (omega arith) c.loop.invariant.whole).size

pub operation_size-requires : goal.operation_size-requires
operation_size-requires c =
    (front_whole (c.args.count - (c.loop.counter + 1)) (c.args.count - c.loop.counter) c.loop.rest.now (omega arith) c.loop.invariant.whole).header

pub split_at-requires : goal.split_at-requires
split_at-requires c =
    let size = (front_whole (c.args.count - (c.loop.counter + 1)) (c.args.count - c.loop.counter) c.loop.rest.now (omega arith) c.loop.invariant.whole).size in
    omega (arith, size, c.operation_size.ensures)

pub loop-preserved : goal.loop-preserved
loop-preserved c =
    let count : ℕ = c.args.count - (c.loop.counter + 1) in
    let left : c.args.count - c.loop.counter ≡ suc count = omega arith in
    let front = front_whole count (c.args.count - c.loop.counter) c.loop.rest.now left c.loop.invariant.whole in
    record {
      whole = ap (are_whole count) (c.split_at.ensures.back ∙ ap (λ (n : ℕ). drop n c.loop.rest.now) c.operation_size.ensures) ∙ front.rest;
      read = ap (λ (rest : List ℕ). c.push.new.self.items ++ operations_in count rest) c.split_at.ensures.back ∙ read_more c.loop.ops.items c.push.new.self.items c.in_ok-read_operation.field-0 count (c.args.count - c.loop.counter) c.operation_size.result c.loop.rest.now left c.operation_size.ensures c.in_ok-read_operation.ensures c.in_ok-push.ensures.items ∙ c.loop.invariant.read;
    }

pub returns : goal.returns
returns c =
    let none : c.args.count - c.loop.counter ≡ 0 = omega arith in
    sym (read_all c.loop.ops.items c.loop.rest.now) ∙ ap (λ (n : ℕ). c.loop.ops.items ++ operations_in n c.loop.rest.now) (sym none) ∙ c.loop.invariant.read
