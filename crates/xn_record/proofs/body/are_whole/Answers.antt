use Rattle.std.proofs.Common.{◌≡◌, ℕ, suc, ◌+◌, ◌-◌, drop, length, sym, ap, ◌∙◌, arith}
use Rattle.xn_log.specs.Records.{are_whole, body_of, count_in, length_in}
use Rattle.xn_record.proofs.BodyBytes.{length-body_of}
use Rattle.xn_record.proofs.Walking.{end_within, no_more, whole_more, whole_none}
use Rattle.xn_record.proofs.body.are_whole.Goals as goal

pub loop-init : goal.loop-init
loop-init c =
    let none : count_in c.args.bytes.now - 0 ≡ count_in c.args.bytes.now = omega arith in
    record { within = omega arith; same = ap (λ (count : ℕ). are_whole count (body_of c.args.bytes.now)) none }

pub operation_end-requires-clause-within : goal.operation_end-requires-clause-within
operation_end-requires-clause-within c = c.loop.invariant.within

pub returns-in-None : goal.returns-in-None
returns-in-None c =
    let body = body_of c.args.bytes.now in
    let left : count_in c.args.bytes.now - c.loop.counter ≡ suc (count_in c.args.bytes.now - (c.loop.counter + 1)) = omega (arith, c.count_in-end.ensures) in
    sym (sym c.loop.invariant.same ∙ ap (λ (count : ℕ). are_whole count (drop c.loop.place body)) left ∙ whole_none body c.loop.place _ c.in-None.ensures)

pub loop-preserved : goal.loop-preserved
loop-preserved c =
    let body = body_of c.args.bytes.now in
    let left : count_in c.args.bytes.now - c.loop.counter ≡ suc (count_in c.args.bytes.now - (c.loop.counter + 1)) = omega (arith, c.count_in-end.ensures) in
    let long : length body ≡ length_in c.args.bytes.now = length-body_of c.args.bytes.now c.requires in
    record {
      within = omega (arith, (end_within body c.loop.place c.in-Some.end (omega (arith, c.loop.invariant.within)) c.in-Some.ensures).1);
      same = sym (whole_more body c.loop.place c.in-Some.end _ c.in-Some.ensures) ∙ ap (λ (count : ℕ). are_whole count (drop c.loop.place body)) (sym left) ∙ c.loop.invariant.same;
    }

pub returns : goal.returns
returns c =
    let body = body_of c.args.bytes.now in
    let none : count_in c.args.bytes.now - c.loop.counter ≡ 0 = omega (arith, c.count_in-end.ensures) in
    no_more (drop c.loop.place body) ∙ ap (λ (count : ℕ). are_whole count (drop c.loop.place body)) (sym none) ∙ c.loop.invariant.same
