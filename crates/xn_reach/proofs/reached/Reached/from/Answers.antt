use Rattle.std.proofs.Common.{◌≡◌, [], subst, arith}
use Rattle.std.proofs.lemmas.List.{nil_from_length}
use Rattle.xn_reach.specs.Meetings.{IsUnderWay}
use Rattle.xn_reach.proofs.UnderWay.{goes_on, ends, comes_nearer}
use Rattle.xn_reach.proofs.reached.Reached.from.Goals as goal

pub loop-number-preserved : goal.loop-number-preserved
loop-number-preserved c = goes_on c.args.steps.now c.steps_from.result.now c.args.start c.in-Some.number c.loop-number.numbers c.meet.new.met c.loop-number.waiting.items c.pop.new.self.items c.meet.new.waiting.items c.loop-number.invariant c.in-Some.ensures.items c.steps_from.ensures c.in_ok-meet.ensures

pub loop-number-smaller : goal.loop-number-smaller
loop-number-smaller c =
    let way = goes_on c.args.steps.now c.steps_from.result.now c.args.start c.in-Some.number c.loop-number.numbers c.meet.new.met c.loop-number.waiting.items c.pop.new.self.items c.meet.new.waiting.items c.loop-number.invariant c.in-Some.ensures.items c.steps_from.ensures c.in_ok-meet.ensures in
    comes_nearer c.args.steps.now c.steps_from.result.now c.args.start c.in-Some.number c.loop-number.numbers c.meet.new.met c.loop-number.waiting.items c.pop.new.self.items c.meet.new.waiting.items way c.in-Some.ensures.items c.in_ok-meet.ensures

pub returns : goal.returns
returns c = let none : c.loop-number.waiting.items ≡ [] = nil_from_length _ (omega (arith, c.in_default.ensures.cases.0, c.loop-number.waiting.ok.0)) in ends c.args.steps.now c.args.start c.loop-number.numbers (subst (IsUnderWay c.args.steps.now c.args.start c.loop-number.numbers) none c.loop-number.invariant)
