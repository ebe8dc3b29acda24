use Rattle.std.proofs.Common.{◌≡◌, ◌∙◌, ◌<◌, ◌+◌, ◌++◌, [], ◌∷◌, List, length, take, get_or, true, sym, ap, subst, arith, nat_cmp}
use Rattle.std.specs.BTreeSet.{contains}
use Rattle.std.proofs.lemmas.List.{take_more}
use Rattle.xn_reach.specs.Meetings.{Meets}
use Rattle.xn_reach.specs.declared.step.Step.{Step}
use Rattle.xn_reach.proofs.StepEnds.{meets_new, meets_again, tested_before, longer_by_one, unchanged_keys}
use Rattle.xn_reach.proofs.meeting.meet.Goals as goal
use Rattle.xn_reach.proofs.meeting.meet.Goals.{then-branch+in_ok-push, else-branch}

pub loop-step-preserved : goal.loop-step-preserved
loop-step-preserved c =
    let none : Step = record { from = 0; to = 0 } in
    let step : Step = get_or c.args.steps.now c.loop-step.step-index none in
    let low : c.loop-step.step-index < length c.args.steps.now = omega arith in
    let more = take_more c.args.steps.now c.loop-step.step-index none low in
    elim c.if-branch.branch [
      | then-branch+in_ok-push w ↦
          let longer : c.if-branch.waiting.items ≡ c.loop-step.waiting.items ++ step.to ∷ [] = ap (λ v. v.items) w.waiting-is ∙ w.in_ok-push.ensures.items in
          let added : length c.insert.new.self.keys ≡ length c.loop-step.met.keys + 1 = longer_by_one _ _ c.in_ok-insert.field-0 w.if-branch.true c.in_ok-insert.ensures.len in
          subst (λ (front : List Step). Meets front c.args.met.now c.insert.new.self c.args.waiting.now.items c.if-branch.waiting.items) (sym more)
          (subst (Meets (take c.loop-step.step-index c.args.steps.now ++ step ∷ []) c.args.met.now c.insert.new.self c.args.waiting.now.items) (sym longer)
          (meets_new (take c.loop-step.step-index c.args.steps.now) step c.args.met.now c.loop-step.met c.insert.new.self c.args.waiting.now.items c.loop-step.waiting.items c.loop-step.invariant c.in_ok-insert.ensures.updates added c.insert.ensures.ordered))
      | else-branch w ↦
          let had : contains nat_cmp c.loop-step.met step.to ≡ true = tested_before c.loop-step.met step.to c.in_ok-insert.field-0 w.if-branch.false c.in_ok-insert.ensures.added in
          let same : c.insert.new.self.keys ≡ c.loop-step.met.keys = unchanged_keys c.loop-step.met c.insert.new.self c.in_ok-insert.field-0 w.if-branch.false c.in_ok-insert.ensures.unchanged in
          subst (λ (front : List Step). Meets front c.args.met.now c.insert.new.self c.args.waiting.now.items c.if-branch.waiting.items) (sym more)
          (subst (Meets (take c.loop-step.step-index c.args.steps.now ++ step ∷ []) c.args.met.now c.insert.new.self c.args.waiting.now.items) (sym (ap (λ v. v.items) w.waiting-is))
          (meets_again (take c.loop-step.step-index c.args.steps.now) step c.args.met.now c.loop-step.met c.insert.new.self c.args.waiting.now.items c.loop-step.waiting.items c.loop-step.invariant had same c.insert.ensures.ordered))
    ]
