use Rattle.std.proofs.Common.{sym, ◌∙◌, arith}
use Rattle.std.proofs.lemmas.Result.{err_from_is_err_and}
use Rattle.xn_parent.proofs.Among.{among_passed, among_taken, record_of_all}
use Rattle.xn_parent.proofs.Rules.{rule_of_part}
use Rattle.xn_parent.proofs.record.records_among.Goals as goal
use Rattle.xn_parent.proofs.record.records_among.Goals.{then-is_parent+in_ok-record_in+in_ok-push, else-is_parent}

pub returns-in_err-record_in : goal.returns-in_err-record_in
returns-in_err-record_in c =
    let p = err_from_is_err_and c.from_residual.result c.from_residual.ensures.1 in
    rw (p.1, p.2) (rule_of_part 26 _ _ (λ all. record_of_all c.args.attributes.now c.loop-attribute.attribute-index c.attribute-item.result (omega arith) c.attribute-item.is (sym c.is_parent.ensures ∙ c.if-is_parent.true) all) _ c.in_err-record_in.ensures)

pub loop-attribute-preserved : goal.loop-attribute-preserved
loop-attribute-preserved c =
    elim c.if-is_parent.branch [
      | then-is_parent+in_ok-record_in+in_ok-push w ↦
          let formed = w.in_ok-record_in.ensures in
          rw (w.parents-is, w.in_ok-push.ensures.items)
          (among_taken c.args.attributes.now c.loop-attribute.attribute-index c.attribute-item.result c.loop-attribute.parents.items w.in_ok-record_in.field-0 (omega arith) c.attribute-item.is
          (sym c.is_parent.ensures ∙ w.if-is_parent.true) formed.0 formed.1 c.loop-attribute.invariant)
      | else-is_parent w ↦ rw w.parents-is (among_passed c.args.attributes.now c.loop-attribute.attribute-index c.attribute-item.result c.loop-attribute.parents.items (omega arith) c.attribute-item.is (sym c.is_parent.ensures ∙ w.if-is_parent.false) c.loop-attribute.invariant)
    ]
