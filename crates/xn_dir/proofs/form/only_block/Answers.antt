use Rattle.std.proofs.Common.{sym, ◌∙◌}
use Rattle.xn_dir.proofs.OneBlock.{one_run, not_one, not_first}
use Rattle.xn_dir.proofs.form.only_block.Goals as goal
use Rattle.xn_dir.proofs.form.only_block.Goals.{else-file_block-eq0-via-then-file_block-eq0+else-count-eq1, else-file_block-eq0-via-else-file_block-eq0}

pub returns-then-count-ne1 : goal.returns-then-count-ne1
returns-then-count-ne1 c = not_one c.args.extents.now c.count.ensures.lawful (λ one. c.if-count-ne1.true (c.count.ensures.count ∙ one))

pub returns-then-count-eq1 : goal.returns-then-count-eq1
returns-then-count-eq1 c =
    one_run c.args.extents.now c.run-file_block.result.1 (sym c.count.ensures.count ∙ c.if-count-ne1.false)
    (rw (c.if-file_block-eq0.true, c.if-count-eq1.true) at c.run-file_block.ensures.run)

pub returns-else-file_block-eq0 : goal.returns-else-file_block-eq0
returns-else-file_block-eq0 c =
    not_first c.args.extents.now c.run-file_block.result.0 c.run-file_block.result.1 c.run-file_block.result.2 c.count.ensures.lawful c.run-file_block.ensures.run
    (λ both. elim c.else-file_block-eq0.branch [
      | else-file_block-eq0-via-then-file_block-eq0+else-count-eq1 w ↦ w.if-count-eq1.false both.1
      | else-file_block-eq0-via-else-file_block-eq0 w ↦ w.if-file_block-eq0.false both.0
    ])
