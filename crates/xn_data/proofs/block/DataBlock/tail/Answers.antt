use Rattle.std.proofs.Common.{◌∙◌, sym, ap}
use Rattle.xn_bytes.specs.DataBlock.{DataForm}
use Rattle.xn_data.proofs.Forms.{leaves_are, leaves_none, leaves_few}
use Rattle.xn_data.proofs.block.DataBlock.tail.Goals as goal
use Rattle.xn_data.proofs.block.DataBlock.tail.Goals.{then-is_block_form, else-is_block_form}

pub returns-clause-leaves : goal.returns-clause-leaves
returns-clause-leaves c =
    c.new.ensures
    ∙ elim c.if-is_block_form.branch [
      | then-is_block_form w ↦ leaves_are _ _ _ (sym c.is_block_form.ensures ∙ w.if-is_block_form.true) (w.count-is ∙ w.leaf_count-count.ensures.count) c.end_of_regions.ensures.value
      | else-is_block_form w ↦ leaves_none _ _ _ (sym c.is_block_form.ensures ∙ w.if-is_block_form.false) w.count-is
    ]
    ∙ sym c.self.invariant.leaves
    ∙ ap (λ (form : DataForm). form.leaves) c.self.view_is

pub returns-clause-few : goal.returns-clause-few
returns-clause-few c = leaves_few c.self.inside.bytes.now c.args.self.now c.new.result c.self.invariant c.self.view_is (returns-clause-leaves c)
