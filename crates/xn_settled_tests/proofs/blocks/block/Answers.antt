use Rattle.std.proofs.Common.{◌∙◌, rules}
use Rattle.xn_settled_tests.proofs.Covering.{covers_two}
use Rattle.xn_settled_tests.proofs.blocks.block.Goals as goal

pub lay_block-requires-clause-item : goal.lay_block-requires-clause-item
lay_block-requires-clause-item c =
    covers_two c.args.flags c.new-first.result c.new-second.result c.new.result c.new-2.result
    (c.new.ensures ∙ c.in_ok-vec-3.ensures.items) (c.new-2.ensures ∙ c.in_ok-vec-4.ensures.items) (search rules) (search rules)
