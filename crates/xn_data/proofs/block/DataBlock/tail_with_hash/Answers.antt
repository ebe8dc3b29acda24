use Rattle.std.proofs.Common.{subst, List, ◌≡◌}
use Rattle.std.specs.Prelude.{All, Contains}
use Rattle.xn_bytes.specs.DataBlock.{LeafEntry}
use Rattle.xn_data.proofs.block.DataBlock.tail_with_hash.Goals as goal

pub returns-clause-always : goal.returns-clause-always
returns-clause-always c = subst (λ (leaves : List LeafEntry). All (λ leaf. (leaf.hash ≡ c.args.hash) × Contains leaves leaf) c.with_hash.result) c.tail.ensures.leaves c.with_hash.ensures.always
