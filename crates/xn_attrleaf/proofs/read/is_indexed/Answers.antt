use Rattle.std.proofs.Common.{sym, ◌∙◌}
use Rattle.xn_attrleaf.proofs.read.is_indexed.Goals as goal
use Rattle.xn_attrleaf.proofs.read.is_indexed.Goals.{then-is_rising, else-is_rising}

pub returns-then-are_hashed : goal.returns-then-are_hashed
returns-then-are_hashed c =
    elim c.if-is_rising.branch [
      | then-is_rising w ↦ (
        λ apart. record {
          sorted = c.is_rising.ensures.0 w.if-is_rising.true;
          hashes = w.are_hashed.ensures.0 (sym w.value-is ∙ c.if-are_hashed.true);
          disjoint = c.are_apart.ensures.0 apart;
        },
        λ indexed. c.are_apart.ensures.1 indexed.disjoint,
      )
      | else-is_rising w ↦ absurd cc
    ]
