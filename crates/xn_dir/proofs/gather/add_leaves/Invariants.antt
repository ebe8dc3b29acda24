use Rattle.std.proofs.Common.{◌≡◌, ◌++◌, ◌<◌, map}
use Rattle.std.specs.Prelude.{All}
use Rattle.xn_bytes.specs.DirectoryForms.{leaf_of}
use Rattle.xn_bytes.specs.LeafForms.{placed_in}
use Rattle.xn_dir.proofs.gather.add_leaves.Given as goal

abbrev pub invariant-loop-entry : goal.invariant-loop-entry
invariant-loop-entry l = record {
  split : l.leaves.items ++ map leaf_of (map (placed_in l.number) l.entry-iterator) ≡ l.initial.leaves.items ++ map leaf_of (map (placed_in l.number) l.fn.entries);
  placed : All (λ entry. entry.position < 4096) l.entry-iterator;
}
