use Rattle.std.proofs.Common.{◌≡◌, ◌+◌, ◌≤◌, ◌++◌, length, map, drop}
use Rattle.xn_bytes.specs.DirectoryForms.{leaf_of}
use Rattle.xn_make.specs.Directories.{entries_from, total_length}
use Rattle.xn_make.specs.SpelledBlocks.{entries_bytes}
use Rattle.xn_make.specs.Laid.{leaf_entry}
use Rattle.xn_make.proofs.blocks.add_all.Given as goal

abbrev pub invariant-loop-entry : goal.invariant-loop-entry
invariant-loop-entry l = record {
  area : l.layout.area.items ++ entries_bytes (entries_from (64 + length l.layout.area.items) (drop l.entry-index l.entries))
      ≡ l.initial.layout.area.items ++ entries_bytes (entries_from (64 + length l.initial.layout.area.items) l.entries);
  leaves : map leaf_entry l.layout.leaves.items ++ map leaf_of (entries_from (64 + length l.layout.area.items) (drop l.entry-index l.entries))
      ≡ map leaf_entry l.initial.layout.leaves.items ++ map leaf_of (entries_from (64 + length l.initial.layout.area.items) l.entries);
  room : length l.layout.area.items + total_length (drop l.entry-index l.entries) ≤ 4096;
}
