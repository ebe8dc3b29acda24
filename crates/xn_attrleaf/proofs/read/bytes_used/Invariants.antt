use Rattle.std.proofs.Common.{◌≡◌, ◌+◌, ◌*◌, ◌≤◌}
use Rattle.std.specs.Prelude.{sum_by}
use Rattle.xn_bytes.specs.Numbers.{number_at}
use Rattle.xn_bytes.specs.AttributeLeaves.{attr_entries, name_size}
use Rattle.xn_attrleaf.specs.EntriesRead.{entries_from}
use Rattle.xn_attrleaf.proofs.read.bytes_used.Given as goal

abbrev pub invariant-loop-index : goal.invariant-loop-index
invariant-loop-index l = record {
  few : l.used ≤ 0x30003 * l.index;
  so_far : l.used + sum_by (name_size l.block) (entries_from l.index (number_at 2 56 l.block) l.block) ≡ sum_by (name_size l.block) (attr_entries l.block);
}
