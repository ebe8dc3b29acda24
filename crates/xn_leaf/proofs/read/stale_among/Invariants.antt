use Rattle.std.proofs.Common.{◌≡◌, ◌+◌, ◌≤◌}
use Rattle.std.specs.Prelude.{count_by}
use Rattle.xn_bytes.specs.DataBlock.{leaves_at}
use Rattle.xn_bytes.specs.HashedTree.{is_stale}
use Rattle.xn_leaf.proofs.Reading.{leaves_from}
use Rattle.xn_leaf.proofs.read.stale_among.Given as goal

abbrev pub invariant-loop-index : goal.invariant-loop-index
invariant-loop-index l = record {
  few : l.stale ≤ l.index;
  so_far : l.stale + count_by is_stale (leaves_from l.index l.count l.block) ≡ count_by is_stale (leaves_at l.count 64 l.block);
}
