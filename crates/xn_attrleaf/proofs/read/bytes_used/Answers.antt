use Rattle.std.proofs.Common.{ap, arith}
use Rattle.std.specs.Prelude.{sum_by}
use Rattle.xn_bytes.specs.Numbers.{number_at}
use Rattle.xn_bytes.specs.AttributeLeaves.{attr_entries, name_size}
use Rattle.xn_attrleaf.specs.EntriesRead.{all_left, entry_head, none_left, sum_step}
use Rattle.xn_attrleaf.proofs.read.bytes_used.Goals as goal

pub loop-index-init : goal.loop-index-init
loop-index-init c =
    let all = ap (sum_by (name_size c.args.block.now)) (all_left (number_at 2 56 c.args.block.now) c.args.block.now) in
    record { few = omega arith; so_far = omega (arith, all) }

pub name_size-used-requires-clause-head : goal.name_size-used-requires-clause-head
name_size-used-requires-clause-head c =
    entry_head c.args.block.now c.loop-index.index c.entry_in.result c.requires.within (omega (arith, c.count_in-index-end.ensures.count)) c.entry_in.ensures

pub overflow_add-used : goal.overflow_add-used
overflow_add-used c = omega (arith, c.loop-index.invariant.few, c.name_size-used.ensures.fits, c.requires.few, c.count_in-index-end.ensures.count)

pub loop-index-preserved : goal.loop-index-preserved
loop-index-preserved c =
    let bytes = c.args.block.now in
    record {
      few = omega (arith, c.loop-index.invariant.few, c.name_size-used.ensures.fits);
      so_far =
          sum_step (name_size bytes) (sum_by (name_size bytes) (attr_entries bytes)) c.loop-index.index (number_at 2 56 bytes) c.loop-index.used c.name_size-used.result c.entry_in.result bytes
          (omega (arith, c.count_in-index-end.ensures.count)) c.entry_in.ensures c.name_size-used.ensures.size c.loop-index.invariant.so_far;
    }

pub returns : goal.returns
returns c =
    let gone = ap (sum_by (name_size c.args.block.now)) (none_left c.loop-index.index (number_at 2 56 c.args.block.now) c.args.block.now (omega (arith, c.count_in-index-end.ensures.count))) in
    omega (arith, gone, c.loop-index.invariant.so_far)
