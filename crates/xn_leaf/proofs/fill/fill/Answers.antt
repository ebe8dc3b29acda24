use Rattle.std.proofs.Common.{length, refl}
use Rattle.xn_bytes.specs.Checksum.{checksum_with}
use Rattle.xn_leaf.proofs.Filling.{is_filled}
use Rattle.xn_leaf.proofs.fill.fill.Goals as goal

pub returns : goal.returns
returns c =
    is_filled c.args.block.now c.put_entries.new.block c.put_counts.new.block c.put_checksum.new.bytes c.args.entries.now (length c.args.entries.now) (checksum_with c.put_counts.new.block 12)
    c.requires.size c.requires.lawful c.requires.sorted c.requires.few refl c.put_entries.ensures c.put_counts.ensures c.put_checksum.ensures.value c.put_checksum.ensures.right c.put_checksum.ensures.length
