use Rattle.std.proofs.Common.{ℕ, List, set, ap, ◌∙◌, ◌+◌}
use Rattle.byteorder.specs.Endian.{big_bytes, little_bytes}
use Rattle.xn_bytes.specs.Checksum.{checksum_with}
use Rattle.xn_make.specs.Fixed.{small_uuid}
use Rattle.xn_make.specs.SpelledSuperblocks.{block_bits}
use Rattle.xn_make.proofs.Known.{over, over_number}
use Rattle.xn_make.proofs.SuperblockBytes.{image_superblock}
use Rattle.xn_make.proofs.superblocks.superblock.Goals as goal

pub returns : goal.returns
returns c =
    let n = checksum_with c.put_u32-5.new.bytes 224 in
    let log_start = c.args.log_start in
    let blocks = log_start + 512 in
    let sizes =
    ap (λ (bits : ℕ). set (set c.put_u16-4.new.bytes 123 3) 124 bits) c.bits_of.ensures
    ∙ ap (λ (bytes : List ℕ). set (set bytes 123 3) 124 (block_bits blocks))
    (over 106 (big_bytes 2 8) c.put_u16-4.ensures.value
    (over 104 (big_bytes 2 512) c.put_u16-3.ensures.value
    (over 102 (big_bytes 2 512) c.put_u16-2.ensures.value
    (over 100 (big_bytes 2 5) c.put_u16.ensures.value
    (over 96 (big_bytes 4 512) c.put_u32-4.ensures.value
    (over 88 (big_bytes 4 1) c.put_u32-3.ensures.value
    (over 84 (big_bytes 4 blocks) c.put_u32-2.ensures.value
    (over 56 (big_bytes 8 128) c.put_u64-3.ensures.value
    (over_number 48 8 log_start c.from-2.ensures c.put_u64-2.ensures.value
    (over 32 small_uuid c.put_bytes-2.ensures.value
    (over_number 8 8 blocks c.from.ensures c.put_u64.ensures.value
    (over 4 (big_bytes 4 4096) c.put_u32.ensures.value
    c.put_bytes.ensures.value)))))))))))) in
    image_superblock c.put_checksum.new.bytes log_start n
    (over 224 (little_bytes 4 n) c.put_checksum.ensures.value (over 216 (big_bytes 4 0x81) c.put_u32-5.ensures.value sizes))
    c.put_checksum.ensures.right c.requires.some c.requires.few
