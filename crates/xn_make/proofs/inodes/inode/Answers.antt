use Rattle.std.proofs.Common.{ℕ, List, [], ◌∷◌, set, ap}
use Rattle.byteorder.specs.Endian.{big_bytes, little_bytes}
use Rattle.xn_bytes.specs.Checksum.{checksum_with}
use Rattle.xn_make.specs.Fixed.{small_uuid}
use Rattle.xn_make.proofs.Known.{over}
use Rattle.xn_make.proofs.inodes.inode.Goals as goal

pub returns-clause-spelled : goal.returns-clause-spelled
returns-clause-spelled c =
    let core = c.args.core in
    let n = checksum_with c.put_bytes-4.new.bytes 100 in
    let front = ap (λ (inode : List ℕ). set (set inode 4 3) 5 core.format)
    (over 2 (big_bytes 2 core.mode) c.put_u16.ensures.value
    (over 0 (0x49 ∷ 0x4e ∷ []) c.put_bytes-3.ensures.value
    (over 176 c.args.fork.now c.put_bytes-2.ensures.value
    c.put_bytes.ensures.value))) in
    let forks = ap (λ (inode : List ℕ). set (set inode 82 24) 83 1)
    (over 76 (big_bytes 4 core.extent_count) c.put_u32-2.ensures.value
    (over 64 (big_bytes 8 core.block_count) c.put_u64-2.ensures.value
    (over 56 (big_bytes 8 core.size) c.put_u64.ensures.value
    (over 16 (big_bytes 4 core.links) c.put_u32.ensures.value
    front)))) in (
      n,
      over 100 (little_bytes 4 n) c.put_checksum.ensures.value
          (over 160 small_uuid c.put_bytes-4.ensures.value
          (over 152 (big_bytes 8 core.number) c.put_u64-3.ensures.value
          (over 92 (big_bytes 4 core.generation) c.put_u32-3.ensures.value
          forks))),
    )
