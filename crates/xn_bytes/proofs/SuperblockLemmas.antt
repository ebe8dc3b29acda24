-- A superblock with a first field that is not accepted is none.
use Rattle.std.proofs.Common.{ℕ, List, inl, inr}
use Rattle.std.specs.Prelude.{◌⊎◌}
use Rattle.xn_bytes.specs.Superblock.{IsSuperblock, FirstFieldBroken}

-- where the first of several facts holds, the one that fails is among the rest
past : {E P R : Type 0} → (E × (P → ⊥)) ⊎ (P × R) → P → R
past (inl fails) p = absurd (fails.1 p)
past (inr holds) p = holds.1

pub broken_is_none : (bytes : List ℕ) (sectors field : ℕ) → FirstFieldBroken bytes sectors field → IsSuperblock bytes sectors → ⊥
broken_is_none bytes sectors field broken s =
    past (past (past (past (past (past (past (past (past (past (past (past (past broken s.magic) s.checksum) s.version) s.block_size)
    s.sector_size) s.inode_size) s.groups) s.directory_blocks) s.log) s.incompat) s.read_only_compat) s.root) s.length
