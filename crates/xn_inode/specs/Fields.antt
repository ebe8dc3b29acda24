-- The fields that the crate keeps of a superblock, seen as its geometry.
use Rattle.std.specs.Prelude.{◌≢◌, ◌⊎◌, ℕ, ◌+◌, ◌-◌, ◌*◌, ◌^◌, ◌<◌, ◌≤◌}
use Rattle.xn_bytes.specs.Superblock.{Geometry, group_of, block_in_group, linear_block}
use Rattle.xn_inode.specs.declared.fields.Fields.{Fields}

abbrev pub geometry_from : Fields → Geometry
geometry_from fields = record {
  data_blocks = fields.data_blocks;
  ag_blocks = fields.ag_blocks;
  ag_count = fields.ag_count;
  ag_block_log = fields.ag_block_log;
  log_start = fields.log_start;
  log_blocks = fields.log_blocks;
  root = fields.root;
  sparse = fields.sparse;
  uuid = fields.uuid;
  meta_uuid = fields.meta_uuid;
  own_inodes = fields.own_inodes;
}

-- the two halves of what is accepted of groups
pub record HasGroupSize (g : Geometry) : Type 0 where
  pub large : 64 ≤ g.ag_blocks
  pub log : g.ag_block_log ≤ 31
  pub fits_log : g.ag_blocks ≤ 2 ^ g.ag_block_log
  pub needs_log : 2 ^ g.ag_block_log < 2 * g.ag_blocks

pub record HasGroupCount (g : Geometry) : Type 0 where
  pub some : 1 ≤ g.ag_count
  pub last_used : (g.ag_count - 1) * g.ag_blocks < g.data_blocks
  pub all_hold : g.data_blocks ≤ g.ag_count * g.ag_blocks
  pub few : g.data_blocks < 2 ^ 48

-- what is accepted of the log, but for the size of its sectors
pub record HasLogPlace (g : Geometry) : Type 0 where
  pub not_zero : g.log_start ≢ 0
  pub least : 512 ≤ g.log_blocks
  pub most : g.log_blocks ≤ 524288
  pub group : group_of g g.log_start < g.ag_count
  pub one_group : block_in_group g g.log_start + g.log_blocks ≤ g.ag_blocks
  pub in_data : linear_block g g.log_start + g.log_blocks ≤ g.data_blocks

-- a run of blocks of one group, the group's first block not among them, and in range
pub record IsRunOfGroup (g : Geometry) (block count : ℕ) : Type 0 where
  pub group : group_of g block < g.ag_count
  pub not_first : block_in_group g block ≢ 0
  pub within : block_in_group g block + count ≤ g.ag_blocks
  pub in_data : linear_block g block + count ≤ g.data_blocks

-- a run of blocks that ends in front of the log, or begins behind it
abbrev pub IsRunOutsideLog : Geometry → ℕ → ℕ → Type 0
IsRunOutsideLog g block count =
    (linear_block g block + count ≤ linear_block g g.log_start) ⊎ (linear_block g g.log_start + g.log_blocks ≤ linear_block g block)

-- the fields back
abbrev pub fields_from : Geometry → Fields
fields_from g = record {
  data_blocks = g.data_blocks;
  ag_blocks = g.ag_blocks;
  ag_count = g.ag_count;
  ag_block_log = g.ag_block_log;
  log_start = g.log_start;
  log_blocks = g.log_blocks;
  root = g.root;
  sparse = g.sparse;
  uuid = g.uuid;
  meta_uuid = g.meta_uuid;
  own_inodes = g.own_inodes;
}
