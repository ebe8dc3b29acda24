-- The ring of a machine whose superblock is accepted.
use Rattle.std.proofs.Common.{◌≡◌, ℕ, ◌+◌, ◌*◌, ◌^◌, ◌<◌, ◌≤◌, List, length, Option, arith}
use Rattle.std.specs.Prelude.{IfSome}
use Rattle.xn_bytes.specs.Superblock.{Geometry, IsSuperblock, geometry_of, linear_block}
use Rattle.xn_ring.specs.Places.{HasRing}

ring_in_data : (start log_blocks data_blocks sectors : ℕ) → start + log_blocks ≤ data_blocks → 8 * data_blocks ≤ sectors → start * 8 + 8 * log_blocks ≤ sectors
ring_in_data start log_blocks data_blocks sectors in_data all = omega arith

pub ring_accepted : (superblock : List ℕ) (image : Option (List ℕ)) (sectors read_faults reads : ℕ) → IsSuperblock superblock sectors
    → IfSome image (λ x. length x ≡ 512 * sectors) → (sectors < 2 ^ 64) × (read_faults < 2 ^ 64) × (reads < 2 ^ 64) → HasRing (geometry_of superblock) image sectors read_faults reads
ring_accepted superblock image sectors read_faults reads accepted long small =
    let g : Geometry = geometry_of superblock in
    record {
      least = accepted.log.least;
      most = accepted.log.most;
      there = ring_in_data (linear_block g g.log_start) g.log_blocks g.data_blocks sectors accepted.log.in_data accepted.length;
      length = long;
      small = small;
    }
