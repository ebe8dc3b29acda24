-- What a sample's manifest lists stands where rule 2 wants it, and is sound.
use Rattle.std.proofs.Common.{◌≡◌, ℕ, ◌+◌, ◌-◌, ◌*◌, ◌/◌, ◌%◌, ◌^◌, ◌<◌, ◌≤◌, List, [], ◌∷◌, sym, subst, ◌∙◌, arith, inl, inr}
use Rattle.std.specs.Prelude.{slice_index_or}
use Rattle.std.proofs.lemmas.Bool.{cases_lt}
use Rattle.std.proofs.lemmas.List.FromFn.{length-map-range_with_len, get_or-map-range_with_len}
use Rattle.xn_bytes.specs.Numbers.{number_at, sector_of}
use Rattle.xn_bytes.specs.Superblock.{linear_block, sector_of_inode}
use Rattle.xn_bytes.specs.Blocks.{IsHome}
use Rattle.xn_bytes.specs.Inode.{HasCore, HasForks, inode_of}
use Rattle.xn_meaning.specs.Manifests.{Manifest, ChunkLists, Lists, RunHas, InPool, HasPlaces}
use Rattle.xn_make.specs.Fixed.{small_uuid}
use Rattle.xn_make.specs.Images.{image_geometry}
use Rattle.xn_make.specs.Samples.{full_chunk, sample_manifest, IsSampleInode, IsSampleImage, HasSoundInodes}
use Rattle.xn_make.proofs.SuperblockBytes.{in_group}

-- an inode that is listed is one of those from 128 on
listed_within : (inodes pool ino : ℕ) → inodes % 64 ≡ 0 → Lists (sample_manifest inodes pool) ino → (128 ≤ ino) × (ino < 128 + inodes)
listed_within inodes pool ino whole listed =
    let k : ℕ = listed.0 in
    let within : k < inodes / 64 = omega (arith, listed.2, length-map-range_with_len full_chunk 0 (inodes / 64)) in
    let is : full_chunk k ≡ listed.1 = sym (get_or-map-range_with_len full_chunk 0 (inodes / 64) k k listed.1 within (omega arith)) ∙ listed.3 in
    let chunk : ChunkLists ino (full_chunk k) = subst (λ (chunk : ℕ × ℕ). ChunkLists ino chunk) (sym is) listed.4 in
    let at : 128 + 64 * k ≤ ino = chunk.from in
    let below : ino < 128 + 64 * k + 64 = chunk.below in
    (omega (arith, at), omega (arith, below, within, whole))

-- a block of the pool is one of its run
pool_within : (inodes pool block : ℕ) → InPool (sample_manifest inodes pool) block → (512 ≤ block) × (block < 512 + pool)
pool_within inodes pool block (k, run, within, is, has) =
    let first : 0 ≡ k = omega (arith, within) in
    let same : (512, pool) ≡ run = subst (λ (n : ℕ). slice_index_or ((512, pool) ∷ []) n run ≡ run) (sym first) is in
    let had : RunHas block (512, pool) = subst (λ (r : ℕ × ℕ). RunHas block r) (sym same) has in
    (had.from, had.below)

-- blocks in front of the log, but for the first
home : (log_start block : ℕ) → log_start ≤ 2 ^ 30 → 0 < block → block < log_start → IsHome (image_geometry log_start) block
home log_start block few some before =
    let place = in_group log_start block few (omega (arith, before)) in
    let log = in_group log_start log_start few (omega arith) in
    let of = place.0 in
    let within = place.1 in
    let linear : linear_block (image_geometry log_start) block ≡ block = rw of (rw within (omega arith)) in
    let first : linear_block (image_geometry log_start) log_start ≡ log_start = rw log.0 (rw log.1 (omega arith)) in
    record {
      place = record { group = omega (arith, of); within = omega (arith, within, before); in_data = omega (arith, linear, before) };
      no_log = λ is. omega (arith, is.from, linear, first, before);
      not_first = λ e. omega (arith, e, within, some);
    }

places : (inodes pool : ℕ) → inodes % 64 ≡ 0 → inodes ≤ 3968 → pool ≤ 65536 → HasPlaces (image_geometry (512 + pool)) (sample_manifest inodes pool)
places inodes pool whole fit few = record {
  inodes = λ ino listed.
      let is = listed_within inodes pool ino whole listed in
      home (512 + pool) (ino / 8) (omega (arith, few)) (omega (arith, is.0)) (omega (arith, is.1, fit));
  pool = λ block has.
      let is = pool_within inodes pool block has in
      home (512 + pool) block (omega (arith, few)) (omega (arith, is.0)) (omega (arith, is.1));
  apart = λ ino listed has.
      let is = listed_within inodes pool ino whole listed in
      let at = pool_within inodes pool (ino / 8) has in
      omega (arith, is.1, at.0, fit);
}

-- rules 10 and 11 of an inode by its bytes, with an attribute fork
record HasRules (inode : List ℕ) (number : ℕ) : Type 0 where
  pub core : HasCore inode number small_uuid
  pub forks : HasForks inode
  pub offset : 24 ≡ number_at 1 82 inode

rules_of : (count place : ℕ) (inode : List ℕ) → IsSampleInode inode count place → HasRules inode (128 + place)
rules_of count place inode is = elim (cases_lt place (count / 4)) [
  | inl low ↦ let directory = is.directory low in record { core = directory.core; forks = directory.forks; offset = directory.fields.fork_offset }
  | inr high ↦ let file = is.file high in record { core = file.core; forks = file.forks; offset = file.fields.fork_offset }
]

-- where an inode stands in front of the pool
sector_is : (pool ino : ℕ) → pool ≤ 65536 → ino < 4096 → sector_of_inode (image_geometry (512 + pool)) ino ≡ ino
sector_is pool ino few front =
    let place = in_group (512 + pool) (ino / 8) (omega (arith, few)) (omega (arith, front)) in
    let linear : linear_block (image_geometry (512 + pool)) (ino / 8) ≡ ino / 8 = rw place.0 (rw place.1 (omega arith)) in
    omega (arith, linear)

listed_rules : (inodes pool ino : ℕ) (image : List ℕ) → inodes % 64 ≡ 0 → inodes ≤ 3968 → pool ≤ 65536 → IsSampleImage image inodes pool → Lists (sample_manifest inodes pool) ino
    → HasRules (inode_of (image_geometry (512 + pool)) image ino) ino
listed_rules inodes pool ino image whole fit few made listed =
    let is = listed_within inodes pool ino whole listed in
    let number : 128 + (ino - 128) ≡ ino = omega (arith, is.0) in
    let rules = rules_of inodes (ino - 128) (sector_of image (128 + (ino - 128))) (made.inodes (ino - 128) (omega (arith, is.0, is.1))) in
    let here : HasRules (sector_of image ino) ino = subst (λ (n : ℕ). HasRules (sector_of image n) n) number rules in
    subst (λ (n : ℕ). HasRules (sector_of image n) ino) (sym (sector_is pool ino few (omega (arith, is.1, fit)))) here

pub sound : (inodes pool : ℕ) (image : List ℕ) (m : Manifest) → inodes % 64 ≡ 0 → inodes ≤ 3968 → pool ≤ 65536 → IsSampleImage image inodes pool → m ≡ sample_manifest inodes pool
    → HasSoundInodes (image_geometry (512 + pool)) image m
sound inodes pool image m whole fit few made is =
    let g = image_geometry (512 + pool) in
    subst (λ (m : Manifest). HasSoundInodes g image m) (sym is) (record {
      places = places inodes pool whole fit few;
      cores = λ ino listed. let rules = listed_rules inodes pool ino image whole fit few made listed in rules.core;
      forks = λ ino listed.
          let rules = listed_rules inodes pool ino image whole fit few made listed in
          record { forks = rules.forks; attribute_there = λ not_root e. omega (arith, rules.offset, e) };
    })
