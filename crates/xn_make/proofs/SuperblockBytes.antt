-- The bytes that are put into sector 0 are an accepted superblock.
use Rattle.std.proofs.Common.{◌≡◌, ℕ, ◌+◌, ◌-◌, ◌*◌, ◌/◌, ◌%◌, ◌^◌, ◌<◌, ◌≤◌, false, List, lit<, lit≤, drop, replicate, refl, sym, ap, subst, ◌∙◌, arith, inl, inr}
use Rattle.std.proofs.lemmas.Nat.{leading_length}
use Rattle.std.proofs.Math.Nat.{div-eq_of_lt, mod-eq_of_lt}
use Rattle.std.proofs.lemmas.Bool.{cases_lt}
use Rattle.std.proofs.Math.Pow.{pow_mono}
use Rattle.std.specs.Int.{leading_zeros, w32}
use Rattle.byteorder.specs.Numbers.{big_number-reads_back}
use Rattle.xn_bytes.specs.Numbers.{number_at}
use Rattle.xn_bytes.specs.Checksum.{HasChecksum}
use Rattle.xn_bytes.specs.Superblock.{Geometry, geometry_of, ftype_bit, parent_bit, IsSuperblock, HasGroups, HasLog, HasRoot, HasLength}
use Rattle.xn_make.specs.Fixed.{small_uuid}
use Rattle.xn_make.specs.SpelledSuperblocks.{block_bits, superblock_bytes}
use Rattle.xn_make.specs.Images.{image_geometry, IsImageSuperblock}

data_blocks : (log_start checksum : ℕ) → log_start ≤ 2 ^ 30 → number_at 8 8 (superblock_bytes log_start checksum) ≡ log_start + 512
unfolding number_at
data_blocks log_start checksum few = big_number-reads_back 8 (log_start + 512) (drop 16 (superblock_bytes log_start checksum)) (omega arith)

first_log_block : (log_start checksum : ℕ) → log_start ≤ 2 ^ 30 → number_at 8 48 (superblock_bytes log_start checksum) ≡ log_start
unfolding number_at
first_log_block log_start checksum few = big_number-reads_back 8 log_start (drop 56 (superblock_bytes log_start checksum)) (omega arith)

group_blocks : (log_start checksum : ℕ) → log_start ≤ 2 ^ 30 → number_at 4 84 (superblock_bytes log_start checksum) ≡ log_start + 512
unfolding number_at
group_blocks log_start checksum few = big_number-reads_back 4 (log_start + 512) (drop 88 (superblock_bytes log_start checksum)) (omega arith)

bits : (log_start checksum : ℕ) → number_at 1 124 (superblock_bytes log_start checksum) ≡ block_bits (log_start + 512)
unfolding number_at
bits log_start checksum = let e : block_bits (log_start + 512) * 1 + 0 ≡ block_bits (log_start + 512) = omega arith in e

-- the geometry by the four fields that depend on the log's place
abbrev geometry_by : ℕ → ℕ → ℕ → ℕ → Geometry
geometry_by blocks first of_group log = record {
  data_blocks = blocks;
  ag_blocks = of_group;
  ag_count = 1;
  ag_block_log = log;
  log_start = first;
  log_blocks = 512;
  root = 128;
  sparse = false;
  uuid = small_uuid;
  meta_uuid = small_uuid;
  own_inodes = replicate 5 0;
}

by_fields : (log_start checksum : ℕ) → geometry_of (superblock_bytes log_start checksum)
    ≡ geometry_by (number_at 8 8 (superblock_bytes log_start checksum)) (number_at 8 48 (superblock_bytes log_start checksum)) (number_at 4 84 (superblock_bytes log_start checksum)) (number_at 1 124 (superblock_bytes log_start checksum))
unfolding number_at
by_fields log_start checksum = refl

geometry : (log_start checksum : ℕ) → log_start ≤ 2 ^ 30 → geometry_of (superblock_bytes log_start checksum) ≡ image_geometry log_start
geometry log_start checksum few =
    let bytes = superblock_bytes log_start checksum in
    let blocks = log_start + 512 in
    by_fields log_start checksum
    ∙ ap (λ (n : ℕ). geometry_by n (number_at 8 48 bytes) (number_at 4 84 bytes) (number_at 1 124 bytes)) (data_blocks log_start checksum few)
    ∙ ap (λ (n : ℕ). geometry_by blocks n (number_at 4 84 bytes) (number_at 1 124 bytes)) (first_log_block log_start checksum few)
    ∙ ap (λ (n : ℕ). geometry_by blocks log_start n (number_at 1 124 bytes)) (group_blocks log_start checksum few)
    ∙ ap (geometry_by blocks log_start blocks) (bits log_start checksum)

features : (log_start checksum : ℕ) → number_at 4 216 (superblock_bytes log_start checksum) ≡ ftype_bit + parent_bit
unfolding number_at
features log_start checksum = refl

-- the least power of two that so many blocks need
record IsLeastPower (power blocks : ℕ) : Type 0 where
  pub enough : blocks ≤ power
  pub needed : power < 2 * blocks

least_power : (log_start : ℕ) → log_start ≤ 2 ^ 30 → (block_bits (log_start + 512) ≤ 31) × IsLeastPower (2 ^ block_bits (log_start + 512)) (log_start + 512)
least_power log_start few =
    let length = leading_length 32 (log_start + 512 - 1) (omega arith) in
    let m : ℕ = length.0 in
    let counted : leading_zeros w32 (log_start + 512 - 1) + m ≡ 32 = length.1 in
    let below : log_start + 512 - 1 < 2 ^ m = length.2 in
    let above : 2 ^ m ≤ 2 * (log_start + 512 - 1) + 1 = length.3 in
    let is : m ≡ block_bits (log_start + 512) = omega (arith, counted) in
    let short : m ≤ 31 = elim (cases_lt m 32) [
      | inl small ↦ omega (arith, small)
      | inr large ↦ let power : 2 ^ 32 ≤ 2 ^ m = pow_mono large in absurd (omega (arith, power, above, few))
    ] in
    let P : ℕ → Type 0 = λ (bits : ℕ). (bits ≤ 31) × IsLeastPower (2 ^ bits) (log_start + 512) in
    subst P is (short, record { enough = omega (arith, below); needed = omega (arith, above) })

-- numbers of blocks are numbers within the one group
pub in_group : (log_start block : ℕ) → log_start ≤ 2 ^ 30 → block < log_start + 512
    → (block / 2 ^ block_bits (log_start + 512) ≡ 0) × (block % 2 ^ block_bits (log_start + 512) ≡ block)
in_group log_start block few within =
    let power : ℕ = 2 ^ block_bits (log_start + 512) in
    let enough : log_start + 512 ≤ power = (least_power log_start few).1.enough in
    let below : block < power = omega (arith, enough, within) in
    (div-eq_of_lt below, mod-eq_of_lt below)

groups : (log_start : ℕ) → log_start ≤ 2 ^ 30 → HasGroups (image_geometry log_start)
groups log_start few =
    let least = least_power log_start few in
    record {
      some = lit≤ tt;
      large = omega arith;
      log = least.0;
      fits_log = least.1.enough;
      needs_log = least.1.needed;
      last_used = omega arith;
      all_hold = omega arith;
      few = omega (arith, few);
    }

log : (bytes : List ℕ) (log_start : ℕ) → 0 < log_start → log_start ≤ 2 ^ 30 → number_at 2 194 bytes ≡ 0 → HasLog bytes (image_geometry log_start)
log bytes log_start some few sectors =
    let place = in_group log_start log_start few (omega arith) in
    let of : log_start / 2 ^ block_bits (log_start + 512) ≡ 0 = place.0 in
    let within : log_start % 2 ^ block_bits (log_start + 512) ≡ log_start = place.1 in
    record {
      not_zero = λ e. omega (arith, e, some);
      least = lit≤ tt;
      most = lit≤ tt;
      group = omega (arith, of);
      one_group = omega (arith, within);
      in_data = rw of (rw within (omega arith));
      sector_size = inl sectors;
    }

root : (log_start : ℕ) → log_start ≤ 2 ^ 30 → HasRoot (image_geometry log_start)
root log_start few =
    let place = in_group log_start 16 few (omega arith) in
    let of : 16 / 2 ^ block_bits (log_start + 512) ≡ 0 = place.0 in
    let within : 16 % 2 ^ block_bits (log_start + 512) ≡ 16 = place.1 in
    record { group = omega (arith, of); within = omega (arith, within); in_data = rw of (rw within (omega arith)) }

log_sectors : (log_start checksum : ℕ) → number_at 2 194 (superblock_bytes log_start checksum) ≡ 0
unfolding number_at
log_sectors log_start checksum = refl

accepted : (log_start checksum : ℕ) → 0 < log_start → log_start ≤ 2 ^ 30 → HasChecksum (superblock_bytes log_start checksum) 224 → IsSuperblock (superblock_bytes log_start checksum) (8 * (log_start + 512))
unfolding number_at
accepted log_start checksum some few h =
    let bytes = superblock_bytes log_start checksum in
    let is = sym (geometry log_start checksum few) in
    record {
      magic = record { sector = omega arith; whole = omega arith; magic = refl };
      checksum = h;
      version = record { version = refl; no_folding = refl };
      block_size = refl;
      sector_size = refl;
      inode_size = record { size = refl; per_block = refl; per_block_log = refl };
      groups = subst (λ (g : Geometry). HasGroups g) is (groups log_start few);
      directory_blocks = refl;
      log = subst (λ (g : Geometry). HasLog bytes g) is (log bytes log_start some few (log_sectors log_start checksum));
      incompat = record { known = refl; ftype = refl; parent = refl };
      read_only_compat = record { known = lit< tt; log_word = lit< tt };
      root = subst (λ (g : Geometry). HasRoot g) is (root log_start few);
      length = subst (λ (g : Geometry). HasLength g (8 * (log_start + 512))) is (let whole : 8 * (log_start + 512) ≤ 8 * (log_start + 512) = omega arith in whole);
    }

-- what is put, with its checksum
pub image_superblock : (bytes : List ℕ) (log_start checksum : ℕ) → bytes ≡ superblock_bytes log_start checksum → HasChecksum bytes 224 → 0 < log_start → log_start ≤ 2 ^ 30 → IsImageSuperblock bytes log_start
image_superblock bytes log_start checksum e h some few =
    let P : List ℕ → Type 0 = λ (xs : List ℕ). IsImageSuperblock xs log_start in
    let Q : List ℕ → Type 0 = λ (xs : List ℕ). HasChecksum xs 224 in
    subst P (sym e) (record {
      whole = refl;
      accepted = accepted log_start checksum some few (subst Q e h);
      geometry = geometry log_start checksum few;
      features = features log_start checksum;
      spelled = (checksum, refl);
    })
