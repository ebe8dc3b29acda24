-- The sectors of the log, looked at in pieces.
use Rattle.std.proofs.Common.{◌≡◌, ◌∙◌, ℕ, ◌+◌, ◌*◌, ◌≤◌, List, length, take, Option, Some, None, sym, ap, subst, arith}
use Rattle.std.specs.Prelude.{IfSome}
use Rattle.xn_bytes.specs.Superblock.{Geometry, sector_of_block}
use Rattle.xn_log.specs.Ring.{ring_of, ring_sectors_of, turned}
use Rattle.xn_ring.specs.Scans.{IsNoted, IsPiece}
use Rattle.xn_ring.specs.declared.found.Found.{Found}
use Rattle.xn_ring.proofs.ReadPieces.{length-ring_of}

-- the ring has as many sectors as the superblock says
pub sectors_of_ring : (g : Geometry) (x : List ℕ) (sectors : ℕ) → length x ≡ 512 * sectors → sector_of_block g g.log_start + 8 * g.log_blocks ≤ sectors → ring_sectors_of (ring_of g x) ≡ 8 * g.log_blocks
sectors_of_ring g x sectors long there = let e : length (ring_of g x) ≡ 512 * (8 * g.log_blocks) = length-ring_of g x sectors long there in omega arith

pub piece_told : (g : Geometry) (image : Option (List ℕ)) (sectors start count n : ℕ) (bytes passed uuid : List ℕ) (old new : Found)
    → IfSome image (λ x. length x ≡ 512 * sectors) → sector_of_block g g.log_start + 8 * g.log_blocks ≤ sectors → 512 ≤ g.log_blocks → start + count ≤ 8 * g.log_blocks → count ≤ 1024
    → n ≡ 8 * g.log_blocks → passed ≡ bytes → uuid ≡ g.uuid → length bytes ≡ 512 * (count + 64)
    → IfSome image (λ x. bytes ≡ take (512 * (count + 64)) (turned (ring_of g x) start))
    → ((ring : List ℕ) → ring_sectors_of ring ≡ n → IsPiece ring start count passed → IsNoted uuid ring start old → IsNoted uuid ring (start + count) new)
    → IfSome image (λ x. IsNoted g.uuid (ring_of g x) start old → IsNoted g.uuid (ring_of g x) (start + count) new)
piece_told g None sectors start count n bytes passed uuid old new long there least within few is_n is_passed is_uuid size told noted = tt
piece_told g (Some x) sectors start count n bytes passed uuid old new long there least within few is_n is_passed is_uuid size told noted =
    let ring : List ℕ = ring_of g x in
    let ring_long : length ring ≡ 512 * (8 * g.log_blocks) = length-ring_of g x sectors long there in
    let many : ring_sectors_of ring ≡ 8 * g.log_blocks = sectors_of_ring g x sectors long there in
    let piece : IsPiece ring start count bytes = record {
      within = omega arith;
      room = omega arith;
      once = omega arith;
      shown = told ∙ ap (λ m. take m (turned ring start)) (sym size);
    } in
    subst (λ u. IsNoted u ring start old → IsNoted u ring (start + count) new) is_uuid (noted ring (many ∙ sym is_n) (subst (IsPiece ring start count) (sym is_passed) piece))
