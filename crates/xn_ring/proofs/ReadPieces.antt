-- Pieces of the log's ring, as they are read from a machine.
use Rattle.std.proofs.Common.{◌≡◌, ◌∙◌, ℕ, ◌+◌, ◌-◌, ◌*◌, ◌^◌, ◌<◌, ◌≤◌, List, ◌++◌, length, take, drop, Option, Some, None, sym, ap, subst, arith, length-drop}
use Rattle.std.proofs.lemmas.List.{take-append-le, take-take}
use Rattle.std.proofs.Math.Seq.{take-append-add, take-length}
use Rattle.std.specs.Prelude.{slice_range, IfSome}
use Rattle.xn_bytes.specs.Superblock.{Geometry, sector_of_block}
use Rattle.xn_bytes.proofs.Overlays.{length-slice_range, slice_range-slice_range}
use Rattle.xn_log.specs.Ring.{ring_of, turned}
use Rattle.xn_machine.specs.Device.{read_from}
use Rattle.xn_machine.specs.Frames.{MachineStays}
use Rattle.xn_machine.specs.declared.machine.Machine.{Ghosts}
use Rattle.xn_ring.specs.Places.{HasRing}

-- ---- the machine

-- the log is still there after a machine was only read
pub log_stays : {M : Type 0} (machine : Ghosts M) (g : Geometry) (old new : M) → MachineStays machine old new → machine.read_faults new < 2 ^ 64 → machine.reads new < 2 ^ 64
    → HasRing g (machine.image old) (machine.sector_count old) (machine.read_faults old) (machine.reads old) → HasRing g (machine.image new) (machine.sector_count new) (machine.read_faults new) (machine.reads new)
log_stays machine g old new stays small_faults small log =
    let same : machine.sector_count new ≡ machine.sector_count old = stays.length_stays in
    record {
      least = log.least;
      most = log.most;
      there = subst (λ n. sector_of_block g g.log_start + 8 * g.log_blocks ≤ n) (sym same) log.there;
      length = subst (λ image. IfSome image (λ x. length x ≡ 512 * machine.sector_count new)) (sym stays.image_stays) (subst (λ n. IfSome (machine.image old) (λ x. length x ≡ 512 * n)) (sym same) log.length);
      small = (subst (λ n. n < 2 ^ 64) (sym same) log.small.0, small_faults, small);
    }

-- ---- bytes

module _ (g : Geometry) (x : List ℕ) where
  abbrev first : ℕ
  first = sector_of_block g g.log_start

  pub length-ring_of : (sectors : ℕ) → length x ≡ 512 * sectors → first + 8 * g.log_blocks ≤ sectors → length (ring_of g x) ≡ 512 * (8 * g.log_blocks)
  length-ring_of sectors long there =
      length-slice_range x (512 * first) (512 * (first + 8 * g.log_blocks)) (omega arith)
      ∙ (let e : 512 * (first + 8 * g.log_blocks) - 512 * first ≡ 512 * (8 * g.log_blocks) = omega arith in e)

  pub read_of_ring : (sectors from count : ℕ) → length x ≡ 512 * sectors → first + 8 * g.log_blocks ≤ sectors → from + count ≤ 8 * g.log_blocks
      → read_from x (first + from) (512 * count) ≡ slice_range (ring_of g x) (512 * from) (512 * from + 512 * count)
  read_of_ring sectors from count long there within =
      let a : 512 * first + 512 * from ≡ 512 * (first + from) = omega arith in
      let b : 512 * first + (512 * from + 512 * count) ≡ 512 * (first + from) + 512 * count = omega arith in
      sym
      (slice_range-slice_range x (512 * first) (512 * (first + 8 * g.log_blocks)) (512 * from) (512 * from + 512 * count) (omega arith) (omega arith)
      ∙ ap (λ n. slice_range x n (512 * first + (512 * from + 512 * count))) a
      ∙ ap (slice_range x (512 * (first + from))) b)

-- a piece that ends within the ring
pub piece_straight : (ring : List ℕ) (from count : ℕ) → 512 * from + 512 * count ≤ length ring → slice_range ring (512 * from) (512 * from + 512 * count) ≡ take (512 * count) (turned ring from)
piece_straight ring from count within =
    let width : 512 * from + 512 * count - 512 * from ≡ 512 * count = omega arith in
    let room : 512 * count ≤ length (drop (512 * from) ring) = omega (arith, length-drop (512 * from) ring) in
    ap (λ n. take n (drop (512 * from) ring)) width ∙ sym (take-append-le (512 * count) (drop (512 * from) ring) (take (512 * from) ring) room)

-- a piece that goes on at the front
pub piece_turned : (ring : List ℕ) (sectors from end count : ℕ) → length ring ≡ 512 * sectors → from + end ≡ sectors → end ≤ count → count ≤ sectors
    → slice_range ring (512 * from) (512 * from + 512 * end) ++ slice_range ring (512 * 0) (512 * 0 + 512 * (count - end)) ≡ take (512 * count) (turned ring from)
piece_turned ring sectors from end count long whole more once =
    let rest : List ℕ = drop (512 * from) ring in
    let rest_long : length rest ≡ 512 * end = omega (arith, length-drop (512 * from) ring) in
    let width : 512 * from + 512 * end - 512 * from ≡ length rest = omega arith in
    let left : slice_range ring (512 * from) (512 * from + 512 * end) ≡ rest = ap (λ n. take n rest) width ∙ take-length rest in
    let front : slice_range ring (512 * 0) (512 * 0 + 512 * (count - end)) ≡ take (512 * (count - end)) ring = ap (λ n. take n ring) (let e : 512 * 0 + 512 * (count - end) - 512 * 0 ≡ 512 * (count - end) = omega arith in e) in
    let parts : 512 * count ≡ length rest + 512 * (count - end) = omega arith in
    let both : take (512 * count) (rest ++ take (512 * from) ring) ≡ rest ++ take (512 * (count - end)) (take (512 * from) ring) =
    ap (λ n. take n (rest ++ take (512 * from) ring)) parts ∙ take-append-add rest (take (512 * from) ring) (512 * (count - end)) in
    let once_round : take (512 * (count - end)) (take (512 * from) ring) ≡ take (512 * (count - end)) ring = take-take (512 * (count - end)) (512 * from) ring (omega arith) in
    ap (λ xs. xs ++ slice_range ring (512 * 0) (512 * 0 + 512 * (count - end))) left ∙ ap (λ xs. rest ++ xs) (front ∙ sym once_round) ∙ sym both

-- what a read told of the machine's image, as a piece of its ring
pub straight_told : (g : Geometry) (image : Option (List ℕ)) (sectors from count at len : ℕ) (into whole : List ℕ)
    → IfSome image (λ x. length x ≡ 512 * sectors) → sector_of_block g g.log_start + 8 * g.log_blocks ≤ sectors → from + count ≤ 8 * g.log_blocks
    → at ≡ sector_of_block g g.log_start + from → len ≡ 512 * count → whole ≡ into
    → IfSome image (λ x. into ≡ read_from x at len) → IfSome image (λ x. whole ≡ slice_range (ring_of g x) (512 * from) (512 * from + 512 * count))
straight_told g None sectors from count at len into whole long there within is_at is_len same told = tt
straight_told g (Some x) sectors from count at len into whole long there within is_at is_len same told =
    same ∙ told ∙ ap (λ n. read_from x n len) is_at ∙ ap (read_from x (sector_of_block g g.log_start + from)) is_len ∙ read_of_ring g x sectors from count long there within

-- ---- a piece that may go on at the front

pub told_straight : (g : Geometry) (image : Option (List ℕ)) (sectors from count : ℕ) (whole : List ℕ)
    → IfSome image (λ x. length x ≡ 512 * sectors) → sector_of_block g g.log_start + 8 * g.log_blocks ≤ sectors → from + count ≤ 8 * g.log_blocks
    → IfSome image (λ x. whole ≡ slice_range (ring_of g x) (512 * from) (512 * from + 512 * count)) → IfSome image (λ x. whole ≡ take (512 * count) (turned (ring_of g x) from))
told_straight g None sectors from count whole long there within told = tt
told_straight g (Some x) sectors from count whole long there within told =
    told ∙ piece_straight (ring_of g x) from count (let e : length (ring_of g x) ≡ 512 * (8 * g.log_blocks) = length-ring_of g x sectors long there in omega arith)

pub told_turned : (g : Geometry) (image now : Option (List ℕ)) (sectors from end count : ℕ) (bytes front passed whole : List ℕ)
    → IfSome image (λ x. length x ≡ 512 * sectors) → sector_of_block g g.log_start + 8 * g.log_blocks ≤ sectors → from + end ≡ 8 * g.log_blocks → end ≤ count → count ≤ 8 * g.log_blocks
    → now ≡ image → whole ≡ bytes ++ passed → passed ≡ front
    → IfSome image (λ x. bytes ≡ slice_range (ring_of g x) (512 * from) (512 * from + 512 * end))
    → IfSome now (λ x. front ≡ slice_range (ring_of g x) (512 * 0) (512 * 0 + 512 * (count - end)))
    → IfSome image (λ x. whole ≡ take (512 * count) (turned (ring_of g x) from))
told_turned g None now sectors from end count bytes front passed whole long there is_end more once stays same is_passed told told_front = tt
told_turned g (Some x) now sectors from end count bytes front passed whole long there is_end more once stays same is_passed told told_front =
    let front_is : front ≡ slice_range (ring_of g x) (512 * 0) (512 * 0 + 512 * (count - end)) = subst (λ i. IfSome i (λ y. front ≡ slice_range (ring_of g y) (512 * 0) (512 * 0 + 512 * (count - end)))) stays told_front in
    same ∙ ap (λ xs. bytes ++ xs) is_passed ∙ ap (λ xs. xs ++ front) told ∙ ap (λ xs. slice_range (ring_of g x) (512 * from) (512 * from + 512 * end) ++ xs) front_is
    ∙ piece_turned (ring_of g x) (8 * g.log_blocks) from end count (length-ring_of g x sectors long there) is_end more once
