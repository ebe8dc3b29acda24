-- What the checks of a block find, in one place.
use Rattle.std.proofs.Common.{◌≡◌, ℕ, ◌-◌, ◌*◌, ◌≤◌, Bool, true, false, not, ltb, eqb, List, length, Option, Some, None, refl, sym, ap, ◌∙◌, arith}
use Rattle.std.specs.Prelude.{◌||◌, ◌&&◌}
use Rattle.std.proofs.lemmas.Bool.{le-ltb, eq-eqb, cond_both}
use Rattle.xn_bytes.specs.Numbers.{number_at, little_number_at}
use Rattle.xn_bytes.specs.Checksum.{HasChecksum, checksum_with}
use Rattle.xn_bytes.specs.DataBlock.{area_end, leaf_count, has_block_form, data_magic, header_size, most_regions, regions_fault, regions_of, first_fault, gaps_among, pairs_fault, data_fault}
use Rattle.xn_data.specs.Weighing.{pairs_of}
use Rattle.xn_data.proofs.Regions.{regions_passed, gaps_some}
use Rattle.xn_data.proofs.Weighing.{verdicts_are}
use Rattle.xn_data.proofs.Walk.{told}

pub area_within : (bytes : List ℕ) → area_end bytes ≤ 4096
area_within bytes = cond_both (has_block_form bytes) (4088 - 8 * leaf_count bytes) 4096 (λ n. n ≤ 4096) (λ _. omega arith) (λ _. omega arith)

told_by : (fault : Option ℕ) (bytes : List ℕ) → length bytes ≡ 4096 → 64 ≤ area_end bytes → regions_fault most_regions false header_size (area_end bytes) bytes ≡ fault
    → told most_regions false header_size (area_end bytes) (pairs_of bytes) bytes ≡ first_fault (regions_fault most_regions false header_size (area_end bytes) bytes) (pairs_fault bytes (gaps_among (regions_of bytes)))
told_by (Some fault) bytes size room e = rw e refl
told_by None bytes size room e =
    let end : ℕ = area_end bytes in
    let within = area_within bytes in
    let stand = regions_passed most_regions false header_size end bytes (omega arith) room (omega arith) e in
    ap (first_fault (regions_fault most_regions false header_size end bytes)) (verdicts_are bytes (gaps_among (regions_of bytes)) (gaps_some false header_size end bytes (regions_of bytes) stand))

told_is : (bytes : List ℕ) → length bytes ≡ 4096 → 64 ≤ area_end bytes
    → told most_regions false header_size (area_end bytes) (pairs_of bytes) bytes ≡ first_fault (regions_fault most_regions false header_size (area_end bytes) bytes) (pairs_fault bytes (gaps_among (regions_of bytes)))
told_is bytes size room = told_by (regions_fault most_regions false header_size (area_end bytes) bytes) bytes size room refl

magic_passes : (block_form other : Bool) → (block_form || other) ≡ true → (not block_form && not other) ≡ false
magic_passes true other e = refl
magic_passes false true e = refl
magic_passes false false e = absurd cc

-- past magic, checksum and count the fault is that of the regions and pairs
pub told_at : (bytes : List ℕ) (end : ℕ) → length bytes ≡ 4096 → (has_block_form bytes || eqb (number_at 4 0 bytes) data_magic) ≡ true → HasChecksum bytes 4 → end ≡ area_end bytes → 64 ≤ end
    → data_fault bytes ≡ told most_regions false header_size end (pairs_of bytes) bytes
unfolding data_fault
told_at bytes end size magic checksum end_is room =
    let a = magic_passes (has_block_form bytes) (eqb (number_at 4 0 bytes) data_magic) magic in
    let b : eqb (little_number_at 4 4 bytes) (checksum_with bytes 4) ≡ true = eq-eqb _ _ checksum in
    let large : 64 ≤ area_end bytes = omega arith in
    let c : ltb (area_end bytes) 64 ≡ false = le-ltb _ _ large in
    rw (a, b, c) (sym (told_is bytes size large) ∙ ap (λ (e : ℕ). told most_regions false header_size e (pairs_of bytes) bytes) (sym end_is))
