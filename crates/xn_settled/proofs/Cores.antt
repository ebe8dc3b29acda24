-- A whole core laid down, field by field.
use Rattle.std.specs.Prelude.{ℕ, ◌≡◌, ◌+◌, ◌≤◌, List, ◌++◌, drop, length, replicate, slice_range}
use Rattle.std.proofs.Common.{ap, inr, refl, sym, ◌∙◌, arith}
use Rattle.std.proofs.lemmas.List.{length-append}
use Rattle.byteorder.specs.Endian.{big_bytes, little_bytes}
use Rattle.xn_bytes.specs.Checksum.{checksum_with}
use Rattle.xn_bytes.specs.Numbers.{overlaid}
use Rattle.xn_bytes.proofs.Overlays.{length-overlaid, length-slice_range, overlaid-same, slice_range-overlaid-apart}
use Rattle.xn_changes.specs.declared.item.InodeItem.{InodeItem}
use Rattle.xn_settled.specs.Inodes.{change_fields, fork_end, fork_fields, front_of, inode_after, laid_inode, kind_fields, own_fields, owner_fields, size_fields, stored, stored_core, stored_time, time_fields}
use Rattle.xn_settled.proofs.Laying.{laid_5}
use Rattle.xn_settled.proofs.Lengths.{length-stored, length-stored_time}

length-pieces_4 : (a b c d : List ℕ) (n : ℕ) → length a + length b + length c + length d ≡ n → length (a ++ b ++ c ++ d) ≡ n
length-pieces_4 a b c d n sum = omega (arith, length-append (a ++ b ++ c) d, length-append (a ++ b) c, length-append a b, sum)

length-pieces_5 : (a b c d e : List ℕ) (n : ℕ) → length a + length b + length c + length d + length e ≡ n → length (a ++ b ++ c ++ d ++ e) ≡ n
length-pieces_5 a b c d e n sum = omega (arith, length-append (a ++ b ++ c ++ d) e, length-pieces_4 a b c d (length a + length b + length c + length d) refl, sum)

length-kind : (core : List ℕ) → length core ≡ 176 → length (kind_fields core) ≡ 8
length-kind core h =
    length-pieces_4 (stored 2 0 core) (stored 2 2 core) (slice_range core 4 6) (replicate 2 0) 8
    (omega (arith, length-stored 2 0 core, length-stored 2 2 core, length-slice_range core 4 6 (omega (arith, h))))

length-owner : (core : List ℕ) → length (owner_fields core) ≡ 16
length-owner core =
    length-pieces_5 (stored 4 8 core) (stored 4 12 core) (stored 4 16 core) (stored 2 20 core) (stored 2 22 core) 16
    (omega (arith, length-stored 4 8 core, length-stored 4 12 core, length-stored 4 16 core, length-stored 2 20 core, length-stored 2 22 core))

length-times : (core : List ℕ) → length (time_fields core) ≡ 32
length-times core =
    length-pieces_4 (stored 8 24 core) (stored_time 32 core) (stored_time 40 core) (stored_time 48 core) 32
    (omega (arith, length-stored 8 24 core, length-stored_time 32 core, length-stored_time 40 core, length-stored_time 48 core))

length-size : (core : List ℕ) → length (size_fields core) ≡ 26
length-size core =
    length-pieces_5 (stored 8 56 core) (stored 8 64 core) (stored 4 72 core) (stored 4 76 core) (stored 2 80 core) 26
    (omega (arith, length-stored 8 56 core, length-stored 8 64 core, length-stored 4 72 core, length-stored 4 76 core, length-stored 2 80 core))

length-forks : (core : List ℕ) → length core ≡ 176 → length (fork_fields core) ≡ 14
length-forks core h =
    length-pieces_5 (slice_range core 82 84) (stored 4 84 core) (stored 2 88 core) (stored 2 90 core) (stored 4 92 core) 14
    (omega (arith, length-slice_range core 82 84 (omega (arith, h)), length-stored 4 84 core, length-stored 2 88 core, length-stored 2 90 core, length-stored 4 92 core))

length-changes : (core : List ℕ) (lsn : ℕ) → length (change_fields core lsn) ≡ 40
length-changes core lsn =
    length-pieces_5 (stored 8 104 core) (big_bytes 8 lsn) (stored 8 120 core) (stored 4 128 core) (replicate 12 0) 40
    (omega (arith, length-stored 8 104 core, length-stored 8 120 core, length-stored 4 128 core))

length-own : (core : List ℕ) → length core ≡ 176 → length (own_fields core) ≡ 32
length-own core h =
    length-append (stored_time 144 core ++ stored 8 152 core) (slice_range core 160 176)
    ∙ omega (arith, length-append (stored_time 144 core) (stored 8 152 core), length-stored_time 144 core, length-stored 8 152 core, length-slice_range core 160 176 (omega (arith, h)))

length-front : (core : List ℕ) → length core ≡ 176 → length (kind_fields core ++ owner_fields core ++ time_fields core ++ size_fields core ++ fork_fields core) ≡ 96
length-front core h =
    length-pieces_5 (kind_fields core) (owner_fields core) (time_fields core) (size_fields core) (fork_fields core) 96
    (omega (arith, length-kind core h, length-owner core, length-times core, length-size core, length-forks core h))

-- bytes behind what was laid down at the front are the same, laid down once more
kept_behind : (home laid over : List ℕ) (from to : ℕ) → laid ≡ overlaid home 0 over → length over ≡ from → from ≤ to → to ≤ length home → laid ≡ overlaid laid from (slice_range home from to)
kept_behind home laid over from to is len order within =
    let same : length laid ≡ length home = ap length is ∙ length-overlaid home 0 over (omega (arith, len, order, within)) in
    let apart : slice_range (overlaid home 0 over) from to ≡ slice_range home from to = slice_range-overlaid-apart home 0 over from to (omega (arith, len, order, within)) within (inr (omega (arith, len))) in
    sym (overlaid-same laid from to order (omega (arith, same, within))) ∙ ap (overlaid laid from) (ap (λ bytes. slice_range bytes from to) is ∙ apart)

-- what the stores of all fields leave, in order
pub core_laid : (core home kind owner times size forks zeros changes own : List ℕ) (lsn : ℕ) → length core ≡ 176 → length home ≡ 512 → kind ≡ overlaid home 0 (kind_fields core) → owner ≡ overlaid kind 8 (owner_fields core) → times ≡ overlaid owner 24 (time_fields core) → size ≡ overlaid times 56 (size_fields core) → forks ≡ overlaid size 82 (fork_fields core) → zeros ≡ overlaid forks 100 (big_bytes 4 0) → changes ≡ overlaid zeros 104 (change_fields core lsn) → own ≡ overlaid changes 144 (own_fields core) → own ≡ overlaid home 0 (stored_core core lsn home)
core_laid core home kind owner times size forks zeros changes own lsn h long e1 e2 e3 e4 e5 e6 e7 e8 =
    let front : List ℕ = kind_fields core ++ owner_fields core ++ time_fields core ++ size_fields core ++ fork_fields core in
    let before : forks ≡ overlaid home 0 front =
    laid_5 home kind owner times size forks 0 8 24 56 82 (kind_fields core) (owner_fields core) (time_fields core) (size_fields core) (fork_fields core)
    (omega (arith, long)) e1 (omega (arith, length-kind core h)) e2 (omega (arith, length-owner core)) e3 (omega (arith, length-times core)) e4 (omega (arith, length-size core)) e5 in
    let stays : forks ≡ overlaid forks 96 (slice_range home 96 100) = kept_behind home forks front 96 100 before (length-front core h) (omega arith) (omega (arith, long)) in
    laid_5 home forks forks zeros changes own 0 96 100 104 144 front (slice_range home 96 100) (replicate 4 0) (change_fields core lsn) (own_fields core)
    (omega (arith, long)) before (omega (arith, length-front core h)) stays (omega (arith, length-slice_range home 96 100 (omega (arith, long)))) e6 refl e7 (omega (arith, length-changes core lsn)) e8

length-stored_core : (core home : List ℕ) (lsn : ℕ) → length core ≡ 176 → length home ≡ 512 → length (stored_core core lsn home) ≡ 176
length-stored_core core home lsn h long =
    let front : List ℕ = kind_fields core ++ owner_fields core ++ time_fields core ++ size_fields core ++ fork_fields core in
    length-pieces_5 front (slice_range home 96 100) (replicate 4 0) (change_fields core lsn) (own_fields core) 176
    (omega (arith, length-front core h, length-slice_range home 96 100 (omega (arith, long)), length-changes core lsn, length-own core h))

at_front : (home over : List ℕ) (n : ℕ) → length over ≡ n → overlaid home 0 over ≡ over ++ drop n home
at_front home over n len =
    let end : 0 + length over ≡ n = omega (arith, len) in
    ap (λ k. over ++ drop k home) end

-- a core laid down at the front of an inode
pub core_in_front : (core home : List ℕ) (lsn : ℕ) → length core ≡ 176 → length home ≡ 512 → overlaid home 0 (stored_core core lsn home) ≡ stored_core core lsn home ++ drop 176 home
core_in_front core home lsn h long = at_front home (stored_core core lsn home) 176 (length-stored_core core home lsn h long)

-- an inode with a core, the fronts of its forks and a checksum laid down
pub inode_laid : (item : InodeItem) (lsn : ℕ) (home core data_fork attr_fork summed : List ℕ) → length item.core ≡ 176 → length home ≡ 512 → core ≡ overlaid home 0 (stored_core item.core lsn home) → data_fork ≡ overlaid core 176 (front_of item.data_fork) → attr_fork ≡ overlaid data_fork (fork_end item.core) (front_of item.attr_fork) → summed ≡ overlaid attr_fork 100 (little_bytes 4 (checksum_with attr_fork 100)) → summed ≡ inode_after item lsn home
inode_laid item lsn home core data_fork attr_fork last h long e1 e2 e3 e4 =
    let laid : attr_fork ≡ laid_inode item lsn home =
    e3 ∙ ap (λ bytes. overlaid bytes (fork_end item.core) (front_of item.attr_fork))
    (e2 ∙ ap (λ bytes. overlaid bytes 176 (front_of item.data_fork)) (e1 ∙ core_in_front item.core home lsn h long)) in
    e4 ∙ ap (λ bytes. overlaid bytes 100 (little_bytes 4 (checksum_with bytes 100))) laid
