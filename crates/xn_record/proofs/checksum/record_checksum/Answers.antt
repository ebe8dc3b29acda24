use Rattle.std.proofs.Common.{◌≡◌, length, take, sym, arith}
use Rattle.std.proofs.lemmas.List.{length-take-le}
use Rattle.xn_record.proofs.checksum.record_checksum.Goals as goal

pub slice_bounds-checksum_of-end : goal.slice_bounds-checksum_of-end
slice_bounds-checksum_of-end c =
    let bytes = c.args.bytes.now in
    let e : 328 ≡ length (take 328 bytes) = sym (length-take-le 328 bytes (omega (arith, c.requires.whole))) in
    e

pub checksum_of-requires : goal.checksum_of-requires
checksum_of-requires c = length-take-le 328 c.args.bytes.now (omega (arith, c.requires.whole))
