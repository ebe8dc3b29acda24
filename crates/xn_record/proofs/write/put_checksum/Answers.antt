use Rattle.std.proofs.Common.{◌≡◌, length, take, sym, arith}
use Rattle.std.proofs.lemmas.List.{length-take-le}
use Rattle.xn_record.proofs.write.put_checksum.Goals as goal

pub slice_bounds-checksum_of-end : goal.slice_bounds-checksum_of-end
slice_bounds-checksum_of-end c =
    let e : 328 ≡ length (take 328 c.args.bytes.now) = sym (length-take-le 328 c.args.bytes.now (omega arith)) in
    e

pub checksum_of-checksum-requires : goal.checksum_of-checksum-requires
checksum_of-checksum-requires c = length-take-le 328 c.args.bytes.now (omega arith)
