use Rattle.std.proofs.Common.{ℕ, List, [], ◌++◌, length, take, drop, ap, ◌-◌, ◌∙◌, arith, replicate, length-take}
use Rattle.std.proofs.lemmas.List.{take_rest}
use Rattle.xn_bytes.specs.Checksum.{crc32c}
use Rattle.xn_record.proofs.checksum.checksum_of.Goals as goal

pub slice_bounds-add-end : goal.slice_bounds-add-end
slice_bounds-add-end c = omega (arith, length-take 32 c.args.header.now)

pub returns : goal.returns
returns c =
    let header = c.args.header.now in
    let zeros : List ℕ = replicate 4 0 in
    let front : List ℕ = take 32 header ++ zeros in
    let behind : List ℕ = take (length header - 36) (drop 36 header) in
    let first = c.add.ensures.pieces [] c.start-crc.ensures in
    let second = c.add-2.ensures.pieces (take 32 header) first in
    let third = c.add-3.ensures.pieces front second in
    let all = c.add-4.ensures.pieces (front ++ behind) third in
    c.end.ensures.all (front ++ behind ++ c.args.body.now) all
    ∙ ap (λ (rest : List ℕ). crc32c (front ++ rest ++ c.args.body.now)) (take_rest header 36)
