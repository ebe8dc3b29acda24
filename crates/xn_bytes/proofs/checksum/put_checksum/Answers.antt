use Rattle.std.proofs.Common.{refl, sym, ap, ◌∙◌, arith}
use Rattle.std.specs.Prelude.{replicate}
use Rattle.byteorder.specs.Endian.{little_bytes}
use Rattle.xn_bytes.specs.Checksum.{crc32c}
use Rattle.xn_bytes.proofs.NumberLemmas.{little_number_at-overlaid, overlaid-overlaid}
use Rattle.xn_bytes.proofs.checksum.put_checksum.Goals as goal

pub returns-clause-right : goal.returns-clause-right
returns-clause-right c =
    let n = c.checksum_of-checksum.result in
    let again = overlaid-overlaid c.args.bytes.now c.args.at (little_bytes 4 n) (replicate 4 0) refl c.requires in
    rw c.put_little_u32.ensures.value
    (little_number_at-overlaid c.args.bytes.now c.args.at n (omega arith) c.requires ∙ c.checksum_of-checksum.ensures ∙ sym (ap crc32c again))
