use Rattle.std.proofs.Common.{ℕ, List, ◌++◌, ap, ◌∙◌, length}
use Rattle.byteorder.specs.Endian.{big_bytes}
use Rattle.xn_log.specs.Records.{lsn_of, record_magic}
use Rattle.xn_log.specs.Spelled.{operations_spelling}
use Rattle.xn_record.proofs.Spelling.{on_ok, six}
use Rattle.xn_record.proofs.write.append_front.Goals as goal

pub returns : goal.returns
returns c =
    let r = c.args.record.now in
    let third : List ℕ = c.append_u32-3.new.bytes.items in
    let fourth : List ℕ = c.append_u32-4.new.bytes.items in
    let used = c.in_ok-append_u32-4.ensures ∙ ap (λ (n : ℕ). third ++ big_bytes 4 n) c.requires in
    let lsn = c.in_ok-append_u64.ensures ∙ ap (λ (n : ℕ). fourth ++ big_bytes 8 n) c.lsn_of.ensures in
    on_ok c.append_u64-2.result
    (six c.args.bytes.now.items (big_bytes 4 record_magic) (big_bytes 4 r.cycle) (big_bytes 4 2) (big_bytes 4 (length (operations_spelling r.ops))) (big_bytes 8 (lsn_of r.cycle r.sector)) (big_bytes 8 r.tail)
    c.append_u32.new.bytes.items c.append_u32-2.new.bytes.items third fourth c.append_u64.new.bytes.items c.append_u64-2.new.bytes.items
    c.in_ok-append_u32.ensures c.in_ok-append_u32-2.ensures c.in_ok-append_u32-3.ensures used lsn)
    c.append_u64-2.ensures
