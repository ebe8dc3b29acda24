use Rattle.std.proofs.Common.{◌≡◌, List, ap, ◌∙◌, arith, length, length-append}
use Rattle.xn_log.specs.Spelled.{operations_spelling, padded, stamped_body}
use Rattle.xn_log.specs.declared.operation.Op.{Op}
use Rattle.xn_record.specs.Writing.{header_without_checksum}
use Rattle.xn_record.proofs.SpelledLengths.{length-stamped_body}
use Rattle.xn_record.proofs.Spelling.{length-header, spelled, together, written_back}
use Rattle.xn_record.proofs.write.encode.Goals as goal

pub put_checksum-requires : goal.put_checksum-requires
put_checksum-requires c =
    let r = c.args.record.now in
    let uuid = c.args.uuid.now in
    let own : length uuid ≡ 16 = omega arith in
    let used = c.in_ok-body.ensures.length ∙ ap (λ (ops : List Op). length (operations_spelling ops)) c.as_slice.ensures in
    let body = c.deref.ensures.value ∙ c.in_ok-body.ensures.bytes ∙ ap (λ (ops : List Op). padded (operations_spelling ops)) c.as_slice.ensures in
    let e = together c.args.ring_sectors uuid r c.in_ok-bytes.bytes.items c.deref.result.now c.append_stamped.new.bytes.items c.in_ok-body.body.length c.body_sectors-sectors.result c.in_ok-bytes.ensures body used c.body_sectors-sectors.ensures c.in_ok-append_stamped.ensures in
    omega (arith, used, ap length c.as_mut_slice.ensures.value, ap length e, length-append (header_without_checksum uuid r) (stamped_body c.args.ring_sectors r), length-header uuid r own c.requires.most, length-stamped_body c.args.ring_sectors r)

pub returns : goal.returns
returns c =
    let r = c.args.record.now in
    let uuid = c.args.uuid.now in
    let own : length uuid ≡ 16 = omega arith in
    let used = c.in_ok-body.ensures.length ∙ ap (λ (ops : List Op). length (operations_spelling ops)) c.as_slice.ensures in
    let body = c.deref.ensures.value ∙ c.in_ok-body.ensures.bytes ∙ ap (λ (ops : List Op). padded (operations_spelling ops)) c.as_slice.ensures in
    let e = together c.args.ring_sectors uuid r c.in_ok-bytes.bytes.items c.deref.result.now c.append_stamped.new.bytes.items c.in_ok-body.body.length c.body_sectors-sectors.result c.in_ok-bytes.ensures body used c.body_sectors-sectors.ensures c.in_ok-append_stamped.ensures in
    written_back c.append_stamped.new.bytes.items c.put_checksum.new.bytes c.append_stamped.new.bytes.len (c.put_checksum.ensures.length ∙ ap length c.as_mut_slice.ensures.value) (omega arith)
    ∙ c.put_checksum.ensures.value
    ∙ spelled c.args.ring_sectors uuid r c.as_mut_slice.result.now c.in_ok-body.body.length own c.requires.most (c.as_mut_slice.ensures.value ∙ e) used
