use Rattle.std.proofs.Common.{◌≡◌, length, sym, arith}
use Rattle.xn_log.specs.Records.{body_of, length_in}
use Rattle.xn_record.proofs.BodyBytes.{length-body_of}
use Rattle.xn_record.proofs.Walking.{end_cut, end_short, end_there}
use Rattle.xn_record.proofs.body.operation_end.Goals as goal

pub returns-then-left-lt-HEADER : goal.returns-then-left-lt-HEADER
returns-then-left-lt-HEADER c =
    let bytes = c.args.bytes.now in
    let long : length (body_of bytes) ≡ length_in bytes = length-body_of bytes c.requires.body in
    sym (end_short (body_of bytes) c.args.place (omega (arith, c.length_in.ensures)))

pub returns-then-size-left : goal.returns-then-size-left
returns-then-size-left c =
    let bytes = c.args.bytes.now in
    let long : length (body_of bytes) ≡ length_in bytes = length-body_of bytes c.requires.body in
    sym (end_there (body_of bytes) c.args.place c.body_u32.result c.body_u32.ensures (omega (arith, c.length_in.ensures)))

pub returns-else-size-left : goal.returns-else-size-left
returns-else-size-left c =
    let bytes = c.args.bytes.now in
    let long : length (body_of bytes) ≡ length_in bytes = length-body_of bytes c.requires.body in
    sym (end_cut (body_of bytes) c.args.place c.body_u32.result c.body_u32.ensures (omega (arith, c.length_in.ensures)))
