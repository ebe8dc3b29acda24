use Rattle.std.proofs.Common.{sym, ◌∙◌, ◌≡◌, false, true, ◌==◌, ◌&&◌, ap, Bool}
use Rattle.xn_log.specs.Records.{body_of, has_flag, log_client, unmount_flag}
use Rattle.xn_record.proofs.BodyBytes.{unmount_by_bytes}
use Rattle.xn_record.proofs.body.is_unmount.Goals as goal

pub returns-then-is_of_log : goal.returns-then-is_of_log
returns-then-is_of_log c =
    let parts = unmount_by_bytes (body_of c.args.bytes.now) c.body_byte-client.result c.body_byte-flags.result c.body_byte-client.ensures c.body_byte-flags.ensures in
    let client : (c.body_byte-client.result == log_client) ≡ true = sym c.is_of_log.ensures ∙ c.if-is_of_log.true in
    c.has_unmount.ensures ∙ ap (λ (b : Bool). b && has_flag c.body_byte-flags.result unmount_flag) (sym client) ∙ sym parts

pub returns-else-is_of_log : goal.returns-else-is_of_log
returns-else-is_of_log c =
    let parts = unmount_by_bytes (body_of c.args.bytes.now) c.body_byte-client.result c.body_byte-flags.result c.body_byte-client.ensures c.body_byte-flags.ensures in
    let client : (c.body_byte-client.result == log_client) ≡ false = sym c.is_of_log.ensures ∙ c.if-is_of_log.false in
    c.if-is_of_log.false ∙ ap (λ (b : Bool). b && has_flag c.body_byte-flags.result unmount_flag) (sym client) ∙ sym parts
