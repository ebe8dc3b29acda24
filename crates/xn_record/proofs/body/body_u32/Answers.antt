use Rattle.std.proofs.Common.{◌∙◌}
use Rattle.xn_log.specs.Records.{body_of}
use Rattle.xn_record.proofs.BodyBytes.{word_at}
use Rattle.xn_record.proofs.body.body_u32.Goals as goal

pub returns : goal.returns
returns c =
    c.u32_at.ensures ∙ word_at (body_of c.args.bytes.now) c.args.place _ _ _ _ c.body_byte.ensures c.body_byte-2.ensures c.body_byte-3.ensures c.body_byte-4.ensures
