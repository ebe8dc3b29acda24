use Rattle.std.proofs.Common.{sym, ap, ◌∙◌, slice_index}
use Rattle.xn_record.proofs.BodyBytes.{body_of_byte}
use Rattle.xn_record.proofs.body.body_byte.Goals as goal

pub returns : goal.returns
returns c =
    ap (slice_index c.args.bytes.now) c.standing_at.ensures ∙ sym (body_of_byte c.args.bytes.now c.args.place c.requires.body c.requires.within)
