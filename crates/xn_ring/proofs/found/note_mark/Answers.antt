use Rattle.std.proofs.Common.{◌∙◌, sym}
use Rattle.xn_ring.proofs.Noting.{no_mark, one_mark}
use Rattle.xn_ring.proofs.found.note_mark.Goals as goal

pub returns-then-u32_at-ne-MAGIC : goal.returns-then-u32_at-ne-MAGIC
returns-then-u32_at-ne-MAGIC c = λ ring. no_mark ring c.args.sector c.args.bytes.now c.args.marks.now.items (λ is. c.if-u32_at-ne-MAGIC.true (c.u32_at.ensures ∙ is))

pub returns : goal.returns
returns c = λ ring. one_mark ring c.args.sector c.args.bytes.now c.args.marks.now.items c.push.new.self.items (sym c.u32_at.ensures ∙ c.if-u32_at-ne-MAGIC.false) c.in_ok-push.ensures.items
