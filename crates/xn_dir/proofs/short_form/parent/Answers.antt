use Rattle.std.proofs.Common.{refl}
use Rattle.xn_dir.proofs.ShortForms.{holds_short}
use Rattle.xn_dir.proofs.short_form.parent.Goals as goal

pub returns-clause-holds : goal.returns-clause-holds
returns-clause-holds c =
    (c.in_ok-short_of.field-0.entries, holds_short c.args.inode.now c.in_ok-short_of.field-0 _ _ c.requires.form c.in_ok-short_of.ensures.form refl c.parent.ensures)
