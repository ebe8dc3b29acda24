use Rattle.std.proofs.Common.{◌∙◌, sym}
use Rattle.xn_bytes.proofs.TestLemmas.{holds}
use Rattle.xn_data.proofs.Verdicts.{told_at}
use Rattle.xn_data.proofs.check.check.Goals as goal

pub returns : goal.returns
returns c =
    rw (told_at c.args.bytes.now c.end_of_regions-end.result c.requires.size (sym c.has_magic.ensures ∙ c.if-not-has_magic.false) (holds c.if-not-has_checksum.ensures) c.end_of_regions-end.ensures.value c.if-end-lt-HEADER.false)
    c.check_regions.ensures
