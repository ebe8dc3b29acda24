use Rattle.xn_text.proofs.LawLemmas.{one_manifest, no_bad_line, one_bad_line}
use Rattle.xn_text.proofs.reader.one_reading.Goals as goal

pub returns-clause-one : goal.returns-clause-one
returns-clause-one c = one_manifest

pub returns-clause-or_none : goal.returns-clause-or_none
returns-clause-or_none c = no_bad_line

pub returns-clause-first : goal.returns-clause-first
returns-clause-first c = one_bad_line
