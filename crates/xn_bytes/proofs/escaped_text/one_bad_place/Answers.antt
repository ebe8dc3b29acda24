use Rattle.xn_bytes.proofs.EscapeLemmas.{one_place}
use Rattle.xn_bytes.proofs.escaped_text.one_bad_place.Goals as goal

pub returns : goal.returns
returns c = one_place
