use Rattle.xn_bytes.proofs.EscapeLemmas.{only_these}
use Rattle.xn_bytes.proofs.escaped_text.unescape.Goals as goal

pub returns-clause-only : goal.returns-clause-only
returns-clause-only c = λ bytes all e. only_these (λ v. v.items) _ _ bytes c.read_all.ensures.found c.read_all.ensures.bytes c.read_all.ensures.exact all e
