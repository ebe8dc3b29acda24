use Rattle.xn_apart.proofs.Shared.{none_shared, apart_if_none_shared}
use Rattle.xn_apart.proofs.laws.apart_without_shared.Goals as goal

pub returns-clause-none : goal.returns-clause-none
returns-clause-none c = none_shared

pub returns-clause-apart : goal.returns-clause-apart
returns-clause-apart c = apart_if_none_shared
