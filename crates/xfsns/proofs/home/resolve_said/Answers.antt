use Rattle.xfsns.proofs.home.resolve_said.Goals as goal

pub returns-clause-fetches : goal.returns-clause-fetches
returns-clause-fetches g c = rw c.as_slice.ensures at c.resolve.ensures.fetches
