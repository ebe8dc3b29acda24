use Rattle.xn_ring.proofs.Accepted.{ring_accepted}
use Rattle.xn_ring.proofs.laws.accepted_superblocks_have_a_ring.Goals as goal

pub returns : goal.returns
returns c = ring_accepted
