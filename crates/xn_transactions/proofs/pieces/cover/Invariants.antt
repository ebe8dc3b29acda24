use Rattle.std.proofs.Common.{◌≡◌, drop}
use Rattle.xn_changes.specs.Decoded.{bytes_of}
use Rattle.xn_changes.specs.Items.{cover}
use Rattle.xn_transactions.proofs.pieces.cover.Given as goal

abbrev pub invariant-loop-region : goal.invariant-loop-region
invariant-loop-region l = cover (bytes_of l.regions) l.pieces ≡ cover (bytes_of (drop l.region-index l.regions)) l.left
