use Rattle.std.proofs.Common.{◌≡◌, take}
use Rattle.xn_changes.specs.Decoded.{bytes_of}
use Rattle.xn_transactions.proofs.buffer.copies_of.Given as goal

abbrev pub invariant-loop-region : goal.invariant-loop-region
invariant-loop-region l = l.copies.items ≡ bytes_of (take l.region-index l.regions)
