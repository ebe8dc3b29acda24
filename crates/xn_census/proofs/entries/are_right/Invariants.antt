use Rattle.std.proofs.Common.{ℕ, ◌<◌, get_or}
use Rattle.xn_dir.specs.declared.listing.Listed.{Listed}
use Rattle.xn_dir.specs.Listings.{entry_of}
use Rattle.xn_census.specs.SortedOut.{RightBy}
use Rattle.xn_census.proofs.entries.are_right.Given as goal

abbrev pub invariant-loop-entry : goal.invariant-loop-entry
invariant-loop-entry l = (k : ℕ) (d : Listed) → k < l.entry-index → RightBy l.nodes (entry_of (get_or l.entries k d))
