use Rattle.std.proofs.Common.{◌≡◌, ◌∷◌, map, take}
use Rattle.std.specs.Prelude.{filter}
use Rattle.xn_bytes.specs.Hashes.{name_hash_of}
use Rattle.xn_dir.specs.Listings.{name_of}
use Rattle.xn_dir.specs.Repeats.{has_hash_among}
use Rattle.xn_dir.proofs.listing.names_among.Given as goal

abbrev pub invariant-loop-entry : goal.invariant-loop-entry
invariant-loop-entry l = map (λ name. name.hash ∷ name.name.now) l.names.items ≡ map (λ entry. name_hash_of (name_of entry) ∷ name_of entry) (filter (has_hash_among l.hashes) (take l.entry-index l.listed))
