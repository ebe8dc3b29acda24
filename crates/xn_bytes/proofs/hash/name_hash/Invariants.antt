use Rattle.std.proofs.Common.{◌≡◌, take}
use Rattle.std.specs.Prelude.{fold}
use Rattle.xn_bytes.specs.Hashes.{hash_step}
use Rattle.xn_bytes.proofs.hash.name_hash.Given as goal

abbrev pub invariant-loop-byte : goal.invariant-loop-byte
invariant-loop-byte l = l.hash ≡ fold hash_step 0 (take l.byte-index l.bytes)
