use Rattle.std.proofs.Common.{◌≡◌, take}
use Rattle.xn_bytes.specs.Checksum.{register_after}
use Rattle.xn_bytes.proofs.checksum.after_bytes.Given as goal

abbrev pub invariant-loop-byte : goal.invariant-loop-byte
invariant-loop-byte l = l.register ≡ register_after l.fn.register (take l.byte-index l.bytes)
