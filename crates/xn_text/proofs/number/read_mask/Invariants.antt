use Rattle.std.proofs.Common.{◌≡◌, ◌<◌, ◌^◌, take}
use Rattle.xn_meaning.specs.Manifests.{hex_digits}
use Rattle.xn_text.proofs.number.read_mask.Given as goal

abbrev pub invariant-loop-digit : goal.invariant-loop-digit
invariant-loop-digit l = (l.mask < 16 ^ l.digit-index) × (take l.digit-index l.digits ≡ hex_digits l.digit-index l.mask)
