use Rattle.std.specs.Prelude.{◌≡◌, flat_map, take}
use Rattle.xn_settled.proofs.blocks.join.Given as goal

abbrev pub invariant-loop-region : goal.invariant-loop-region
invariant-loop-region l = l.bytes.items ≡ flat_map (λ region. region) (take l.region-index l.regions)
