-- What a test's answer says of the fact that it decides.
use Rattle.std.proofs.Common.{true, false, refl}
use Rattle.std.specs.Prelude.{IsTrue, ◌↔◌}

pub holds : {P : Type 0} → (IsTrue true ↔ P) → P
holds decides = decides.0 refl

pub fails : {P : Type 0} → (IsTrue false ↔ P) → P → ⊥
fails decides p = let no = decides.1 p in absurd cc
