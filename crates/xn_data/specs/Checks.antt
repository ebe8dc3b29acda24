-- What the checks of a block answer.
use Rattle.std.specs.Prelude.{◌≡◌, ℕ, Option, Some, None, Result, MatchResult}
use Rattle.xn_data.specs.declared.fault.DataFault.{DataFault}

-- an error exactly where there is a fault, with its place
abbrev pub FindsFault : {T : Type 0} → Option ℕ → Result T DataFault → Type 0
FindsFault fault result = MatchResult result (λ _. fault ≡ None) (λ found. fault ≡ Some found.at)
