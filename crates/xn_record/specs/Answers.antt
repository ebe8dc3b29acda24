-- What is answered of bytes that may begin with a record.
use Rattle.std.specs.Prelude.{◌≡◌, ℕ, Option, Some, None, Result, Ok, Err}
use Rattle.xn_record.specs.declared.fault.RecFault.{RecFault}
use Rattle.xn_record.specs.declared.fault.RecFault.TheVariants.{Bad, Memory}

-- the value is read exactly where there is no fault; else the place of the fault is told
abbrev pub IsRead : {T : Type 0} → Option ℕ → T → Result T RecFault → Type 0
IsRead fault value (Ok read) = (fault ≡ None) × (read ≡ value)
IsRead fault value (Err (Bad at)) = fault ≡ Some at
IsRead fault value (Err Memory) = ⊥

-- the same, unless memory ran out
abbrev pub IsReadUnlessMemory : {T : Type 0} → Option ℕ → T → Result T RecFault → Type 0
IsReadUnlessMemory fault value (Ok read) = (fault ≡ None) × (read ≡ value)
IsReadUnlessMemory fault value (Err (Bad at)) = fault ≡ Some at
IsReadUnlessMemory fault value (Err Memory) = Unit {0}
