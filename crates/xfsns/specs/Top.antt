-- What telling an answer leaves.
use Rattle.std.specs.Prelude.{◌≡◌, ◌⊎◌, ℕ, ◌<◌, List, length, Option, option_map, ◌++◌}
use Rattle.xn_meaning.specs.declared.status.Status.{Status}
use Rattle.xn_meaning.specs.declared.status.Status.TheVariants.{SayFault}
use Rattle.xn_bytes.specs.Causes.{Rose}
use Rattle.xn_machine.specs.Device.{TellsFront}

-- told whole, with its status; or, where there was something to tell, a fault of telling, whose count rose, and a front of the text told
abbrev pub TellsOrFails : {M : Type 0} → (M → Option (List ℕ)) → (M → ℕ) → M → M → Status → List ℕ → Status → Type 0
TellsOrFails told say_faults old new status text result =
    ((result ≡ status) × (told new ≡ option_map (λ t. t ++ text) (told old)))
    ⊎ ((result ≡ SayFault) × (0 < length text) × Rose (say_faults old) (say_faults new) × TellsFront (told old) (told new) text)
