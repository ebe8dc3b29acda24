-- The exit statuses of the program.
use Rattle.std.specs.Prelude.{ℕ}
use Rattle.xn_meaning.specs.declared.status.Status.{Status}
use Rattle.xn_meaning.specs.declared.status.Status.TheVariants.{Done, Usage, Image, Manifest, ReadFault, SayFault, Memory, Long}

-- the exit status of the program
abbrev pub status_number : Status → ℕ
status_number Done = 0
status_number Usage = 1
status_number Image = 2
status_number Manifest = 3
status_number ReadFault = 4
status_number SayFault = 6
status_number Memory = 7
status_number Long = 9
