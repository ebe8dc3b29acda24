-- How many bytes each inode number of a form has.
use Rattle.std.specs.Prelude.{ℕ}
use Rattle.xn_short.specs.declared.width.NumberWidth.{NumberWidth}
use Rattle.xn_short.specs.declared.width.NumberWidth.TheVariants.{Four, Eight}

abbrev pub byte_count : NumberWidth → ℕ
byte_count Four = 4
byte_count Eight = 8
