-- The fields of a source in memory, as its contracts see them.
use Rattle.std.specs.Prelude.{◌≤◌, drop, length}
use Rattle.xn_machine.specs.MemorySource.{SourceState}
use Rattle.xn_machine.specs.declared.memory_source.MemSource.TheInside.{Inside}

abbrev pub source_of : Inside → SourceState
source_of s = record { left = drop s.at s.bytes.items; fails = s.fails.items; made = s.made; faults = s.faults }

-- what was taken is within the bytes
abbrev pub IsWithin : Inside → Type 0
IsWithin s = s.at ≤ length s.bytes.items
