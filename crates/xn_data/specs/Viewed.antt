-- What is read in place, without where it lies in memory.
use Rattle.std.specs.Prelude.{ℕ}
use Rattle.xn_bytes.specs.Entries.{Entry}
use Rattle.xn_bytes.specs.DataBlock.{LeafEntry}
use Rattle.xn_data.specs.declared.entry.DataEntry.{DataEntry}

abbrev pub entry_of : DataEntry → Entry
entry_of entry = record { name = entry.name.now; ino = entry.ino; kind = entry.kind; position = entry.position }

-- hash and address
abbrev pub leaf_of : ℕ × ℕ → LeafEntry
leaf_of pair = record { hash = pair.0; address = pair.1 }
