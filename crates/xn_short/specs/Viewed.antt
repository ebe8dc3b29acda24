-- An entry that is read in place, without where its name lies in memory.
use Rattle.xn_bytes.specs.Entries.{Entry}
use Rattle.xn_short.specs.declared.entry.ShortEntry.{ShortEntry}

abbrev pub entry_of : ShortEntry → Entry
entry_of entry = record { name = entry.name.now; ino = entry.ino; kind = entry.kind; position = entry.position }
