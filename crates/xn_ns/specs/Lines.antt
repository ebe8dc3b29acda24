-- The lines of a list, against the entries, and those of parents.
use Rattle.std.specs.Prelude.{◌≡◌, List, map}
use Rattle.xn_bytes.specs.Entries.{Entry}
use Rattle.xn_bytes.specs.Directory.{IsListing}
use Rattle.xn_meaning.specs.Replies.{Line, line_of}
use Rattle.xn_dir.specs.declared.listing.Listed.{Listed}
use Rattle.xn_text.specs.declared.line.ListLine.{ListLine}
use Rattle.xn_text.specs.declared.line.ParentLine.{ParentLine}
use Rattle.xn_items.specs.declared.parent.ParentRec.{ParentRec}

-- the line of a listed entry
abbrev pub listed_line : Listed → ListLine
listed_line listed = record { ino = listed.ino; kind = listed.kind; name = listed.name }

-- the line of a parent
abbrev pub parent_line : ParentRec → ParentLine
parent_line parent = record { dir = parent.dir; generation = parent.generation; name = parent.name }

-- the lines of the entries, sorted by name
abbrev pub AreLinesOf : List Entry → List Line → Type 0
AreLinesOf entries lines = (sorted : List Entry) × IsListing entries sorted × (lines ≡ map line_of sorted)
