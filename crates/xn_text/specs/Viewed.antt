-- Replies, the lines of a list and those of parents, as what they say.
use Rattle.std.specs.Prelude.{ℕ, List, [], ◌∷◌, ◌++◌, length, map, codes, decimal, flat_map}
use Rattle.xn_bytes.specs.Parents.{ParentRecord}
use Rattle.xn_meaning.specs.Replies.{Line, Summary as Sums, Reply as Said, Plain, EntryOf, ListOf, ParentsOf, ErrorOf, newline}
use Rattle.xn_text.specs.declared.line.ListLine.{ListLine}
use Rattle.xn_text.specs.declared.line.ParentLine.{ParentLine}
use Rattle.xn_text.specs.declared.reply.Reply.{Reply}
use Rattle.xn_text.specs.declared.told.Summary.{Summary}
use Rattle.xn_text.specs.declared.reply.Reply.TheVariants as replies

abbrev pub line_of : ListLine → Line
line_of line = record { ino = line.ino; kind = line.kind; name = line.name }

abbrev pub lines_of : List ListLine → List Line
lines_of lines = map line_of lines

abbrev pub parent_of : ParentLine → ParentRecord
parent_of line = record { dir = line.dir; generation = line.generation; name = line.name }

abbrev pub parents_of : List ParentLine → List ParentRecord
parents_of lines = map parent_of lines

abbrev pub reply_of : Reply → Said
reply_of replies.Ok = Plain
reply_of (replies.Entry ino kind) = EntryOf ino kind
reply_of (replies.List lines) = ListOf (lines_of lines)
reply_of (replies.Parents lines) = ParentsOf (parents_of lines)
reply_of (replies.Error error) = ErrorOf error

-- `ok COUNT` and the text of each row
abbrev pub rows_text : {Row : Type 0} → (Row → List ℕ) → List Row → List ℕ
rows_text text rows = codes "ok " ++ decimal (length rows) ++ newline ∷ [] ++ flat_map text rows

abbrev pub summary_of : Summary → Sums
summary_of summary = record {
  inodes = summary.inodes;
  directories = summary.directories;
  entries = summary.entries;
  pending = summary.pending;
  free = summary.free;
}
