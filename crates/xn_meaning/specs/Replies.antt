-- What the program tells: the replies with their texts, and the lines that are no replies.
use Rattle.std.specs.Prelude.{ℕ, List, [], ◌∷◌, ◌++◌, length, codes, decimal, flat_map}
use Rattle.xn_bytes.specs.declared.kind.Kind.{Kind}
use Rattle.xn_meaning.specs.declared.errno.Errno.{Errno}
use Rattle.xn_bytes.specs.Kinds.{kind_word}
use Rattle.xn_meaning.specs.Errors.{error_number, error_word}
use Rattle.xn_bytes.specs.Escapes.{escaped}
use Rattle.xn_bytes.specs.Entries.{Entry}
use Rattle.xn_bytes.specs.Parents.{ParentRecord}

-- between the words of a line
abbrev pub space : ℕ
space = 32

-- at the end of a line
abbrev pub newline : ℕ
newline = 10

-- ---- lines that are no replies

-- told to words that are none of the forms
abbrev pub usage_line : List ℕ
usage_line = codes "usage" ++ newline ∷ []

-- the rule that an image breaks, the inode that breaks it, and the block
abbrev pub image_line : ℕ → ℕ → ℕ → List ℕ
image_line rule inode block =
    codes "image rule " ++ decimal rule ++ codes " inode " ++ decimal inode ++ codes " block " ++ decimal block ++ newline ∷ []

-- the first line of a manifest that is outside its grammar
abbrev pub manifest_line : ℕ → List ℕ
manifest_line number = codes "manifest line " ++ decimal number ++ newline ∷ []

-- what is told of an image that the checker accepts: how many inodes are live, and how many of them are directories; how many
-- entries there are; how many changes of parent records are pending; how many blocks of the pool are free
pub record Summary : Type 0 where
  pub inodes : ℕ
  pub directories : ℕ
  pub entries : ℕ
  pub pending : ℕ
  pub free : ℕ

abbrev pub summary_line : Summary → List ℕ
summary_line summary =
    codes "ok inodes " ++ decimal summary.inodes ++ codes " directories " ++ decimal summary.directories ++ codes " entries " ++ decimal summary.entries
    ++ codes " pending " ++ decimal summary.pending ++ codes " free " ++ decimal summary.free ++ newline ∷ []

-- ---- replies

-- of a list: a name, and the inode that it names with its kind
pub record Line : Type 0 where
  pub ino : ℕ
  pub kind : Kind
  pub name : List ℕ

-- an entry's line, wherever the entry stands
abbrev pub line_of : Entry → Line
line_of entry = record { ino = entry.ino; kind = entry.kind; name = entry.name }

-- A reply: done; an inode and its kind; the lines of a list; the parents of an inode; or an error.
pub data Reply : Type 0 where
  Plain : Reply
  EntryOf : ℕ → Kind → Reply
  ListOf : List Line → Reply
  ParentsOf : List ParentRecord → Reply
  ErrorOf : Errno → Reply

-- the text of a line: `INO KIND NAME`, the name escaped
abbrev pub line_text : Line → List ℕ
line_text line = decimal line.ino ++ space ∷ [] ++ kind_word line.kind ++ space ∷ [] ++ escaped line.name ++ newline ∷ []

-- the text of a parent's line: `DIR GENERATION NAME`, the name escaped
abbrev pub parent_text : ParentRecord → List ℕ
parent_text parent = decimal parent.dir ++ space ∷ [] ++ decimal parent.generation ++ space ∷ [] ++ escaped parent.name ++ newline ∷ []

-- the text of a reply: `ok`; `ok INO KIND`; `ok COUNT` and a line for each entry or parent; or `error NUMBER NAME`
abbrev pub reply_text : Reply → List ℕ
reply_text Plain = codes "ok" ++ newline ∷ []
reply_text (EntryOf ino kind) = codes "ok " ++ decimal ino ++ space ∷ [] ++ kind_word kind ++ newline ∷ []
reply_text (ListOf lines) = codes "ok " ++ decimal (length lines) ++ newline ∷ [] ++ flat_map line_text lines
reply_text (ParentsOf parents) = codes "ok " ++ decimal (length parents) ++ newline ∷ [] ++ flat_map parent_text parents
reply_text (ErrorOf error) = codes "error " ++ decimal (error_number error) ++ space ∷ [] ++ error_word error ++ newline ∷ []
