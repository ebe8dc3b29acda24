-- What words that were read ask for, and why others are refused.
use Rattle.std.specs.Prelude.{◌≡◌, ℕ, List}
use Rattle.xn_meaning.specs.Words.{AsksList, AsksResolve, AsksParents, AsksCheck}
use Rattle.xn_bytes.specs.declared.escaped_text.EscapeFault.{EscapeFault}
use Rattle.xn_bytes.specs.declared.escaped_text.EscapeFault.TheVariants as escapes
use Rattle.xn_text.specs.declared.words.Words.{Words}
use Rattle.xn_text.specs.declared.words.Words.TheVariants as variants
use Rattle.xn_text.specs.declared.words.WordsFault.{WordsFault}
use Rattle.xn_text.specs.declared.words.WordsFault.TheVariants as faults

abbrev pub AsksFor : List (List ℕ) → Words → Type 0
AsksFor words (variants.List ino) = AsksList words ino
AsksFor words (variants.Resolve path) = AsksResolve words path
AsksFor words (variants.Parents ino) = AsksParents words ino
AsksFor words variants.Check = AsksCheck words

-- a word that is no escaped text makes the words none of the forms
abbrev pub IsRefusal : EscapeFault → WordsFault → Type 0
IsRefusal (escapes.Bad at) fault = fault ≡ faults.Usage
IsRefusal escapes.Memory fault = fault ≡ faults.Memory
