-- Names and paths as text of one line: what is none of the bytes 0x21 to 0x7e, and `\` itself, is written as `\` with the byte's
-- two hexadecimal digits in lower case.
use Rattle.std.specs.Prelude.{◌≡◌, ◌≢◌, ℕ, ◌+◌, ◌/◌, ◌%◌, ◌<◌, ◌&&◌, ◌==◌, nat_le, nat_lt, not, if◌then◌else◌, Bool, List, [], ◌∷◌, ◌++◌, length, take, drop, All, flat_map}
use Rattle.xn_bytes.specs.declared.escaped_text.EscapeFault.{EscapeFault}
use Rattle.xn_bytes.specs.declared.escaped_text.EscapeFault.TheVariants.{Bad, Memory}

-- a byte that stands for itself: 0x21 to 0x7e but `\`
abbrev pub stands_for_itself : ℕ → Bool
stands_for_itself byte = nat_le 0x21 byte && nat_le byte 0x7e && not (byte == 0x5c)

-- the hexadecimal digit of a number below 16
abbrev pub hex_digit : ℕ → ℕ
hex_digit n = if nat_lt n 10 then 48 + n else 87 + n

-- the text of a byte
abbrev pub escaped_byte : ℕ → List ℕ
escaped_byte byte = if stands_for_itself byte then byte ∷ [] else 0x5c ∷ hex_digit (byte / 16) ∷ hex_digit (byte % 16) ∷ []

-- the text of bytes
abbrev pub escaped : List ℕ → List ℕ
escaped bytes = flat_map escaped_byte bytes

-- The first place from which no escaped text goes on: what stands before it is the text of bytes, something is left,
-- and no byte's text stands at the front of that.
pub record IsFirstBad (text : List ℕ) (at : ℕ) : Type 0 where
  pub within : at < length text
  pub before : (bytes : List ℕ) × All (λ byte. byte < 256) bytes × (take at text ≡ escaped bytes)
  pub none_at : (byte : ℕ) (rest : List ℕ) → byte < 256 → drop at text ≢ escaped_byte byte ++ rest

-- why bytes are not read from a text. Without memory nothing is said of it
abbrev pub IsEscapeFault : List ℕ → EscapeFault → Type 0
IsEscapeFault text (Bad at) = IsFirstBad text at
IsEscapeFault text Memory = Unit {0}
