-- Entries with a name.
use Rattle.std.specs.Prelude.{◌≡◌, ◌≢◌, ℕ, List, ◌∷◌, ◌++◌, All}
use Rattle.xn_bytes.specs.Entries.{Entry}

-- no entry has the name
abbrev pub HasNone : List ℕ → List Entry → Type 0
HasNone name entries = All (λ entry. entry.name ≢ name) entries

-- the entry has the name, and is the first that has it
pub record IsFirstNamed (name : List ℕ) (entries : List Entry) (entry : Entry) : Type 0 where
  pub named : entry.name ≡ name
  pub before : List Entry
  pub after : List Entry
  pub among : entries ≡ before ++ entry ∷ after
  pub first : HasNone name before
