-- The words of the command line, those after the program's name.
use Rattle.std.specs.Prelude.{◌≡◌, ◌≢◌, ℕ, ◌^◌, ◌<◌, List, [], ◌∷◌, length, codes, decimal, slice_index, All}
use Rattle.xn_bytes.specs.Escapes.{escaped}

-- a word: some bytes, the first of them no `-`
pub record IsWord (word : List ℕ) : Type 0 where
  pub some : 0 < length word
  pub no_dash : slice_index word 0 ≢ 45

-- `COMMAND IMAGE MANIFEST INO`, INO a decimal number below 2^64 without a leading zero
pub record AsksOf (command : List ℕ) (words : List (List ℕ)) (ino : ℕ) : Type 0 where
  pub image : List ℕ
  pub manifest : List ℕ
  pub form : words ≡ command ∷ image ∷ manifest ∷ decimal ino ∷ []
  pub image_word : IsWord image
  pub manifest_word : IsWord manifest
  pub small : ino < 2 ^ 64

-- `list IMAGE MANIFEST INO`
abbrev pub AsksList : List (List ℕ) → ℕ → Type 0
AsksList words ino = AsksOf (codes "list") words ino

-- `parents IMAGE MANIFEST INO`
abbrev pub AsksParents : List (List ℕ) → ℕ → Type 0
AsksParents words ino = AsksOf (codes "parents") words ino

-- `resolve IMAGE MANIFEST PATH`, PATH the escaped text of a path's bytes
pub record AsksResolve (words : List (List ℕ)) (path : List ℕ) : Type 0 where
  pub image : List ℕ
  pub manifest : List ℕ
  pub form : words ≡ codes "resolve" ∷ image ∷ manifest ∷ escaped path ∷ []
  pub image_word : IsWord image
  pub manifest_word : IsWord manifest
  pub path_word : IsWord (escaped path)
  pub bytes : All (λ byte. byte < 256) path

-- `check IMAGE MANIFEST`
pub record AsksCheck (words : List (List ℕ)) : Type 0 where
  pub image : List ℕ
  pub manifest : List ℕ
  pub form : words ≡ codes "check" ∷ image ∷ manifest ∷ []
  pub image_word : IsWord image
  pub manifest_word : IsWord manifest

-- the words are none of the forms
pub record AsksNothing (words : List (List ℕ)) : Type 0 where
  pub no_list : (ino : ℕ) → ¬ AsksList words ino
  pub no_resolve : (path : List ℕ) → ¬ AsksResolve words path
  pub no_parents : (ino : ℕ) → ¬ AsksParents words ino
  pub no_check : ¬ AsksCheck words
