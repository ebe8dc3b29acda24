-- Leaf entries in rising order of their hashes, and where a hash stands among them.
use Rattle.std.specs.Prelude.{◌≡◌, ℕ, ◌+◌, ◌*◌, ◌<◌, ◌≤◌, ◌≢◌, List}
use Rattle.xn_bytes.specs.Numbers.{number_at}

-- the hash of the leaf entry of an index, from 0, among those from a place on
abbrev pub hash_at : ℕ → ℕ → List ℕ → ℕ
hash_at at index bytes = number_at 4 (at + 8 * index) bytes

-- the hashes of so many don't fall
abbrev pub Rise : ℕ → ℕ → List ℕ → Type 0
Rise count at bytes = (i j : ℕ) → i ≤ j → j < count → hash_at at i bytes ≤ hash_at at j bytes

-- of so many, those before an index have lesser hashes than one, and the others don't
pub record Parts (hash count at : ℕ) (bytes : List ℕ) (index : ℕ) : Type 0 where
  pub before : (k : ℕ) → k < index → hash_at at k bytes < hash
  pub from : (k : ℕ) → index ≤ k → k < count → hash ≤ hash_at at k bytes

-- of so many, those before an index have a hash, and the next one, if there is one, doesn't
pub record Leads (hash count at : ℕ) (bytes : List ℕ) (index : ℕ) : Type 0 where
  pub within : index ≤ count
  pub before : (k : ℕ) → k < index → hash_at at k bytes ≡ hash
  pub next : index < count → hash_at at index bytes ≢ hash
