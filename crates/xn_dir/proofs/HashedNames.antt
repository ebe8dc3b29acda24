-- Names with their hashes in front, sorted: they rise exactly where each name stands once.
use Rattle.std.proofs.Common.{◌≡◌, ◌≢◌, ℕ, ◌<◌, List, ◌∷◌, length, map, get_or, ap, sym, ◌∙◌, arith}
use Rattle.std.specs.Prelude.{AllPairs, IsPermutation}
use Rattle.std.specs.List.{AllAdjacentBelow}
use Rattle.std.proofs.lemmas.List.{get_or-map, length-map}
use Rattle.std.proofs.lemmas.Simd.{map-map}
use Rattle.xn_bytes.specs.Hashes.{name_hash_of}
use Rattle.xn_bytes.proofs.NameOrder.{ComesBefore}
use Rattle.xn_dir.specs.declared.listing.Listed.{Listed}
use Rattle.xn_dir.specs.declared.listing.HashedName.{HashedName}
use Rattle.xn_dir.specs.Listings.{name_of, AreSorted}
use Rattle.xn_dir.proofs.Names.{once_where_rising, rising_where_once}

-- a name with its hash in front
abbrev pub hashed : List ℕ → List ℕ
hashed name = name_hash_of name ∷ name

abbrev pub hashed_entry : Listed → List ℕ
hashed_entry entry = name_hash_of (name_of entry) ∷ name_of entry

abbrev pub in_one : HashedName → List ℕ
in_one name = name.hash ∷ name.name.now

-- names differ where they differ with their hashes
unhashed : (names : List (List ℕ)) → AllPairs (λ a b. a ≢ b) (map hashed names) → AllPairs (λ a b. a ≢ b) names
unhashed names once i j d lt lj = λ e.
    let within : j < length (map hashed names) = rw (length-map names hashed) lj in
    once i j (hashed d) lt within (get_or-map hashed names i d (hashed d) (omega (arith, lt, lj)) ∙ ap hashed e ∙ sym (get_or-map hashed names j d (hashed d) lj))

-- and the other way round
with_hashes : (names : List (List ℕ)) → AllPairs (λ a b. a ≢ b) names → AllPairs (λ a b. a ≢ b) (map hashed names)
with_hashes names once i j d lt lj = λ e.
    let within : j < length names = rw (← length-map names hashed) lj in
    let same : hashed (get_or names i d) ≡ hashed (get_or names j d) = sym (get_or-map hashed names i d d (omega (arith, lt, within))) ∙ e ∙ get_or-map hashed names j d d within in
    once i j d lt within cc

both : (listed : List Listed) (sorted : List HashedName) → IsPermutation (map hashed_entry listed) (map in_one sorted) → IsPermutation (map hashed (map name_of listed)) (map in_one sorted)
both listed sorted same = rw (map-map hashed name_of listed) same

pub once_where_hashes_rise : (listed : List Listed) (sorted : List HashedName) → IsPermutation (map hashed_entry listed) (map in_one sorted)
    → AllAdjacentBelow (λ a b. ComesBefore (in_one a) (in_one b)) sorted (length sorted) → AllPairs (λ a b. a ≢ b) (map name_of listed)
once_where_hashes_rise listed sorted same rising =
    unhashed (map name_of listed) (once_where_rising in_one (map hashed (map name_of listed)) sorted (both listed sorted same) rising)

pub hashes_rise_where_once : (listed : List Listed) (sorted : List HashedName) → IsPermutation (map hashed_entry listed) (map in_one sorted) → AreSorted (map in_one sorted)
    → AllPairs (λ a b. a ≢ b) (map name_of listed) → AllAdjacentBelow (λ a b. ComesBefore (in_one a) (in_one b)) sorted (length sorted)
hashes_rise_where_once listed sorted same in_order once =
    rising_where_once in_one (map hashed (map name_of listed)) sorted (both listed sorted same) in_order (with_hashes (map name_of listed) once)
