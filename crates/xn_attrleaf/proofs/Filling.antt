-- A leaf that is written anew holds its attributes.
use Rattle.std.proofs.Common.{◌≡◌, inr, ℕ, suc, ◌+◌, ◌-◌, ◌*◌, ◌<◌, ◌≤◌, List, [], ◌∷◌, length, map, get_or, Some, refl, sym, ap, subst, ◌∙◌, arith}
use Rattle.std.specs.Prelude.{slice_range, sum_by, All, AllPairs}
use Rattle.std.specs.List.Sorted.{IsNonDecreasingBy}
use Rattle.std.proofs.lemmas.List.Elements.{All-drop, All-from_get_or}
use Rattle.std.proofs.lemmas.List.Sums.{sum_by-cons, sum_by_more, sum_by-take-le}
use Rattle.byteorder.specs.Endian.{little_bytes}
use Rattle.xn_bytes.specs.declared.attribute.Attribute.{Attribute}
use Rattle.xn_bytes.specs.declared.attribute.Value.TheVariants.{Here}
use Rattle.xn_bytes.specs.Numbers.{number_at, overlaid}
use Rattle.xn_bytes.specs.Checksum.{HasChecksum}
use Rattle.xn_bytes.specs.HashedTree.{single_leaf_magic}
use Rattle.xn_bytes.specs.Attributes.{attribute_hash}
use Rattle.xn_bytes.specs.AttributeLeaves.{AreDisjoint, AttrEntry, IsWithin, attr_entries, attr_entries_at, attr_entry_at, attr_leaf_magic, attribute_at, attribute_size, entry_ends, last_entry_hash, name_size}
use Rattle.xn_datree.specs.Leaves.{ends_of_list, last_by}
use Rattle.xn_attrleaf.specs.Filled.{IsFilled}
use Rattle.xn_attrleaf.specs.Putting.{KeepsAround, PutsAttributes, PutsHeader, Stands, TellsFree, entry_of, name_bytes, place_before}
use Rattle.xn_attrleaf.specs.EntriesRead.{count_entries, entry_is}
use Rattle.xn_attrleaf.proofs.Frames.{around_overlaid, number_before, number_behind, piece_behind, same_piece}
use Rattle.xn_attrleaf.proofs.Headers.{tells_free_still}
use Rattle.xn_attrleaf.proofs.Standing.{fewer_bytes, has_name_same, same_entry_at, sizes}

-- ---- attributes are read from entries that stand side by side

-- an attribute is read from the entry at a place
record IsRead (bytes : List ℕ) (at : ℕ) (attribute : Attribute) : Type 0 where
  hash : number_at 4 at bytes ≡ attribute_hash attribute
  is : attribute_at bytes (attr_entry_at at bytes) ≡ attribute
  size : name_size bytes (attr_entry_at at bytes) ≡ name_bytes attribute

abbrev AreRead : List ℕ → ℕ → List Attribute → Type 0
AreRead bytes at [] = Unit {0}
AreRead bytes at (attribute ∷ others) = IsRead bytes at attribute × AreRead bytes (at + 8) others

all_read : (bytes : List ℕ) (at : ℕ) (attributes : List Attribute) → ((k : ℕ) → k < length attributes → (d : Attribute) → IsRead bytes (at + 8 * k) (get_or attributes k d)) → AreRead bytes at attributes
all_read bytes at [] each = tt
all_read bytes at (attribute ∷ others) each =
    let here : at + 8 * 0 ≡ at = omega arith in (
      subst (λ (n : ℕ). IsRead bytes n attribute) here (each 0 (omega arith) attribute),
      all_read bytes (at + 8) others
          (λ k below d. let next : at + 8 * suc k ≡ at + 8 + 8 * k = omega arith in subst (λ (n : ℕ). IsRead bytes n (get_or others k d)) next (each (suc k) (omega arith) d)),
    )

read_all : (bytes : List ℕ) (at : ℕ) (attributes : List Attribute) → AreRead bytes at attributes → attributes ≡ map (attribute_at bytes) (attr_entries_at (length attributes) at bytes)
read_all bytes at [] reads = refl
read_all bytes at (attribute ∷ others) reads =
    ap (λ (a : Attribute). a ∷ others) (sym reads.0.is) ∙ ap (λ (xs : List Attribute). attribute_at bytes (attr_entry_at at bytes) ∷ xs) (read_all bytes (at + 8) others reads.1)

read_sizes : (bytes : List ℕ) (at : ℕ) (attributes : List Attribute) → AreRead bytes at attributes → sum_by (name_size bytes) (attr_entries_at (length attributes) at bytes) ≡ sum_by name_bytes attributes
read_sizes bytes at [] reads = refl
read_sizes bytes at (attribute ∷ others) reads =
    sum_by-cons (name_size bytes) (attr_entry_at at bytes) (attr_entries_at (length others) (at + 8) bytes)
    ∙ ap (λ (n : ℕ). n + sum_by (name_size bytes) (attr_entries_at (length others) (at + 8) bytes)) reads.0.size
    ∙ ap (λ (n : ℕ). name_bytes attribute + n) (read_sizes bytes (at + 8) others reads.1)
    ∙ sym (sum_by-cons name_bytes attribute others)

read_last : (bytes : List ℕ) (at : ℕ) (attribute : Attribute) (others : List Attribute) → IsRead bytes at attribute → AreRead bytes (at + 8) others
    → last_entry_hash (attr_entry_at at bytes) (attr_entries_at (length others) (at + 8) bytes) ≡ last_by attribute_hash attribute others
read_last bytes at attribute [] one reads = one.hash
read_last bytes at attribute (next ∷ others) one reads = read_last bytes (at + 8) next others reads.0 reads.1

read_ends : (bytes : List ℕ) (at : ℕ) (attributes : List Attribute) → AreRead bytes at attributes → entry_ends (attr_entries_at (length attributes) at bytes) ≡ ends_of_list attribute_hash attributes
read_ends bytes at [] reads = refl
read_ends bytes at (attribute ∷ others) reads =
    ap (λ (hash : ℕ). Some (hash, last_entry_hash (attr_entry_at at bytes) (attr_entries_at (length others) (at + 8) bytes))) reads.0.hash
    ∙ ap (λ (last : ℕ). Some (attribute_hash attribute, last)) (read_last bytes at attribute others reads.0 reads.1)

is_read : (bytes : List ℕ) (attributes : List Attribute) (index : ℕ) (attribute : Attribute) → Stands bytes attributes index attribute → IsRead bytes (80 + 8 * index) attribute
is_read bytes attributes index attribute stands = record {
  hash = ap (λ (e : AttrEntry). e.hash) stands.entry;
  is = ap (λ (e : AttrEntry). attribute_at bytes e) stands.entry ∙ stands.name.is;
  size = ap (λ (e : AttrEntry). name_size bytes e) stands.entry ∙ stands.name.size;
}

-- ---- how they stand to each other

-- that all attributes of a list stand in a leaf
abbrev AllStand : List ℕ → List Attribute → Type 0
AllStand bytes attributes = (index : ℕ) → index < length attributes → (d : Attribute) → Stands bytes attributes index (get_or attributes index d)

stand_in_body : (old new : List ℕ) (attributes : List Attribute) → length old ≡ 4096 → length new ≡ 4096 → sum_by attribute_size attributes ≤ 4016 → slice_range new 80 4096 ≡ slice_range old 80 4096
    → AllStand old attributes → AllStand new attributes
stand_in_body old new attributes size size2 fits body stand index below d =
    let stands = stand index below d in
    let part = sum_by-take-le name_bytes attributes (index + 1) in
    let whole = sizes attributes in
    record {
      entry = same_entry_at 80 4096 (80 + 8 * index) new old (omega arith) (omega arith) (omega arith) (omega arith) body ∙ stands.entry;
      name = has_name_same 80 4096 (place_before attributes (index + 1)) old new (get_or attributes index d) stands.name (omega arith)
          (omega (arith, sum_by_more name_bytes attributes index d below)) (omega arith) (omega arith) body;
    }

-- an attribute for places past the end of lists
blank : Attribute
blank = record { flags = 0; name = []; value = Here [] }

abbrev at_of : List Attribute → ℕ → Attribute
at_of attributes index = get_or attributes index blank

abbrev entries_of : List ℕ → List Attribute → List AttrEntry
entries_of bytes attributes = attr_entries_at (length attributes) 80 bytes

entry_there : (bytes : List ℕ) (attributes : List Attribute) → AllStand bytes attributes → (k : ℕ) → k < length attributes → (d : AttrEntry) → entry_of (place_before attributes (k + 1)) (at_of attributes k) ≡ get_or (entries_of bytes attributes) k d
entry_there bytes attributes stand k below d = sym (entry_is (length attributes) 80 k bytes d below ∙ (stand k below blank).entry)

are_within : (bytes : List ℕ) (attributes : List Attribute) (first : ℕ) → AllStand bytes attributes → sum_by name_bytes attributes ≤ 4016 → number_at 2 60 bytes ≡ first → first + sum_by name_bytes attributes ≡ 4096
    → All (IsWithin bytes) (entries_of bytes attributes)
are_within bytes attributes first stand fits names ends k d low =
    let below : k < length attributes = omega (arith, count_entries (length attributes) 80 bytes) in
    let stands = stand k below blank in
    let part = sum_by-take-le name_bytes attributes (k + 1) in
    subst (IsWithin bytes) (entry_there bytes attributes stand k below d)
    (record { behind = omega arith; before_end = omega (arith, stands.name.size, sum_by_more name_bytes attributes k blank below) })

are_disjoint : (bytes : List ℕ) (attributes : List Attribute) → AllStand bytes attributes → sum_by name_bytes attributes ≤ 4016 → AllPairs (AreDisjoint bytes) (entries_of bytes attributes)
are_disjoint bytes attributes stand fits i j d less low =
    let below : j < length attributes = omega (arith, count_entries (length attributes) 80 bytes) in
    let before : i < length attributes = omega arith in
    let stands = stand j below blank in
    let a : AttrEntry = entry_of (place_before attributes (i + 1)) (at_of attributes i) in
    let b : AttrEntry = entry_of (place_before attributes (j + 1)) (at_of attributes j) in
    let apart : b.place + name_size bytes b ≤ a.place =
    omega (arith, stands.name.size, sum_by_more name_bytes attributes j blank below, fewer_bytes attributes (i + 1) j (omega arith), sum_by-take-le name_bytes attributes (j + 1)) in
    subst (λ (e : AttrEntry). AreDisjoint bytes e (get_or (entries_of bytes attributes) j d)) (entry_there bytes attributes stand i before d)
    (subst (λ (e : AttrEntry). AreDisjoint bytes a e) (entry_there bytes attributes stand j below d) (inr apart))

are_rising : (bytes : List ℕ) (attributes : List Attribute) → AllStand bytes attributes → IsNonDecreasingBy attribute_hash attributes → IsNonDecreasingBy (λ entry. entry.hash) (entries_of bytes attributes)
are_rising bytes attributes stand sorted i j d less low =
    let below : j < length attributes = omega (arith, count_entries (length attributes) 80 bytes) in
    let before : i < length attributes = omega arith in
    subst (λ (e : AttrEntry). e.hash ≤ (get_or (entries_of bytes attributes) j d).hash) (entry_there bytes attributes stand i before d)
    (subst (λ (e : AttrEntry). attribute_hash (at_of attributes i) ≤ e.hash) (entry_there bytes attributes stand j below d) (sorted i j blank less below))

are_hashed : (bytes : List ℕ) (attributes : List Attribute) → AllStand bytes attributes → All (λ entry. entry.hash ≡ attribute_hash (attribute_at bytes entry)) (entries_of bytes attributes)
are_hashed bytes attributes stand k d low =
    let below : k < length attributes = omega (arith, count_entries (length attributes) 80 bytes) in
    subst (λ (e : AttrEntry). e.hash ≡ attribute_hash (attribute_at bytes e)) (entry_there bytes attributes stand k below d)
    (sym (ap attribute_hash (stand k below blank).name.is))

-- ---- the whole leaf

pub is_filled : (old b1 b2 new : List ℕ) (attributes : List Attribute) (first sum : ℕ) → length old ≡ 4096 → ((i : ℕ) → get_or new i 0 < 256) → IsNonDecreasingBy attribute_hash attributes → sum_by attribute_size attributes ≤ 4016
    → PutsAttributes old b1 attributes → first + sum_by name_bytes attributes ≡ 4096 → PutsHeader (length attributes) first b1 b2
    → new ≡ overlaid b2 12 (little_bytes 4 sum) → HasChecksum new 12 → length new ≡ length b2 → IsFilled old new attributes
is_filled old b1 b2 new attributes first sum size small sorted fits puts ends header e checksum long =
    let w1 : length b1 ≡ 4096 = puts.whole ∙ size in
    let w2 : length b2 ≡ 4096 = header.whole ∙ w1 in
    let w3 : length new ≡ 4096 = long ∙ w2 in
    let width : length (little_bytes 4 sum) ≡ 4 = refl in
    let last : KeepsAround 12 16 b2 new = around_overlaid 12 16 b2 new (little_bytes 4 sum) w2 e (omega arith) (omega arith) in
    let number : (at : ℕ) → 16 ≤ at → at + 2 ≤ 4096 → number_at 2 at new ≡ number_at 2 at b2 = λ at low high. number_behind 12 16 2 at b2 new w2 last low high in
    let magic : number_at 2 8 new ≡ attr_leaf_magic = number_before 12 16 2 8 b2 new w2 last (omega arith) (omega arith) ∙ header.magic in
    let count : number_at 2 56 new ≡ length attributes = number 56 (omega arith) (omega arith) ∙ header.entries in
    let used : number_at 2 58 new ≡ 4096 - first = number 58 (omega arith) (omega arith) ∙ header.used in
    let names : number_at 2 60 new ≡ first = number 60 (omega arith) (omega arith) ∙ header.names in
    let total = sizes attributes in
    let few : sum_by name_bytes attributes ≤ 4016 = omega arith in
    let body : slice_range new 80 4096 ≡ slice_range b1 80 4096 = piece_behind 12 16 80 4096 b2 new w2 last (omega arith) (omega arith) (omega arith) ∙ header.body in
    let stand : AllStand new attributes = stand_in_body b1 new attributes w1 w3 fits body puts.each in
    let reads : AreRead new 80 attributes = all_read new 80 attributes (λ k below d. is_read new attributes k (get_or attributes k d) (stand k below d)) in
    let all : entries_of new attributes ≡ attr_entries new = ap (λ (n : ℕ). attr_entries_at n 80 new) (sym count) in
    record {
      holds = record {
        leaf = record {
          whole = w3;
          are_bytes = All-drop (λ (byte : ℕ). byte < 256) 56 new (All-from_get_or (λ (byte : ℕ). byte < 256) new 0 (λ i low. small i));
          is_magic = magic;
          checksum = checksum;
          apart = omega arith;
          within = subst (λ (xs : List AttrEntry). All (IsWithin new) xs) all (are_within new attributes first stand few names ends);
          disjoint = subst (λ (xs : List AttrEntry). AllPairs (AreDisjoint new) xs) all (are_disjoint new attributes stand few);
          used = used ∙ (let there : 4096 - first ≡ sum_by name_bytes attributes = omega arith in there) ∙ sym (read_sizes new 80 attributes reads) ∙ ap (λ (xs : List AttrEntry). sum_by (name_size new) xs) all;
          sorted = subst (λ (xs : List AttrEntry). IsNonDecreasingBy (λ entry. entry.hash) xs) all (are_rising new attributes stand sorted);
          hashes = subst (λ (xs : List AttrEntry). All (λ entry. entry.hash ≡ attribute_hash (attribute_at new entry)) xs) all (are_hashed new attributes stand);
        };
        are = read_all new 80 attributes reads ∙ ap (λ (xs : List AttrEntry). map (attribute_at new) xs) all;
      };
      ends = ap entry_ends (sym all) ∙ read_ends new 80 attributes reads;
      tree = λ single. let both : attr_leaf_magic ≡ single_leaf_magic = sym magic ∙ single in absurd (omega arith);
      header = record {
        whole = w3 ∙ sym size;
        siblings = same_piece 0 12 0 8 new b2 (omega arith) (omega arith) (omega arith) (omega arith) (omega arith) last.before
            ∙ header.siblings
            ∙ same_piece 0 80 0 8 b1 old (omega arith) (omega arith) (omega arith) (omega arith) (omega arith) puts.before;
        place = piece_behind 12 16 16 56 b2 new w2 last (omega arith) (omega arith) (omega arith)
            ∙ header.place
            ∙ same_piece 0 80 16 56 b1 old (omega arith) (omega arith) (omega arith) (omega arith) (omega arith) puts.before;
      };
    }

pub tells_free : (b2 new : List ℕ) (sum : ℕ) → length b2 ≡ 4096 → new ≡ overlaid b2 12 (little_bytes 4 sum) → TellsFree b2 → TellsFree new
tells_free b2 new sum size e free =
    let width : length (little_bytes 4 sum) ≡ 4 = refl in
    tells_free_still 12 16 b2 new size (around_overlaid 12 16 b2 new (little_bytes 4 sum) size e (omega arith) (omega arith)) (omega arith) free
