-- Entries and leaf entries laid one behind the other.
use Rattle.std.proofs.Common.{◌≡◌, ℕ, ◌+◌, ◌*◌, ◌<◌, ◌≤◌, List, [], ◌∷◌, ◌++◌, length, drop, map, replicate, get_or, refl, sym, ap, ◌∙◌, arith, append_assoc}
use Rattle.std.proofs.lemmas.List.{drop_more, drop_all, append-nil, length-append, length-replicate, map-append, replicate_more}
use Rattle.byteorder.specs.Endian.{big_bytes}
use Rattle.xn_bytes.specs.Kinds.{kind_number}
use Rattle.xn_bytes.specs.Entries.{Entry, data_entry_length}
use Rattle.xn_bytes.specs.DataBlock.{LeafEntry}
use Rattle.xn_bytes.specs.DirectoryForms.{leaf_of}
use Rattle.xn_make.specs.declared.blocks.Named.{Named}
use Rattle.xn_make.specs.declared.layout.Leaf.{Leaf}
use Rattle.xn_make.specs.Directories.{entry_at, entries_from, total_length}
use Rattle.xn_make.specs.SpelledBlocks.{entry_bytes, entries_bytes, leaves_bytes, padding_of}
use Rattle.xn_make.specs.Laid.{leaf_entry, leaf_at}

-- one more zero
pub zeros_more : (start bytes old : List ℕ) (count : ℕ) → old ≡ start ++ replicate count 0 → bytes ≡ old ++ 0 ∷ [] → bytes ≡ start ++ replicate (count + 1) 0
zeros_more start bytes old count e h =
    h ∙ ap (λ (xs : List ℕ). xs ++ 0 ∷ []) e ∙ append_assoc start (replicate count 0) (0 ∷ []) ∙ ap (λ (xs : List ℕ). start ++ xs) (replicate_more count 0)

-- one more leaf entry
pub leaves_step : (all old mid new first second : List ℕ) (leaves : List Leaf) (i : ℕ) (d : Leaf) → i < length leaves
    → mid ≡ old ++ first → new ≡ mid ++ second → first ≡ big_bytes 4 (get_or leaves i d).hash → second ≡ big_bytes 4 (get_or leaves i d).address
    → old ++ leaves_bytes (map leaf_entry (drop i leaves)) ≡ all → new ++ leaves_bytes (map leaf_entry (drop (i + 1) leaves)) ≡ all
unfolding leaves_bytes
leaves_step all old mid new first second leaves i d h e1 e2 f1 f2 e =
    let leaf = get_or leaves i d in
    let rest = leaves_bytes (map leaf_entry (drop (i + 1) leaves)) in
    ap (λ (xs : List ℕ). xs ++ rest) (e2 ∙ ap (λ (xs : List ℕ). xs ++ second) e1 ∙ ap (λ (xs : List ℕ). (old ++ xs) ++ second) f1 ∙ ap (λ (xs : List ℕ). (old ++ big_bytes 4 leaf.hash) ++ xs) f2)
    ∙ append_assoc (old ++ big_bytes 4 leaf.hash) (big_bytes 4 leaf.address) rest
    ∙ append_assoc old (big_bytes 4 leaf.hash) (big_bytes 4 leaf.address ++ rest)
    ∙ sym (ap (λ (xs : List Leaf). old ++ leaves_bytes (map leaf_entry xs)) (drop_more leaves i d h))
    ∙ e

-- all leaf entries
pub leaves_end : (all bytes : List ℕ) (leaves : List Leaf) (i : ℕ) → length leaves ≤ i → bytes ++ leaves_bytes (map leaf_entry (drop i leaves)) ≡ all → bytes ≡ all
unfolding leaves_bytes
leaves_end all bytes leaves i h e =
    sym (append-nil bytes) ∙ sym (ap (λ (xs : List Leaf). bytes ++ leaves_bytes (map leaf_entry xs)) (drop_all i leaves h)) ∙ e

-- how long an entry is
length-entry : (entry : Entry) → length (entry_bytes entry) ≡ data_entry_length (length entry.name)
length-entry entry =
    let pad : ℕ = padding_of (length entry.name) in
    let zeros : List ℕ = replicate pad 0 in
    let behind : List ℕ = kind_number entry.kind ∷ (zeros ++ big_bytes 2 entry.position) in
    let z : length zeros ≡ pad = length-replicate pad 0 in
    let l : length behind ≡ 1 + (length zeros + 2) = omega (arith, length-append zeros (big_bytes 2 entry.position)) in
    let n : length (entry.name ++ behind) ≡ length entry.name + length behind = length-append entry.name behind in
    omega (arith)

-- one more entry
entries_more : (area : List ℕ) (named : Named) (rest : List Named)
    → (area ++ entry_bytes (entry_at (64 + length area) named)) ++ entries_bytes (entries_from (64 + length (area ++ entry_bytes (entry_at (64 + length area) named))) rest)
    ≡ area ++ entries_bytes (entries_from (64 + length area) (named ∷ rest))
unfolding entries_bytes entries_from
entries_more area named rest =
    let bytes = entry_bytes (entry_at (64 + length area) named) in
    let n : 64 + length (area ++ bytes) ≡ 64 + length area + data_entry_length (length named.name.now) =
    omega (arith, length-append area bytes, length-entry (entry_at (64 + length area) named)) in
    append_assoc area bytes (entries_bytes (entries_from (64 + length (area ++ bytes)) rest))
    ∙ ap (λ (n : ℕ). area ++ (bytes ++ entries_bytes (entries_from n rest))) n

leaf_entries_more : (area : List ℕ) (leaves : List Leaf) (named : Named) (rest : List Named)
    → map leaf_entry (leaves ++ leaf_at (64 + length area) named.name.now ∷ []) ++ map leaf_of (entries_from (64 + length (area ++ entry_bytes (entry_at (64 + length area) named))) rest)
    ≡ map leaf_entry leaves ++ map leaf_of (entries_from (64 + length area) (named ∷ rest))
unfolding entries_from
leaf_entries_more area leaves named rest =
    let bytes = entry_bytes (entry_at (64 + length area) named) in
    let one = leaf_at (64 + length area) named.name.now in
    let n : 64 + length (area ++ bytes) ≡ 64 + length area + data_entry_length (length named.name.now) =
    omega (arith, length-append area bytes, length-entry (entry_at (64 + length area) named)) in
    ap (λ (n : ℕ). map leaf_entry (leaves ++ one ∷ []) ++ map leaf_of (entries_from n rest)) n
    ∙ ap (λ (xs : List LeafEntry). xs ++ map leaf_of (entries_from (64 + length area + data_entry_length (length named.name.now)) rest)) (map-append leaf_entry leaves (one ∷ []))
    ∙ append_assoc (map leaf_entry leaves) (leaf_entry one ∷ []) (map leaf_of (entries_from (64 + length area + data_entry_length (length named.name.now)) rest))

-- the bytes, the leaf entries and the room after one more entry of a list
pub area_step : (all old new : List ℕ) (entries : List Named) (i : ℕ) (d : Named) → i < length entries → new ≡ old ++ entry_bytes (entry_at (64 + length old) (get_or entries i d))
    → old ++ entries_bytes (entries_from (64 + length old) (drop i entries)) ≡ all → new ++ entries_bytes (entries_from (64 + length new) (drop (i + 1) entries)) ≡ all
area_step all old new entries i d h e was =
    let rest = drop (i + 1) entries in
    ap (λ (xs : List ℕ). xs ++ entries_bytes (entries_from (64 + length xs) rest)) e
    ∙ entries_more old (get_or entries i d) rest
    ∙ sym (ap (λ (xs : List Named). old ++ entries_bytes (entries_from (64 + length old) xs)) (drop_more entries i d h))
    ∙ was

pub leaf_entries_step : (all : List LeafEntry) (old new : List ℕ) (before after : List Leaf) (entries : List Named) (i : ℕ) (d : Named) → i < length entries
    → new ≡ old ++ entry_bytes (entry_at (64 + length old) (get_or entries i d)) → after ≡ before ++ leaf_at (64 + length old) (get_or entries i d).name.now ∷ []
    → map leaf_entry before ++ map leaf_of (entries_from (64 + length old) (drop i entries)) ≡ all
    → map leaf_entry after ++ map leaf_of (entries_from (64 + length new) (drop (i + 1) entries)) ≡ all
leaf_entries_step all old new before after entries i d h e l was =
    let rest = drop (i + 1) entries in
    ap (λ (xs : List Leaf). map leaf_entry xs ++ map leaf_of (entries_from (64 + length new) rest)) l
    ∙ ap (λ (xs : List ℕ). map leaf_entry (before ++ leaf_at (64 + length old) (get_or entries i d).name.now ∷ []) ++ map leaf_of (entries_from (64 + length xs) rest)) e
    ∙ leaf_entries_more old before (get_or entries i d) rest
    ∙ sym (ap (λ (xs : List Named). map leaf_entry before ++ map leaf_of (entries_from (64 + length old) xs)) (drop_more entries i d h))
    ∙ was

-- the room that is left holds the next entry
next_total : (entries : List Named) (i : ℕ) (d : Named) → i < length entries → total_length (drop i entries) ≡ data_entry_length (length (get_or entries i d).name.now) + total_length (drop (i + 1) entries)
unfolding total_length
next_total entries i d h = ap total_length (drop_more entries i d h)

pub room_here : (old : List ℕ) (entries : List Named) (i : ℕ) (d : Named) → i < length entries → length old + total_length (drop i entries) ≤ 4096
    → length old + data_entry_length (length (get_or entries i d).name.now) ≤ 4096
room_here old entries i d h room = omega (arith, next_total entries i d h)

pub room_step : (old new : List ℕ) (entries : List Named) (i : ℕ) (d : Named) → i < length entries → new ≡ old ++ entry_bytes (entry_at (64 + length old) (get_or entries i d))
    → length old + total_length (drop i entries) ≤ 4096 → length new + total_length (drop (i + 1) entries) ≤ 4096
room_step old new entries i d h e room =
    let entry = entry_at (64 + length old) (get_or entries i d) in
    omega (arith, next_total entries i d h, ap length e, length-append old (entry_bytes entry), length-entry entry)

-- all entries
pub area_end : (all area : List ℕ) (entries : List Named) (i : ℕ) → length entries ≤ i → area ++ entries_bytes (entries_from (64 + length area) (drop i entries)) ≡ all → area ≡ all
unfolding entries_bytes entries_from
area_end all area entries i h e =
    sym (append-nil area) ∙ sym (ap (λ (xs : List Named). area ++ entries_bytes (entries_from (64 + length area) xs)) (drop_all i entries h)) ∙ e

pub leaf_entries_end : (all : List LeafEntry) (area : List ℕ) (leaves : List Leaf) (entries : List Named) (i : ℕ) → length entries ≤ i
    → map leaf_entry leaves ++ map leaf_of (entries_from (64 + length area) (drop i entries)) ≡ all → map leaf_entry leaves ≡ all
unfolding entries_from
leaf_entries_end all area leaves entries i h e =
    sym (append-nil (map leaf_entry leaves)) ∙ sym (ap (λ (xs : List Named). map leaf_entry leaves ++ map leaf_of (entries_from (64 + length area) xs)) (drop_all i entries h)) ∙ e

-- how many bytes and leaf entries a list of entries has
pub length-entries : (position : ℕ) (named : List Named) → length (entries_bytes (entries_from position named)) ≡ total_length named
unfolding entries_bytes entries_from total_length
length-entries position [] = refl
length-entries position (one ∷ rest) =
    let next = position + data_entry_length (length one.name.now) in
    let here : length (entry_bytes (entry_at position one)) ≡ data_entry_length (length one.name.now) = length-entry (entry_at position one) in
    let there : length (entries_bytes (entries_from next rest)) ≡ total_length rest = length-entries next rest in
    omega (arith, length-append (entry_bytes (entry_at position one)) (entries_bytes (entries_from next rest)))

pub count-entries : (position : ℕ) (named : List Named) → length (entries_from position named) ≡ length named
unfolding entries_from
count-entries position [] = refl
count-entries position (one ∷ rest) = let there : length (entries_from (position + data_entry_length (length one.name.now)) rest) ≡ length rest = count-entries (position + data_entry_length (length one.name.now)) rest in omega arith

pub length-leaves : (leaves : List LeafEntry) → length (leaves_bytes leaves) ≡ 8 * length leaves
unfolding leaves_bytes
length-leaves [] = refl
length-leaves (leaf ∷ leaves) = let there : length (leaves_bytes leaves) ≡ 8 * length leaves = length-leaves leaves in omega arith
