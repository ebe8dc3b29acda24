-- A whole block, from its pieces.
use Rattle.std.proofs.Common.{◌≡◌, ℕ, ◌+◌, ◌-◌, ◌*◌, ◌≤◌, List, [], ◌∷◌, ◌++◌, length, map, replicate, ap, subst, ◌∙◌, arith}
use Rattle.std.proofs.lemmas.List.{length-append, length-replicate, length-map, get_or-map}
use Rattle.std.proofs.lemmas.List.Sorted.{IsPermutation-map, length_permutation}
use Rattle.std.specs.List.Sorted.{IsPermutation, IsNonDecreasingBy}
use Rattle.byteorder.specs.Endian.{big_bytes, little_bytes}
use Rattle.xn_bytes.specs.declared.kind.Kind.{Kind}
use Rattle.xn_bytes.specs.declared.kind.Kind.TheVariants.{Dir}
use Rattle.xn_bytes.specs.Numbers.{overlaid}
use Rattle.xn_bytes.specs.Entries.{Entry}
use Rattle.xn_bytes.specs.DataBlock.{Gap, LeafEntry}
use Rattle.xn_bytes.specs.DirectoryForms.{leaf_of, AreSorted}
use Rattle.xn_make.specs.declared.blocks.Named.{Named}
use Rattle.xn_make.specs.declared.layout.Leaf.{Leaf}
use Rattle.xn_make.specs.declared.layout.Layout.{Layout}
use Rattle.xn_make.specs.Directories.{Fit, IsDirectoryBlock, all_entries, entry_at, entries_from, gap_behind, total_length}
use Rattle.xn_make.specs.SpelledBlocks.{entry_bytes, entries_bytes, leaves_bytes, gap_bytes, header_bytes, behind_header}
use Rattle.xn_make.specs.Laid.{leaf_entry, leaf_at, gap_in, IsClosed}
use Rattle.xn_bytes.proofs.Overlays.{length-overlaid}
use Rattle.xn_make.proofs.Laying.{length-entries, count-entries, length-leaves}

-- the bytes of a layout, signed
pub closed : (bytes start items slice new header behind : List ℕ) (sum : ℕ) → bytes ≡ new → start ≡ header → items ≡ start ++ behind → slice ≡ items
    → new ≡ overlaid slice 4 (little_bytes 4 sum) → bytes ≡ overlaid (header ++ behind) 4 (little_bytes 4 sum)
closed bytes start items slice new header behind sum e1 e2 e3 e4 e5 =
    e1 ∙ e5 ∙ ap (λ (xs : List ℕ). overlaid xs 4 (little_bytes 4 sum)) (e4 ∙ e3 ∙ ap (λ (xs : List ℕ). xs ++ behind) e2)

-- a free region by two lengths
abbrev gap_by : ℕ → ℕ → Gap
gap_by area leaves = record { place = 64 + area; size = 4088 - 8 * leaves - (64 + area) }

pub gap_same : (area leaves : ℕ) (layout : Layout) → area ≡ length layout.area.items → leaves ≡ length layout.leaves.items → gap_by area leaves ≡ gap_in layout
gap_same area leaves layout a l = ap (λ (n : ℕ). gap_by n leaves) a ∙ ap (gap_by (length layout.area.items)) l

-- an entry by what is known of the name
pub entry_known : (position : ℕ) (named : Named) (name : List ℕ) (ino : ℕ) → named.name.now ≡ name → named.ino ≡ ino → named.kind ≡ Dir
    → entry_at position named ≡ record { name = name; ino = ino; kind = Dir; position = position }
entry_known position named name ino e i k =
    let E : List ℕ → ℕ → Kind → Entry = λ (n : List ℕ) (j : ℕ) (kind : Kind). record { name = n; ino = j; kind = kind; position = position } in
    ap (λ (n : List ℕ). E n named.ino named.kind) e ∙ ap (λ (j : ℕ). E name j named.kind) i ∙ ap (E name ino) k

-- the areas after `.`, after `..` and after all entries
pub first_area : (zero one : List ℕ) (dot : Named) (number : ℕ) → zero ≡ [] → dot.name.now ≡ 46 ∷ [] → dot.ino ≡ number → dot.kind ≡ Dir
    → one ≡ zero ++ entry_bytes (entry_at (64 + length zero) dot) → one ≡ entry_bytes (record { name = 46 ∷ []; ino = number; kind = Dir; position = 64 })
first_area zero one dot number z n i k e =
    e ∙ ap (λ (xs : List ℕ). xs ++ entry_bytes (entry_at (64 + length xs) dot)) z ∙ ap entry_bytes (entry_known 64 dot (46 ∷ []) number n i k)

abbrev dots_bytes : ℕ → ℕ → List ℕ
dots_bytes number parent = entry_bytes (record { name = 46 ∷ []; ino = number; kind = Dir; position = 64 }) ++ entry_bytes (record { name = 46 ∷ 46 ∷ []; ino = parent; kind = Dir; position = 80 })

pub second_area : (one two : List ℕ) (dotdot : Named) (number parent : ℕ) → one ≡ entry_bytes (record { name = 46 ∷ []; ino = number; kind = Dir; position = 64 })
    → dotdot.name.now ≡ 46 ∷ 46 ∷ [] → dotdot.ino ≡ parent → dotdot.kind ≡ Dir
    → two ≡ one ++ entry_bytes (entry_at (64 + length one) dotdot) → two ≡ dots_bytes number parent
second_area one two dotdot number parent o n i k e =
    let front = entry_bytes (record { name = 46 ∷ []; ino = number; kind = Dir; position = 64 }) in
    e ∙ ap (λ (xs : List ℕ). xs ++ entry_bytes (entry_at (64 + length xs) dotdot)) o
    ∙ ap (λ (entry : Entry). front ++ entry_bytes entry) (entry_known 80 dotdot (46 ∷ 46 ∷ []) parent n i k)

pub all_area : (two three : List ℕ) (number parent : ℕ) (named : List Named) → two ≡ dots_bytes number parent
    → three ≡ two ++ entries_bytes (entries_from (64 + length two) named) → three ≡ entries_bytes (all_entries number parent named)
unfolding entries_bytes
all_area two three number parent named t e = e ∙ ap (λ (xs : List ℕ). xs ++ entries_bytes (entries_from (64 + length xs) named)) t

-- the leaf entries
pub all_leaves : (area0 area1 area2 : List ℕ) (zero one two three : List Leaf) (dot dotdot : Named) (number parent : ℕ) (named : List Named)
    → area0 ≡ [] → area1 ≡ entry_bytes (record { name = 46 ∷ []; ino = number; kind = Dir; position = 64 }) → area2 ≡ dots_bytes number parent
    → dot.name.now ≡ 46 ∷ [] → dotdot.name.now ≡ 46 ∷ 46 ∷ []
    → zero ≡ [] → one ≡ zero ++ leaf_at (64 + length area0) dot.name.now ∷ [] → two ≡ one ++ leaf_at (64 + length area1) dotdot.name.now ∷ []
    → map leaf_entry three ≡ map leaf_entry two ++ map leaf_of (entries_from (64 + length area2) named)
    → map leaf_entry three ≡ map leaf_of (all_entries number parent named)
all_leaves area0 area1 area2 zero one two three dot dotdot number parent named a0 a1 a2 n1 n2 z o t e =
    let first : one ≡ leaf_at 64 (46 ∷ []) ∷ [] =
    o ∙ ap (λ (xs : List Leaf). xs ++ leaf_at (64 + length area0) dot.name.now ∷ []) z
    ∙ ap (λ (xs : List ℕ). leaf_at (64 + length xs) dot.name.now ∷ []) a0 ∙ ap (λ (xs : List ℕ). leaf_at 64 xs ∷ []) n1 in
    let second : two ≡ leaf_at 64 (46 ∷ []) ∷ (leaf_at 80 (46 ∷ 46 ∷ []) ∷ []) =
    t ∙ ap (λ (xs : List Leaf). xs ++ leaf_at (64 + length area1) dotdot.name.now ∷ []) first
    ∙ ap (λ (xs : List ℕ). leaf_at 64 (46 ∷ []) ∷ (leaf_at (64 + length xs) dotdot.name.now ∷ [])) a1
    ∙ ap (λ (xs : List ℕ). leaf_at 64 (46 ∷ []) ∷ (leaf_at 80 xs ∷ [])) n2 in
    e ∙ ap (λ (xs : List Leaf). map leaf_entry xs ++ map leaf_of (entries_from (64 + length area2) named)) second
    ∙ ap (λ (xs : List ℕ). map leaf_entry (leaf_at 64 (46 ∷ []) ∷ (leaf_at 80 (46 ∷ 46 ∷ []) ∷ [])) ++ map leaf_of (entries_from (64 + length xs) named)) a2

-- leaf entries by rising hash
pub sorted_leaves : (leaves : List Leaf) → IsNonDecreasingBy (λ leaf. leaf.hash) leaves → AreSorted (map leaf_entry leaves)
sorted_leaves leaves rise i j d low below =
    let e : Leaf = record { hash = 0; address = 0 } in
    let n : length (map leaf_entry leaves) ≡ length leaves = length-map leaves leaf_entry in
    let one = ap (λ (x : LeafEntry). x.hash) (get_or-map leaf_entry leaves i e d (omega arith)) in
    let two = ap (λ (x : LeafEntry). x.hash) (get_or-map leaf_entry leaves j e d (omega arith)) in
    omega (arith, one, two, rise i j e low (omega arith))

-- how much there is of the entries of a directory
area_length : (number parent : ℕ) (named : List Named) → length (entries_bytes (all_entries number parent named)) ≡ 32 + total_length named
unfolding entries_bytes
area_length number parent named = omega (arith, length-entries 96 named)

entry_count : (number parent : ℕ) (named : List Named) → length (map leaf_of (all_entries number parent named)) ≡ length named + 2
entry_count number parent named = omega (arith, length-map (entries_from 96 named) leaf_of, count-entries 96 named)

-- room for the free region
pub room : (number parent : ℕ) (named : List Named) (area : List ℕ) (leaves sorted : List Leaf) → Fit named → area ≡ entries_bytes (all_entries number parent named)
    → map leaf_entry leaves ≡ map leaf_of (all_entries number parent named) → IsPermutation leaves sorted → 64 + length area + 8 + 8 * length sorted ≤ 4088
room number parent named area leaves sorted fit a l p =
    omega (arith, ap length a, area_length number parent named, ap length l, entry_count number parent named, length-map leaves leaf_entry, length_permutation leaves sorted p)

gap_length : (gap : Gap) → 8 ≤ gap.size → length (gap_bytes gap) ≡ gap.size
gap_length gap h =
    let zeros : List ℕ = replicate (gap.size - 6) 0 in
    let z : length zeros ≡ gap.size - 6 = length-replicate (gap.size - 6) 0 in
    omega (arith, length-append zeros (big_bytes 2 gap.place))

whole_length : (sector owner : ℕ) (area : List ℕ) (gap : Gap) (leaves : List LeafEntry) (sum : ℕ) → 8 ≤ gap.size → 64 + length area + gap.size + 8 * length leaves ≡ 4088
    → length (overlaid (header_bytes sector owner gap ++ behind_header area gap leaves) 4 (little_bytes 4 sum)) ≡ 4096
whole_length sector owner area gap leaves sum h e =
    let tail : List ℕ = big_bytes 4 (length leaves) ++ big_bytes 4 0 in
    let behind_gap : List ℕ = leaves_bytes leaves ++ tail in
    let a : length (area ++ (gap_bytes gap ++ behind_gap)) ≡ length area + length (gap_bytes gap ++ behind_gap) = length-append area (gap_bytes gap ++ behind_gap) in
    let b : length (gap_bytes gap ++ behind_gap) ≡ length (gap_bytes gap) + length behind_gap = length-append (gap_bytes gap) behind_gap in
    let c : length behind_gap ≡ length (leaves_bytes leaves) + 8 = length-append (leaves_bytes leaves) tail in
    let all : length (header_bytes sector owner gap ++ behind_header area gap leaves) ≡ 64 + length (behind_header area gap leaves) = length-append (header_bytes sector owner gap) (behind_header area gap leaves) in
    length-overlaid (header_bytes sector owner gap ++ behind_header area gap leaves) 4 (little_bytes 4 sum) (omega arith)
    ∙ omega (arith, gap_length gap h, length-leaves leaves)

-- the block
pub block_made : (bytes : List ℕ) (sector number parent : ℕ) (named : List Named) (layout : Layout) (before : List Leaf) → Fit named
    → layout.area.items ≡ entries_bytes (all_entries number parent named) → map leaf_entry before ≡ map leaf_of (all_entries number parent named) → IsPermutation before layout.leaves.items
    → IsNonDecreasingBy (λ leaf. leaf.hash) layout.leaves.items → IsClosed bytes layout sector number
    → IsDirectoryBlock bytes sector number (all_entries number parent named) (gap_behind named)
block_made bytes sector number parent named layout before fit area leaves moved rise is =
    let all = all_entries number parent named in
    let sorted = map leaf_entry layout.leaves.items in
    let P : List LeafEntry → Type 0 = λ (xs : List LeafEntry). IsPermutation xs sorted in
    let count : length layout.leaves.items ≡ length named + 2 =
    omega (arith, length_permutation before layout.leaves.items moved, ap length leaves, entry_count number parent named, length-map before leaf_entry) in
    let size : length layout.area.items ≡ 32 + total_length named = ap length area ∙ area_length number parent named in
    let G : ℕ → ℕ → Gap = λ (x : ℕ) (y : ℕ). record { place = x; size = 4088 - 8 * y - x } in
    let place : 64 + length layout.area.items ≡ 96 + total_length named = omega arith in
    let gap : gap_in layout ≡ gap_behind named = ap (λ (x : ℕ). G x (length layout.leaves.items)) place ∙ ap (G (96 + total_length named)) count in
    let spelled : bytes ≡ overlaid (header_bytes sector number (gap_behind named) ++ behind_header (entries_bytes all) (gap_behind named) sorted) 4 (little_bytes 4 is.spelled.0) =
    is.spelled.1
    ∙ ap (λ (g : Gap). overlaid (header_bytes sector number g ++ behind_header layout.area.items g sorted) 4 (little_bytes 4 is.spelled.0)) gap
    ∙ ap (λ (xs : List ℕ). overlaid (header_bytes sector number (gap_behind named) ++ behind_header xs (gap_behind named) sorted) 4 (little_bytes 4 is.spelled.0)) area in
    let n : length sorted ≡ length layout.leaves.items = length-map layout.leaves.items leaf_entry in
    record {
      whole = ap length spelled ∙ whole_length sector number (entries_bytes all) (gap_behind named) sorted is.spelled.0 (omega arith) (omega (arith, area_length number parent named));
      checksum = is.checksum;
      leaves = sorted;
      sorted = sorted_leaves layout.leaves.items rise;
      index = subst P leaves (IsPermutation-map leaf_entry before layout.leaves.items moved);
      spelled = (is.spelled.0, spelled);
    }
