-- The leaf entries of a block against its entries: that they are the same, and that a look-up by hash finds what a walk
-- over the entries would.
use Rattle.std.proofs.Common.{◌≡◌, ◌≢◌, ℕ, zero, suc, ◌+◌, ◌-◌, ◌*◌, ◌/◌, ◌%◌, ◌≤◌, Bool, true, false, List, [], ◌∷◌, length, get_or, map, sym, ap, subst, ◌∙◌, arith, inl, inr, refl, Option, Some, None, Result, Ok, Err}
use Rattle.std.specs.Prelude.{◌⊎◌, ◌==◌, All, Contains, filter, not, IfOk, IfSome}
use Rattle.std.proofs.lemmas.Bool.{eq-eqb}
use Rattle.std.proofs.lemmas.Bool.Decides.{eqb_tells}
use Rattle.std.proofs.lemmas.List.{length-map}
use Rattle.std.proofs.lemmas.List.Elements.{Contains-get_or, All-contains}
use Rattle.std.proofs.lemmas.List.Sorted.{IsPermutation-sym, length_permutation, Contains-permutation}
use Rattle.xn_bytes.specs.Names.{IsName}
use Rattle.xn_bytes.specs.Hashes.{name_hash_of}
use Rattle.xn_bytes.specs.Entries.{Entry, data_entry_length}
use Rattle.xn_bytes.specs.DataBlock.{DataForm, LeafEntry, entries_among}
use Rattle.xn_bytes.specs.Superblock.{Geometry}
use Rattle.xn_bytes.specs.DirectoryForms.{AreSorted, HasTail, HasDots, HoldsFirst, IsIndexOf, leaf_of}
use Rattle.xn_bytes.specs.HashedTree.{is_stale}
use Rattle.xn_data.specs.Standing.{ArePlaced}
use Rattle.xn_inode.specs.declared.fork_fault.ForkFault.{ForkFault}
use Rattle.xn_dir.specs.declared.entry.Entry as found
use Rattle.xn_dir.specs.Finding.{HasPlace, Misses, AllMiss, Finds, StandsInFirst}
use Rattle.xn_dir.proofs.Members.{behind_front, front_or_behind, in_none, in_filter, of_filter, in_map, of_map, AreDifferent, as_many}
use Rattle.xn_dir.proofs.Tails.{live_count}

-- the leaf entries that are not stale
abbrev pub live_of : List LeafEntry → List LeafEntry
live_of leaves = filter (λ leaf. not (is_stale leaf)) leaves

not_stale : (address : ℕ) → address ≢ 0 → not (address == 0) ≡ true
not_stale address other = elim (eqb_tells address 0) [
  | inl same ↦ absurd (other same.1)
  | inr differs ↦ ap not differs.0
]

both_not : (b : Bool) → b ≡ true → not b ≡ true → ⊥
both_not true t n = absurd cc
both_not false t n = absurd cc

indexed : (leaves : List LeafEntry) (entries : List Entry) → IsIndexOf leaves entries → All (Contains leaves) (map leaf_of entries)
indexed leaves entries index k d below =
    (of_filter (λ leaf. not (is_stale leaf)) leaves (get_or (map leaf_of entries) k d)
    (Contains-permutation (map leaf_of entries) (live_of leaves) (get_or (map leaf_of entries) k d) index (Contains-get_or (map leaf_of entries) k d below))).0

all_more : (leaves : List LeafEntry) (entry : Entry) (entries : List Entry) → Contains leaves (leaf_of entry) → All (Contains leaves) (map leaf_of entries) → All (Contains leaves) (map leaf_of (entry ∷ entries))
all_more leaves entry entries here rest zero d below = here
all_more leaves entry entries here rest (suc k) d below = rest k d (omega (arith, below))

-- ---- places

placed_at : (at end : ℕ) (entries : List Entry) (entry : Entry) → ArePlaced at end entries → Contains entries entry → (at ≤ entry.position) × (entry.position % 8 ≡ 0)
placed_at at end [] entry placed within = absurd (in_none entry within)
placed_at at end (first ∷ entries) entry placed within = elim (front_or_behind first entry entries within) [
  | inl same ↦ subst (λ (e : Entry). (at ≤ e.position) × (e.position % 8 ≡ 0)) same (placed.0, placed.1)
  | inr behind ↦
      let rest = placed_at (first.position + data_entry_length (length first.name)) end entries entry placed.2 behind in
      (omega (arith, rest.0, placed.0), rest.1)
]

apart : (first : Entry) (end : ℕ) (entries : List Entry) → first.position % 8 ≡ 0 → ArePlaced (first.position + data_entry_length (length first.name)) end entries → Contains (map leaf_of entries) (leaf_of first) → ⊥
apart first end entries step placed within =
    let other = of_map leaf_of entries (leaf_of first) within in
    let behind = placed_at (first.position + data_entry_length (length first.name)) end entries other.0 placed other.1 in
    let same : other.0.position / 8 ≡ first.position / 8 = ap (λ (leaf : LeafEntry). leaf.address) other.2 in
    omega (arith, behind.0, behind.1, same, step)

-- one entry stands in a place
one_placed : (at end : ℕ) (entries : List Entry) (a b : Entry) → ArePlaced at end entries → Contains entries a → Contains entries b → a.position ≡ b.position → a ≡ b
one_placed at end [] a b placed of_a of_b same = absurd (in_none a of_a)
one_placed at end (first ∷ entries) a b placed of_a of_b same =
    let next : ℕ = first.position + data_entry_length (length first.name) in
    elim (front_or_behind first a entries of_a) [
      | inl is_a ↦ elim (front_or_behind first b entries of_b) [
        | inl is_b ↦ sym is_a ∙ is_b
        | inr behind ↦
            let low = placed_at next end entries b placed.2 behind in
            let at_first : first.position ≡ b.position = ap (λ (e : Entry). e.position) is_a ∙ same in
            absurd (omega (arith, low.0, at_first))
      ]
      | inr behind ↦ elim (front_or_behind first b entries of_b) [
        | inl is_b ↦
            let low = placed_at next end entries a placed.2 behind in
            let at_first : first.position ≡ a.position = ap (λ (e : Entry). e.position) is_b ∙ sym same in
            absurd (omega (arith, low.0, at_first))
        | inr both ↦ one_placed next end entries a b placed.2 behind both same
      ]
    ]

different : (at end : ℕ) (entries : List Entry) → ArePlaced at end entries → AreDifferent (map leaf_of entries)
different at end [] placed = tt
different at end (first ∷ entries) placed = (
  apart first end entries placed.1 placed.2,
  different (first.position + data_entry_length (length first.name)) end entries placed.2,
)

-- ---- rule 19, one entry after the other

pub record Matches (form : DataForm) (live : ℕ) (left : List Entry) : Type 0 where
  pub enough : All (Contains form.leaves) (map leaf_of left) → live ≡ length left → IsIndexOf form.leaves (entries_among form.regions)
  pub needed : IsIndexOf form.leaves (entries_among form.regions) → All (Contains form.leaves) (map leaf_of left) × (live ≡ length left)

all_live : (at end : ℕ) (leaves : List LeafEntry) (entries : List Entry) → 8 ≤ at → ArePlaced at end entries → All (Contains leaves) (map leaf_of entries) → All (Contains (live_of leaves)) (map leaf_of entries)
all_live at end leaves [] low placed all k d below = absurd (omega (arith, below))
all_live at end leaves (entry ∷ entries) low placed all zero d below =
    let high : entry.position / 8 ≢ 0 = λ e. omega (arith, e, placed.0, low) in
    in_filter (λ leaf. not (is_stale leaf)) leaves (leaf_of entry) (not_stale (entry.position / 8) high) (all 0 d below)
all_live at end leaves (entry ∷ entries) low placed all (suc k) d below =
    all_live (entry.position + data_entry_length (length entry.name)) end leaves entries (omega (arith, placed.0, low)) placed.2 (λ j e under. all (suc j) e (omega (arith, under))) k d (omega (arith, below))

pub matches_first : (form : DataForm) (live count stale : ℕ) (left : List Entry) → HasTail form → ArePlaced 64 4096 (entries_among form.regions) → count ≡ length form.leaves → stale ≡ form.stale → live ≡ count - stale
    → left ≡ entries_among form.regions → Matches form live left
matches_first form live count stale left tail placed count_is stale_is live_is left_is =
    let all : List Entry = entries_among form.regions in
    let total = live_count form tail in
    let lives : live ≡ length (live_of form.leaves) = omega (arith, total, count_is, stale_is, live_is) in
    record {
      enough = λ within long.
          let inside : All (Contains form.leaves) (map leaf_of all) = subst (λ (es : List Entry). All (Contains form.leaves) (map leaf_of es)) left_is within in
          as_many (map leaf_of all) (live_of form.leaves) (different 64 4096 all placed) (all_live 64 4096 form.leaves all (omega arith) placed inside)
          (sym lives ∙ long ∙ ap length left_is ∙ sym (length-map all leaf_of));
      needed = λ index. (
        subst (λ (es : List Entry). All (Contains form.leaves) (map leaf_of es)) (sym left_is) (indexed form.leaves all index),
        lives ∙ length_permutation (map leaf_of all) (live_of form.leaves) index ∙ length-map all leaf_of ∙ ap length (sym left_is),
      );
    }

pub matches_on : (form : DataForm) (live : ℕ) (entry : Entry) (left after : List Entry) → left ≡ entry ∷ after → live ≢ 0 → Contains form.leaves (leaf_of entry) → Matches form live left → Matches form (live - 1) after
matches_on form live entry left after step some here so_far = record {
  enough = λ within long. so_far.enough
      (subst (λ (es : List Entry). All (Contains form.leaves) (map leaf_of es)) (sym step) (all_more form.leaves entry after here within))
      (omega (arith, long, some) ∙ ap length (sym step));
  needed = λ index.
      let both = so_far.needed index in
      let long : live ≡ suc (length after) = both.1 ∙ ap length step in
      let within : All (Contains form.leaves) (map leaf_of (entry ∷ after)) = subst (λ (es : List Entry). All (Contains form.leaves) (map leaf_of es)) step both.0 in
      (λ k d below. within (suc k) d (omega (arith, below)), omega (arith, long));
}

pub none_left_for : (form : DataForm) (live : ℕ) (entry : Entry) (left after : List Entry) → left ≡ entry ∷ after → live ≡ 0 → Matches form live left → IsIndexOf form.leaves (entries_among form.regions) → ⊥
none_left_for form live entry left after step none so_far index =
    let long : live ≡ suc (length after) = (so_far.needed index).1 ∙ ap length step in
    omega (arith, long, none)

pub missing : (form : DataForm) (live : ℕ) (entry : Entry) (left after : List Entry) → left ≡ entry ∷ after → (Contains form.leaves (leaf_of entry) → ⊥) → Matches form live left → IsIndexOf form.leaves (entries_among form.regions) → ⊥
missing form live entry left after step absent so_far index =
    let within : All (Contains form.leaves) (map leaf_of (entry ∷ after)) = subst (λ (es : List Entry). All (Contains form.leaves) (map leaf_of es)) step (so_far.needed index).0 in
    absent (within 0 (leaf_of entry) (omega arith))

pub all_match : (form : DataForm) (live : ℕ) (left : List Entry) → left ≡ [] → live ≡ 0 → Matches form live left → IsIndexOf form.leaves (entries_among form.regions)
all_match form live left done none so_far =
    so_far.enough (subst (λ (es : List Entry). All (Contains form.leaves) (map leaf_of es)) (sym done) (λ k d below. absurd (omega (arith, below)))) (none ∙ ap length (sym done))

pub some_over : (form : DataForm) (live : ℕ) (left : List Entry) → left ≡ [] → live ≢ 0 → Matches form live left → IsIndexOf form.leaves (entries_among form.regions) → ⊥
some_over form live left done some so_far index = some ((so_far.needed index).1 ∙ ap length done)

-- ---- a look-up

-- the entry of a leaf entry that is not stale
pub entry_of_leaf : (form : DataForm) (leaf : LeafEntry) → ArePlaced 64 4096 (entries_among form.regions) → IsIndexOf form.leaves (entries_among form.regions) → Contains form.leaves leaf → leaf.address ≢ 0
    → (entry : Entry) × Contains (entries_among form.regions) entry × (entry.position ≡ leaf.address * 8) × (leaf_of entry ≡ leaf)
entry_of_leaf form leaf placed index within live =
    let all : List Entry = entries_among form.regions in
    let alive : Contains (live_of form.leaves) leaf = in_filter (λ one. not (is_stale one)) form.leaves leaf (not_stale leaf.address live) within in
    let found = of_map leaf_of all leaf (Contains-permutation (live_of form.leaves) (map leaf_of all) leaf (IsPermutation-sym (map leaf_of all) (live_of form.leaves) index) alive) in
    let address : found.0.position / 8 ≡ leaf.address = ap (λ (one : LeafEntry). one.address) found.2 in
    let step = placed_at 64 4096 all found.0 placed found.1 in
    (found.0, found.1, omega (arith, address, step.1), found.2)

pub record Looks (form : DataForm) (name : List ℕ) (left : List LeafEntry) : Type 0 where
  pub among : All (λ leaf. (leaf.hash ≡ name_hash_of name) × Contains form.leaves leaf) left
  pub passed : AreSorted form.leaves → (leaf : LeafEntry) → Contains form.leaves leaf → leaf.hash ≡ name_hash_of name → Contains left leaf ⊎ Misses name (entries_among form.regions) leaf

pub looks_first : (form : DataForm) (name : List ℕ) (hash : ℕ) (left : List LeafEntry) → hash ≡ name_hash_of name → (AreSorted form.leaves → left ≡ filter (λ leaf. leaf.hash == hash) form.leaves)
    → All (λ leaf. (leaf.hash ≡ hash) × Contains form.leaves leaf) left → Looks form name left
looks_first form name hash left hash_is rising always = record {
  among = λ k d below. let found = always k d below in (found.0 ∙ hash_is, found.1);
  passed = λ sorted leaf within of_hash.
      inl (subst (λ (xs : List LeafEntry). Contains xs leaf) (sym (rising sorted)) (in_filter (λ one. one.hash == hash) form.leaves leaf (eq-eqb leaf.hash hash (of_hash ∙ sym hash_is)) within));
}

-- the leaf entry in front, which is among the block's
pub front_leaf : (form : DataForm) (name : List ℕ) (leaf : LeafEntry) (left after : List LeafEntry) → left ≡ leaf ∷ after → Looks form name left → Contains form.leaves leaf
front_leaf form name leaf left after step looks =
    let among : All (λ one. (one.hash ≡ name_hash_of name) × Contains form.leaves one) (leaf ∷ after) = subst (All (λ one. (one.hash ≡ name_hash_of name) × Contains form.leaves one)) step looks.among in
    (among 0 leaf (omega arith)).1

looks_past : (form : DataForm) (name : List ℕ) (leaf : LeafEntry) (left after : List LeafEntry) → left ≡ leaf ∷ after → Misses name (entries_among form.regions) leaf → Looks form name left → Looks form name after
looks_past form name leaf left after step misses looks =
    let among : All (λ one. (one.hash ≡ name_hash_of name) × Contains form.leaves one) (leaf ∷ after) = subst (All (λ one. (one.hash ≡ name_hash_of name) × Contains form.leaves one)) step looks.among in
    record {
      among = λ k d below. among (suc k) d (omega (arith, below));
      passed = λ sorted one within of_hash. elim (looks.passed sorted one within of_hash) [
        | inl still ↦ elim (front_or_behind leaf one after (subst (λ (xs : List LeafEntry). Contains xs one) step still)) [
          | inl same ↦ inr (subst (Misses name (entries_among form.regions)) same misses)
          | inr behind ↦ inl behind
        ]
        | inr before ↦ inr before
      ];
    }

-- a stale one is that of no entry
pub past_stale : (form : DataForm) (name : List ℕ) (leaf : LeafEntry) (left after : List LeafEntry) → left ≡ leaf ∷ after → leaf.address ≡ 0 → Looks form name left → Looks form name after
past_stale form name leaf left after step stale looks = looks_past form name leaf left after step (inl stale) looks

-- no entry stands where the leaf entry says
pub no_entry : (form : DataForm) (leaf : LeafEntry) → ArePlaced 64 4096 (entries_among form.regions) → Contains form.leaves leaf → leaf.address ≢ 0
    → (HasPlace (entries_among form.regions) (leaf.address * 8) → ⊥) → IsIndexOf form.leaves (entries_among form.regions) → ⊥
no_entry form leaf placed within live nowhere index = let found = entry_of_leaf form leaf placed index within live in nowhere (found.0, found.1, found.2)

-- the entry that stands there has another name
pub past_other : (form : DataForm) (name : List ℕ) (leaf : LeafEntry) (left after : List LeafEntry) (found : Entry) → left ≡ leaf ∷ after → Contains (entries_among form.regions) found → found.position ≡ leaf.address * 8
    → (found.name ≡ name → ⊥) → Looks form name left → Looks form name after
past_other form name leaf left after found step within at other looks = looks_past form name leaf left after step (inr (found, within, at, other)) looks

-- an entry with a name is none of dot and dotdot
pub behind_dots : (all entries : List Entry) (dotdot : ℕ) (entry : Entry) → HasDots all entries dotdot → IsName entry.name → Contains all entry → Contains entries entry
behind_dots all entries dotdot entry dots named within =
    elim (front_or_behind dots.dot entry (dots.parent ∷ entries) (subst (λ (es : List Entry). Contains es entry) dots.first within)) [
      | inl same ↦ absurd (named.no_dots.0 (ap (λ (e : Entry). e.name) (sym same) ∙ dots.dot_name))
      | inr behind ↦ elim (front_or_behind dots.parent entry entries behind) [
        | inl same ↦ absurd (named.no_dots.1 (ap (λ (e : Entry). e.name) (sym same) ∙ dots.parent_name))
        | inr rest ↦ rest
      ]
    ]

-- the entry that stands there has the name
pub stands_found : (form : DataForm) (name : List ℕ) (found : Entry) → Contains (entries_among form.regions) found → found.name ≡ name → IsName name
    → (entries : List Entry) (dotdot : ℕ) → HasDots (entries_among form.regions) entries dotdot → Contains entries (record { name = name; ino = found.ino; kind = found.kind; position = found.position })
stands_found form name found within same named entries dotdot dots =
    let behind : Contains entries found = behind_dots (entries_among form.regions) entries dotdot found dots (subst IsName (sym same) named) within in
    subst (Contains entries) (ap (λ (n : List ℕ). record found { name = n }) same) behind

-- no leaf entry of the hash is left
pub looks_none : (form : DataForm) (name : List ℕ) (left : List LeafEntry) → left ≡ [] → Looks form name left → AreSorted form.leaves → AllMiss name form
looks_none form name left done looks sorted k d below of_hash =
    let leaf : LeafEntry = get_or form.leaves k d in
    elim (looks.passed sorted leaf (Contains-get_or form.leaves k d below) of_hash) [
      | inl still ↦ absurd (in_none leaf (subst (λ (xs : List LeafEntry). Contains xs leaf) done still))
      | inr misses ↦ misses
    ]

-- where the leaf entries are those of the entries, none of these has the name
pub none_named : (form : DataForm) (name : List ℕ) (entries : List Entry) (dotdot : ℕ) → ArePlaced 64 4096 (entries_among form.regions) → AllMiss name form → HasDots (entries_among form.regions) entries dotdot
    → IsIndexOf form.leaves (entries_among form.regions) → All (λ entry. entry.name ≢ name) entries
none_named form name entries dotdot placed all_miss dots index k d below same =
    let all : List Entry = entries_among form.regions in
    let entry : Entry = get_or entries k d in
    let within : Contains all entry = subst (λ (es : List Entry). Contains es entry) (sym dots.first) (behind_front dots.dot entry (dots.parent ∷ entries) (behind_front dots.parent entry entries (Contains-get_or entries k d below))) in
    let live : Contains (live_of form.leaves) (leaf_of entry) = Contains-permutation (map leaf_of all) (live_of form.leaves) (leaf_of entry) index (in_map leaf_of all entry within) in
    let leaf = of_filter (λ one. not (is_stale one)) form.leaves (leaf_of entry) live in
    let place = placed_at 64 4096 all entry placed within in
    elim (All-contains (λ one. one.hash ≡ name_hash_of name → Misses name all one) form.leaves (leaf_of entry) all_miss leaf.0 (ap name_hash_of same)) [
      | inl stale ↦ omega (arith, stale, place.0)
      | inr other ↦ other.3 (ap (λ (e : Entry). e.name) (one_placed 64 4096 all other.0 entry placed other.1 within (omega (arith, other.2, place.1))) ∙ same)
    ]

-- what a look-up finds in a block rests on the entries that stand there
pub stands_first : (g : Geometry) (dir block : ℕ) (bytes name : List ℕ) (form : DataForm) (entries : List Entry) (dotdot : ℕ) (result : Result (Option found.Entry) ForkFault) → HoldsFirst g dir block bytes form entries dotdot
    → ArePlaced 64 4096 (entries_among form.regions)
    → IfOk result (λ one. IfSome one (λ entry. (others : List Entry) (parent : ℕ) → HasDots (entries_among form.regions) others parent → Finds name others (Some entry)))
    → IfOk result (λ one. one ≡ None → AreSorted form.leaves → AllMiss name form) → IfOk result (λ one. StandsInFirst g dir block bytes name one)
stands_first g dir block bytes name form entries dotdot (Err fault) first placed there none = tt
stands_first g dir block bytes name form entries dotdot (Ok None) first placed there none = record {
  form = form;
  entries = entries;
  dotdot = dotdot;
  first = first;
  there = tt;
  indexed = λ sorted index. none_named form name entries dotdot placed (none refl sorted) first.dots index;
}
stands_first g dir block bytes name form entries dotdot (Ok (Some entry)) first placed there none = record {
  form = form;
  entries = entries;
  dotdot = dotdot;
  first = first;
  there = there entries dotdot first.dots;
  indexed = λ _ _. there entries dotdot first.dots;
}
