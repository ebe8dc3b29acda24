-- A look-up by hash against the entries of all data blocks.
use Rattle.std.proofs.Common.{◌≡◌, ℕ, ◌+◌, ◌*◌, ◌/◌, ◌<◌, List, [], ◌∷◌, ◌++◌, map, get_or, Option, Some, None, Result, Ok, Err, refl, sym, ap, subst, ◌∙◌, arith, inl, inr}
use Rattle.std.specs.Prelude.{◌==◌, Contains, All, filter, flat_map, IsSome, IfSome, IfOk}
use Rattle.std.proofs.lemmas.Bool.{eq-eqb}
use Rattle.std.proofs.lemmas.Option.{IfSome_then}
use Rattle.std.proofs.lemmas.List.Elements.{All-contains, Contains-get_or, Contains-append_left, Contains-append_right, Contains-append_cases}
use Rattle.std.proofs.lemmas.List.Sorted.{IsPermutation-sym, Contains-permutation}
use Rattle.xn_bytes.specs.Names.{IsName}
use Rattle.xn_bytes.specs.Hashes.{name_hash_of}
use Rattle.xn_bytes.specs.Entries.{Entry}
use Rattle.xn_bytes.specs.DataBlock.{DataForm, DataHolds, LeafEntry, entries_among}
use Rattle.xn_bytes.specs.DirectoryForms.{HasDots, leaf_of}
use Rattle.xn_bytes.specs.LeafForms.{DirFork, Placed, IsPlaced, HasData, HasLeaves, HoldsHashed, all_entries, entries_placed, placed_in, with_first}
use Rattle.xn_bytes.specs.DirectoryRules.{FailsHashed}
use Rattle.xn_data.proofs.Law.{is_placed, placed_in_block, one_at_position}
use Rattle.xn_inode.specs.declared.fork_fault.ForkFault.{ForkFault}
use Rattle.xn_dir.specs.declared.entry.Entry as found
use Rattle.xn_dir.specs.Finding.{Finds, named}
use Rattle.xn_dir.specs.Hashed.{StandsIn, LeadsElsewhere, BreaksAtLeaf}
use Rattle.xn_dir.proofs.Members.{front_or_behind, behind_front, in_filter, of_filter, in_map, of_map}
use Rattle.xn_dir.proofs.Following.{home_of, first_placed, IfSome_both}
use Rattle.xn_dir.proofs.Indexes.{behind_dots}
use Rattle.xn_dir.proofs.OneForm.{one_data, same_block}

-- ---- the data blocks of a directory

in_flat_map : {X Y : Type 0} (f : X → List Y) (xs : List X) (x : X) (y : Y) → Contains xs x → Contains (f x) y → Contains (flat_map f xs) y
in_flat_map f [] x y within there = absurd (omega (arith, within.1))
in_flat_map f (first ∷ xs) x y within there = elim (front_or_behind first x xs within) [
  | inl same ↦ Contains-append_left (f first) (flat_map f xs) y (subst (λ z. Contains (f z) y) (sym same) there)
  | inr behind ↦ Contains-append_right (f first) (flat_map f xs) y (in_flat_map f xs x y behind there)
]

-- the data block of a number is one
one_form : (d : DirFork) (number : ℕ) (a b : DataForm) → IsPlaced d (record { number = number; form = a }) → IsPlaced d (record { number = number; form = b }) → a ≡ b
one_form d number a b of_a of_b =
    let same : of_a.0 ≡ of_b.0 = same_block of_a.0 of_b.0 _ of_a.1 of_b.1 in
    let there : DataHolds (d.blocks of_b.0) a = subst (λ (block : ℕ). DataHolds (d.blocks block) a) same of_a.2.holds in
    one_data (d.blocks of_b.0) a b there of_b.2.holds

-- what stands in a data block is among the entries of all
among_all : (first : DataForm) (others : List Placed) (placed : Placed) (entry : Entry) → Contains (with_first first others) placed → Contains (entries_placed placed) entry → Contains (all_entries first others) entry
among_all first others placed entry within there = elim (front_or_behind _ placed others within) [
  | inl same ↦
      let in_first : Contains (map (placed_in 0) (entries_among first.regions)) entry = subst (λ (p : Placed). Contains (entries_placed p) entry) (sym same) there in
      let inner = of_map (placed_in 0) (entries_among first.regions) entry in_first in
      let is : inner.0 ≡ entry = first_placed inner.0 ∙ inner.2 in
      Contains-append_left (entries_among first.regions) (flat_map entries_placed others) entry (subst (Contains (entries_among first.regions)) is inner.1)
  | inr behind ↦ Contains-append_right (entries_among first.regions) (flat_map entries_placed others) entry (in_flat_map entries_placed others placed entry behind there)
]

some_is : (o : Option ℕ) (x : ℕ) → o ≡ Some x → IsSome o
some_is o x is = rw is refl

stands_among : (d : DirFork) (first : DataForm) (others : List Placed) (front : List Entry) (dotdot : ℕ) (entry : Entry) → HasData d first others front dotdot → StandsIn d entry → Contains (all_entries first others) entry
stands_among d first others front dotdot entry right stands =
    let all : List Placed = with_first first others in
    let any = right.data_blocks.complete stands.placed.number stands.is_data (some_is _ stands.is_placed.0 stands.is_placed.1) in
    let placed : Placed = any.1 in
    let within : Contains all placed = (any.0, any.2, any.3) in
    let is : IsPlaced d placed = All-contains (IsPlaced d) all placed right.data_blocks.each within in
    let number : placed.number ≡ stands.placed.number = any.4 in
    let form : stands.placed.form ≡ placed.form =
    one_form d stands.placed.number stands.placed.form placed.form stands.is_placed (subst (λ (n : ℕ). IsPlaced d (record { number = n; form = placed.form })) number is) in
    let there : Contains (map (placed_in placed.number) (entries_among placed.form.regions)) entry =
    subst (λ (n : ℕ). Contains (map (placed_in n) (entries_among placed.form.regions)) entry) (sym number)
    (subst (λ (f : DataForm). Contains (map (placed_in stands.placed.number) (entries_among f.regions)) entry) form stands.there) in
    among_all first others placed entry within there

-- entries that stand in one position are the same
one_entry : (d : DirFork) (first : DataForm) (others : List Placed) (front : List Entry) (dotdot : ℕ) (a b : Entry) → HasData d first others front dotdot → Contains (all_entries first others) a → Contains (all_entries first others) b
    → a.position / 8 ≡ b.position / 8 → a ≡ b
one_entry d first others front dotdot a b right of_a of_b same =
    let all : List Placed = with_first first others in
    let home = home_of d first others a of_a in
    let other = home_of d first others b of_b in
    let placed : IsPlaced d home.placed = All-contains (IsPlaced d) all home.placed right.data_blocks.each home.among in
    let too : IsPlaced d other.placed = All-contains (IsPlaced d) all other.placed right.data_blocks.each other.among in
    let inner = is_placed 64 4096 (entries_among home.placed.form.regions) home.inner (placed_in_block _ home.placed.form placed.2.holds) home.there in
    let outer = is_placed 64 4096 (entries_among other.placed.form.regions) other.inner (placed_in_block _ other.placed.form too.2.holds) other.there in
    let at : a.position ≡ 4096 * home.placed.number + home.inner.position = ap (λ (e : Entry). e.position) home.is in
    let at_too : b.position ≡ 4096 * other.placed.number + other.inner.position = ap (λ (e : Entry). e.position) other.is in
    let low : home.inner.position < 4096 = omega (arith, inner.before) in
    let low_too : other.inner.position < 4096 = omega (arith, outer.before) in
    let number : home.placed.number ≡ other.placed.number = omega (arith, at, at_too, low, low_too, same) in
    let form : home.placed.form ≡ other.placed.form =
    one_form d other.placed.number home.placed.form other.placed.form (subst (λ (n : ℕ). IsPlaced d (record { number = n; form = home.placed.form })) number placed) too in
    let position : home.inner.position ≡ other.inner.position = omega (arith, at, at_too, low, low_too, same, inner.step, outer.step) in
    let same_inner : home.inner ≡ other.inner =
    one_at_position 64 4096 (entries_among other.placed.form.regions) home.inner other.inner (placed_in_block _ other.placed.form too.2.holds)
    (subst (λ (f : DataForm). Contains (entries_among f.regions) home.inner) form home.there) other.there position in
    home.is ∙ ap (λ (n : ℕ). placed_in n home.inner) number ∙ ap (placed_in other.placed.number) same_inner ∙ sym other.is

-- ---- what is found

-- a name's entry is none of dot and dotdot
behind_front_dots : (first : DataForm) (others : List Placed) (front : List Entry) (dotdot : ℕ) (entry : Entry) → HasDots (entries_among first.regions) front dotdot → IsName entry.name → Contains (all_entries first others) entry
    → Contains (front ++ flat_map entries_placed others) entry
behind_front_dots first others front dotdot entry dots name within = elim (Contains-append_cases (entries_among first.regions) (flat_map entries_placed others) entry within) [
  | inl here ↦ Contains-append_left front (flat_map entries_placed others) entry (behind_dots (entries_among first.regions) front dotdot entry dots name here)
  | inr behind ↦ Contains-append_right front (flat_map entries_placed others) entry behind
]

of_front : (first : DataForm) (others : List Placed) (front : List Entry) (dotdot : ℕ) (entry : Entry) → HasDots (entries_among first.regions) front dotdot → Contains (front ++ flat_map entries_placed others) entry
    → Contains (all_entries first others) entry
of_front first others front dotdot entry dots within = elim (Contains-append_cases front (flat_map entries_placed others) entry within) [
  | inl here ↦ Contains-append_left (entries_among first.regions) (flat_map entries_placed others) entry
      (subst (λ (es : List Entry). Contains es entry) (sym dots.first) (behind_front dots.dot entry (dots.parent ∷ front) (behind_front dots.parent entry front here)))
  | inr behind ↦ Contains-append_right (entries_among first.regions) (flat_map entries_placed others) entry behind
]

pub finds_some : (d : DirFork) (name : List ℕ) (found : found.Entry) (entries : List Entry) (dotdot : ℕ) → IsName name → StandsIn d (named name found) → HoldsHashed d entries dotdot → Finds name entries (Some found)
finds_some d name found entries dotdot name_is stands holds =
    let within = stands_among d holds.first holds.others holds.front dotdot (named name found) holds.data_blocks stands in
    subst (λ (es : List Entry). Contains es (named name found)) (sym holds.entries_are)
    (behind_front_dots holds.first holds.others holds.front dotdot (named name found) holds.data_blocks.dots name_is within)

pub finds_none : (d : DirFork) (name : List ℕ) (hash : ℕ) (leaves : List LeafEntry) (entries : List Entry) (dotdot : ℕ) → hash ≡ name_hash_of name
    → ((live : List LeafEntry) → HasLeaves d live → leaves ≡ filter (λ leaf. leaf.hash == hash) live) → All (LeadsElsewhere d name) leaves → HoldsHashed d entries dotdot → Finds name entries None
finds_none d name hash leaves entries dotdot hash_is all elsewhere holds = λ k e below is.
    let entry : Entry = get_or entries k e in
    let within : Contains (all_entries holds.first holds.others) entry =
    of_front holds.first holds.others holds.front dotdot entry holds.data_blocks.dots (subst (λ (es : List Entry). Contains es entry) holds.entries_are (Contains-get_or entries k e below)) in
    let leaf : LeafEntry = leaf_of entry in
    let live : Contains holds.live leaf = Contains-permutation (map leaf_of (all_entries holds.first holds.others)) holds.live leaf holds.index (in_map leaf_of (all_entries holds.first holds.others) entry within) in
    let of_hash : leaf.hash ≡ hash = ap name_hash_of is ∙ sym hash_is in
    let among : Contains leaves leaf = subst (λ (ls : List LeafEntry). Contains ls leaf) (sym (all holds.live holds.leaves)) (in_filter (λ (one : LeafEntry). one.hash == hash) holds.live leaf (eq-eqb leaf.hash hash of_hash) live) in
    let other = All-contains (LeadsElsewhere d name) leaves leaf elsewhere among in
    let stands = stands_among d holds.first holds.others holds.front dotdot other.entry holds.data_blocks other.stands in
    let same : other.entry ≡ entry = one_entry d holds.first holds.others holds.front dotdot other.entry entry holds.data_blocks stands within (omega (arith, other.place)) in
    other.other (ap (λ (one : Entry). one.name) same ∙ is)

-- ---- what is broken

pub fails_at_leaf : (d : DirFork) (hash : ℕ) (leaves : List LeafEntry) (leaf : LeafEntry) (rule block : ℕ) → ((live : List LeafEntry) → HasLeaves d live → leaves ≡ filter (λ one. one.hash == hash) live) → Contains leaves leaf
    → BreaksAtLeaf d leaf rule block → FailsHashed d rule block
fails_at_leaf d hash leaves leaf rule block all within (inl data_block) = inl data_block
fails_at_leaf d hash leaves leaf rule block all within (inr nowhere) =
    inr (inr (
      nowhere.0,
      nowhere.1,
      λ first others front dotdot live right has index.
          let among = of_filter (λ (one : LeafEntry). one.hash == hash) live leaf (subst (λ (ls : List LeafEntry). Contains ls leaf) (all live has) within) in
          let entry = of_map leaf_of (all_entries first others) leaf (Contains-permutation live (map leaf_of (all_entries first others)) leaf (IsPermutation-sym (map leaf_of (all_entries first others)) live index) among.0) in
          nowhere.2 first others front dotdot right entry.0 entry.1 (ap (λ (one : LeafEntry). one.address) entry.2),
    ))

-- ---- over an image

pub found_over : (image : Option (List ℕ)) (T : List ℕ → DirFork) (name : List ℕ) (hash : ℕ) (leaves : List LeafEntry) (r : Result (Option found.Entry) ForkFault) → hash ≡ name_hash_of name → IsName name
    → IfSome image (λ x. (live : List LeafEntry) → HasLeaves (T x) live → leaves ≡ filter (λ leaf. leaf.hash == hash) live)
    → IfOk r (λ answered. IfSome answered (λ entry. IfSome image (λ x. StandsIn (T x) (named name entry)))) → IfOk r (λ answered. answered ≡ None → IfSome image (λ x. All (LeadsElsewhere (T x) name) leaves))
    → IfOk r (λ answered. IfSome image (λ x. (entries : List Entry) (dotdot : ℕ) → HoldsHashed (T x) entries dotdot → Finds name entries answered))
found_over image T name hash leaves (Err fault) hash_is name_is all there none = tt
found_over image T name hash leaves (Ok None) hash_is name_is all there none =
    IfSome_both image all (none refl) (λ x those elsewhere entries dotdot holds. finds_none (T x) name hash leaves entries dotdot hash_is those elsewhere holds)
found_over image T name hash leaves (Ok (Some entry)) hash_is name_is all there none =
    IfSome_then image there (λ x stands entries dotdot holds. finds_some (T x) name entry entries dotdot name_is stands holds)
