-- What is gathered of the data blocks of a directory in leaf or node form.
use Rattle.std.proofs.Common.{◌≡◌, ℕ, zero, suc, ◌+◌, ◌<◌, ◌≤◌, Bool, true, false, List, [], ◌∷◌, ◌++◌, length, get_or, refl, sym, ap, subst, ◌∙◌, map, arith, inl, inr, append_assoc}
use Rattle.std.specs.Prelude.{◌⊎◌, All, Any, IfSome, IsSome, OnOk, Option, Some, None, Result, Ok, Err, flat_map, unwrap_or}
use Rattle.std.specs.List.{AllAdjacentBelow}
use Rattle.std.proofs.lemmas.Bool.{cases_eq, cases_lt}
use Rattle.std.proofs.lemmas.Option.{IfSome_then}
use Rattle.std.proofs.lemmas.Grind.{flat_map-append}
use Rattle.std.proofs.lemmas.List.{append-nil, length_push, map-append, map_push}
use Rattle.std.proofs.lemmas.List.Elements.{All-append, All-contains, All-nil, All-push, All-rest, All-weaker, Contains-append_left, Contains-append_right, Contains-get_or}
use Rattle.std.proofs.lemmas.List.Quantifiers.{Any-push}
use Rattle.xn_bytes.specs.Names.{IsName}
use Rattle.xn_bytes.specs.Superblock.{Geometry}
use Rattle.xn_bytes.specs.Extents.{Run, mapped}
use Rattle.xn_bytes.specs.Entries.{Entry}
use Rattle.xn_bytes.specs.DataBlock.{AreRegions, DataForm, DataHolds, LeafEntry, Region, area_end, entries_among, gaps_among, greatest}
use Rattle.xn_bytes.specs.DataBlock.Region.{Free, Used}
use Rattle.xn_bytes.specs.HashedTree.{leaf_file_block}
use Rattle.xn_bytes.specs.Blocks.{block_of}
use Rattle.xn_bytes.specs.DirectoryForms.{HasDots, IsDataBlockOf, leaf_of}
use Rattle.xn_bytes.specs.DirectoryRules.{BreaksData, FailsData, IsDataAt, IsRightData}
use Rattle.xn_bytes.specs.LeafForms.{DirFork, HasData, IsPlaced, Placed, all_entries, entries_placed, placed_in, with_first}
use Rattle.xn_data.proofs.Law.{is_placed, placed_in_block}
use Rattle.xn_data.proofs.Verdicts.{area_within}
use Rattle.xn_datree.specs.declared.fork.Fork.{Fork}
use Rattle.xn_inode.specs.declared.store.Store.{Ghosts}
use Rattle.xn_inode.specs.declared.fork_fault.ForkFault.{ForkFault}
use Rattle.xn_inode.specs.declared.fork_fault.ForkFault.TheVariants.{Read, Memory, Broken}
use Rattle.xn_inode.specs.Frames.{StoreStays}
use Rattle.xn_inode.specs.Lists.{IsNextMapped}
use Rattle.xn_dir.specs.declared.bests.Best.{Best}
use Rattle.xn_dir.specs.declared.gather.Gathered.{Gathered}
use Rattle.xn_dir.specs.declared.listing.Listed.{Listed}
use Rattle.xn_dir.specs.Bests.{noted}
use Rattle.xn_dir.specs.Faults.{IsHashedFault}
use Rattle.xn_dir.specs.Gathering.{Adds, AreNamed, FetchesBelow, FetchesData, Gathers, GathersBelow, IsMappedData, Lists}
use Rattle.xn_dir.specs.Hashed.{dir_fork}
use Rattle.xn_dir.specs.Listings.{entry_of}
use Rattle.xn_dir.proofs.Following.{IfSome_both}
use Rattle.xn_dir.proofs.OneForm.{one_data, same_block}

-- ---- parts of lists

all_front : {X : Type 0} (P : X → Type 0) (xs ys : List X) → All P (xs ++ ys) → All P xs
all_front P xs ys all k d lt = All-contains P (xs ++ ys) (get_or xs k d) all (Contains-append_left xs ys (get_or xs k d) (Contains-get_or xs k d lt))

all_behind : {X : Type 0} (P : X → Type 0) (xs ys : List X) → All P (xs ++ ys) → All P ys
all_behind P xs ys all k d lt = All-contains P (xs ++ ys) (get_or ys k d) all (Contains-append_right xs ys (get_or ys k d) (Contains-get_or ys k d lt))

any_front : {X : Type 0} (P : X → Type 0) (xs ys : List X) → Any P xs → Any P (xs ++ ys)
any_front P xs ys any = let at = Contains-append_left xs ys any.1 (any.0, any.2, any.3) in (at.0, any.1, at.1, at.2, any.4)

flat_push : {X Y : Type 0} (f : X → List Y) (xs : List X) (x : X) → flat_map f (xs ++ x ∷ []) ≡ flat_map f xs ++ f x
flat_push f xs x = flat_map-append f xs (x ∷ []) ∙ ap (λ t. flat_map f xs ++ t) (append-nil (f x))

rising_push : {X : Type 0} (key : X → ℕ) (xs : List X) (y : X) → All (λ x. key x < key y) xs → AllAdjacentBelow (λ a b. key a < key b) xs (length xs)
    → AllAdjacentBelow (λ a b. key a < key b) (xs ++ y ∷ []) (length (xs ++ y ∷ []))
rising_push key [] y low rising k d h = absurd (omega arith)
rising_push key (x ∷ []) y low rising zero d h = low 0 x (omega arith)
rising_push key (x ∷ next ∷ xs) y low rising zero d h = rising 0 d (omega arith)
rising_push key (x ∷ xs) y low rising (suc k) d h =
    let tail : AllAdjacentBelow (λ a b. key a < key b) xs (length xs) =
    λ j e l. let one : suc j + 1 ≡ suc (j + 1) = omega arith in subst (λ (n : ℕ). key (get_or xs j e) < key (get_or (x ∷ xs) n e)) one (rising (suc j) e (omega arith)) in
    let rest = rising_push key xs y (λ j e l. low (suc j) e (omega arith)) tail k d (omega arith) in
    let one : suc (k + 1) ≡ suc k + 1 = omega arith in
    subst (λ (n : ℕ). key (get_or (xs ++ y ∷ []) k d) < key (get_or (x ∷ (xs ++ y ∷ [])) n d)) one rest

-- ---- what a data block holds

low_entries : (bytes : List ℕ) (form : DataForm) → DataHolds bytes form → All (λ entry. entry.position < 4096) (entries_among form.regions)
low_entries bytes form holds k d lt =
    let one = is_placed 64 4096 (entries_among form.regions) (get_or (entries_among form.regions) k d) (placed_in_block bytes form holds) (Contains-get_or (entries_among form.regions) k d lt) in
    omega (arith, one.before)

pub low_in : (bytes : List ℕ) (form : DataForm) (entries : List Entry) → DataHolds bytes form → entries ≡ entries_among form.regions → All (λ entry. entry.position < 4096) entries
low_in bytes form entries holds are = subst (All (λ entry. entry.position < 4096)) (sym are) (low_entries bytes form holds)

pub low_behind : (bytes : List ℕ) (form : DataForm) (entries front : List Entry) (dotdot : ℕ) → DataHolds bytes form → entries ≡ entries_among form.regions → HasDots entries front dotdot → All (λ entry. entry.position < 4096) front
low_behind bytes form entries front dotdot holds are dots k d lt =
    subst (All (λ entry. entry.position < 4096)) dots.first (low_in bytes form entries holds are) (suc (suc k)) d (omega (arith, lt))

gaps_small : (behind : Bool) (at end : ℕ) (bytes : List ℕ) (regions : List Region) → AreRegions behind at end bytes regions → greatest (gaps_among regions) ≤ end
gaps_small behind at end bytes [] stand = omega arith
gaps_small behind at end bytes (Used entry ∷ regions) stand = gaps_small false _ end bytes regions stand.2
gaps_small behind at end bytes (Free gap ∷ regions) stand =
    let rest = gaps_small true (at + gap.size) end bytes regions stand.3 in
    let one = stand.2.within in
    omega (arith, rest, one)

pub best_small : (bytes : List ℕ) (form : DataForm) → DataHolds bytes form → greatest (gaps_among form.regions) < 65536
best_small bytes form holds =
    let within = gaps_small false 64 (area_end bytes) bytes form.regions holds.regions in
    let small = area_within bytes in
    omega (arith, within, small)

-- ---- leaf entries

pub leaf_on : (number : ℕ) (all now pushed : List LeafEntry) (left after : List Entry) (entry : Entry) (leaf : LeafEntry) → left ≡ entry ∷ after → leaf ≡ leaf_of (placed_in number entry) → pushed ≡ now ++ leaf ∷ []
    → now ++ map leaf_of (map (placed_in number) left) ≡ all → pushed ++ map leaf_of (map (placed_in number) after) ≡ all
leaf_on number all now pushed left after entry leaf step is push so_far =
    let rest : List LeafEntry = map leaf_of (map (placed_in number) after) in
    ap (λ (t : List LeafEntry). t ++ rest) push
    ∙ append_assoc now (leaf ∷ []) rest
    ∙ ap (λ (one : LeafEntry). now ++ one ∷ rest) is
    ∙ ap (λ (t : List Entry). now ++ map leaf_of (map (placed_in number) t)) (sym step)
    ∙ so_far

pub low_on : (left after : List Entry) (entry : Entry) → left ≡ entry ∷ after → All (λ one. one.position < 4096) left → All (λ one. one.position < 4096) after
low_on left after entry step low = All-rest (λ (one : Entry). one.position < 4096) entry after left step low

-- ---- entries that are listed one behind the other

-- the entries of a data block that were listed, and those that are left
pub record Listing (number : ℕ) (before : List Listed) (all : List Entry) (now : List Listed) (left : List Entry) : Type 0 where
  pub taken : List Entry
  pub split : all ≡ taken ++ left
  pub listed : map entry_of now ≡ map entry_of before ++ map (placed_in number) taken
  pub names : AreNamed (map (placed_in number) taken)
  pub placed : All (λ entry. entry.position < 4096) left

pub listed_on : (number : ℕ) (before : List Listed) (all : List Entry) (now pushed : List Listed) (left after : List Entry) (listed : Listed) (entry : Entry) → left ≡ entry ∷ after → entry_of listed ≡ placed_in number entry → IsName entry.name
    → pushed ≡ now ++ listed ∷ [] → Listing number before all now left → Listing number before all pushed after
listed_on number before all now pushed left after listed entry step is named push so_far =
    let more : map (placed_in number) (so_far.taken ++ entry ∷ []) ≡ map (placed_in number) so_far.taken ++ placed_in number entry ∷ [] = map_push (placed_in number) so_far.taken entry in
    record {
      taken = so_far.taken ++ entry ∷ [];
      split = so_far.split ∙ ap (λ (t : List Entry). so_far.taken ++ t) step ∙ sym (append_assoc so_far.taken (entry ∷ []) after);
      listed =
          ap (map entry_of) push
          ∙ map_push entry_of now listed
          ∙ ap (λ (e : Entry). map entry_of now ++ e ∷ []) is
          ∙ ap (λ (t : List Entry). t ++ placed_in number entry ∷ []) so_far.listed
          ∙ append_assoc (map entry_of before) (map (placed_in number) so_far.taken) (placed_in number entry ∷ [])
          ∙ ap (λ (t : List Entry). map entry_of before ++ t) (sym more);
      names = subst AreNamed (sym more) (All-push (λ e. IsName e.name) (map (placed_in number) so_far.taken) (placed_in number entry) so_far.names named);
      placed = low_on left after entry step so_far.placed;
    }

named_in : (number : ℕ) (entries : List Entry) (k : ℕ) (d : Entry) → k < length entries → AreNamed (map (placed_in number) entries) → IsName (get_or entries k d).name
named_in number [] k d lt named = absurd (omega arith)
named_in number (entry ∷ entries) zero d lt named = named 0 d (omega arith)
named_in number (entry ∷ entries) (suc k) d lt named = named_in number entries k d (omega arith) (λ j e h. named (suc j) e (omega arith))

pub not_named : (number : ℕ) (before : List Listed) (all : List Entry) (now : List Listed) (left after : List Entry) (entry : Entry) → left ≡ entry ∷ after → (IsName entry.name → ⊥) → Listing number before all now left
    → Lists before now false (map (placed_in number) all)
not_named number before all now left after entry step none so_far = record {
  names = λ e. absurd cc;
  no_names = λ _ named.
      let there : Entry → All (λ one. IsName one.name) (so_far.taken ++ left) = λ _. subst AreNamed so_far.split (λ k d lt. named_in number all k d lt named) in
      none (subst AreNamed step (all_behind (λ one. IsName one.name) so_far.taken left (there entry)) 0 entry (omega arith));
}

-- ---- a data block more

-- its entries were listed, where all others have names, and nothing else was gathered
pub record Lister (before now : Gathered) (listed : List Entry) : Type 0 where
  pub names : ((before.are_names ≡ true) × Lists before.listed.items now.listed.items now.are_names listed) ⊎ ((before.are_names ≡ false) × (now.are_names ≡ false))
  pub leaves_stay : now.leaves.items ≡ before.leaves.items
  pub bests_stay : now.bests.items ≡ before.bests.items

false_true : (b : Bool) {G : Type 0} → b ≡ false → b ≡ true → G
false_true true f t = absurd cc
false_true false f t = absurd cc

names_on : (before now : Gathered) (listed front all : List Entry) (data_blocks : List Placed) → Lister before now listed → Gathers before front all data_blocks
    → now.are_names ≡ true → (map entry_of now.listed.items ≡ front ++ listed) × AreNamed (front ++ listed)
names_on before now listed front all data_blocks lister so_far e = elim lister.names [
  | inl lists ↦
      let had = so_far.names lists.0 in
      let more = lists.1.names e in
      (more.0 ∙ ap (λ (t : List Entry). t ++ listed) had.0, All-append (λ entry. IsName entry.name) front listed had.1 more.1)
  | inr none ↦ false_true now.are_names none.1 e
]

no_names_on : (before now : Gathered) (listed front all : List Entry) (data_blocks : List Placed) → Lister before now listed → Gathers before front all data_blocks → now.are_names ≡ false → AreNamed (front ++ listed) → ⊥
no_names_on before now listed front all data_blocks lister so_far e named = elim lister.names [
  | inl lists ↦ lists.1.no_names e (all_behind (λ entry. IsName entry.name) front listed named)
  | inr none ↦ so_far.no_names none.0 (all_front (λ entry. IsName entry.name) front listed named)
]

pub adds : (before now after : Gathered) (placed : Placed) (listed : List Entry) → Lister before now listed → after.listed.items ≡ now.listed.items → after.are_names ≡ now.are_names
    → after.leaves.items ≡ now.leaves.items ++ map leaf_of (entries_placed placed) → after.bests.items ≡ now.bests.items ++ noted placed ∷ [] → Adds before after placed listed
adds before now after placed listed lister same still leaves bests front all data_blocks so_far = record {
  leaves = leaves ∙ ap (λ (t : List LeafEntry). t ++ map leaf_of (entries_placed placed)) (lister.leaves_stay ∙ so_far.leaves) ∙ sym (map-append leaf_of all (entries_placed placed));
  bests = map_push noted data_blocks placed ∙ ap (λ (t : List Best). t ++ noted placed ∷ []) (so_far.bests ∙ sym lister.bests_stay) ∙ sym bests;
  names = λ e. let on = names_on before now listed front all data_blocks lister so_far (sym still ∙ e) in (ap (map entry_of) same ∙ on.0, on.1);
  no_names = λ e named. no_names_on before now listed front all data_blocks lister so_far (sym still ∙ e) named;
}

-- ---- the first data block

same_gathered : (gathered : Gathered) (front all a b : List Entry) (data_blocks : List Placed) → front ≡ a → all ≡ b → Gathers gathered front all data_blocks → Gathers gathered a b data_blocks
same_gathered gathered front all a b data_blocks same_front same_all gathers =
    subst (λ (es : List Entry). Gathers gathered a es data_blocks) same_all (subst (λ (es : List Entry). Gathers gathered es all data_blocks) same_front gathers)

first_placed : (entries : List Entry) → map (placed_in 0) entries ≡ entries
first_placed [] = refl
first_placed (entry ∷ entries) =
    let one : placed_in 0 entry ≡ entry = ap (λ (n : ℕ). record entry { position = n }) (omega arith) in
    ap (λ (e : Entry). e ∷ map (placed_in 0) entries) one ∙ ap (λ (t : List Entry). entry ∷ t) (first_placed entries)

pub first_gathered : (g : Geometry) (fork : Fork) (image : Option (List ℕ)) (none gathered : Gathered) (first : DataForm) (front : List Entry) (dotdot : ℕ) → HasDots (entries_among first.regions) front dotdot → Gathers none [] [] []
    → Adds none gathered (record { number = 0; form = first }) (map (placed_in 0) front) → IfSome image (λ x. IsPlaced (dir_fork g fork x) (record { number = 0; form = first })) → GathersBelow g fork image 1 gathered
first_gathered g fork image none gathered first front dotdot dots nothing added there =
    let one : Placed = record { number = 0; form = first } in
    let entries : List Entry = entries_among first.regions in
    record {
      first = first;
      others = [];
      front = front;
      dotdot = dotdot;
      dots = dots;
      gathers =
          same_gathered gathered (map (placed_in 0) front) (map (placed_in 0) entries) (front ++ []) (entries ++ []) (one ∷ []) (first_placed front ∙ sym (append-nil front))
          (first_placed entries ∙ sym (append-nil entries)) (added [] [] [] nothing);
      placed = IfSome_then image there (λ x placed. All-push (IsPlaced (dir_fork g fork x)) [] one (All-nil (IsPlaced (dir_fork g fork x))) placed);
      below = All-push (λ (p : Placed). p.number < 1) [] one (All-nil (λ (p : Placed). p.number < 1)) (omega arith);
      rising = rising_push (λ (p : Placed). p.number) [] one (All-nil (λ (p : Placed). p.number < 0)) (λ k d h. absurd (omega (arith, h)));
      complete = λ number low some. (0, one, omega arith, refl, omega (arith, low));
    }

pub no_dots : (d : DirFork) (block : ℕ) (form : DataForm) (entries : List Entry) → mapped d.runs 0 ≡ Some block → DataHolds (d.blocks block) form → entries ≡ entries_among form.regions
    → ((others : List Entry) (dotdot : ℕ) → HasDots entries others dotdot → ⊥) → FailsData d 0 block
no_dots d block form entries there holds are none = record {
  is_data = (omega arith, inl refl);
  is_wrong = λ right.
      let same : right.1.0 ≡ block = same_block right.1.0 block _ right.1.1 there in
      let held : DataHolds (d.blocks block) right.0 = subst (λ (b : ℕ). DataHolds (d.blocks b) right.0) same right.1.2.holds in
      let one : right.0 ≡ form = one_data (d.blocks block) right.0 form held holds in
      let dots = right.2 refl in
      none dots.0 dots.1 (subst (λ (es : List Entry). HasDots es dots.0 dots.1) (ap (λ (f : DataForm). entries_among f.regions) one ∙ sym are) dots.2);
  block_is = sym (ap (λ (o : Option ℕ). unwrap_or o 0) there);
}

-- ---- another data block

some_none : (o : Option ℕ) {G : Type 0} → o ≡ None → IsSome o → G
some_none None none some = absurd cc
some_none (Some x) none some = absurd cc

pub next_gathered : (g : Geometry) (fork : Fork) (image : Option (List ℕ)) (from limit number block : ℕ) (before after : Gathered) (form : DataForm) → GathersBelow g fork image from before → IsNextMapped fork.extents from limit number block
    → Adds before after (record { number = number; form = form }) (entries_placed (record { number = number; form = form }))
    → IfSome image (λ x. IsPlaced (dir_fork g fork x) (record { number = number; form = form })) → GathersBelow g fork image (number + 1) after
next_gathered g fork image from limit number block before after form so_far next added there =
    let one : Placed = record { number = number; form = form } in
    let had : List Placed = with_first so_far.first so_far.others in
    let low : All (λ (p : Placed). p.number < number) had = All-weaker (λ (p : Placed). p.number < from) (λ (p : Placed). p.number < number) (λ p less. omega (arith, less, next.at_least)) had so_far.below in
    let flat : flat_map entries_placed (so_far.others ++ one ∷ []) ≡ flat_map entries_placed so_far.others ++ entries_placed one = flat_push entries_placed so_far.others one in
    let entries : List Entry = entries_among so_far.first.regions in
    record {
      first = so_far.first;
      others = so_far.others ++ one ∷ [];
      front = so_far.front;
      dotdot = so_far.dotdot;
      dots = so_far.dots;
      gathers =
          same_gathered after _ _ (so_far.front ++ flat_map entries_placed (so_far.others ++ one ∷ [])) (entries ++ flat_map entries_placed (so_far.others ++ one ∷ [])) (had ++ one ∷ [])
          (append_assoc so_far.front (flat_map entries_placed so_far.others) (entries_placed one) ∙ ap (λ (t : List Entry). so_far.front ++ t) (sym flat))
          (append_assoc entries (flat_map entries_placed so_far.others) (entries_placed one) ∙ ap (λ (t : List Entry). entries ++ t) (sym flat))
          (added (so_far.front ++ flat_map entries_placed so_far.others) (all_entries so_far.first so_far.others) had so_far.gathers);
      placed = IfSome_both image so_far.placed there (λ x each placed. All-push (IsPlaced (dir_fork g fork x)) had one each placed);
      below = All-push (λ (p : Placed). p.number < number + 1) had one (All-weaker (λ (p : Placed). p.number < number) (λ (p : Placed). p.number < number + 1) (λ p less. omega (arith, less)) had low) (omega arith);
      rising = rising_push (λ (p : Placed). p.number) had one low so_far.rising;
      complete = λ other less some. elim (cases_lt other from) [
        | inl early ↦ any_front (λ (p : Placed). p.number ≡ other) had (one ∷ []) (so_far.complete other early some)
        | inr late ↦ elim (cases_lt other number) [
          | inl between ↦ some_none (mapped fork.extents other) (next.first other late between) some
          | inr here ↦ Any-push (λ (p : Placed). p.number ≡ other) had one (omega (arith, here, less))
        ]
      ];
    }

-- what is added of a data block that was read
pub on_ok_placed : {E : Type 0} (g : Geometry) (fork : Fork) (image : Option (List ℕ)) (number block : ℕ) (before after : Gathered) (form : DataForm) (entries : List Entry) (result : Result (Unit {0}) E) → mapped fork.extents number ≡ Some block
    → entries ≡ entries_among form.regions → IfSome image (λ x. IsDataBlockOf g fork.owner false block (block_of g x block) form)
    → OnOk result (Adds before after (record { number = number; form = form }) (map (placed_in number) entries))
    → OnOk result ((one : DataForm) × Adds before after (record { number = number; form = one }) (entries_placed (record { number = number; form = one }))
    × IfSome image (λ x. IsPlaced (dir_fork g fork x) (record { number = number; form = one })))
on_ok_placed g fork image number block before after form entries (Ok done) there are holds added = (
  form,
  subst (λ (es : List Entry). Adds before after (record { number = number; form = form }) (map (placed_in number) es)) are added,
  IfSome_then image holds (λ x held. (block, there, held)),
)
on_ok_placed g fork image number block before after form entries (Err fault) there are holds added = tt

-- ---- the first that is wrong

right_before : (d : DirFork) (from limit number block : ℕ) (first : DataForm) (others : List Placed) (front : List Entry) (dotdot : ℕ) → HasDots (entries_among first.regions) front dotdot → All (IsPlaced d) (with_first first others)
    → ((lesser : ℕ) → lesser < from → IsSome (mapped d.runs lesser) → Any (λ placed. placed.number ≡ lesser) (with_first first others)) → IsNextMapped d.runs from limit number block
    → (lesser : ℕ) → lesser < number → IsDataAt d.runs lesser → IsRightData d lesser
right_before d from limit number block first others front dotdot dots each complete next lesser low is_data =
    elim (cases_eq lesser 0) [
      | inl zeroth ↦ subst (IsRightData d) (sym zeroth) (first, each 0 (record { number = 0; form = first }) (omega arith), λ _. (front, dotdot, dots))
      | inr other ↦ elim is_data.1 [
        | inl zeroth ↦ absurd (other zeroth)
        | inr some ↦ elim (cases_lt lesser from) [
          | inl early ↦
              let any = complete lesser early some in
              let placed : IsPlaced d any.1 = All-contains (IsPlaced d) (with_first first others) any.1 each (any.0, any.2, any.3) in
              (any.1.form, subst (λ (n : ℕ). IsPlaced d (record { number = n; form = any.1.form })) any.4 placed, λ zeroth. absurd (other zeroth))
          | inr late ↦ some_none (mapped d.runs lesser) (next.first lesser late low) some
        ]
      ]
    ]

-- a fault after some reads, by what was known of the image and what it says then
fault_with : {S : Type 0} (store : Ghosts S) (K : List ℕ → Type 0) (A B : List ℕ → ℕ → ℕ → Type 0) (old mid new : S) (fault : ForkFault) → StoreStays store old mid → IfSome (store.image old) K
    → ((x : List ℕ) (rule block : ℕ) → K x → A x rule block → B x rule block) → IsHashedFault store A mid new fault → IsHashedFault store B old new fault
fault_with store K A B old mid new Read stays known leads fails = let later = stays.faults_later in omega arith
fault_with store K A B old mid new Memory stays known leads fails = tt
fault_with store K A B old mid new (Broken rule block) stays known leads fails =
    IfSome_both (store.image old) known (subst (λ (i : Option (List ℕ)). IfSome i (λ x. A x rule block)) stays.image_stays fails) (λ x. leads x rule block)

pub next_breaks : {S : Type 0} (store : Ghosts S) (g : Geometry) (fork : Fork) (from limit number block : ℕ) (gathered : Gathered) (old mid new : S) (fault : ForkFault) → StoreStays store old mid
    → GathersBelow g fork (store.image old) from gathered → IsNextMapped fork.extents from limit number block
    → IsHashedFault store (λ x rule named. (rule ≡ 17) × FailsData (dir_fork g fork x) number named) mid new fault
    → IsHashedFault store (λ x rule named. (rule ≡ 17) × BreaksData (dir_fork g fork x) named) old new fault
next_breaks store g fork from limit number block gathered old mid new fault stays so_far next fails =
    fault_with store (λ x. All (IsPlaced (dir_fork g fork x)) (with_first so_far.first so_far.others)) (λ x rule named. (rule ≡ 17) × FailsData (dir_fork g fork x) number named)
    (λ x rule named. (rule ≡ 17) × BreaksData (dir_fork g fork x) named) old mid new fault stays so_far.placed
    (λ x rule named each wrong. (
      wrong.0,
      (
        number,
        wrong.1,
        right_before (dir_fork g fork x) from limit number block so_far.first so_far.others so_far.front so_far.dotdot so_far.dots each so_far.complete next,
      ),
    )) fails

-- ---- all of them

pub all_gathered : (g : Geometry) (fork : Fork) (image : Option (List ℕ)) (from : ℕ) (gathered : Gathered) → GathersBelow g fork image from gathered → from ≤ leaf_file_block
    → ((number : ℕ) → from ≤ number → number < leaf_file_block → mapped fork.extents number ≡ None)
    → IfSome image (λ x. (first : DataForm) × (others : List Placed) × (front : List Entry) × (dotdot : ℕ) × HasData (dir_fork g fork x) first others front dotdot
    × Gathers gathered (front ++ flat_map entries_placed others) (all_entries first others) (with_first first others))
all_gathered g fork image from gathered so_far high none =
    let all : List Placed = with_first so_far.first so_far.others in
    IfSome_then image so_far.placed
    (λ x each. (
      so_far.first,
      so_far.others,
      so_far.front,
      so_far.dotdot,
      record {
        data_blocks = record {
          each = each;
          numbers = All-weaker (λ (p : Placed). p.number < from) (λ (p : Placed). p.number < leaf_file_block) (λ p less. omega (arith, less, high)) all so_far.below;
          rising = so_far.rising;
          complete = λ number is_data some. elim (cases_lt number from) [
            | inl early ↦ so_far.complete number early some
            | inr late ↦ some_none (mapped fork.extents number) (none number late is_data) some
          ];
        };
        dots = so_far.dots;
      },
      so_far.gathers,
    ))

-- ---- how many blocks are read

pub none_read : (runs : List Run) (end before now : ℕ) → now ≤ before → FetchesBelow runs end before now
none_read runs end before now none = record {
  read = [];
  rising = λ k d h. absurd (omega (arith, h));
  are_data = All-nil (IsMappedData runs);
  low = All-nil (λ (n : ℕ). n < end);
  fetches = omega (arith, none);
}

is_some : (o : Option ℕ) (x : ℕ) → o ≡ Some x → IsSome o
is_some None x e = absurd cc
is_some (Some y) x e = refl

pub read_on : (runs : List Run) (end before mid now number block : ℕ) → FetchesBelow runs end before mid → end ≤ number → number < leaf_file_block → mapped runs number ≡ Some block → now ≤ mid + 1 → FetchesBelow runs (number + 1) before now
read_on runs end before mid now number block so_far high small there one =
    let low : All (λ n. n < number) so_far.read = λ k d h. let less = so_far.low k d h in omega (arith, less, high) in
    record {
      read = so_far.read ++ number ∷ [];
      rising = rising_push (λ (n : ℕ). n) so_far.read number low so_far.rising;
      are_data = All-push (IsMappedData runs) so_far.read number so_far.are_data (small, is_some (mapped runs number) block there);
      low = All-push (λ (n : ℕ). n < number + 1) so_far.read number (λ k d h. let less = low k d h in omega (arith, less)) (omega arith);
      fetches = let longer = length_push so_far.read number in omega (arith, so_far.fetches, one, longer);
    }

pub first_read : (runs : List Run) (before now block : ℕ) → mapped runs 0 ≡ Some block → now ≤ before + 1 → FetchesBelow runs 1 before now
first_read runs before now block there one = read_on runs 0 before before now 0 block (none_read runs 0 before before (omega arith)) (omega arith) (omega arith) there one

pub all_read : (runs : List Run) (end before now : ℕ) → FetchesBelow runs end before now → FetchesData runs before now
all_read runs end before now so_far = record { read = so_far.read; rising = so_far.rising; are_data = so_far.are_data; fetches = so_far.fetches }
