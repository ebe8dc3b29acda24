-- Free-index blocks that are read one behind the other.
use Rattle.std.proofs.Common.{◌≡◌, ◌≢◌, ℕ, zero, suc, ◌+◌, ◌<◌, ◌≤◌, Bool, true, false, List, [], ◌∷◌, length, get_or, refl, sym, ap, subst, ◌∙◌, map, arith, inl, inr}
use Rattle.std.specs.Prelude.{◌↔◌, ◌-◌, ◌++◌, All, AllPairs, IfOk, IfSome, IsTrue, Option, Some, None, IsSome, Result, Ok, Err, unwrap_or}
use Rattle.std.specs.List.{AllAdjacentBelow}
use Rattle.std.proofs.lemmas.Bool.{cases_lt}
use Rattle.std.proofs.lemmas.List.Elements.{All-push}
use Rattle.std.proofs.lemmas.List.Sorted.{IsNonDecreasingBy-from_all_adjacent}
use Rattle.xn_bytes.specs.Superblock.{Geometry}
use Rattle.xn_bytes.specs.Blocks.{block_of}
use Rattle.xn_bytes.specs.Extents.{Run, mapped}
use Rattle.xn_bytes.specs.HashedTree.{free_file_block}
use Rattle.xn_bytes.specs.LeafForms.{AreData, HasFreeIndexes, Placed}
use Rattle.xn_inode.specs.declared.store.Store.{Ghosts}
use Rattle.xn_inode.specs.Frames.{StoreStays}
use Rattle.xn_inode.specs.Lists.{IsNextMapped}
use Rattle.xn_dir.specs.declared.bests.Best.{Best}
use Rattle.xn_dir.specs.Blocks.{fork_over}
use Rattle.xn_dir.specs.Bests.{AreRising, FetchesFree, IsFreeBlock, IsNotedIndex, noted}
use Rattle.xn_dir.proofs.Noted.{AreIndexes, AreMapped, all_mapped, free_indexes}

-- ---- how many blocks are read

-- the file blocks that were read, all of them in front of one
pub record ReadBefore (runs : List Run) (from before now : ℕ) : Type 0 where
  pub read : List ℕ
  pub rising : AllAdjacentBelow (λ a b. a < b) read (length read)
  pub free : All (IsFreeBlock runs) read
  pub low : All (λ file_block. file_block < from) read
  pub fetches : now ≤ before + length read

rising_push : (xs : List ℕ) (y : ℕ) → All (λ x. x < y) xs → AllAdjacentBelow (λ a b. a < b) xs (length xs) → AllAdjacentBelow (λ a b. a < b) (xs ++ y ∷ []) (length (xs ++ y ∷ []))
rising_push [] y low rising k d h = absurd (omega arith)
rising_push (x ∷ []) y low rising zero d h = low 0 x (omega arith)
rising_push (x ∷ next ∷ xs) y low rising zero d h = rising 0 d (omega arith)
rising_push (x ∷ xs) y low rising (suc k) d h =
    let tail : AllAdjacentBelow (λ a b. a < b) xs (length xs) =
    λ j e l. let one : suc j + 1 ≡ suc (j + 1) = omega arith in subst (λ (n : ℕ). get_or xs j e < get_or (x ∷ xs) n e) one (rising (suc j) e (omega arith)) in
    let rest = rising_push xs y (λ j e l. low (suc j) e (omega arith)) tail k d (omega arith) in
    let one : suc (k + 1) ≡ suc k + 1 = omega arith in
    subst (λ (n : ℕ). get_or (xs ++ y ∷ []) k d < get_or (x ∷ (xs ++ y ∷ [])) n d) one rest

length_push : (xs : List ℕ) (y : ℕ) → length (xs ++ y ∷ []) ≡ length xs + 1
length_push [] y = refl
length_push (x ∷ xs) y = let rest = length_push xs y in omega (arith, rest)

is_some : (o : Option ℕ) (x : ℕ) → o ≡ Some x → IsSome o
is_some None x e = absurd cc
is_some (Some y) x e = refl

pub read_on : (runs : List Run) (from limit before mid now file_block block : ℕ) → ReadBefore runs from before mid → free_file_block ≤ from → IsNextMapped runs from limit file_block block → now ≤ mid + 1
    → ReadBefore runs (file_block + 1) before now
read_on runs from limit before mid now file_block block so_far high next one =
    let below : All (λ n. n < file_block) so_far.read = λ k d h. let low = so_far.low k d h in omega (arith, low, next.at_least) in
    let here : IsFreeBlock runs file_block = (omega (arith, high, next.at_least), is_some (mapped runs file_block) block next.there) in
    record {
      read = so_far.read ++ file_block ∷ [];
      rising = rising_push so_far.read file_block below so_far.rising;
      free = All-push (IsFreeBlock runs) so_far.read file_block so_far.free here;
      low = All-push (λ (n : ℕ). n < file_block + 1) so_far.read file_block (λ k d h. let low = below k d h in omega (arith, low)) (omega arith);
      fetches = omega (arith, so_far.fetches, one, length_push so_far.read file_block);
    }

pub read_free : (runs : List Run) (from before now : ℕ) → ReadBefore runs from before now → FetchesFree runs before now
read_free runs from before now so_far = record { read = so_far.read; rising = so_far.rising; free = so_far.free; fetches = so_far.fetches }

-- none of them is read twice
pub read_once : (read : List ℕ) → AllAdjacentBelow (λ a b. a < b) read (length read) → AllPairs (λ a b. a ≢ b) read
read_once read rising i j d lt below =
    let rise = IsNonDecreasingBy-from_all_adjacent (λ (n : ℕ). n) read (λ k e h. let one = rising k e h in omega (arith, one)) in
    let next = rising i d (omega (arith, lt, below)) in
    let far = rise (i + 1) j d (omega (arith, lt)) below in
    λ same. omega (arith, next, far, same)

-- ---- what they are

over_some : {X : Type 0} (P Q : X → Type 0) (o : Option X) → ((x : X) → P x → Q x) → IfSome o P → IfSome o Q
over_some P Q None f p = tt
over_some P Q (Some x) f p = f x p

over_any : {X : Type 0} (P : X → Type 0) (o : Option X) → ((x : X) → P x) → IfSome o P
over_any P None f = tt
over_any P (Some x) f = f x

over_both : {X : Type 0} (P Q R : X → Type 0) (o : Option X) → ((x : X) → P x → Q x → R x) → IfSome o P → IfSome o Q → IfSome o R
over_both P Q R None f p q = tt
over_both P Q R (Some x) f p q = f x p q

-- those in front of one file block
abbrev AreBefore : Geometry → ℕ → List Run → List Best → ℕ → (ℕ → List ℕ) → Type 0
AreBefore g dir runs bests from blocks =
    (index block : ℕ) → free_file_block + index < from → mapped runs (free_file_block + index) ≡ Some block → IsNotedIndex g dir bests index block (blocks block)

one_block : (o : Option ℕ) (x y : ℕ) → o ≡ Some x → o ≡ Some y → x ≡ y
one_block o x y a b = ap (λ (found : Option ℕ). unwrap_or found 0) (sym a ∙ b)

none_there : (o : Option ℕ) (x : ℕ) {G : Type 0} → o ≡ None → o ≡ Some x → G
none_there None x a b = absurd cc
none_there (Some y) x a b = absurd cc

index_of : (file_block index : ℕ) → free_file_block + index ≡ file_block → file_block - free_file_block ≡ index
index_of file_block index e = omega (arith, e)

before_on : (g : Geometry) (dir : ℕ) (runs : List Run) (bests : List Best) (blocks : ℕ → List ℕ) (from limit file_block block : ℕ) → IsNextMapped runs from limit file_block block → free_file_block ≤ from
    → AreBefore g dir runs bests from blocks → IsNotedIndex g dir bests (file_block - free_file_block) block (blocks block) → AreBefore g dir runs bests (file_block + 1) blocks
before_on g dir runs bests blocks from limit file_block block next high so_far this index other low there =
    elim (cases_lt (free_file_block + index) from) [
      | inl lt ↦ so_far index other lt there
      | inr le ↦ elim (cases_lt (free_file_block + index) file_block) [
        | inl lt ↦ none_there (mapped runs (free_file_block + index)) other (next.first (free_file_block + index) le lt) there
        | inr ge ↦
            let same : free_file_block + index ≡ file_block = omega arith in
            let is : block ≡ other = one_block (mapped runs file_block) block other next.there (subst (λ (n : ℕ). mapped runs n ≡ Some other) same there) in
            subst (λ (b : ℕ). IsNotedIndex g dir bests index b (blocks b)) is
            (subst (λ (n : ℕ). IsNotedIndex g dir bests n block (blocks block)) (index_of file_block index same) this)
      ]
    ]

next_index : (g : Geometry) (dir : ℕ) (runs : List Run) (bests : List Best) (blocks : ℕ → List ℕ) (from limit file_block block : ℕ) → IsNextMapped runs from limit file_block block → free_file_block ≤ from
    → AreIndexes g dir runs bests blocks → IsNotedIndex g dir bests (file_block - free_file_block) block (blocks block)
next_index g dir runs bests blocks from limit file_block block next high all =
    let low : free_file_block + (file_block - free_file_block) ≡ file_block = omega (arith, next.at_least, high) in
    all (file_block - free_file_block) block (subst (λ (n : ℕ). mapped runs n ≡ Some block) (sym low) next.there)

-- ---- over a store

module _ {S : Type 0} (store : Ghosts S) (dir : ℕ) (runs : List Run) (bests : List Best) (old : S) where
  -- the bytes of a store's image
  abbrev pub IsRightOver : List ℕ → ℕ → ℕ → Bool → Type 0
  IsRightOver x index block right = AreRising bests → IsTrue right ↔ IsNotedIndex (store.shape old) dir bests index block (block_of (store.shape old) x block)

  -- what is known after the reads in front of a file block
  pub record Reads (now : S) (from : ℕ) : Type 0 where
    pub stays : StoreStays store old now
    pub high : free_file_block ≤ from
    pub before : IfSome (store.image old) (λ x. AreRising bests → AreBefore (store.shape old) dir runs bests from (block_of (store.shape old) x))
    pub reads : ReadBefore runs from (store.fetches old) (store.fetches now)

  -- a fact over the image of a store that was only read
  pub at_first : (now : S) → StoreStays store old now → (P : Geometry → List ℕ → Type 0) → IfSome (store.image now) (P (store.shape now)) → IfSome (store.image old) (P (store.shape old))
  at_first now stays P h =
      subst (λ (g : Geometry). IfSome (store.image old) (P g)) stays.shape_stays (subst (λ (o : Option (List ℕ)). IfSome o (P (store.shape now))) stays.image_stays h)

  pub reads_on : (mid now : S) (from limit file_block block : ℕ) (right : Bool) → Reads mid from → IsNextMapped runs from limit file_block block → StoreStays store old now → store.fetches now ≤ store.fetches mid + 1
      → IfSome (store.image old) (λ x. IsRightOver x (file_block - free_file_block) block right) → right ≡ true → Reads now (file_block + 1)
  reads_on mid now from limit file_block block right so_far next stays one over holds = record {
    stays = stays;
    high = omega (arith, so_far.high, next.at_least);
    before =
        over_both (λ x. AreRising bests → AreBefore (store.shape old) dir runs bests from (block_of (store.shape old) x)) (λ x. IsRightOver x (file_block - free_file_block) block right)
        (λ x. AreRising bests → AreBefore (store.shape old) dir runs bests (file_block + 1) (block_of (store.shape old) x)) (store.image old)
        (λ x p q rising. before_on (store.shape old) dir runs bests (block_of (store.shape old) x) from limit file_block block next so_far.high (p rising) ((q rising).0 holds)) so_far.before over;
    reads = read_on runs from limit (store.fetches old) (store.fetches mid) (store.fetches now) file_block block so_far.reads so_far.high next one;
  }

  -- one that is not right
  pub one_wrong : (mid : S) (from limit file_block block : ℕ) (right : Bool) → Reads mid from → IsNextMapped runs from limit file_block block
      → IfSome (store.image old) (λ x. IsRightOver x (file_block - free_file_block) block right) → right ≡ false
      → IfSome (store.image old) (λ x. AreRising bests → IsTrue false ↔ AreIndexes (store.shape old) dir runs bests (block_of (store.shape old) x))
  one_wrong mid from limit file_block block right so_far next over fails =
      over_some (λ x. IsRightOver x (file_block - free_file_block) block right)
      (λ x. AreRising bests → IsTrue false ↔ AreIndexes (store.shape old) dir runs bests (block_of (store.shape old) x)) (store.image old)
      (λ x q rising. (
        λ f. absurd cc,
        λ all. let holds = (q rising).1 (next_index (store.shape old) dir runs bests (block_of (store.shape old) x) from limit file_block block next so_far.high all) in sym fails ∙ holds,
      )) over

  -- ---- the whole of it

  abbrev pub IsRight : Bool → Type 0
  IsRight right =
      IfSome (store.image old)
      (λ x. (data_blocks : List Placed) → AreData (fork_over (store.shape old) dir runs x) data_blocks → map noted data_blocks ≡ bests → IsTrue right ↔ HasFreeIndexes (fork_over (store.shape old) dir runs x) data_blocks)

  -- the free-index block of some data block is not mapped
  pub not_mapped : (AreMapped runs bests → ⊥) → IsRight false
  not_mapped fails =
      over_any (λ x. (data_blocks : List Placed) → AreData (fork_over (store.shape old) dir runs x) data_blocks → map noted data_blocks ≡ bests
      → IsTrue false ↔ HasFreeIndexes (fork_over (store.shape old) dir runs x) data_blocks) (store.image old)
      (λ x data_blocks are e. (λ f. absurd cc, λ has. absurd (fails (all_mapped (fork_over (store.shape old) dir runs x) data_blocks bests e has))))

  pub all_told : {E : Type 0} (result : Result Bool E) → AreMapped runs bests
      → IfOk result (λ right. IfSome (store.image old) (λ x. AreRising bests → IsTrue right ↔ AreIndexes (store.shape old) dir runs bests (block_of (store.shape old) x))) → IfOk result IsRight
  all_told (Ok right) all over =
      over_some (λ x. AreRising bests → IsTrue right ↔ AreIndexes (store.shape old) dir runs bests (block_of (store.shape old) x))
      (λ x. (data_blocks : List Placed) → AreData (fork_over (store.shape old) dir runs x) data_blocks → map noted data_blocks ≡ bests
      → IsTrue right ↔ HasFreeIndexes (fork_over (store.shape old) dir runs x) data_blocks) (store.image old)
      (λ x tells data_blocks are e. free_indexes (fork_over (store.shape old) dir runs x) data_blocks bests right all tells are e) over
  all_told (Err fault) all over = tt
