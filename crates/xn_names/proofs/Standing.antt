-- The entries that stand in one directory, of those of all live inodes.
use Rattle.std.proofs.Common.{◌≡◌, ◌≢◌, ℕ, zero, suc, ◌+◌, ◌<◌, true, false, List, [], ◌∷◌, length, map, get_or, refl, sym, ap, subst, ◌∙◌, arith, inl, inr, eq-eqb, ne_eqb, append-nil}
use Rattle.std.specs.Prelude.{◌⊎◌, ◌==◌, All, Contains}
use Rattle.std.specs.List.{AllAdjacentBelow}
use Rattle.std.proofs.lemmas.Bool.{cases_eq}
use Rattle.std.proofs.lemmas.List.Elements.{All-map, All-weaker, filter-append}
use Rattle.xn_bytes.specs.Superblock.{Geometry}
use Rattle.xn_bytes.specs.Entries.{Entry}
use Rattle.xn_bytes.specs.DirectoryHolds.{DirHolds}
use Rattle.xn_meaning.specs.Manifests.{Manifest}
use Rattle.xn_rules.specs.Namings.{IsWhole, Naming, naming_of, AreNamingsOf, AreNamingsIn, standing_in}
use Rattle.xn_names.proofs.Filtered.{filter_none, filter_each}

-- ---- numbers that rise

-- the rest rises too
rising_tail : (x : ℕ) (xs : List ℕ) → AllAdjacentBelow (λ a b. a < b) (x ∷ xs) (length (x ∷ xs)) → AllAdjacentBelow (λ a b. a < b) xs (length xs)
rising_tail x xs rising k d lt =
    let e : suc k + 1 ≡ suc (k + 1) = omega arith in
    subst (λ (i : ℕ). get_or xs k d < get_or (x ∷ xs) i d) e (rising (suc k) d (omega arith))

-- and the first is below each of it
rising_first : (x : ℕ) (xs : List ℕ) → AllAdjacentBelow (λ a b. a < b) (x ∷ xs) (length (x ∷ xs)) → (k d : ℕ) → k < length xs → x < get_or xs k d
rising_first x xs rising zero d lt = rising zero d (omega arith)
rising_first x xs rising (suc k) d lt =
    let before = rising_first x xs rising k d (omega arith) in
    let e : suc k + 1 ≡ suc (suc k) = omega arith in
    let next : get_or xs k d < get_or xs (suc k) d = subst (λ (i : ℕ). get_or (x ∷ xs) (suc k) d < get_or (x ∷ xs) i d) e (rising (suc k) d (omega arith)) in
    omega arith

first_once : (x : ℕ) (xs : List ℕ) → AllAdjacentBelow (λ a b. a < b) (x ∷ xs) (length (x ∷ xs)) → Contains xs x → ⊥
first_once x xs rising (k, lt, same) = let below = rising_first x xs rising k x lt in omega arith

contained : (x y : ℕ) (xs : List ℕ) → Contains (x ∷ xs) y → (x ≡ y) ⊎ Contains xs y
contained x y xs (zero, lt, same) = inl same
contained x y xs (suc k, lt, same) = inr (k, omega arith, same)

-- ---- those of one directory, by themselves

module _ (g : Geometry) (m : Manifest) (image : List ℕ) where
  stand_there : (dir : ℕ) (entries : List Entry) → All (λ n. n.dir ≡ dir) (map (naming_of dir) entries)
  stand_there dir entries = All-map (λ n. n.dir ≡ dir) (naming_of dir) entries (λ k d lt. refl)

  own_stand : (dir : ℕ) (own : List Naming) → AreNamingsOf g m image dir own → All (λ n. n.dir ≡ dir) own
  own_stand dir own (inl (entries, dotdot, whole, are)) = subst (All (λ n. n.dir ≡ dir)) (sym are) (stand_there dir entries)
  own_stand dir own (inr (none, are)) = subst (All (λ n. n.dir ≡ dir)) (sym are) (λ k d lt. absurd (omega arith))

  own_whole : (dir : ℕ) (own : List Naming) (entries : List Entry) (dotdot : ℕ) → IsWhole g m image dir entries dotdot
      → ((a b : List Entry) (p q : ℕ) → DirHolds g image dir a p → DirHolds g image dir b q → a ≡ b)
      → AreNamingsOf g m image dir own → own ≡ map (naming_of dir) entries
  own_whole dir own entries dotdot whole one (inl (others, parent, also, are)) = are ∙ ap (map (naming_of dir)) (one others entries parent dotdot also.holds whole.holds)
  own_whole dir own entries dotdot whole one (inr (none, are)) = absurd (none entries dotdot whole)

  own_none : (dir : ℕ) (own : List Naming) → ((entries : List Entry) (dotdot : ℕ) → IsWhole g m image dir entries dotdot → ⊥) → AreNamingsOf g m image dir own → own ≡ []
  own_none dir own no_whole (inl (entries, dotdot, whole, are)) = absurd (no_whole entries dotdot whole)
  own_none dir own no_whole (inr (none, are)) = are

  each_stands : (dir : ℕ) (namings : List Naming) → All (λ n. n.dir ≡ dir) namings → standing_in dir namings ≡ namings
  each_stands dir namings all =
      filter_each (λ n. n.dir == dir) namings (All-weaker (λ n. n.dir ≡ dir) (λ n. (n.dir == dir) ≡ true) (λ n e. eq-eqb n.dir dir e) namings all)

  none_stands : (dir other : ℕ) (namings : List Naming) → other ≢ dir → All (λ n. n.dir ≡ other) namings → standing_in dir namings ≡ []
  none_stands dir other namings ne all =
      filter_none (λ n. n.dir == dir) namings (All-weaker (λ n. n.dir ≡ other) (λ n. (n.dir == dir) ≡ false) (λ n e. ne_eqb n.dir dir (λ f. ne (sym e ∙ f))) namings all)

  -- ---- one behind the other

  -- nothing stands in what is not among them
  pub standing_beside : (dir : ℕ) (live : List ℕ) (listed : List Naming) → AreNamingsIn g m image live listed → (Contains live dir → ⊥) → standing_in dir listed ≡ []
  standing_beside dir [] listed are out = ap (standing_in dir) are
  standing_beside dir (first ∷ live) listed (own, rest, of_first, of_rest, are) out =
      let ne : first ≢ dir = λ e. out (zero, omega arith, e) in
      let behind = standing_beside dir live rest of_rest (λ (k, lt, same). out (suc k, omega arith, same)) in
      let before = none_stands dir first own ne (own_stand first own of_first) in
      rw (are, filter-append (λ (n : Naming). n.dir == dir) own rest, before, behind) refl

  -- in a whole directory stand its entries
  pub standing_whole : (dir : ℕ) (live : List ℕ) (listed : List Naming) → AreNamingsIn g m image live listed → AllAdjacentBelow (λ a b. a < b) live (length live)
      → Contains live dir → (entries : List Entry) (dotdot : ℕ) → IsWhole g m image dir entries dotdot
      → ((a b : List Entry) (p q : ℕ) → DirHolds g image dir a p → DirHolds g image dir b q → a ≡ b)
      → standing_in dir listed ≡ map (naming_of dir) entries
  standing_whole dir [] listed are rising (k, lt, same) entries dotdot whole one = absurd (omega arith)
  standing_whole dir (first ∷ live) listed (own, rest, of_first, of_rest, are) rising there entries dotdot whole one =
      elim (cases_eq first dir) [
        | inl e ↦
            let once : Contains live dir → ⊥ = subst (λ (ino : ℕ). Contains live ino → ⊥) e (first_once first live rising) in
            let behind = standing_beside dir live rest of_rest once in
            let own_there : All (λ n. n.dir ≡ dir) own = subst (λ (ino : ℕ). All (λ n. n.dir ≡ ino) own) e (own_stand first own of_first) in
            let own_are : own ≡ map (naming_of dir) entries = own_whole dir own entries dotdot whole one (subst (λ (ino : ℕ). AreNamingsOf g m image ino own) e of_first) in
            rw (are, filter-append (λ (n : Naming). n.dir == dir) own rest, each_stands dir own own_there, behind) (append-nil own ∙ own_are)
        | inr ne ↦
            let before = none_stands dir first own ne (own_stand first own of_first) in
            let among : Contains live dir = elim (contained first dir live there) [ inl e ↦ absurd (ne e) | inr c ↦ c ] in
            let behind = standing_whole dir live rest of_rest (rising_tail first live rising) among entries dotdot whole one in
            rw (are, filter-append (λ (n : Naming). n.dir == dir) own rest, before) behind
      ]

  -- and in what is no whole directory nothing
  pub standing_none : (dir : ℕ) (live : List ℕ) (listed : List Naming) → AreNamingsIn g m image live listed
      → ((entries : List Entry) (dotdot : ℕ) → IsWhole g m image dir entries dotdot → ⊥) → standing_in dir listed ≡ []
  standing_none dir [] listed are no_whole = ap (standing_in dir) are
  standing_none dir (first ∷ live) listed (own, rest, of_first, of_rest, are) no_whole =
      let behind = standing_none dir live rest of_rest no_whole in
      let before : standing_in dir own ≡ [] = elim (cases_eq first dir) [
        | inl e ↦ ap (standing_in dir) (own_none dir own no_whole (subst (λ (ino : ℕ). AreNamingsOf g m image ino own) e of_first))
        | inr ne ↦ none_stands dir first own ne (own_stand first own of_first)
      ] in
      rw (are, filter-append (λ (n : Naming). n.dir == dir) own rest, before, behind) refl
