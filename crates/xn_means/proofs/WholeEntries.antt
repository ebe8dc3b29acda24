-- Which entries an image has, whatever the list in which they are told: those of its whole directories that are live.
use Rattle.std.proofs.Common.{◌≡◌, ◌≢◌, ℕ, List, [], ◌∷◌, sym, ap, subst, ◌∙◌, inl, inr}
use Rattle.std.specs.Prelude.{Contains}
use Rattle.std.proofs.lemmas.List.Elements.{Contains-append_left, Contains-append_right, Contains-append_cases}
use Rattle.std.proofs.lemmas.List.Sorted.{Contains-permutation, IsPermutation-sym}
use Rattle.xn_bytes.specs.Superblock.{Geometry}
use Rattle.xn_bytes.specs.Extents.{Run}
use Rattle.xn_bytes.specs.Entries.{Entry}
use Rattle.xn_meaning.specs.Manifests.{Manifest, IsLive}
use Rattle.xn_rules.specs.Namings.{AreNamingsIn, AreNamingsOf, IsWhole, Naming, naming_of}
use Rattle.xn_rules.specs.Sound.{Contents}
use Rattle.xn_verdicts.proofs.OneList.{one_list}
use Rattle.xn_dir.proofs.Members.{at_front, behind_front, front_or_behind, in_map, in_none, of_map}
use Rattle.xn_means.proofs.Single.{one_element}

-- it is one of a whole directory's
pub record IsEntryOf (g : Geometry) (m : Manifest) (image : List ℕ) (dir : ℕ) (n : Naming) : Type 0 where
  pub entries : List Entry
  pub dotdot : ℕ
  pub whole : IsWhole g m image dir entries dotdot
  pub entry : Entry
  pub there : Contains entries entry
  pub same : naming_of dir entry ≡ n

-- it is one of a whole directory's that is live
pub record IsEntryIn (g : Geometry) (m : Manifest) (image : List ℕ) (n : Naming) : Type 0 where
  pub dir : ℕ
  pub live : IsLive g m dir
  pub of_dir : IsEntryOf g m image dir n

module _ (g : Geometry) (m : Manifest) (image : List ℕ) where
  -- ---- of one directory

  of_own : (dir : ℕ) (own : List Naming) (n : Naming) → AreNamingsOf g m image dir own → Contains own n → IsEntryOf g m image dir n
  of_own dir own n (inl (entries, dotdot, whole, is)) there =
      let found = of_map (naming_of dir) entries n (subst (λ ns. Contains ns n) is there) in
      record { entries = entries; dotdot = dotdot; whole = whole; entry = found.0; there = found.1; same = found.2 }
  of_own dir own n (inr (none, is)) there = absurd (in_none n (subst (λ ns. Contains ns n) is there))

  in_own : (dir : ℕ) (own : List Naming) (n : Naming) → AreNamingsOf g m image dir own → IsEntryOf g m image dir n → Contains own n
  in_own dir own n (inl (entries, dotdot, whole, is)) e =
      let one = one_list g image dir e.entries entries e.dotdot dotdot e.whole.holds whole.holds in
      let there : Contains entries e.entry = subst (λ held. Contains held e.entry) one.0 e.there in
      let told : Contains own (naming_of dir e.entry) = rw is (in_map (naming_of dir) entries e.entry there) in
      subst (λ k. Contains own k) e.same told
  in_own dir own n (inr (none, is)) e = absurd (none e.entries e.dotdot e.whole)

  -- ---- of some directories, one behind the other

  of_some : (dirs : List ℕ) (namings : List Naming) (n : Naming) → AreNamingsIn g m image dirs namings → Contains namings n
      → (dir : ℕ) × Contains dirs dir × IsEntryOf g m image dir n
  of_some [] namings n is there = absurd (in_none n (subst (λ ns. Contains ns n) is there))
  of_some (dir ∷ dirs) namings n (own, rest, of_dir, of_dirs, is) there =
      elim (Contains-append_cases own rest n (subst (λ ns. Contains ns n) is there)) [
        | inl first ↦ (dir, at_front dir dirs, of_own dir own n of_dir first)
        | inr later ↦ let found = of_some dirs rest n of_dirs later in (found.0, behind_front dir found.0 dirs found.1, found.2)
      ]

  in_some : (dirs : List ℕ) (namings : List Naming) (dir : ℕ) (n : Naming) → AreNamingsIn g m image dirs namings → Contains dirs dir
      → IsEntryOf g m image dir n → Contains namings n
  in_some [] namings dir n is there e = absurd (in_none dir there)
  in_some (first ∷ dirs) namings dir n (own, rest, of_first, of_dirs, is) there e =
      subst (λ ns. Contains ns n) (sym is) (elim (front_or_behind first dir dirs there) [
        | inl same ↦
            Contains-append_left own rest n (in_own first own n of_first (subst (λ d. IsEntryOf g m image d n) (sym same) e))
        | inr behind ↦ Contains-append_right own rest n (in_some dirs rest dir n of_dirs behind e)
      ])

  -- ---- of an image

  -- what is told is an entry of the image
  pub is_entry : (live : List ℕ) (namings : List Naming) (runs : List Run) (n : Naming) → Contents g m image live namings runs
      → Contains namings n → IsEntryIn g m image n
  is_entry live namings runs n c there =
      let back = IsPermutation-sym c.namings_in_turn namings c.same_namings in
      let found = of_some live c.namings_in_turn n c.are_namings (Contains-permutation namings c.namings_in_turn n back there) in
      record { dir = found.0; live = (c.are_live.each found.0).0 found.1; of_dir = found.2 }

  -- and each entry of the image is told
  pub is_told : (live : List ℕ) (namings : List Naming) (runs : List Run) (n : Naming) → Contents g m image live namings runs
      → IsEntryIn g m image n → Contains namings n
  is_told live namings runs n c e =
      let in_turn = in_some live c.namings_in_turn e.dir n c.are_namings ((c.are_live.each e.dir).1 e.live) e.of_dir in
      Contains-permutation c.namings_in_turn namings n c.same_namings in_turn

  -- ---- of one name

  pub in_dir : (n : Naming) (e : IsEntryIn g m image n) → e.dir ≡ n.dir
  in_dir n e = ap (λ (k : Naming). k.dir) e.of_dir.same

  pub has_name : (dir : ℕ) (n : Naming) (e : IsEntryOf g m image dir n) → e.entry.name ≡ n.name
  has_name dir n e = ap (λ (k : Naming). k.name) e.same

  -- entries of one name in one directory are one
  one_in_dir : (dir : ℕ) (a b : Naming) → IsEntryOf g m image dir a → IsEntryOf g m image dir b → a.name ≡ b.name → a ≡ b
  one_in_dir dir a b of_a of_b same =
      let one = one_list g image dir of_b.entries of_a.entries of_b.dotdot of_a.dotdot of_b.whole.holds of_a.whole.holds in
      let there : Contains of_a.entries of_b.entry = subst (λ held. Contains held of_b.entry) one.0 of_b.there in
      let names : of_a.entry.name ≡ of_b.entry.name = has_name dir a of_a ∙ same ∙ sym (has_name dir b of_b) in
      let entries : of_a.entry ≡ of_b.entry =
      one_element (λ (x y : Entry). x.name ≢ y.name) of_a.entries of_a.entry of_b.entry of_a.whole.names.once of_a.there there
      (λ differ. differ names) (λ differ. differ (sym names)) in
      sym of_a.same ∙ ap (naming_of dir) entries ∙ of_b.same

  -- so one directory and one name have one
  pub one_naming : (a b : Naming) → IsEntryIn g m image a → IsEntryIn g m image b → a.dir ≡ b.dir → a.name ≡ b.name → a ≡ b
  one_naming a b of_a of_b same_dir same_name =
      let dirs : of_b.dir ≡ of_a.dir = in_dir b of_b ∙ sym same_dir ∙ sym (in_dir a of_a) in
      one_in_dir of_a.dir a b of_a.of_dir (subst (λ d. IsEntryOf g m image d b) dirs of_b.of_dir) same_name
