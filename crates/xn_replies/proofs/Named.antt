-- The keys of the name space of an accepted image are the entries of its directories.
use Rattle.std.proofs.Common.{◌≡◌, ℕ, List, [], ◌∷◌, Some, refl, sym, subst, inl, inr}
use Rattle.std.specs.Prelude.{Contains}
use Rattle.std.proofs.lemmas.List.Elements.{Contains-append_left, Contains-append_right, Contains-append_cases}
use Rattle.std.proofs.lemmas.List.Sorted.{Contains-permutation, IsPermutation-sym}
use Rattle.xn_bytes.specs.Superblock.{Geometry}
use Rattle.xn_bytes.specs.Entries.{Entry}
use Rattle.xn_meaning.specs.Manifests.{Manifest, IsLive}
use Rattle.xn_meaning.specs.NameSpaces.{NameSpace}
use Rattle.xn_rules.specs.Namings.{IsWhole, Naming, naming_of, AreNamingsOf, AreNamingsIn}
use Rattle.xn_rules.specs.Means.{Means, IsNamedBy}
use Rattle.xn_verdicts.proofs.OneList.{one_list}
use Rattle.xn_dir.proofs.Members.{at_front, behind_front, front_or_behind, in_none, in_map, of_map}

-- an entry of a whole directory
pub record IsEntryIn (g : Geometry) (m : Manifest) (image : List ℕ) (dir : ℕ) (entry : Entry) : Type 0 where
  pub entries : List Entry
  pub dotdot : ℕ
  pub whole : IsWhole g m image dir entries dotdot
  pub there : Contains entries entry

-- ---- the entries of an image

module _ (g : Geometry) (m : Manifest) (image : List ℕ) where
  -- a directory with an entry by which a naming is what it is
  abbrev IsOrigin : ℕ → Naming → Type 0
  IsOrigin dir n = (entry : Entry) × IsEntryIn g m image dir entry × (naming_of dir entry ≡ n)

  own_origin : (dir : ℕ) (own : List Naming) (n : Naming) → AreNamingsOf g m image dir own → Contains own n → IsOrigin dir n
  own_origin dir own n (inl (entries, dotdot, whole, are)) within =
      let of = of_map (naming_of dir) entries n (subst (λ (ns : List Naming). Contains ns n) are within) in
      (of.0, record { entries = entries; dotdot = dotdot; whole = whole; there = of.1 }, of.2)
  own_origin dir own n (inr (none, are)) within = absurd (in_none n (subst (λ (ns : List Naming). Contains ns n) are within))

  -- each stands in a whole directory that is one of these
  origin : (dirs : List ℕ) (namings : List Naming) (n : Naming) → AreNamingsIn g m image dirs namings → Contains namings n
      → (dir : ℕ) × Contains dirs dir × IsOrigin dir n
  origin [] namings n are within = absurd (in_none n (subst (λ (ns : List Naming). Contains ns n) are within))
  origin (dir ∷ dirs) namings n (own, rest, of_dir, of_rest, are) within =
      elim (Contains-append_cases own rest n (subst (λ (ns : List Naming). Contains ns n) are within)) [
        | inl here ↦ (dir, at_front dir dirs, own_origin dir own n of_dir here)
        | inr behind ↦ let found = origin dirs rest n of_rest behind in (found.0, behind_front dir found.0 dirs found.1, found.2)
      ]

  own_among : (dir : ℕ) (own : List Naming) (entry : Entry) → AreNamingsOf g m image dir own → IsEntryIn g m image dir entry
      → Contains own (naming_of dir entry)
  own_among dir own entry (inl (entries, dotdot, whole, are)) is =
      let same = one_list g image dir is.entries entries is.dotdot dotdot is.whole.holds whole.holds in
      let there : Contains entries entry = subst (λ (es : List Entry). Contains es entry) same.0 is.there in
      subst (λ (ns : List Naming). Contains ns (naming_of dir entry)) (sym are) (in_map (naming_of dir) entries entry there)
  own_among dir own entry (inr (none, are)) is = absurd (none is.entries is.dotdot is.whole)

  -- and each entry of a whole directory that is one of these is among them
  among : (dirs : List ℕ) (namings : List Naming) (dir : ℕ) (entry : Entry) → AreNamingsIn g m image dirs namings → Contains dirs dir
      → IsEntryIn g m image dir entry → Contains namings (naming_of dir entry)
  among [] namings dir entry are within is = absurd (in_none dir within)
  among (first ∷ dirs) namings dir entry (own, rest, of_first, of_rest, are) within is =
      subst (λ (ns : List Naming). Contains ns (naming_of dir entry)) (sym are)
      (elim (front_or_behind first dir dirs within) [
        | inl same ↦
            let of_dir : AreNamingsOf g m image dir own = subst (λ (d : ℕ). AreNamingsOf g m image d own) same of_first in
            Contains-append_left own rest (naming_of dir entry) (own_among dir own entry of_dir is)
        | inr behind ↦ Contains-append_right own rest (naming_of dir entry) (among dirs rest dir entry of_rest behind is)
      ])

-- ---- keys

-- a live directory has an entry that names an inode
pub record HasEntry (g : Geometry) (m : Manifest) (image : List ℕ) (dir : ℕ) (name : List ℕ) (ino : ℕ) : Type 0 where
  pub live : IsLive g m dir
  pub entry : Entry
  pub is : IsEntryIn g m image dir entry
  pub name_is : entry.name ≡ name
  pub ino_is : entry.ino ≡ ino

module _ (g : Geometry) (m : Manifest) (image : List ℕ) (s : NameSpace) (means : Means g m image s) where
  -- an entry of the image is a key
  pub key_of : (n : Naming) → Contains means.namings n → s.entries n.dir n.name ≡ Some n.ino
  key_of n within =
      (means.entries n.dir n.name n.ino).1 (within.0, n, within.1, within.2, record { dir_is = refl; name_is = refl; ino_is = refl })

  pub naming_of_key : (dir : ℕ) (name : List ℕ) (ino : ℕ) → s.entries dir name ≡ Some ino
      → (n : Naming) × Contains means.namings n × IsNamedBy dir name ino n
  naming_of_key dir name ino is = let any = (means.entries dir name ino).0 is in (any.1, (any.0, any.2, any.3), any.4)

  pub entry_key : (dir : ℕ) (entry : Entry) → IsLive g m dir → IsEntryIn g m image dir entry → s.entries dir entry.name ≡ Some entry.ino
  entry_key dir entry live is =
      let contents = means.sound.0 in
      let turn : List Naming = contents.namings_in_turn in
      let within = among g m image means.inodes turn dir entry contents.are_namings ((contents.are_live.each dir).1 live) is in
      key_of (naming_of dir entry) (Contains-permutation turn means.namings (naming_of dir entry) contents.same_namings within)

  -- an entry of the image stands in a live directory
  pub has_entry : (n : Naming) → Contains means.namings n → HasEntry g m image n.dir n.name n.ino
  has_entry n within =
      let contents = means.sound.0 in
      let turn : List Naming = contents.namings_in_turn in
      let in_turn = Contains-permutation means.namings turn n (IsPermutation-sym turn means.namings contents.same_namings) within in
      let found = origin g m image means.inodes turn n contents.are_namings in_turn in
      let dir : ℕ = found.0 in
      let entry : Entry = found.2.0 in
      let same : naming_of dir entry ≡ n = found.2.2 in
      let there : HasEntry g m image dir entry.name entry.ino = record {
        live = (contents.are_live.each dir).0 found.1;
        entry = entry;
        is = found.2.1;
        name_is = refl;
        ino_is = refl;
      } in
      subst (λ (k : Naming). HasEntry g m image k.dir k.name k.ino) same there

  pub key_entry : (dir : ℕ) (name : List ℕ) (ino : ℕ) → s.entries dir name ≡ Some ino → HasEntry g m image dir name ino
  key_entry dir name ino is =
      let named = naming_of_key dir name ino is in
      let there = has_entry named.0 named.1 in
      subst (λ (i : ℕ). HasEntry g m image dir name i) named.2.ino_is
      (subst (λ (k : List ℕ). HasEntry g m image dir k named.0.ino) named.2.name_is
      (subst (λ (d : ℕ). HasEntry g m image d named.0.name named.0.ino) named.2.dir_is there))
