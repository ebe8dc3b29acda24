-- An accepted image has a map of its names, and it is that of its name space.
use Rattle.std.proofs.Common.{◌≡◌, ◌≢◌, ℕ, List, get_or, Option, Some, None, refl, sym, ap, subst, ◌∙◌}
use Rattle.std.specs.Prelude.{All, Contains}
use Rattle.std.proofs.lemmas.List.Elements.{All-contains, Contains-get_or}
use Rattle.xn_bytes.specs.declared.kind.Kind.{Kind}
use Rattle.xn_bytes.specs.declared.kind.Kind.TheVariants.{Dir}
use Rattle.xn_bytes.specs.Superblock.{Geometry}
use Rattle.xn_bytes.specs.Entries.{Entry}
use Rattle.xn_bytes.specs.DirectoryHolds.{DirHolds}
use Rattle.xn_meaning.specs.Manifests.{Manifest}
use Rattle.xn_meaning.specs.NameSpace.{Place}
use Rattle.xn_meaning.specs.NameSpaces.{Inode, NameSpace, with_kind, place_in, names_of}
use Rattle.xn_meaning.specs.Reading.{HasMap, HaveName, IsDirectoryIn}
use Rattle.xn_rules.specs.Namings.{IsRightEntry}
use Rattle.xn_rules.specs.Means.{Means}
use Rattle.xn_verdicts.proofs.OneList.{one_list}
use Rattle.xn_replies.proofs.Standing.{stands, inode_there, directory_in, as_directory}
use Rattle.xn_replies.proofs.Named.{IsEntryIn, entry_key, key_entry}

-- ---- places

-- A key leads to the inode of a place, and the name space knows it, with this kind.
record IsKnown (s : NameSpace) (key : Option ℕ) (place : Place) : Type 0 where
  inode : Inode
  named : key ≡ Some place.ino
  known : s.live place.ino ≡ Some inode
  kind : inode.kind ≡ place.kind

-- the place of an inode of this kind
abbrev place_of : ℕ → Kind → Place
place_of ino kind = record { ino = ino; kind = kind }

known_by : (s : NameSpace) (ino : ℕ) (o : Option Inode) (place : Place) → s.live ino ≡ o → with_kind ino o ≡ Some place
    → IsKnown s (Some ino) place
known_by s ino None place is found = absurd cc
known_by s ino (Some inode) place is found =
    let same : place_of ino inode.kind ≡ place = cc in
    subst (λ (p : Place). IsKnown s (Some ino) p) same (record { inode = inode; named = refl; known = is; kind = refl })

known : (s : NameSpace) (key : Option ℕ) (place : Place) → place_in s key ≡ Some place → IsKnown s key place
known s None place found = absurd cc
known s (Some ino) place found = known_by s ino (s.live ino) place refl found

placed : (s : NameSpace) (key : Option ℕ) (ino : ℕ) (inode : Inode) → key ≡ Some ino → s.live ino ≡ Some inode
    → place_in s key ≡ Some (place_of ino inode.kind)
placed s key ino inode named live = ap (place_in s) named ∙ ap (with_kind ino) live

-- an entry of this name that stands for a place
abbrev entry_at : List ℕ → Place → ℕ → Entry
entry_at name place position = record { name = name; ino = place.ino; kind = place.kind; position = position }

module _ (g : Geometry) (m : Manifest) (image : List ℕ) (s : NameSpace) (means : Means g m image s) where
  -- what the name of an entry stands for is what the entry says
  entry_place : (dir : ℕ) (entry : Entry) → IsDirectoryIn g m image dir → IsEntryIn g m image dir entry
      → names_of s dir entry.name ≡ Some (place_of entry.ino entry.kind)
  entry_place dir entry directory is =
      let right = All-contains (IsRightEntry g m image) is.entries entry is.whole.right is.there in
      let own = (stands g m image s means entry.ino right.live).own in
      let there = inode_there g m image s means entry.ino right.live in
      let kind : there.0.kind ≡ entry.kind = let said = there.2.kind in let is_kind = right.kind own.core own.forks in cc in
      placed s (s.entries dir entry.name) entry.ino there.0 (entry_key g m image s means dir entry directory.sound.live is) there.1
      ∙ ap (λ (k : Kind). Some (place_of entry.ino k)) kind

  -- ---- the names of a directory

  -- where the name stands for nothing no entry has it, and where it stands for a place one has it that says so
  has_none : (dir : ℕ) (entries : List Entry) (dotdot : ℕ) (name : List ℕ) → IsDirectoryIn g m image dir
      → DirHolds g image dir entries dotdot → names_of s dir name ≡ None → All (λ (e : Entry). e.name ≢ name) entries
  has_none dir entries dotdot name directory holds none k d below same =
      let whole = as_directory g m image s means dir directory in
      let entry : Entry = get_or entries k d in
      let lists = one_list g image dir entries whole.entries dotdot whole.dotdot holds whole.whole.holds in
      let is : IsEntryIn g m image dir entry = record {
        entries = whole.entries;
        dotdot = whole.dotdot;
        whole = whole.whole;
        there = subst (λ (es : List Entry). Contains es entry) lists.0 (Contains-get_or entries k d below);
      } in
      let found = entry_place dir entry directory is in
      let lost : names_of s dir entry.name ≡ None = ap (names_of s dir) same ∙ none in
      absurd cc

  has_some : (dir : ℕ) (entries : List Entry) (dotdot : ℕ) (name : List ℕ) (place : Place) → IsDirectoryIn g m image dir
      → DirHolds g image dir entries dotdot → names_of s dir name ≡ Some place → HaveName name entries (Some place)
  has_some dir entries dotdot name place directory holds found =
      let one = key_entry g m image s means dir name place.ino (known s (s.entries dir name) place found).named in
      let entry : Entry = one.entry in
      let own : Place = place_of entry.ino entry.kind in
      let said : names_of s dir name ≡ Some own = ap (names_of s dir) (sym one.name_is) ∙ entry_place dir entry directory one.is in
      let same : own ≡ place = cc in
      let lists = one_list g image dir one.is.entries entries one.is.dotdot dotdot one.is.whole.holds holds in
      let there : Contains entries (entry_at entry.name own entry.position) =
      subst (λ (es : List Entry). Contains es entry) lists.0 one.is.there in (
        entry.position,
        subst (λ (p : Place). Contains entries (entry_at name p entry.position)) same
            (subst (λ (n : List ℕ). Contains entries (entry_at n own entry.position)) one.name_is there),
      )

  has_name : (dir : ℕ) (entries : List Entry) (dotdot : ℕ) (name : List ℕ) (found : Option Place) → IsDirectoryIn g m image dir
      → DirHolds g image dir entries dotdot → names_of s dir name ≡ found → HaveName name entries found
  has_name dir entries dotdot name None directory holds is = has_none dir entries dotdot name directory holds is
  has_name dir entries dotdot name (Some place) directory holds is = has_some dir entries dotdot name place directory holds is

  -- ---- the map

  root_there : IsDirectoryIn g m image g.root
  root_there = directory_in g m image s means g.root means.sound.1.live means.sound.1.directory

  named_directory : (dir : ℕ) (name : List ℕ) (place : Place) → names_of s dir name ≡ Some place → place.kind ≡ Dir
      → IsDirectoryIn g m image place.ino
  named_directory dir name place found is =
      let of = known s (s.entries dir name) place found in
      let there = (means.live place.ino of.inode).0 of.known in
      directory_in g m image s means place.ino there.0 (there.1.kind ∙ ap (λ (k : Kind). Some k) (of.kind ∙ is))

  pub has_map : HasMap g m image (names_of s)
  has_map = record {
    root = root_there;
    named = named_directory;
    holds = λ dir directory. let d = as_directory g m image s means dir directory in (d.entries, d.dotdot, d.whole.holds, d.whole.names);
    says = λ dir directory entries dotdot holds name. has_name dir entries dotdot name (names_of s dir name) directory holds refl;
  }
