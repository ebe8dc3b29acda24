-- What an image means is a name space.
use Rattle.std.proofs.Common.{◌≡◌, ◌≢◌, ℕ, List, [], ◌∷◌, map, Option, Some, None, refl, sym, ap, subst, ◌∙◌, inl, inr}
use Rattle.std.specs.Prelude.{◌⊎◌, Any, Contains, IsSome}
use Rattle.std.proofs.lemmas.List.{length-map}
use Rattle.std.proofs.lemmas.List.Elements.{All-contains}
use Rattle.xn_bytes.specs.declared.kind.Kind.{Kind}
use Rattle.xn_bytes.specs.declared.kind.Kind.TheVariants.{Dir}
use Rattle.xn_bytes.specs.Numbers.{number_at}
use Rattle.xn_bytes.specs.Names.{IsName}
use Rattle.xn_bytes.specs.Kinds.{kind_of_mode}
use Rattle.xn_bytes.specs.Superblock.{Geometry}
use Rattle.xn_bytes.specs.Inode.{inode_of}
use Rattle.xn_bytes.specs.Entries.{Entry}
use Rattle.xn_meaning.specs.Manifests.{Manifest, IsLive}
use Rattle.xn_meaning.specs.NameSpaces.{Inode, IsDetachedOf, IsDirectoryOf, IsNameSpace, NamesLead, NameSpace}
use Rattle.xn_rules.specs.InodeRules.{IsOfDirectory}
use Rattle.xn_rules.specs.Namings.{IsRightEntry, Leads, Naming, standing_in}
use Rattle.xn_rules.specs.NameRules.{HasPlaceInTree, IsUnnamed, Stands}
use Rattle.xn_rules.specs.Means.{IsNamedBy, Means, SaysInode}
use Rattle.xn_dir.proofs.Members.{in_map}
use Rattle.xn_means.proofs.WholeEntries.{IsEntryIn, in_dir, has_name, is_entry}
use Rattle.xn_means.proofs.Places.{named_once, none_named, none_standing, root_unnamed}

-- bytes that say a kind say an inode
inode_said : (bytes : List ℕ) (kind : Option Kind) → kind_of_mode (number_at 2 2 bytes) ≡ kind → IsSome kind
    → (inode : Inode) × SaysInode bytes inode
inode_said bytes None is some = absurd cc
inode_said bytes (Some kind) is some =
    let inode : Inode = record { kind = kind; generation = number_at 4 92 bytes } in
    (inode, record { kind = is; generation = refl })

-- the key of an entry
abbrev key : Naming → ℕ × List ℕ
key n = (n.dir, n.name)

-- entries that lead somewhere are names that do
names_lead : (s : NameSpace) (namings : List Naming)
    → ((dir : ℕ) (name : List ℕ) (ino : ℕ) → Any (IsNamedBy dir name ino) namings → s.entries dir name ≡ Some ino)
    → (from : ℕ) (path : List ℕ) (to : ℕ) → Leads namings from path to → (names : List (List ℕ)) × NamesLead s from names to
names_lead s namings told from [] to same = ([], same)
names_lead s namings told from (next ∷ path) to ((k, n, below, is, step), rest) =
    let on = names_lead s namings told next path to rest in
    let by : IsNamedBy from n.name next n = record { dir_is = step.0; name_is = refl; ino_is = step.1 } in
    (n.name ∷ on.0, (next, told from n.name next (k, n, below, is, by), on.1))

module _ (g : Geometry) (m : Manifest) (image : List ℕ) (s : NameSpace) (means : Means g m image s) where
  -- ---- live inodes

  stands : (ino : ℕ) → IsLive g m ino → Stands g m image means.namings ino
  stands ino live =
      All-contains (Stands g m image means.namings) means.inodes ino means.sound.3 ((means.sound.0.are_live.each ino).1 live)

  is_live : (ino : ℕ) → IsLive g m ino → s.live ino ≢ None
  is_live ino live none =
      let bytes = inode_of g image ino in
      let said = inode_said bytes (kind_of_mode (number_at 2 2 bytes)) refl (stands ino live).own.forks.forks.kind in
      let is : s.live ino ≡ Some said.0 = (means.live ino said.0).1 (live, said.1) in
      absurd cc

  is_among_live : (ino : ℕ) (found : Option Inode) → s.live ino ≡ found → found ≢ None → Contains means.inodes ino
  is_among_live ino None is some = absurd (some refl)
  is_among_live ino (Some inode) is some = (means.sound.0.are_live.each ino).1 ((means.live ino inode).0 is).0

  -- ---- directories

  is_directory : (ino : ℕ) → IsLive g m ino → IsOfDirectory (inode_of g image ino) → IsDirectoryOf s ino
  is_directory ino live kind =
      let inode : Inode = record { kind = Dir; generation = number_at 4 92 (inode_of g image ino) } in
      (inode, (means.live ino inode).1 (live, record { kind = kind; generation = refl }), refl)

  root_directory : IsDirectoryOf s g.root
  root_directory = is_directory g.root means.sound.1.live means.sound.1.directory

  has_place : (ino : ℕ) → IsDirectoryOf s ino → HasPlaceInTree g means.namings ino
  has_place ino (inode, is, kind) =
      let said = (means.live ino inode).0 is in
      ((stands ino said.0).directory (said.1.kind ∙ ap (λ k. Some k) kind)).place

  -- ---- keys

  -- what is named is told, as an entry of the image
  record IsKey (dir : ℕ) (name : List ℕ) (ino : ℕ) : Type 0 where
    n : Naming
    there : Contains means.namings n
    says : IsNamedBy dir name ino n
    is : IsEntryIn g m image n

  key_of : (dir : ℕ) (name : List ℕ) (ino : ℕ) → s.entries dir name ≡ Some ino → IsKey dir name ino
  key_of dir name ino is =
      let any = (means.entries dir name ino).0 is in
      let there : Contains means.namings any.1 = (any.0, any.2, any.3) in
      let entry = is_entry g m image means.inodes means.namings means.runs any.1 means.sound.0 there in
      record { n = any.1; there = there; says = any.4; is = entry }

  -- its directory is one, and its name is a name
  has_key : (dir : ℕ) (name : List ℕ) (ino : ℕ) → IsKey dir name ino → IsDirectoryOf s dir × IsName name
  has_key dir name ino k =
      let e = k.is.of_dir in
      let dirs : k.is.dir ≡ dir = in_dir g m image k.n k.is ∙ k.says.dir_is in
      let names : e.entry.name ≡ name = has_name g m image k.is.dir k.n e ∙ k.says.name_is in
      let directory = is_directory k.is.dir k.is.live e.whole.directory in
      let a_name = All-contains (λ (x : Entry). IsName x.name) e.entries e.entry e.whole.names.names e.there in
      (subst (λ d. IsDirectoryOf s d) dirs directory, subst (λ x. IsName x) names a_name)

  -- and what it names is live
  has_value : (dir : ℕ) (name : List ℕ) (ino : ℕ) → IsKey dir name ino → s.live ino ≢ None
  has_value dir name ino k =
      let e = k.is.of_dir in
      let inos : e.entry.ino ≡ ino = ap (λ (x : Naming). x.ino) e.same ∙ k.says.ino_is in
      let right = All-contains (IsRightEntry g m image) e.entries e.entry e.whole.right e.there in
      is_live ino (subst (λ i. IsLive g m i) inos right.live)

  -- no key names the root
  no_root : (dir : ℕ) (name : List ℕ) → s.entries dir name ≢ Some s.root
  no_root dir name is =
      let k = key_of dir name s.root is in
      root_unnamed g means.namings k.n (has_place g.root root_directory) (k.says.ino_is ∙ means.root) k.there

  -- a directory has one key
  one_key : (dir above : ℕ) (name other : List ℕ) (ino : ℕ) → IsDirectoryOf s ino → IsKey dir name ino → IsKey above other ino
      → (dir ≡ above) × (name ≡ other)
  one_key dir above name other ino directory k l =
      let same : k.n ≡ l.n =
      named_once g means.namings ino k.n l.n (has_place ino directory) k.says.ino_is l.says.ino_is k.there l.there in
      let dirs = ap (λ (n : Naming). n.dir) same in
      let names = ap (λ (n : Naming). n.name) same in
      (sym k.says.dir_is ∙ dirs ∙ l.says.dir_is, sym k.says.name_is ∙ names ∙ l.says.name_is)

  is_among_keys : (dir : ℕ) (name : List ℕ) (found : Option ℕ) → s.entries dir name ≡ found → found ≢ None
      → Contains (map key means.namings) (dir, name)
  is_among_keys dir name None is some = absurd (some refl)
  is_among_keys dir name (Some ino) is some =
      let k = key_of dir name ino is in
      let same : key k.n ≡ (dir, name) = λ i. (k.says.dir_is i, k.says.name_is i) in
      subst (λ pair. Contains (map key means.namings) pair) same (in_map key means.namings k.n k.there)

  -- ---- the tree

  -- a directory in which nothing stands has no key
  no_key : (dir : ℕ) (name : List ℕ) (found : Option ℕ) → standing_in dir means.namings ≡ [] → s.entries dir name ≡ found
      → found ≡ None
  no_key dir name None none is = refl
  no_key dir name (Some ino) none is =
      let k = key_of dir name ino is in
      absurd (none_standing dir means.namings k.n none k.says.dir_is k.there)

  detached : (dir : ℕ) → IsDirectoryOf s dir → IsUnnamed g means.namings dir → IsDetachedOf s dir
  detached dir directory unnamed = record {
    directory = directory;
    not_root = λ root. unnamed.not_root (root ∙ means.root);
    unnamed = λ above name is.
        let k = key_of above name dir is in
        none_named dir means.namings k.n unnamed.none k.says.ino_is k.there;
  }

  in_tree : (dir : ℕ) → IsDirectoryOf s dir → HasPlaceInTree g means.namings dir
      → ((path : List (List ℕ)) × NamesLead s s.root path dir) ⊎ (IsDetachedOf s dir × ((name : List ℕ) → s.entries dir name ≡ None))
  in_tree dir directory (inl (root, none)) = inl ([], means.root ∙ sym root)
  in_tree dir directory (inr (inl (unnamed, none))) =
      inr (detached dir directory unnamed, λ name. no_key dir name (s.entries dir name) none refl)
  in_tree dir directory (inr (inr (other, once, (path, leads)))) =
      let told = λ (above : ℕ) (name : List ℕ) (ino : ℕ). (means.entries above name ino).1 in
      let on = names_lead s means.namings told g.root path dir leads in
      inl (on.0, subst (λ from. NamesLead s from on.0 dir) (sym means.root) on.1)

  -- ---- all of it

  pub is_name_space : IsNameSpace s
  is_name_space = record {
    root = subst (λ r. IsDirectoryOf s r) (sym means.root) root_directory;
    root_unnamed = no_root;
    key = λ dir name ino is. has_key dir name ino (key_of dir name ino is);
    value = λ dir name ino is. has_value dir name ino (key_of dir name ino is);
    once = λ dir above name other ino directory is also.
        one_key dir above name other ino directory (key_of dir name ino is) (key_of above other ino also);
    tree = λ dir directory. in_tree dir directory (has_place dir directory);
    keys = map key means.namings;
    are_keys = λ dir name some. is_among_keys dir name (s.entries dir name) refl some;
    few = rw (length-map means.namings key) means.sound.1.few;
    inodes = means.inodes;
    are_live = λ ino some. is_among_live ino (s.live ino) refl some;
  }
