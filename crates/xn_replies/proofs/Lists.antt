-- What is listed of an inode of an accepted image is that of the name space.
use Rattle.std.proofs.Common.{◌≡◌, ◌⊎◌, ℕ, List, [], ◌∷◌, map, Some, refl, sym, ap, subst, ◌∙◌, inl, inr, arith, eq-eqb}
use Rattle.std.specs.Prelude.{◌≢◌, ◌==◌, Contains}
use Rattle.std.proofs.lemmas.Bool.{eqb-true}
use Rattle.xn_bytes.specs.declared.kind.Kind.{Kind}
use Rattle.xn_bytes.specs.Superblock.{Geometry}
use Rattle.xn_bytes.specs.Numbers.{number_at}
use Rattle.xn_bytes.specs.Inode.{inode_of}
use Rattle.xn_meaning.specs.declared.errno.Errno.TheVariants.{ENOENT, ENOTDIR}
use Rattle.xn_meaning.specs.Manifests.{Manifest, IsLive}
use Rattle.xn_meaning.specs.Replies.{Reply, ListOf, ErrorOf, line_of}
use Rattle.xn_meaning.specs.NameSpace.{End, Says}
use Rattle.xn_meaning.specs.NameSpaces.{NameSpace, IsDetachedOf, ListsOf, names_of}
use Rattle.xn_meaning.specs.Reading.{IsNoDirectory, IsDetached, IsAttached, ListsDirectory, ListEnds}
use Rattle.xn_rules.specs.Namings.{Naming, naming}
use Rattle.xn_rules.specs.NameRules.{IsUnnamed, HasDirectoryLinks}
use Rattle.xn_rules.specs.Means.{Means}
use Rattle.xn_dir.proofs.Members.{at_front, in_none, in_filter, of_filter}
use Rattle.xn_ns.proofs.MapLists.{lines_of_the_map}
use Rattle.xn_replies.proofs.Standing.{inode_there, none_live, no_core_fault, directory_of, as_directory, no_breaks}
use Rattle.xn_replies.proofs.Named.{key_of, naming_of_key}
use Rattle.xn_replies.proofs.OfMap.{has_map}

-- ---- detached directories

nothing_there : {X : Type 0} (xs : List X) → ((x : X) → Contains xs x → ⊥) → xs ≡ []
nothing_there [] none = refl
nothing_there (x ∷ xs) none = absurd (none x (at_front x xs))

-- no link, where no entry names the directory
no_links : (g : Geometry) (namings : List Naming) (dir links : ℕ) → HasDirectoryLinks g namings dir links → links ≡ 0
    → IsUnnamed g namings dir
no_links g namings dir links (inl unnamed) none = unnamed.0
no_links g namings dir links (inr named) none = absurd (let some = named.1 in omega (arith, some, none))

some_links : (g : Geometry) (namings : List Naming) (dir links : ℕ) → HasDirectoryLinks g namings dir links → links ≢ 0
    → IsUnnamed g namings dir → ⊥
some_links g namings dir links (inl none) some unnamed = some none.1
some_links g namings dir links (inr named) some unnamed = named.0 unnamed

-- what comes of an end is a reply, which this holds of
abbrev IsReply : End → (Reply → Type 0) → Type 0
IsReply end Answers = (reply : Reply) × (end ≡ Says reply) × Answers reply

module _ (g : Geometry) (m : Manifest) (image : List ℕ) (s : NameSpace) (means : Means g m image s) where
  -- an inode is named by no entry exactly where no key names it
  no_key : (dir : ℕ) → naming dir means.namings ≡ [] → (above : ℕ) (name : List ℕ) → s.entries above name ≢ Some dir
  no_key dir none above name is =
      let named = naming_of_key g m image s means above name dir is in
      let within = in_filter (λ (n : Naming). n.ino == dir) means.namings named.0 (eq-eqb named.0.ino dir named.2.ino_is) named.1 in
      in_none named.0 (subst (λ (ns : List Naming). Contains ns named.0) none within)

  no_entry : (dir : ℕ) → ((above : ℕ) (name : List ℕ) → s.entries above name ≢ Some dir) → naming dir means.namings ≡ []
  no_entry dir none =
      nothing_there (naming dir means.namings)
      (λ n within.
      let of = of_filter (λ (k : Naming). k.ino == dir) means.namings n within in
      none n.dir n.name (key_of g m image s means n of.0 ∙ ap (λ (i : ℕ). Some i) (eqb-true n.ino dir of.1)))

  detached_of : (dir : ℕ) → IsDetached g m (inode_of g image dir) dir → IsDetachedOf s dir
  detached_of dir detached =
      let links = (as_directory g m image s means dir detached.directory).links in
      let unnamed = no_links g means.namings dir (number_at 4 16 (inode_of g image dir)) links detached.no_link in
      record {
        directory = directory_of g m image s means dir detached.directory;
        not_root = λ is. detached.not_root (is ∙ means.root);
        unnamed = no_key dir unnamed.none;
      }

  attached_of : (dir : ℕ) → IsAttached g m (inode_of g image dir) dir → ¬ IsDetachedOf s dir
  attached_of dir attached detached =
      let links = (as_directory g m image s means dir attached.directory).links in
      let not_root : dir ≢ g.root = λ is. detached.not_root (is ∙ sym means.root) in
      let unnamed : IsUnnamed g means.namings dir = record { not_root = not_root; none = no_entry dir detached.unnamed } in
      elim attached.place [
        | inl is ↦ not_root is
        | inr some ↦ some_links g means.namings dir (number_at 4 16 (inode_of g image dir)) links some unnamed
      ]

  -- ---- the reply

  gone : (ino : ℕ) → ¬ IsLive g m ino ⊎ IsDetached g m (inode_of g image ino) ino → ListsOf s ino (ErrorOf ENOENT)
  gone ino (inl dead) = inl (refl, inl (none_live g m image s means ino dead))
  gone ino (inr detached) = inl (refl, inr (detached_of ino detached))

  no_directory : (ino : ℕ) → IsNoDirectory g m (inode_of g image ino) ino → ListsOf s ino (ErrorOf ENOTDIR)
  no_directory ino other =
      let there = inode_there g m image s means ino other.sound.live in
      inr (inl (refl, (there.0, there.1, λ is. other.kind (there.2.kind ∙ ap (λ (k : Kind). Some k) is))))

  listed : (ino : ℕ) (end : End) → IsAttached g m (inode_of g image ino) ino → ListsDirectory g ino image end → IsReply end (ListsOf s ino)
  listed ino end attached (inl (rule, block, is, breaks)) = absurd (no_breaks g m image s means ino rule block attached.directory breaks)
  listed ino end attached (inr (sorted, is, lists)) = (
    ListOf (map line_of sorted),
    is,
    inr (inr (
      map line_of sorted,
      refl,
      directory_of g m image s means ino attached.directory,
      attached_of ino attached,
      lines_of_the_map g m image (names_of s) ino sorted (has_map g m image s means) attached.directory lists,
    )),
  )

  pub list_of_the_name_space : (ino : ℕ) (end : End) → ListEnds g m ino image end → IsReply end (ListsOf s ino)
  list_of_the_name_space ino end (inl (is, none)) = (ErrorOf ENOENT, is, gone ino none)
  list_of_the_name_space ino end (inr (inl (rule, is, breaks))) = absurd (no_core_fault g m image s means ino rule breaks)
  list_of_the_name_space ino end (inr (inr (inl (is, other)))) = (ErrorOf ENOTDIR, is, no_directory ino other)
  list_of_the_name_space ino end (inr (inr (inr (attached, lists)))) = listed ino end attached lists
