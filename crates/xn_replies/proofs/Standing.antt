-- What stands of the live inodes of an accepted image: they are those of the name space, no rule of their own is broken, and each
-- directory is whole.
use Rattle.std.proofs.Common.{◌≡◌, ℕ, List, Option, Some, None, refl, inl, inr}
use Rattle.std.specs.Prelude.{IsSome}
use Rattle.std.proofs.lemmas.List.Elements.{All-contains}
use Rattle.xn_bytes.specs.Numbers.{number_at}
use Rattle.xn_bytes.specs.Superblock.{Geometry}
use Rattle.xn_bytes.specs.Inode.{inode_of}
use Rattle.xn_bytes.specs.DirectoryRules.{DirBreaks, DirFails}
use Rattle.xn_meaning.specs.Manifests.{Manifest, IsLive}
use Rattle.xn_meaning.specs.NameSpaces.{Inode, NameSpace, IsDirectoryOf}
use Rattle.xn_meaning.specs.Reading.{IsSound, IsDirectoryIn, BreaksCore}
use Rattle.xn_rules.specs.InodeRules.{IsOfDirectory}
use Rattle.xn_rules.specs.NameRules.{Stands, StandsAsDirectory}
use Rattle.xn_rules.specs.Means.{Means, SaysInode}
use Rattle.xn_verdicts.proofs.OneRule.{holds_or_breaks}
use Rattle.xn_replies.proofs.NoFault.{holds_or_fails}

some_there : {X : Type 0} (o : Option X) → IsSome o → (x : X) × (o ≡ Some x)
some_there None is = absurd cc
some_there (Some x) is = (x, refl)

none_there : {X : Type 0} (o : Option X) → ((x : X) → o ≡ Some x → ⊥) → o ≡ None
none_there None never = refl
none_there (Some x) never = absurd (never x refl)

module _ (g : Geometry) (m : Manifest) (image : List ℕ) (s : NameSpace) (means : Means g m image s) where
  pub stands : (ino : ℕ) → IsLive g m ino → Stands g m image means.namings ino
  stands ino live = All-contains (Stands g m image means.namings) means.inodes ino means.sound.3 ((means.sound.0.are_live.each ino).1 live)

  sound_there : (ino : ℕ) → IsLive g m ino → IsSound g m (inode_of g image ino) ino
  sound_there ino live = let own = (stands ino live).own in record { live = live; core = own.core; forks = own.forks }

  pub no_core_fault : (ino rule : ℕ) → BreaksCore g m (inode_of g image ino) ino rule → ⊥
  no_core_fault ino rule breaks =
      let own = (stands ino breaks.live).own in elim breaks.which [ inl core ↦ core.1 own.core | inr forks ↦ forks.2 own.forks ]

  -- ---- inodes of the name space

  -- a live inode is one of the name space, with what its bytes say
  pub inode_there : (ino : ℕ) → IsLive g m ino → (inode : Inode) × (s.live ino ≡ Some inode) × SaysInode (inode_of g image ino) inode
  inode_there ino live =
      let kind = some_there _ (stands ino live).own.forks.forks.kind in
      let inode : Inode = record { kind = kind.0; generation = number_at 4 92 (inode_of g image ino) } in
      let says : SaysInode (inode_of g image ino) inode = record { kind = kind.1; generation = refl } in
      (inode, (means.live ino inode).1 (live, says), says)

  -- and what isn't live is none
  pub none_live : (ino : ℕ) → ¬ IsLive g m ino → s.live ino ≡ None
  none_live ino dead = none_there (s.live ino) (λ inode is. dead ((means.live ino inode).0 is).0)

  -- ---- directories

  pub directory_of : (ino : ℕ) → IsDirectoryIn g m image ino → IsDirectoryOf s ino
  directory_of ino directory =
      let there = inode_there ino directory.sound.live in
      (there.0, there.1, let said = there.2.kind in let is = directory.kind in cc)

  pub directory_in : (ino : ℕ) → IsLive g m ino → IsOfDirectory (inode_of g image ino) → IsDirectoryIn g m image ino
  directory_in ino live is = record { sound = sound_there ino live; kind = is }

  pub as_directory : (dir : ℕ) → IsDirectoryIn g m image dir → StandsAsDirectory g m image means.namings dir
  as_directory dir directory = (stands dir directory.sound.live).directory directory.kind

  pub no_breaks : (dir rule block : ℕ) → IsDirectoryIn g m image dir → DirBreaks g image dir rule block → ⊥
  no_breaks dir rule block directory =
      let d = as_directory dir directory in
      holds_or_breaks g image dir d.entries d.dotdot rule block d.whole.inode d.whole.holds d.whole.names

  pub no_fails : (dir rule block : ℕ) → IsDirectoryIn g m image dir → DirFails g image dir rule block → ⊥
  no_fails dir rule block directory =
      let d = as_directory dir directory in
      holds_or_fails g image dir d.entries d.dotdot rule block d.whole.inode d.whole.holds d.whole.names
