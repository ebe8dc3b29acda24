-- An image that is accepted means the name space of its live inodes and its entries.
use Rattle.std.proofs.Common.{◌≡◌, ◌↔◌, ℕ, List, Some, refl}
use Rattle.xn_bytes.specs.Superblock.{Geometry}
use Rattle.xn_bytes.specs.Inode.{inode_of}
use Rattle.xn_bytes.specs.Extents.{Run}
use Rattle.xn_meaning.specs.Manifests.{Manifest, IsLive}
use Rattle.xn_meaning.specs.NameSpaces.{Inode, NameSpace}
use Rattle.xn_rules.specs.Namings.{Naming}
use Rattle.xn_rules.specs.Sound.{Sound}
use Rattle.xn_rules.specs.Means.{Means, SaysInode}
use Rattle.xn_means.proofs.WholeEntries.{is_entry, one_naming}
use Rattle.xn_means.proofs.Lookups.{AreOneEach, live_in, named_in, in_live, in_named, of_live, of_named}

-- what is looked up in them
abbrev space_of : Geometry → List ℕ → List ℕ → List Naming → NameSpace
space_of g image live namings = record {
  root = g.root;
  live = live_in g image live;
  entries = named_in namings;
}

module _ (g : Geometry) (m : Manifest) (image live : List ℕ) (namings : List Naming) (runs : List Run)
    (sound : Sound g m image live namings runs) where
  -- what is found live is live, by what its bytes say
  is_live : (ino : ℕ) (inode : Inode) → (live_in g image live ino ≡ Some inode) ↔ (IsLive g m ino × SaysInode (inode_of g image ino) inode)
  is_live ino inode = (
    λ is. let found = of_live g image live ino inode is in ((sound.0.are_live.each ino).0 found.0, found.1),
    λ says. in_live g image live ino inode ((sound.0.are_live.each ino).1 says.0) says.1,
  )

  -- a name in a directory has one entry
  one_each : AreOneEach namings
  one_each a b in_a in_b same_dir same_name =
      let of_a = is_entry g m image live namings runs a sound.0 in_a in
      let of_b = is_entry g m image live namings runs b sound.0 in_b in
      one_naming g m image a b of_a of_b same_dir same_name

  pub means_space : (s : NameSpace) × Means g m image s
  means_space = (
    space_of g image live namings,
    record {
      inodes = live;
      namings = namings;
      runs = runs;
      sound = sound;
      root = refl;
      live = is_live;
      entries = λ dir name ino. (of_named namings dir name ino, in_named namings dir name ino one_each);
    },
  )
