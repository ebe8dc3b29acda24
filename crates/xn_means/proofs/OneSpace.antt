-- What an image means is one name space: each part of it is said by the image alone.
use Rattle.std.proofs.Common.{◌≡◌, ℕ, List, Some, sym, ◌∙◌}
use Rattle.std.specs.Prelude.{Any}
use Rattle.xn_bytes.specs.Superblock.{Geometry}
use Rattle.xn_meaning.specs.Manifests.{Manifest}
use Rattle.xn_meaning.specs.NameSpaces.{AreOneSpace, Inode, NameSpace}
use Rattle.xn_rules.specs.Namings.{Naming}
use Rattle.xn_rules.specs.Means.{IsNamedBy, Means}
use Rattle.xn_means.proofs.Single.{one_option}
use Rattle.xn_means.proofs.WholeEntries.{is_entry, is_told}

module _ (g : Geometry) (m : Manifest) (image : List ℕ) where
  -- what one of them has live, the other has
  same_live : (s t : NameSpace) → Means g m image s → Means g m image t → (ino : ℕ) (inode : Inode)
      → s.live ino ≡ Some inode → t.live ino ≡ Some inode
  same_live s t means also ino inode is = (also.live ino inode).1 ((means.live ino inode).0 is)

  -- some entry that is told for one of them is told for the other
  same_told : (P : Naming → Type 0) (s t : NameSpace) (means : Means g m image s) (also : Means g m image t) → Any P means.namings
      → Any P also.namings
  same_told P s t means also (k, n, below, is, holds) =
      let e = is_entry g m image means.inodes means.namings means.runs n means.sound.0 (k, below, is) in
      let there = is_told g m image also.inodes also.namings also.runs n also.sound.0 e in
      (there.0, n, there.1, there.2, holds)

  -- so what one of them names, the other names
  same_names : (s t : NameSpace) → Means g m image s → Means g m image t → (dir : ℕ) (name : List ℕ) (ino : ℕ)
      → s.entries dir name ≡ Some ino → t.entries dir name ≡ Some ino
  same_names s t means also dir name ino is =
      (also.entries dir name ino).1 (same_told (IsNamedBy dir name ino) s t means also ((means.entries dir name ino).0 is))

  pub one_space : (s t : NameSpace) → Means g m image s → Means g m image t → AreOneSpace s t
  one_space s t means also = record {
    root = means.root ∙ sym also.root;
    live = λ ino. one_option (s.live ino) (t.live ino)
        (λ inode. (same_live s t means also ino inode, same_live t s also means ino inode));
    entries = λ dir name. one_option (s.entries dir name) (t.entries dir name)
        (λ ino. (same_names s t means also dir name ino, same_names t s also means dir name ino));
  }
