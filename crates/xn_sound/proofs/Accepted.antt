-- Of an image that is accepted no rule is told.
use Rattle.std.proofs.Common.{ℕ, List, subst, inl, inr}
use Rattle.std.specs.Prelude.{Contains}
use Rattle.std.proofs.lemmas.List.Elements.{All-contains}
use Rattle.std.proofs.lemmas.List.Sorted.{IsPermutation-sym}
use Rattle.xn_bytes.specs.Superblock.{Geometry}
use Rattle.xn_bytes.specs.Extents.{Run}
use Rattle.xn_meaning.specs.Manifests.{Manifest}
use Rattle.xn_rules.specs.NameRules.{Stands}
use Rattle.xn_rules.specs.Namings.{Naming}
use Rattle.xn_rules.specs.Sound.{Contents, FirstBroken, HasRightRoot, IsFirstInode, MapOnce, Sound}
use Rattle.xn_sound.proofs.Moved.{BreaksRule-moved, HasRightRoot-moved, MapOnce-moved}
use Rattle.xn_sound.proofs.OneContents.{same_live, same_namings, same_runs}
use Rattle.xn_sound.proofs.Standing.{breaks_nothing}

module _ (g : Geometry) (m : Manifest) (image : List ℕ) where
  -- rules 5 and 9 hold of the same contents
  pub root_there : (live others : List ℕ) (xs ys : List Naming) (runs more : List Run) → Contents g m image live xs runs
      → Contents g m image others ys more → HasRightRoot g m image xs → HasRightRoot g m image ys
  root_there live others xs ys runs more one other root =
      HasRightRoot-moved g m image xs ys (same_namings g m image live others xs ys runs more one other) root

  pub once_there : (live others : List ℕ) (xs ys : List Naming) (runs more : List Run) → Contents g m image live xs runs
      → Contents g m image others ys more → MapOnce live runs → MapOnce others more
  once_there live others xs ys runs more one other once =
      subst (λ (inodes : List ℕ). MapOnce inodes more) (same_live g m image live others xs ys runs more one other)
      (MapOnce-moved live runs more (same_runs g m image live others xs ys runs more one other) once)

  -- no live inode breaks a rule
  none_first : (live others : List ℕ) (xs ys : List Naming) (runs more : List Run) (rule inode block : ℕ) → Sound g m image live xs runs
      → Contents g m image others ys more → IsFirstInode g m image ys rule inode block → ⊥
  none_first live others xs ys runs more rule inode block (one, root, once, stand) other first =
      let among : Contains live inode = (one.are_live.each inode).1 first.live in
      let moved = IsPermutation-sym xs ys (same_namings g m image live others xs ys runs more one other) in
      breaks_nothing g m image xs inode (All-contains (Stands g m image xs) live inode stand among) rule block
      (BreaksRule-moved g m image ys xs moved inode rule block first.breaks)

  pub none_broken : (live : List ℕ) (xs : List Naming) (runs : List Run) (rule inode block : ℕ) → Sound g m image live xs runs
      → FirstBroken g m image rule inode block → ⊥
  none_broken live xs runs rule inode block (one, root, once, stand) (others, ys, more, other, inl (is, none, at, wrong)) =
      wrong (root_there live others xs ys runs more one other root)
  none_broken live xs runs rule inode block (one, root, once, stand) (others, ys, more, other, inr (right, inl (is, none, at, wrong))) =
      wrong (once_there live others xs ys runs more one other once)
  none_broken live xs runs rule inode block sound (others, ys, more, other, inr (right, inr (mapped, first))) =
      none_first live others xs ys runs more rule inode block sound other first
