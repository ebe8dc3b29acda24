-- Of each image the checker answers one thing.
use Rattle.std.proofs.Common.{◌≡◌, ◌⊎◌, ℕ, ◌<◌, ◌≤◌, List, length, refl, sym, ap, subst, ◌∙◌, inl, inr, arith}
use Rattle.std.specs.Prelude.{Contains, IsPermutation}
use Rattle.std.proofs.lemmas.Bool.{cases_lt}
use Rattle.std.proofs.lemmas.List.Sorted.{IsPermutation-sym, length_permutation}
use Rattle.xn_bytes.specs.Superblock.{Geometry}
use Rattle.xn_bytes.specs.Extents.{Run}
use Rattle.xn_meaning.specs.Manifests.{Manifest}
use Rattle.xn_meaning.specs.NameSpace.{End, Breaks, Sums}
use Rattle.xn_meaning.specs.Replies.{Summary}
use Rattle.xn_rules.specs.Checking.{AreFreeBlocks, CheckEnds, IsSummary, directories_among}
use Rattle.xn_rules.specs.NameRules.{BreaksRule}
use Rattle.xn_rules.specs.Namings.{Naming}
use Rattle.xn_rules.specs.Sound.{Contents, FirstBroken, HasRightRoot, IsFirstInode, MapOnce, Maps}
use Rattle.xn_sound.proofs.Accepted.{none_broken, once_there, root_there}
use Rattle.xn_sound.proofs.Moved.{BreaksRule-moved}
use Rattle.xn_sound.proofs.OneContents.{one_rise, same_live, same_namings, same_runs}
use Rattle.xn_sound.proofs.Permuted.{Any-permutation}
use Rattle.xn_sound.proofs.RuleNumbers.{one_block}

-- ---- the first rule that is broken

-- the rule, the inode and the block are those of another verdict
record IsSameBreach (r s i j b c : ℕ) : Type 0 where
  rule : r ≡ s
  inode : i ≡ j
  block : b ≡ c

both_named : (r s i j b c number : ℕ) → (r ≡ number) × (i ≡ 0) × (b ≡ 0) → (s ≡ number) × (j ≡ 0) × (c ≡ 0) → IsSameBreach r s i j b c
both_named r s i j b c number one other = record { rule = one.0 ∙ sym other.0; inode = one.1 ∙ sym other.1; block = one.2 ∙ sym other.2 }

module _ (g : Geometry) (m : Manifest) (image : List ℕ) where
  -- the least inode that breaks a rule is one, and so is the least rule
  not_before : (xs ys : List Naming) (r s i j b c : ℕ) → IsPermutation xs ys → IsFirstInode g m image xs r i b
      → IsFirstInode g m image ys s j c → i < j → ⊥
  not_before xs ys r s i j b c moved one other before =
      other.first i r b before one.live (BreaksRule-moved g m image xs ys moved i r b one.breaks)

  first_at_one : (xs ys : List Naming) (r s i b c : ℕ) → IsPermutation xs ys → IsFirstInode g m image xs r i b
      → IsFirstInode g m image ys s i c → IsSameBreach r s i i b c
  first_at_one xs ys r s i b c moved one other =
      let there : BreaksRule g m image ys i r b = BreaksRule-moved g m image xs ys moved i r b one.breaks in
      let here : BreaksRule g m image xs i s c = BreaksRule-moved g m image ys xs (IsPermutation-sym xs ys moved) i s c other.breaks in
      let high : r ≤ s = one.least s c here in
      let low : s ≤ r = other.least r b there in
      let same : r ≡ s = omega (arith, high, low) in
      record { rule = same; inode = refl; block = one_block g image i m ys r s b c same there other.breaks }

  one_inode : (xs ys : List Naming) (r s i j b c : ℕ) → IsPermutation xs ys → IsFirstInode g m image xs r i b
      → IsFirstInode g m image ys s j c → i ≡ j
  one_inode xs ys r s i j b c moved one other = elim (cases_lt i j) [
    | inl before ↦ absurd (not_before xs ys r s i j b c moved one other before)
    | inr from ↦ elim (cases_lt j i) [
      | inl behind ↦ absurd (not_before ys xs s r j i c b (IsPermutation-sym xs ys moved) other one behind)
      | inr upto ↦ omega (arith, from, upto)
    ]
  ]

  one_first : (xs ys : List Naming) (r s i j b c : ℕ) → IsPermutation xs ys → IsFirstInode g m image xs r i b
      → IsFirstInode g m image ys s j c → IsSameBreach r s i j b c
  one_first xs ys r s i j b c moved one other =
      let same : i ≡ j = one_inode xs ys r s i j b c moved one other in
      let there : IsFirstInode g m image xs r j b = subst (λ (ino : ℕ). IsFirstInode g m image xs r ino b) same one in
      let at_one = first_at_one xs ys r s j b c moved there other in
      record { rule = at_one.rule; inode = same; block = at_one.block }

  -- what is broken first where these are the contents
  abbrev BreaksOf : List ℕ → List Naming → List Run → ℕ → ℕ → ℕ → Type 0
  BreaksOf live namings runs rule inode block =
      ((rule ≡ 5) × (inode ≡ 0) × (block ≡ 0) × (HasRightRoot g m image namings → ⊥))
      ⊎ (HasRightRoot g m image namings
      × (((rule ≡ 9) × (inode ≡ 0) × (block ≡ 0) × (MapOnce live runs → ⊥))
      ⊎ (MapOnce live runs × IsFirstInode g m image namings rule inode block)))

  module _ (live others : List ℕ) (xs ys : List Naming) (runs more : List Run) (one : Contents g m image live xs runs) (other : Contents g m image others ys more) where
    root_to : HasRightRoot g m image xs → HasRightRoot g m image ys
    root_to = root_there g m image live others xs ys runs more one other

    root_from : HasRightRoot g m image ys → HasRightRoot g m image xs
    root_from = root_there g m image others live ys xs more runs other one

    once_to : MapOnce live runs → MapOnce others more
    once_to = once_there g m image live others xs ys runs more one other

    once_from : MapOnce others more → MapOnce live runs
    once_from = once_there g m image others live ys xs more runs other one

    same_breach : (r s i j b c : ℕ) → BreaksOf live xs runs r i b → BreaksOf others ys more s j c → IsSameBreach r s i j b c
    same_breach r s i j b c (inl (is, none, at, wrong)) (inl (too, neither, there, fails)) =
        both_named r s i j b c 5 (is, none, at) (too, neither, there)
    same_breach r s i j b c (inl (is, none, at, wrong)) (inr (root, behind)) = absurd (wrong (root_from root))
    same_breach r s i j b c (inr (root, behind)) (inl (is, none, at, wrong)) = absurd (wrong (root_to root))
    same_breach r s i j b c (inr (root, inl (is, none, at, wrong))) (inr (right, inl (too, neither, there, fails))) =
        both_named r s i j b c 9 (is, none, at) (too, neither, there)
    same_breach r s i j b c (inr (root, inl (is, none, at, wrong))) (inr (right, inr (once, first))) = absurd (wrong (once_from once))
    same_breach r s i j b c (inr (root, inr (once, first))) (inr (right, inl (is, none, at, wrong))) = absurd (wrong (once_to once))
    same_breach r s i j b c (inr (root, inr (once, first))) (inr (right, inr (only, least))) =
        one_first xs ys r s i j b c (same_namings g m image live others xs ys runs more one other) first least

  one_breach : (r s i j b c : ℕ) → FirstBroken g m image r i b → FirstBroken g m image s j c → IsSameBreach r s i j b c
  one_breach r s i j b c (live, xs, runs, one, breaks) (others, ys, more, other, fails) =
      same_breach live others xs ys runs more one other r s i j b c breaks fails

  -- ---- the summary

  free_to : (runs more : List Run) (free rest : List ℕ) → IsPermutation runs more → AreFreeBlocks m runs free → AreFreeBlocks m more rest
      → (block : ℕ) → Contains free block → Contains rest block
  free_to runs more free rest moved are they block has =
      let pooled = (are.each block).0 has in
      (they.each block).1 (pooled.0, λ mapped. pooled.1 (Any-permutation (Maps block) more runs (IsPermutation-sym runs more moved) mapped))

  one_free : (runs more : List Run) (free rest : List ℕ) → IsPermutation runs more → AreFreeBlocks m runs free → AreFreeBlocks m more rest
      → free ≡ rest
  one_free runs more free rest moved are they =
      one_rise free rest are.rising they.rising (free_to runs more free rest moved are they)
      (free_to more runs rest free (IsPermutation-sym runs more moved) they are)

  abbrev made : ℕ → ℕ → ℕ → ℕ → ℕ → Summary
  made inodes directories entries pending free =
      record { inodes = inodes; directories = directories; entries = entries; pending = pending; free = free }

  made_alike : (i d e p f j c n q r : ℕ) → i ≡ j → d ≡ c → e ≡ n → p ≡ q → f ≡ r → made i d e p f ≡ made j c n q r
  made_alike i d e p f j c n q r inodes directories entries pending free = cc

  one_summary : (a b : Summary) → IsSummary g m image a → IsSummary g m image b → a ≡ b
  one_summary a b one other =
      let here = one.sound.0 in
      let there = other.sound.0 in
      let live : one.live ≡ other.live = same_live g m image one.live other.live one.namings other.namings one.runs other.runs here there in
      let namings = same_namings g m image one.live other.live one.namings other.namings one.runs other.runs here there in
      let runs = same_runs g m image one.live other.live one.namings other.namings one.runs other.runs here there in
      let free : one.free ≡ other.free = one_free one.runs other.runs one.free other.free runs one.are_free other.are_free in
      made_alike a.inodes a.directories a.entries a.pending a.free b.inodes b.directories b.entries b.pending b.free
      (one.inodes ∙ ap length live ∙ sym other.inodes)
      (one.directories ∙ ap (directories_among g image) live ∙ sym other.directories)
      (one.entries ∙ sym (length_permutation one.namings other.namings namings) ∙ sym other.entries)
      (one.pending ∙ sym other.pending)
      (one.blocks ∙ ap length free ∙ sym other.blocks)

  -- ---- the answer

  breaks_alike : (r s i j b c : ℕ) → IsSameBreach r s i j b c → Breaks i r b ≡ Breaks j s c
  breaks_alike r s i j b c same = cc

  pub one_answer : (one other : End) → CheckEnds g m image one → CheckEnds g m image other → one ≡ other
  one_answer one other (inl (rule, inode, block, is, breaks)) (inl (second, ino, place, too, fails)) =
      is ∙ breaks_alike rule second inode ino block place (one_breach rule second inode ino block place breaks fails) ∙ sym too
  one_answer one other (inl (rule, inode, block, is, breaks)) (inr (summary, too, sums)) =
      absurd (none_broken g m image sums.live sums.namings sums.runs rule inode block sums.sound breaks)
  one_answer one other (inr (summary, is, sums)) (inl (rule, inode, block, too, breaks)) =
      absurd (none_broken g m image sums.live sums.namings sums.runs rule inode block sums.sound breaks)
  one_answer one other (inr (summary, is, sums)) (inr (second, too, also)) =
      is ∙ ap Sums (one_summary summary second sums also) ∙ sym too
