-- Which chunk lists an inode: the last that starts no higher, since chunks stand apart.
use Rattle.std.proofs.Common.{◌≡◌, ◌∙◌, ℕ, zero, suc, ◌+◌, ◌-◌, ◌<◌, ◌≤◌, Bool, true, false, leb, List, [], ◌∷◌, length, get_or, inl, inr, sym, ap, subst, arith}
use Rattle.std.specs.Prelude.{◌↔◌, IsTrue}
use Rattle.std.specs.List.Sorted.{IsNonDecreasingBy, IsPartitionPoint}
use Rattle.std.proofs.lemmas.Bool.{cases_lt}
use Rattle.std.proofs.lemmas.Bool.Decides.{nat_tests}
use Rattle.std.proofs.lemmas.List.{get_or_default}
use Rattle.xn_meaning.specs.Manifests.{AreChunks, ChunkLists, Lists, Manifest as Said}

no_lower : (least : ℕ) (chunks : List (ℕ × ℕ)) → AreChunks least chunks → (k : ℕ) (d : ℕ × ℕ) → k < length chunks → least ≤ (get_or chunks k d).0
no_lower least [] are k d within = absurd (omega (arith, within))
no_lower least (chunk ∷ chunks) are zero d within = are.0
no_lower least (chunk ∷ chunks) are (suc k) d within =
    omega (arith, are.0, no_lower (chunk.0 + 64) chunks are.3 k d (omega (arith, within)))

-- a later chunk starts 64 above at least
apart : (least : ℕ) (chunks : List (ℕ × ℕ)) → AreChunks least chunks → (i j : ℕ) (d : ℕ × ℕ) → i < j → j < length chunks → (get_or chunks i d).0 + 64 ≤ (get_or chunks j d).0
apart least [] are i j d before within = absurd (omega (arith, within))
apart least (chunk ∷ chunks) are i zero d before within = absurd (omega (arith, before))
apart least (chunk ∷ chunks) are zero (suc j) d before within = no_lower (chunk.0 + 64) chunks are.3 j d (omega (arith, within))
apart least (chunk ∷ chunks) are (suc i) (suc j) d before within = apart (chunk.0 + 64) chunks are.3 i j d (omega (arith, before)) (omega (arith, within))

pub rising : (least : ℕ) (chunks : List (ℕ × ℕ)) → AreChunks least chunks → IsNonDecreasingBy (λ (chunk : ℕ × ℕ). chunk.0) chunks
rising least chunks are i j d le within =
    elim (cases_lt i j) [
      | inl before ↦ omega (arith, apart least chunks are i j d before within)
      | inr not_before ↦ let same : i ≡ j = omega (arith, le, not_before) in omega (arith, ap (λ (n : ℕ). (get_or chunks n d).0) same)
    ]

-- the chunks in front of a place start no higher than an inode, and those from there on do
abbrev pub IsPlace : List (ℕ × ℕ) → ℕ → ℕ → Type 0
IsPlace chunks number at = IsPartitionPoint (λ chunk. leb chunk.0 number ≡ true) (λ chunk. leb chunk.0 number ≡ false) chunks at

module _ (m : Said) (number at : ℕ) (are : AreChunks 0 m.chunks) (bound : at ≤ length m.chunks) (place : IsPlace m.chunks number at) where
  -- no chunk from the place on lists it
  in_front : (k : ℕ) (chunk : ℕ × ℕ) → k < length m.chunks → get_or m.chunks k chunk ≡ chunk → ChunkLists number chunk → k < at
  in_front k chunk within is lists =
      let from = lists.from in
      elim (cases_lt k at) [
        | inl before ↦ before
        | inr behind ↦
            let above = place.1 k chunk behind within in
            let starts : (get_or m.chunks k chunk).0 ≡ chunk.0 = ap (λ (c : ℕ × ℕ). c.0) is in
            absurd (grind (arith, nat_tests, above, starts, from))
      ]

  pub none_lists : at ≡ 0 → Lists m number → ⊥
  none_lists first lists = let before = in_front lists.0 lists.1 lists.2 lists.3 lists.4 in omega (arith, before, first)

  -- only the last in front of it can
  last_only : (chunk : ℕ × ℕ) → 0 < at → chunk ≡ get_or m.chunks (at - 1) chunk → Lists m number → ChunkLists number chunk
  last_only chunk some is lists =
      let other = lists.1 in
      let before : lists.0 < at = in_front lists.0 other lists.2 lists.3 lists.4 in
      let within : at - 1 < length m.chunks = omega arith in
      let below = lists.4.below in
      elim (cases_lt lists.0 (at - 1)) [
        | inl earlier ↦
            let far = apart 0 m.chunks are lists.0 (at - 1) other earlier within in
            let low = place.0 (at - 1) other (omega arith) (omega arith) in
            let starts : (get_or m.chunks lists.0 other).0 ≡ other.0 = ap (λ (c : ℕ × ℕ). c.0) lists.3 in
            absurd (grind (arith, nat_tests, far, low, starts, below))
        | inr last ↦
            let same : lists.0 ≡ at - 1 = omega (arith, before, last) in
            let found : other ≡ chunk = sym lists.3 ∙ ap (λ (k : ℕ). get_or m.chunks k other) same ∙ get_or_default m.chunks (at - 1) other chunk within ∙ sym is in
            subst (ChunkLists number) found lists.4
      ]

  pub last_lists : (chunk : ℕ × ℕ) (answer : Bool) → 0 < at → chunk ≡ get_or m.chunks (at - 1) chunk → IsTrue answer ↔ ChunkLists number chunk → IsTrue answer ↔ Lists m number
  last_lists chunk answer some is decides = (
    λ yes. (at - 1, chunk, omega arith, sym is, decides.0 yes),
    λ lists. decides.1 (last_only chunk some is lists),
  )
