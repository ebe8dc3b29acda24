-- The live inodes of one chunk, added place by place.
use Rattle.std.proofs.Common.{◌≡◌, ℕ, zero, suc, ◌+◌, ◌-◌, ◌<◌, ◌≤◌, false, List, [], ◌∷◌, ◌++◌, length, get_or, sym, subst, arith, inl, inr}
use Rattle.std.specs.Prelude.{◌⊎◌, All, Contains}
use Rattle.std.specs.List.{AllAdjacentBelow}
use Rattle.std.proofs.lemmas.Bool.{cases_lt}
use Rattle.std.proofs.lemmas.List.Elements.{All-push, Contains-append_left, Contains-push, Contains-push_cases}
use Rattle.xn_bytes.specs.Superblock.{Geometry, IsOwnInode}
use Rattle.xn_meaning.specs.Manifests.{has_bit}
use Rattle.xn_live.specs.Gathering.{AreAdded, AreRisingBelow, IsLiveAt, IsLiveOf}

-- ---- numbers that rise

-- they still rise with a higher one at the end
rising_push : (xs : List ℕ) (y : ℕ) → All (λ x. x < y) xs → AllAdjacentBelow (λ a b. a < b) xs (length xs) → AllAdjacentBelow (λ a b. a < b) (xs ++ y ∷ []) (length (xs ++ y ∷ []))
rising_push [] y low rising k d h = absurd (omega arith)
rising_push (x ∷ []) y low rising zero d h = low 0 x (omega arith)
rising_push (x ∷ next ∷ xs) y low rising zero d h = rising 0 d (omega arith)
rising_push (x ∷ xs) y low rising (suc k) d h =
    let tail : AllAdjacentBelow (λ a b. a < b) xs (length xs) =
    λ j e l. let one : suc j + 1 ≡ suc (j + 1) = omega arith in subst (λ (n : ℕ). get_or xs j e < get_or (x ∷ xs) n e) one (rising (suc j) e (omega arith)) in
    let rest = rising_push xs y (λ j e l. low (suc j) e (omega arith)) tail k d (omega arith) in
    let one : suc (k + 1) ≡ suc k + 1 = omega arith in
    subst (λ (n : ℕ). get_or (xs ++ y ∷ []) k d < get_or (x ∷ (xs ++ y ∷ [])) n d) one rest

-- none stands in an empty list
pub none_rise : AreRisingBelow 0 []
none_rise = record { rising = λ k d h. absurd (omega arith); low = λ k d h. absurd (omega arith) }

-- below a higher bound they rise as well
pub rising_higher : (bound higher : ℕ) (xs : List ℕ) → bound ≤ higher → AreRisingBelow bound xs → AreRisingBelow higher xs
rising_higher bound higher xs le below =
    let low = below.low in
    record { rising = below.rising; low = λ k d h. let one = low k d h in omega (arith, le, one) }

-- and with one more at the end
pub rising_more : (bound : ℕ) (xs : List ℕ) → AreRisingBelow bound xs → AreRisingBelow (bound + 1) (xs ++ bound ∷ [])
rising_more bound xs below =
    let low = below.low in
    record {
      rising = rising_push xs bound low below.rising;
      low = All-push (λ (x : ℕ). x < bound + 1) xs bound (λ k d h. let one = low k d h in omega (arith, one)) (omega arith);
    }

-- ---- the places of a chunk

-- what stands at a live place is a live inode of the chunk
live_there : (g : Geometry) (chunk : ℕ × ℕ) (k : ℕ) → k < 64 → IsLiveAt g chunk k → IsLiveOf g chunk (chunk.0 + k)
live_there g chunk k small at =
    let back : chunk.0 + k - chunk.0 ≡ k = omega arith in
    record {
      listed = record { from = omega arith; below = omega (arith, small); in_use = subst (λ (i : ℕ). has_bit chunk.1 i ≡ false) (sym back) at.in_use };
      not_own = at.not_own;
    }

-- the live inodes at the places below one were added
pub record AddedBelow (g : Geometry) (chunk : ℕ × ℕ) (k : ℕ) (before after : List ℕ) : Type 0 where
  pub rising : AreRisingBelow (chunk.0 + k) after
  pub kept : (ino : ℕ) → Contains before ino → Contains after ino
  pub added : (j : ℕ) → j < k → IsLiveAt g chunk j → Contains after (chunk.0 + j)
  pub only : (ino : ℕ) → Contains after ino → Contains before ino ⊎ IsLiveOf g chunk ino

-- none is added at first
pub added_none : (g : Geometry) (chunk : ℕ × ℕ) (before : List ℕ) → AreRisingBelow chunk.0 before → AddedBelow g chunk 0 before before
added_none g chunk before rising = record {
  rising = rising_higher chunk.0 (chunk.0 + 0) before (omega arith) rising;
  kept = λ ino has. has;
  added = λ j below at. absurd (omega (arith, below));
  only = λ ino has. inl has;
}

-- a place that is not live is passed
pub added_pass : (g : Geometry) (chunk : ℕ × ℕ) (k : ℕ) (before after : List ℕ) → AddedBelow g chunk k before after → (IsLiveAt g chunk k → ⊥) → AddedBelow g chunk (k + 1) before after
added_pass g chunk k before after so_far dead = record {
  rising = rising_higher (chunk.0 + k) (chunk.0 + (k + 1)) after (omega arith) so_far.rising;
  kept = so_far.kept;
  added = λ j below at. elim (cases_lt j k) [
    | inl lt ↦ so_far.added j lt at
    | inr le ↦ let same : j ≡ k = omega (arith, below, le) in absurd (dead (subst (IsLiveAt g chunk) same at))
  ];
  only = so_far.only;
}

-- a live one is added
pub added_more : (g : Geometry) (chunk : ℕ × ℕ) (k : ℕ) (before after : List ℕ) → k < 64 → AddedBelow g chunk k before after → IsLiveAt g chunk k
    → AddedBelow g chunk (k + 1) before (after ++ (chunk.0 + k) ∷ [])
added_more g chunk k before after small so_far live =
    let ino_here = chunk.0 + k in
    record {
      rising = rising_higher (chunk.0 + k + 1) (chunk.0 + (k + 1)) (after ++ ino_here ∷ []) (omega arith) (rising_more (chunk.0 + k) after so_far.rising);
      kept = λ ino has. Contains-append_left after (ino_here ∷ []) ino (so_far.kept ino has);
      added = λ j below at. elim (cases_lt j k) [
        | inl lt ↦ Contains-append_left after (ino_here ∷ []) (chunk.0 + j) (so_far.added j lt at)
        | inr le ↦ let same : k ≡ j = omega (arith, below, le) in subst (λ (i : ℕ). Contains (after ++ ino_here ∷ []) (chunk.0 + i)) same (Contains-push after ino_here)
      ];
      only = λ ino has. elim (Contains-push_cases after ino_here ino has) [
        | inl old ↦ so_far.only ino old
        | inr same ↦ inr (subst (IsLiveOf g chunk) same (live_there g chunk k small live))
      ];
    }

-- all of them were
pub added_all : (g : Geometry) (chunk : ℕ × ℕ) (before after : List ℕ) → AddedBelow g chunk 64 before after → AreAdded g chunk before after
added_all g chunk before after so_far =
    let there : (ino : ℕ) → IsLiveOf g chunk ino → Contains after ino
    = λ ino live.
    let from = live.listed.from in
    let below = live.listed.below in
    let back : chunk.0 + (ino - chunk.0) ≡ ino = omega (arith, from) in
    subst (Contains after) back
    (so_far.added (ino - chunk.0) (omega (arith, from, below)) (record { in_use = live.listed.in_use; not_own = subst (λ (i : ℕ). IsOwnInode g i → ⊥) (sym back) live.not_own })) in
    record {
      rising = so_far.rising;
      each = λ ino. (so_far.only ino, λ either. elim either [ inl old ↦ so_far.kept ino old | inr live ↦ there ino live ]);
    }
