-- The blocks that stay free when others are made used.
use Rattle.std.proofs.Common.{◌≡◌, ◌↔◌, ℕ, ◌+◌, ◌<◌, ◌≤◌, min, Bool, not, eqb, List, length, map, get_or, ap, ◌∙◌, arith, inl, inr, sym, subst}
use Rattle.std.specs.Prelude.{All, Any, Contains, filter, ◌==◌}
use Rattle.std.proofs.lemmas.Bool.{cases_lt, eqb-false, ne_eqb, not-true, not_from_false}
use Rattle.std.proofs.lemmas.List.{get_or_default}
use Rattle.std.proofs.lemmas.List.Elements.{All-contains, Contains-get_or}
use Rattle.xn_rules.specs.Sound.{Maps}
use Rattle.xn_facts.specs.declared.facts.Run.{Run}
use Rattle.xn_facts.specs.Facts.{mapped_of}
use Rattle.xn_replay.specs.Overlay.{ViewState}
use Rattle.xn_names.proofs.Mapped.{Any-map, Any-unmap}
use Rattle.xn_names.proofs.Moved.{contained_in_filter, passes_in_filter}

-- those of the old blocks that don't lie from one on and before another
abbrev pub AreUsed : List ℕ → List ℕ → ℕ → ℕ → Type 0
AreUsed old new from to = (block : ℕ) → Contains new block ↔ (Contains old block × (from ≤ block → to ≤ block))

pub none_used : (free : List ℕ) (from : ℕ) → AreUsed free free from from
none_used free from = λ block. (λ has. (has, λ behind. behind), λ both. both.0)

-- the test that leaves one block out
abbrev other_than : ℕ → ℕ → Bool
other_than block = λ other. not (other == block)

-- one more is made used
pub one_used : (old mid new : List ℕ) (from to : ℕ) → from ≤ to → AreUsed old mid from to → new ≡ filter (λ other. not (other == to)) mid → AreUsed old new from (to + 1)
one_used old mid new from to rises before is = λ block. (
  λ has.
      let kept = contained_in_filter (other_than to) mid block (subst (λ (free : List ℕ). Contains free block) is has) in
      let was = (before block).0 kept.1 in
      let apart : block ≡ to → ⊥ = eqb-false block to (not-true (eqb block to) kept.0) in
      (was.0, λ behind. let le = was.1 behind in omega (arith, le, apart)),
  λ both.
      let there : Contains mid block = (before block).1 (both.0, λ behind. let le = both.1 behind in omega (arith, le)) in
      let apart : block ≡ to → ⊥ = λ same. let le = both.1 (omega (arith, same, rises)) in omega (arith, le, same) in
      subst (λ (free : List ℕ). Contains free block) (sym is)
      (passes_in_filter (other_than to) mid block (not_from_false (eqb block to) (ne_eqb block to apart)) there),
)

-- Those of a run are, where the old blocks are small: its end is then that of its blocks, if there are any among the old ones.
pub run_used : (old new : List ℕ) (run : Run) (end limit bound at : ℕ) → All (λ block. block < bound) old → bound ≤ limit → end ≡ min (run.block + run.count) limit → end ≤ at → (run.block ≤ end → at ≤ end) → AreUsed old new run.block at
    → (block : ℕ) → Contains new block ↔ (Contains old block × (Maps block (mapped_of run) → ⊥))
run_used old new run end limit bound at small fits is behind_end up_to used = λ block. (
  λ has.
      let was = (used block).0 has in
      let low : block < bound = All-contains (λ block. block < bound) old block small was.0 in
      (was.0, λ maps. let from = maps.from in let below = maps.below in let le = was.1 from in omega (arith, from, below, le, low, fits, is, behind_end, up_to)),
  λ both.
      let low : block < bound = All-contains (λ block. block < bound) old block small both.0 in
      (used block).1 (
        both.0,
        λ behind. elim (cases_lt block (run.block + run.count)) [
          | inl below ↦ absurd (both.1 (record { from = behind; below = below }))
          | inr le ↦ omega (arith, behind, le, low, fits, is, up_to)
        ],
      ),
)

-- what is among small blocks is small
pub still_small : (P : ℕ → Type 0) (old new : List ℕ) → All P old → ((block : ℕ) → Contains new block → Contains old block) → All P new
still_small P old new small among = λ k d within. All-contains P old (get_or new k d) small (among (get_or new k d) (Contains-get_or new k d within))

-- one view after another differs from the first in the free blocks alone, if each does from the one before
pub only_free : (old mid new : ViewState) → mid ≡ record old { free = mid.free } → new ≡ record mid { free = new.free } → new ≡ record old { free = new.free }
only_free old mid new first second = second ∙ ap (λ (view : ViewState). record view { free = new.free }) first

-- ---- the blocks of several runs

-- those of the old blocks that none of the first runs maps, of so many
abbrev pub AreUnmapped : List ℕ → List ℕ → List Run → ℕ → Type 0
AreUnmapped old new runs k = (block : ℕ) → Contains new block ↔ (Contains old block × ((j : ℕ) (d : Run) → j < k → Maps block (mapped_of (get_or runs j d)) → ⊥))

pub none_unmapped : (free : List ℕ) (runs : List Run) → AreUnmapped free free runs 0
none_unmapped free runs = λ block. (λ has. (has, λ j d below _. absurd (omega (arith, below))), λ both. both.0)

pub one_unmapped : (old mid new : List ℕ) (runs : List Run) (k : ℕ) (e : Run) → k < length runs → AreUnmapped old mid runs k → ((block : ℕ) → Contains new block ↔ (Contains mid block × (Maps block (mapped_of (get_or runs k e)) → ⊥))) → AreUnmapped old new runs (k + 1)
one_unmapped old mid new runs k e within before one = λ block.
    let at : (j : ℕ) (d : Run) → j ≡ k → get_or runs k e ≡ get_or runs j d
    = λ j d same. get_or_default runs k e d within ∙ ap (λ (i : ℕ). get_or runs i d) (sym same) in
    let Out : Run → Type 0 = λ r. Maps block (mapped_of r) → ⊥ in (
      λ has.
          let here = (one block).0 has in
          let was = (before block).0 here.0 in (
            was.0,
            λ j d below. elim (cases_lt j k) [
              | inl lt ↦ was.1 j d lt
              | inr le ↦ subst Out (at j d (omega (arith, below, le))) here.1
            ],
          ),
      λ both.
          (one block).1 ((before block).1 (both.0, λ j d below. both.1 j d (omega (arith, below))), both.1 k e (omega arith)),
    )

pub all_unmapped : (old new : List ℕ) (runs : List Run) (k : ℕ) → k ≤ length runs → length runs ≤ k → AreUnmapped old new runs k → (block : ℕ) → Contains new block ↔ (Contains old block × (Any (Maps block) (map mapped_of runs) → ⊥))
all_unmapped old new runs k within past used = λ block. (
  λ has.
      let was = (used block).0 has in (
        was.0,
        λ any.
            let found = Any-unmap mapped_of (Maps block) runs any in
            let lt = found.2 in
            was.1 found.0 found.1 (omega (arith, lt, past)) (subst (λ (r : Run). Maps block (mapped_of r)) (sym found.3) found.4),
      ),
  λ both.
      (used block).1 (
        both.0,
        λ j d below maps.
            let lt : j < length runs = omega (arith, below, within) in
            both.1 (Any-map mapped_of (Maps block) runs (j, get_or runs j d, lt, get_or_default runs j (get_or runs j d) d lt, maps)),
      ),
)
