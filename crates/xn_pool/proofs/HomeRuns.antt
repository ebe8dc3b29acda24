-- Runs of blocks that a fork may map, and the blocks of them all.
use Rattle.std.proofs.Common.{◌≡◌, inl, inr, ℕ, zero, suc, ◌+◌, ◌-◌, ◌^◌, ◌<◌, ◌≤◌, List, [], ◌∷◌, ◌++◌, length, get_or, Some, refl, sym, ap, subst, ◌∙◌, arith}
use Rattle.std.specs.Prelude.{Contains, All, Any, ◌↔◌, slice_get, IsSomeAnd}
use Rattle.std.specs.List.{range_with_len}
use Rattle.std.proofs.lemmas.List.{length-take-le, get_or-take, get_or_default}
use Rattle.std.proofs.lemmas.List.Elements.{Contains-append_left, Contains-append_right, Contains-append_cases, Contains-get_or}
use Rattle.std.proofs.lemmas.List.FromFn.{length-range_with_len, get_or-range_with_len}
use Rattle.std.proofs.lemmas.Option.{slice_get-get_or}
use Rattle.std.proofs.lemmas.Bool.{cases_eq}
use Rattle.xn_bytes.specs.Superblock.{Geometry}
use Rattle.xn_bytes.specs.Blocks.{IsHome}
use Rattle.xn_meaning.specs.Manifests.{RunHas, ArePoolRuns}
use Rattle.xn_pool.specs.Blocks.{AreRising, blocks_of}
use Rattle.xn_pool.specs.Pools.{PoolState, IsPoolOf, IsHomeRun, IsFirstForeign}
use Rattle.xn_pool.proofs.FlaggedBlocks.{adjacent_rise}
use Rattle.xn_pool.proofs.RunSearches.{in_range}

-- ---- one run after another

-- the first runs, so many, have only blocks that a fork may map
abbrev pub AreHomeBelow : Geometry → ℕ → List (ℕ × ℕ) → Type 0
AreHomeBelow g n runs = (k : ℕ) (d : ℕ × ℕ) → k < n → IsHomeRun g (get_or runs k d)

pub run_fits : (runs : List (ℕ × ℕ)) (least k : ℕ) (d : ℕ × ℕ) → ArePoolRuns least runs → k < length runs → (get_or runs k d).0 + (get_or runs k d).1 ≤ 2 ^ 56
run_fits [] least k d are low = absurd (omega arith)
run_fits (run ∷ runs) least zero d are low = are.2
run_fits (run ∷ runs) least (suc k) d are low = run_fits runs _ k d are.3 (omega arith)

-- what the test of a run says
home_run : (g : Geometry) (block count : ℕ) → ((k : ℕ) → k < count → IsHome g (block + k)) → IsHomeRun g (block, count)
home_run g block count all other has =
    let place : block + (other - block) ≡ other = omega (arith, has.from) in
    subst (IsHome g) place (all (other - block) (omega (arith, has.from, has.below)))

home_blocks : (g : Geometry) (block count : ℕ) → IsHomeRun g (block, count) → (k : ℕ) → k < count → IsHome g (block + k)
home_blocks g block count home k low = home (block + k) (record { from = omega arith; below = omega arith })

pub one_more_home : (g : Geometry) (runs : List (ℕ × ℕ)) (n : ℕ) (run : ℕ × ℕ) → n < length runs → run ≡ get_or runs n run → ((k : ℕ) → k < run.1 → IsHome g (run.0 + k)) → AreHomeBelow g n runs → AreHomeBelow g (n + 1) runs
one_more_home g runs n run low is all before k d below = elim (cases_eq k n) [
  | inl here ↦
      let same : run ≡ get_or runs k d = is ∙ get_or_default runs n run d low ∙ ap (λ j. get_or runs j d) (sym here) in
      subst (IsHomeRun g) same (home_run g run.0 run.1 all)
  | inr other ↦ before k d (omega arith)
]

pub first_foreign : (g : Geometry) (runs : List (ℕ × ℕ)) (n : ℕ) (run : ℕ × ℕ) → n < length runs → run ≡ get_or runs n run → (((k : ℕ) → k < run.1 → IsHome g (run.0 + k)) → ⊥) → AreHomeBelow g n runs → IsFirstForeign g runs n
first_foreign g runs n run low is none before = record {
  foreign =
      let there : slice_get runs n ≡ Some run = slice_get-get_or runs n run low ∙ ap Some (sym is) in
      subst (λ o. IsSomeAnd o (λ r. IsHomeRun g r → ⊥)) (sym there) (λ home. none (home_blocks g run.0 run.1 home));
  front = λ k d within.
      let below : k < n = omega (arith, length-take-le n runs (omega arith)) in
      subst (IsHomeRun g) (sym (get_or-take n runs k d below)) (before k d below);
}

pub all_home : (g : Geometry) (runs : List (ℕ × ℕ)) (n : ℕ) → length runs ≤ n → AreHomeBelow g n runs → All (IsHomeRun g) runs
all_home g runs n all before k d low = before k d (omega arith)

-- ---- the blocks of all runs

range_has : (start n block : ℕ) → start ≤ block → block < start + n → Contains (range_with_len start n) block
range_has start n block high low =
    let place : start + (block - start) ≡ block = omega arith in
    (block - start, omega (arith, length-range_with_len start n), get_or-range_with_len start n (block - start) block (omega arith) ∙ place)

pub blocks_have : (runs : List (ℕ × ℕ)) (block : ℕ) → Contains (blocks_of runs) block ↔ Any (RunHas block) runs
blocks_have [] block = (λ has. absurd (omega (arith, has.1)), λ some. absurd (omega (arith, some.2)))
blocks_have (run ∷ runs) block =
    let rest = blocks_have runs block in (
      λ has. elim (Contains-append_cases (range_with_len run.0 run.1) (blocks_of runs) block has) [
        | inl here ↦
            let within = in_range run.0 run.1 block here in
            (0, run, omega arith, refl, record { from = within.0; below = within.1 })
        | inr later ↦ let some = rest.0 later in (suc some.0, some.1, omega (arith, some.2), some.3, some.4)
      ],
      λ some. there_or_later run runs block rest.1 some,
    ) where
      there_or_later : (run : ℕ × ℕ) (runs : List (ℕ × ℕ)) (block : ℕ) → (Any (RunHas block) runs → Contains (blocks_of runs) block) → Any (RunHas block) (run ∷ runs) → Contains (range_with_len run.0 run.1 ++ blocks_of runs) block
      there_or_later run runs block rest (zero, other, low, is, has) =
          let here : RunHas block run = subst (RunHas block) (sym is) has in
          Contains-append_left (range_with_len run.0 run.1) (blocks_of runs) block (range_has run.0 run.1 block here.from here.below)
      there_or_later run runs block rest (suc k, other, low, is, has) =
          Contains-append_right (range_with_len run.0 run.1) (blocks_of runs) block (rest (k, other, omega arith, is, has))

pub pool_made : (g : Geometry) (runs : List (ℕ × ℕ)) (pool : PoolState) → All (IsHomeRun g) runs → pool ≡ record { blocks = blocks_of runs; free = blocks_of runs } → AreRising 0 pool.blocks → IsPoolOf g runs pool
pool_made g runs pool home is rise =
    let blocks : pool.blocks ≡ blocks_of runs = ap (λ (p : PoolState). p.blocks) is in
    let free : pool.free ≡ blocks_of runs = ap (λ (p : PoolState). p.free) is in
    record {
      has = λ block. subst (λ (bs : List ℕ). Contains bs block ↔ Any (RunHas block) runs) (sym blocks) (blocks_have runs block);
      rising = adjacent_rise 0 pool.blocks rise;
      home = λ k d low.
          let block : ℕ = get_or pool.blocks k d in
          let has : Contains (blocks_of runs) block = subst (λ (bs : List ℕ). Contains bs block) blocks (Contains-get_or pool.blocks k d low) in
          let some = (blocks_have runs block).0 has in
          let its : IsHomeRun g some.1 = subst (IsHomeRun g) some.3 (home some.0 some.1 some.2) in
          its block some.4;
      free = free ∙ sym blocks;
    }
