-- The free blocks are those of the pool that no fork maps, and they are small.
use Rattle.std.proofs.Common.{◌≡◌, ◌↔◌, ℕ, ◌+◌, ◌*◌, ◌/◌, ◌%◌, ◌^◌, ◌<◌, ◌≤◌, List, [], ◌∷◌, get_or, sym, subst, arith}
use Rattle.std.specs.Prelude.{All, Any, Contains}
use Rattle.std.proofs.Math.Nat.{mul-le-mul_left}
use Rattle.std.proofs.lemmas.List.Elements.{All-cons, All-nil, Contains-get_or}
use Rattle.xn_bytes.specs.Superblock.{Geometry, HasGroups}
use Rattle.xn_bytes.specs.Blocks.{IsHome}
use Rattle.xn_bytes.specs.Extents.{Run}
use Rattle.xn_inode.specs.Stores.{AreFree}
use Rattle.xn_meaning.specs.Manifests.{Manifest, ArePoolRuns, HasPlaces, InPool}
use Rattle.xn_rules.specs.Checking.{AreFreeBlocks}
use Rattle.xn_rules.specs.Sound.{Maps}

-- where all blocks of the pool were free, and those that runs map are made used
pub free_blocks : (m : Manifest) (runs : List Run) (blocks old free : List ℕ) → AreFree blocks free → ((block : ℕ) → Contains blocks block ↔ InPool m block) → old ≡ blocks
    → ((block : ℕ) → Contains free block ↔ (Contains old block × (Any (Maps block) runs → ⊥))) → AreFreeBlocks m runs free
free_blocks m runs blocks old free are pool all left = record {
  rising = are.rising;
  each = λ block. (
    λ has. let was = (left block).0 has in ((pool block).0 (subst (λ (xs : List ℕ). Contains xs block) all was.0), was.1),
    λ both. (left block).1 (subst (λ (xs : List ℕ). Contains xs block) (sym all) ((pool block).1 both.0), both.1),
  );
}

-- what holds of all blocks of the pool holds of a list of them
pub of_blocks : (P : ℕ → Type 0) (m : Manifest) (blocks : List ℕ) → ((block : ℕ) → InPool m block → P block) → ((block : ℕ) → Contains blocks block ↔ InPool m block) → All P blocks
of_blocks P m blocks holds pool = λ k d within. holds (get_or blocks k d) ((pool (get_or blocks k d)).0 (Contains-get_or blocks k d within))

-- ---- by the runs of the pool

runs_end : (least : ℕ) (runs : List (ℕ × ℕ)) → ArePoolRuns least runs → All (λ (run : ℕ × ℕ). run.0 + run.1 ≤ 2 ^ 56) runs
runs_end least [] lawful = All-nil (λ (run : ℕ × ℕ). run.0 + run.1 ≤ 2 ^ 56)
runs_end least (run ∷ runs) lawful = All-cons (λ (r : ℕ × ℕ). r.0 + r.1 ≤ 2 ^ 56) run runs lawful.2 (runs_end (run.0 + run.1) runs lawful.3)

pool_small : (m : Manifest) (block : ℕ) → ArePoolRuns 0 m.runs → InPool m block → block < 2 ^ 63
pool_small m block lawful (k, run, within, same, has) =
    let ends : (get_or m.runs k run).0 + (get_or m.runs k run).1 ≤ 2 ^ 56 = runs_end 0 m.runs lawful k run within in
    let ends_here : run.0 + run.1 ≤ 2 ^ 56 = subst (λ (r : ℕ × ℕ). r.0 + r.1 ≤ 2 ^ 56) same ends in
    let below = has.below in
    omega (arith, ends_here, below)

pub blocks_small_by_runs : (m : Manifest) (blocks : List ℕ) → ArePoolRuns 0 m.runs → ((block : ℕ) → Contains blocks block ↔ InPool m block) → All (λ block. block < 2 ^ 63) blocks
blocks_small_by_runs m blocks lawful = of_blocks (λ block. block < 2 ^ 63) m blocks (λ block. pool_small m block lawful)

-- ---- by the geometry of a superblock

double : (n a q r d : ℕ) → n < 2 * a → q * a + r < d → d < 2 ^ 48 → n * q + r < 2 ^ 63
double n a q r d less within few =
    let twice : n ≤ 2 * a = omega (arith, less) in
    let times = mul-le-mul_left q twice in
    omega (arith, times, within, few)

split : (n block : ℕ) → 0 < n → n * (block / n) + block % n ≡ block
split n block some = omega (arith, some)

pub home_small : (g : Geometry) (block : ℕ) → HasGroups g → IsHome g block → block < 2 ^ 63
home_small g block groups home =
    let n : ℕ = 2 ^ g.ag_block_log in
    let large = groups.large in
    let fits = groups.fits_log in
    let some : 0 < n = omega (arith, large, fits) in
    let low : n * (block / n) + block % n < 2 ^ 63 = double n g.ag_blocks (block / n) (block % n) g.data_blocks groups.needs_log home.place.in_data groups.few in
    let same = split n block some in
    omega (arith, same, low)

pub blocks_small : (g : Geometry) (m : Manifest) (blocks : List ℕ) → HasGroups g → HasPlaces g m → ((block : ℕ) → Contains blocks block ↔ InPool m block) → All (λ block. block < 2 ^ 63) blocks
blocks_small g m blocks groups places = of_blocks (λ block. block < 2 ^ 63) m blocks (λ block inside. home_small g block groups (places.pool block inside))
