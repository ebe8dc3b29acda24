-- A run of blocks that a fork may map, each of them, by its first block and its length.
use Rattle.std.proofs.Common.{◌≡◌, ◌≢◌, ℕ, ◌+◌, ◌-◌, ◌*◌, ◌/◌, ◌%◌, ◌^◌, ◌<◌, ◌≤◌, sym, ap, subst, ◌∙◌, arith, add_assoc, inl, inr}
use Rattle.std.proofs.lemmas.Nat.{div-mul-add, mod-mul-add, div-add-mod'}
use Rattle.std.proofs.Math.Nat.{mul-add-mod_self_right, mod_self}
use Rattle.std.proofs.lemmas.Bool.{cases_lt}
use Rattle.std.specs.Prelude.{Bool, false, IsTrue, ◌↔◌}
use Rattle.xn_bytes.specs.Blocks.{IsHome}
use Rattle.xn_bytes.specs.Superblock.{Geometry, IsGeometry, group_of, block_in_group, linear_block}
use Rattle.xn_inode.specs.Fields.{IsRunOfGroup, IsRunOutsideLog}

-- a block further on, by its group's first one
from_group : (block k size : ℕ) → block + k ≡ block / size * size + (block % size + k)
from_group block k size = ap (λ (n : ℕ). n + k) (sym (div-add-mod' block size)) ∙ add_assoc (block / size * size) (block % size) k

-- a block further on in the same group
same_group : (block k size : ℕ) → block % size + k < size → (block + k) / size ≡ block / size
same_group block k size h = ap (λ (n : ℕ). n / size) (from_group block k size) ∙ div-mul-add (block / size) size (block % size + k) h

in_same_group : (block k size : ℕ) → block % size + k < size → (block + k) % size ≡ block % size + k
in_same_group block k size h = ap (λ (n : ℕ). n % size) (from_group block k size) ∙ mod-mul-add (block / size) size (block % size + k) h

-- the first block of the next group
next_group : (block k size : ℕ) → block % size + k ≡ size → (block + k) % size ≡ 0
next_group block k size e =
    ap (λ (n : ℕ). n % size) (from_group block k size ∙ ap (λ (n : ℕ). block / size * size + n) e)
    ∙ mul-add-mod_self_right (block / size) size size ∙ mod_self size

linear_further : (g : Geometry) (block k : ℕ) → block_in_group g block + k < 2 ^ g.ag_block_log → linear_block g (block + k) ≡ linear_block g block + k
linear_further g block k h =
    let size = 2 ^ g.ag_block_log in
    ap (λ (n : ℕ). n * g.ag_blocks + block_in_group g (block + k)) (same_group block k size h)
    ∙ ap (λ (n : ℕ). group_of g block * g.ag_blocks + n) (in_same_group block k size h)
    ∙ sym (add_assoc (group_of g block * g.ag_blocks) (block_in_group g block) k)

-- each block of such a run is home
homes_of_run : (g : Geometry) (block count : ℕ) → IsGeometry g → IsRunOfGroup g block count → IsRunOutsideLog g block count
    → (k : ℕ) → k < count → IsHome g (block + k)
homes_of_run g block count is run outside k below =
    let fits : g.ag_blocks ≤ 2 ^ g.ag_block_log = is.groups.fits_log in
    let within : block_in_group g block + count ≤ g.ag_blocks = run.within in
    let small : block_in_group g block + k < 2 ^ g.ag_block_log = omega arith in
    let group : group_of g (block + k) ≡ group_of g block = same_group block k (2 ^ g.ag_block_log) small in
    let place : block_in_group g (block + k) ≡ block_in_group g block + k = in_same_group block k (2 ^ g.ag_block_log) small in
    let linear : linear_block g (block + k) ≡ linear_block g block + k = linear_further g block k small in
    let group_is : group_of g block < g.ag_count = run.group in
    let data_is : linear_block g block + count ≤ g.data_blocks = run.in_data in
    let first : block_in_group g block ≢ 0 = run.not_first in
    record {
      place = record { group = rw group group_is; within = omega arith; in_data = omega arith };
      no_log = λ log.
          let from : linear_block g g.log_start ≤ linear_block g (block + k) = log.from in
          let to : linear_block g (block + k) < linear_block g g.log_start + g.log_blocks = log.below in
          elim outside [ inl before ↦ omega arith | inr behind ↦ omega arith ];
      not_first = λ e. first (omega arith);
    }

-- a run of blocks that are all home
abbrev pub AllHome : Geometry → ℕ → ℕ → Type 0
AllHome g block count = (k : ℕ) → k < count → IsHome g (block + k)

first_home : (g : Geometry) (block count : ℕ) → 0 < count → AllHome g block count → IsHome g block
first_home g block count some all = subst (λ (n : ℕ). IsHome g n) (let e : block + 0 ≡ block = omega arith in e) (all 0 some)

-- ends within its group
run_within : (g : Geometry) (block count : ℕ) → IsGeometry g → 0 < count → AllHome g block count → block_in_group g block + count ≤ g.ag_blocks
run_within g block count is some all =
    let size = 2 ^ g.ag_block_log in
    let place = block_in_group g block in
    let home = first_home g block count some all in
    let inside : place < g.ag_blocks = home.place.within in
    let fits : g.ag_blocks ≤ size = is.groups.fits_log in
    let k = g.ag_blocks - place in
    elim (cases_lt g.ag_blocks (place + count)) [
      | inl over ↦
          let there = all k (omega arith) in
          elim (cases_lt (place + k) size) [
            | inl small ↦
                let at : block_in_group g (block + k) ≡ place + k = in_same_group block k size small in
                let within : block_in_group g (block + k) < g.ag_blocks = there.place.within in
                omega arith
            | inr large ↦ absurd (there.not_first (next_group block k size (omega arith)))
          ]
      | inr fine ↦ fine
    ]

run_of_homes : (g : Geometry) (block count : ℕ) → IsGeometry g → 0 < count → AllHome g block count → IsRunOfGroup g block count
run_of_homes g block count is some all =
    let home = first_home g block count some all in
    let within : block_in_group g block + count ≤ g.ag_blocks = run_within g block count is some all in
    let fits : g.ag_blocks ≤ 2 ^ g.ag_block_log = is.groups.fits_log in
    let last = all (count - 1) (omega arith) in
    let linear : linear_block g (block + (count - 1)) ≡ linear_block g block + (count - 1) = linear_further g block (count - 1) (omega arith) in
    let in_data : linear_block g (block + (count - 1)) < g.data_blocks = last.place.in_data in
    record { group = home.place.group; not_first = home.not_first; within = within; in_data = omega arith }

outside_of_homes : (g : Geometry) (block count : ℕ) → IsGeometry g → 0 < count → AllHome g block count → IsRunOutsideLog g block count
outside_of_homes g block count is some all =
    let start = linear_block g g.log_start in
    let linear = linear_block g block in
    let least : 512 ≤ g.log_blocks = is.log_least in
    let home = first_home g block count some all in
    let within : block_in_group g block + count ≤ g.ag_blocks = run_within g block count is some all in
    let fits : g.ag_blocks ≤ 2 ^ g.ag_block_log = is.groups.fits_log in
    elim (cases_lt start (linear + count)) [
      | inr before ↦ inl before
      | inl reaches ↦ elim (cases_lt linear (start + g.log_blocks)) [
        | inr behind ↦ inr behind
        | inl in_front ↦ elim (cases_lt linear start) [
          | inr from ↦ absurd (home.no_log (record { from = from; below = in_front }))
          | inl earlier ↦
              let k = start - linear in
              let there = all k (omega arith) in
              let e : linear_block g (block + k) ≡ linear + k = linear_further g block k (omega arith) in
              absurd (there.no_log (record { from = omega arith; below = omega arith }))
        ]
      ]
    ]

-- what the second test answers where the first one held, and what the first answers where it didn't
pub by_log : (h g : Geometry) (block count : ℕ) (answer : Bool) → h ≡ g → IsGeometry h → 0 < count → IsRunOfGroup h block count → (IsTrue answer ↔ IsRunOutsideLog h block count)
    → (IsTrue answer ↔ AllHome g block count)
by_log h g block count answer same is some run decides =
    let P : Geometry → Type 0 = λ (x : Geometry). IsTrue answer ↔ AllHome x block count in
    subst P same (λ yes. homes_of_run h block count is run (decides.0 yes), λ homes. decides.1 (outside_of_homes h block count is some homes))

pub by_group : (h g : Geometry) (block count : ℕ) (answer : Bool) → h ≡ g → IsGeometry h → 0 < count → (IsTrue answer ↔ IsRunOfGroup h block count) → answer ≡ false
    → (IsTrue answer ↔ AllHome g block count)
by_group h g block count answer same is some decides fails =
    let P : Geometry → Type 0 = λ (x : Geometry). IsTrue answer ↔ AllHome x block count in
    subst P same (λ yes. absurd (cc), λ homes. decides.1 (run_of_homes h block count is some homes))
