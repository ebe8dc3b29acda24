-- The regions behind a first one, by their places.
use Rattle.std.proofs.Common.{◌≡◌, ℕ, zero, suc, ◌<◌, ◌≤◌, true, List, [], ◌∷◌, length, get_or, take, refl, arith}
use Rattle.std.proofs.lemmas.List.{length-map}
use Rattle.std.proofs.lemmas.Grind.{common_steps}
use Rattle.std.proofs.lemmas.Bool.{leb-true}
use Rattle.xn_changes.specs.Decoded.{bytes_of}
use Rattle.xn_changes.specs.Items.{are_there, region_at}
use Rattle.xn_changes.specs.Transactions.{Region}

pub region_at-there : (k : ℕ) (regions : List Region) (d : Region) → k < length regions → region_at k (bytes_of regions) ≡ (get_or regions k d).bytes
region_at-there k [] d lt = absurd (omega arith)
region_at-there zero (region ∷ regions) d lt = refl
region_at-there (suc k) (region ∷ regions) d lt = region_at-there k regions d (omega arith)

pub region_at-past : (k : ℕ) (regions : List Region) → length regions ≤ k → region_at k (bytes_of regions) ≡ []
region_at-past k [] past = refl
region_at-past zero (region ∷ regions) past = absurd (omega arith)
region_at-past (suc k) (region ∷ regions) past = region_at-past k regions (omega arith)

-- so many regions that are there
pub there_are : (count : ℕ) (regions : List Region) → are_there count (bytes_of regions) ≡ true → count ≤ length regions
there_are count regions there =
    let le = leb-true count (length (bytes_of regions)) there in
    omega (arith, length-map regions (λ (r : Region). r.bytes))

pub length-front : (count : ℕ) (regions : List Region) → are_there count (bytes_of regions) ≡ true → length (take count regions) ≡ count
length-front count regions there = let le = there_are count regions there in grind (arith, common_steps)
