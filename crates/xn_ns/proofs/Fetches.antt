-- What a walk fetches, by a bound on each of its look-ups.
use Rattle.std.proofs.Common.{◌≡◌, ℕ, suc, ◌+◌, ◌*◌, ◌∷◌, ◌++◌, length, List, Option, Some, None, ap, arith, inl, inr, ◌∙◌}
use Rattle.std.specs.Prelude.{◌≤◌, IfSome}
use Rattle.xn_bytes.specs.declared.kind.Kind.TheVariants.{Dir}
use Rattle.xn_bytes.specs.Superblock.{Geometry}
use Rattle.xn_bytes.specs.Inode.{inode_of}
use Rattle.xn_bytes.specs.Hashes.{name_hash_of}
use Rattle.xn_meaning.specs.Manifests.{Manifest}
use Rattle.xn_meaning.specs.Paths.{parts_of}
use Rattle.xn_meaning.specs.NameSpace.{Place}
use Rattle.xn_meaning.specs.Reading.{IsDirectoryIn}
use Rattle.xn_bytes.specs.Costs.{HasLookUpCost, look_up_most}
use Rattle.xn_ns.specs.Costs.{CostsAtMost, LookUpCostsAtMost, StepCostsAtMost}
use Rattle.xn_ns.proofs.WalksOn.{LeadsHere}

-- ---- a look-up

-- what is fetched by now, where so much is a bound on each look-up
abbrev pub FetchedBy : Option (List ℕ) → (List ℕ → ℕ → Type 0) → ℕ → ℕ → (ℕ → ℕ) → Type 0
FetchedBy image Costs before now allowed = IfSome image (λ x. (most : ℕ) → Costs x most → now ≤ before + allowed most)

within : (cost most before now : ℕ) → now ≤ before + cost → cost ≤ most → now ≤ before + most
within cost most before now more few = omega (arith, more, few)

within_bound : (g : Geometry) (x : List ℕ) (dir hash before now most : ℕ) → ((cost : ℕ) → HasLookUpCost g x dir hash cost → now ≤ before + cost) → now ≤ before + look_up_most (inode_of g x dir)
    → LookUpCostsAtMost g x dir hash most → now ≤ before + most
within_bound g x dir hash before now most by_cost at_most (inl (cost, costs, few)) = within cost most before now (by_cost cost costs) few
within_bound g x dir hash before now most by_cost at_most (inr few) = within (look_up_most (inode_of g x dir)) most before now at_most few

-- one look-up
pub looked_up : (g : Geometry) (image : Option (List ℕ)) (dir hash before now : ℕ) → IfSome image (λ x. (cost : ℕ) → HasLookUpCost g x dir hash cost → now ≤ before + cost)
    → IfSome image (λ x. now ≤ before + look_up_most (inode_of g x dir)) → FetchedBy image (λ x. LookUpCostsAtMost g x dir hash) before now (λ most. most)
looked_up g None dir hash before now by_cost at_most = tt
looked_up g (Some x) dir hash before now by_cost at_most = λ most bound. within_bound g x dir hash before now most by_cost at_most bound

one_before : (most before between now : ℕ) → between ≤ before + 1 → now ≤ between + most → now ≤ before + (1 + most)
one_before most before between now one more = omega (arith, one, more)

-- a look at the inode before it
pub looked_before : (g : Geometry) (m : Manifest) (image : Option (List ℕ)) (here : Place) (part : List ℕ) (before between now : ℕ) → here.kind ≡ Dir → IfSome image (λ x. IsDirectoryIn g m x here.ino) → between ≤ before + 1
    → FetchedBy image (λ x. LookUpCostsAtMost g x here.ino (name_hash_of part)) between now (λ most. most) → FetchedBy image (λ x. StepCostsAtMost g m x here part) before now (λ most. 1 + most)
looked_before g m None here part before between now kind directory one fetched = tt
looked_before g m (Some x) here part before between now kind directory one fetched = λ most bound. one_before most before between now one (fetched most (bound kind directory))

-- ---- the parts of a path

-- so much for each part
abbrev for_parts : ℕ → List ℕ → ℕ
for_parts most path = (1 + most) * length (parts_of path)

-- what is fetched, with what the rest of the path may fetch, is within what the whole path may
abbrev pub FetchedOn : Geometry → Manifest → Option (List ℕ) → List ℕ → List ℕ → ℕ → ℕ → Type 0
FetchedOn g m image path rest first now = IfSome image (λ x. (most : ℕ) → CostsAtMost g m x path most → now + for_parts most rest ≤ first + for_parts most path)

-- the bound is one on the look-up of the part that comes next
step_of_path : (g : Geometry) (m : Manifest) (path x : List ℕ) (here : Place) (rest part behind : List ℕ) (most : ℕ) → LeadsHere g m (Some x) path here rest → parts_of rest ≡ part ∷ parts_of behind
    → CostsAtMost g m x path most → StepCostsAtMost g m x here part most
step_of_path g m path x here rest part behind most (taken, is, reaches) parts bound = bound taken (parts_of behind) part here (is ∙ ap (λ (ps : List (List ℕ)). taken ++ ps) parts) reaches

one_part : (step count first before now all : ℕ) → now ≤ before + step → before + step * suc count ≤ first + all → now + step * count ≤ first + all
one_part step count first before now all more so_far = omega (arith, more, so_far)

-- a part that was looked up
pub fetched : (g : Geometry) (m : Manifest) (image : Option (List ℕ)) (path : List ℕ) (here : Place) (rest part behind : List ℕ) (first before now : ℕ) → LeadsHere g m image path here rest → parts_of rest ≡ part ∷ parts_of behind
    → FetchedBy image (λ x. StepCostsAtMost g m x here part) before now (λ most. 1 + most) → FetchedOn g m image path rest first before → FetchedOn g m image path behind first now
fetched g m None path here rest part behind first before now leads parts more so_far = tt
fetched g m (Some x) path here rest part behind first before now leads parts more so_far = λ most bound.
    let one : length (parts_of rest) ≡ suc (length (parts_of behind)) = ap length parts in
    one_part (1 + most) (length (parts_of behind)) first before now (for_parts most path) (more most (step_of_path g m path x here rest part behind most leads parts bound)) (rw one at so_far most bound)

-- all that was fetched
pub within_path : (g : Geometry) (m : Manifest) (image : Option (List ℕ)) (path rest : List ℕ) (first now : ℕ) → FetchedOn g m image path rest first now → FetchedBy image (λ x. CostsAtMost g m x path) first now (λ most. for_parts most path)
within_path g m None path rest first now so_far = tt
within_path g m (Some x) path rest first now so_far = λ most bound. omega (arith, so_far most bound)
