-- How much the walk of a path reads.
use Rattle.std.specs.Prelude.{◌≡◌, ◌⊎◌, ℕ, ◌≤◌, List, ◌∷◌, ◌++◌}
use Rattle.xn_bytes.specs.declared.kind.Kind.TheVariants.{Dir}
use Rattle.xn_bytes.specs.Superblock.{Geometry}
use Rattle.xn_bytes.specs.Inode.{inode_of}
use Rattle.xn_bytes.specs.Hashes.{name_hash_of}
use Rattle.xn_meaning.specs.Manifests.{Manifest}
use Rattle.xn_meaning.specs.Paths.{parts_of}
use Rattle.xn_meaning.specs.NameSpace.{Place, Reaches}
use Rattle.xn_meaning.specs.Reading.{IsDirectoryIn, TakesInImage, root_place}
use Rattle.xn_bytes.specs.Costs.{HasLookUpCost, look_up_most}

-- A look-up in a directory costs so much at most: by what its leaves hold, or whatever its blocks hold.
abbrev pub LookUpCostsAtMost : Geometry → List ℕ → ℕ → ℕ → ℕ → Type 0
LookUpCostsAtMost g image dir hash most =
    ((cost : ℕ) × HasLookUpCost g image dir hash cost × (cost ≤ most)) ⊎ (look_up_most (inode_of g image dir) ≤ most)

-- the look-up of a part at a place does, where that is a directory
abbrev pub StepCostsAtMost : Geometry → Manifest → List ℕ → Place → List ℕ → ℕ → Type 0
StepCostsAtMost g m image here part most =
    here.kind ≡ Dir → IsDirectoryIn g m image here.ino → LookUpCostsAtMost g image here.ino (name_hash_of part) most

-- Each look-up of the walk of a path does: wherever the parts in front of a part lead. In a directory in short form that
-- is 1, and in block form 2.
abbrev pub CostsAtMost : Geometry → Manifest → List ℕ → List ℕ → ℕ → Type 0
CostsAtMost g m image path most =
    (taken rest : List (List ℕ)) (part : List ℕ) (here : Place)
    → parts_of path ≡ taken ++ part ∷ rest → Reaches (TakesInImage g m image) (root_place g) taken here → StepCostsAtMost g m image here part most
