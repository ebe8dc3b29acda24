-- What comes of one part of a path, and of all of them.
use Rattle.std.specs.Prelude.{◌≡◌, ℕ, List, Option, Some, IfSome, option_map, Result, Ok, Err, IfErr}
use Rattle.xn_bytes.specs.Causes.{Rose}
use Rattle.xn_bytes.specs.Superblock.{Geometry}
use Rattle.xn_meaning.specs.Manifests.{Manifest}
use Rattle.xn_meaning.specs.Paths.{parts_of}
use Rattle.xn_meaning.specs.NameSpace.{End, Says, Place as Reached, Step as Taken, Ends, Goes, Walks}
use Rattle.xn_meaning.specs.Reading.{TakesInImage, root_place}
use Rattle.xn_meaning.specs.Replies.{ErrorOf}
use Rattle.xn_ns.specs.declared.walk.Place.{Place}
use Rattle.xn_ns.specs.declared.walk.Step.{Step}
use Rattle.xn_ns.specs.declared.walk.Step.TheVariants as steps
use Rattle.xn_ns.specs.declared.fault.SeeFault.{SeeFault}
use Rattle.xn_ns.specs.declared.fault.SeeFault.TheVariants as see
use Rattle.xn_ns.specs.Ends.{fault_end}

-- the inode that a walk came to, and its kind
abbrev pub place_of : Place → Reached
place_of place = record { ino = place.ino; kind = place.kind }

-- a refusal ends the walk
abbrev pub step_of : Step → Taken
step_of (steps.Goes place) = Goes (place_of place)
step_of (steps.Refused error) = Ends (Says (ErrorOf error))

-- the step, where it was not given up for the outside or for want of memory
abbrev pub taken_of : Result Step SeeFault → Option Taken
taken_of (Ok step) = Some (step_of step)
taken_of (Err fault) = option_map Ends (fault_end fault)

-- A step is one over the image, where one is told. Reading failed only where the count of faults rose.
pub record IsTaken (Takes : List ℕ → Taken → Type 0) (image : Option (List ℕ)) (before now : ℕ) (result : Result Step SeeFault) : Type 0 where
  pub takes : IfSome (taken_of result) (λ step. IfSome image (λ x. Takes x step))
  pub cause : IfErr result (λ fault. fault ≡ see.Read → Rose before now)

-- how the walk of a path from the root ends
abbrev pub WalkEnds : Geometry → Manifest → List ℕ → List ℕ → End → Type 0
WalkEnds g m path image end = Walks (TakesInImage g m image) (root_place g) (parts_of path) end
