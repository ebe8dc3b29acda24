-- Regions that are joined from operations.
use Rattle.std.specs.Prelude.{◌++◌, List, [], ◌∷◌, Option, Some, None}
use Rattle.xn_changes.specs.Transactions.{LiveOp, Region, region_of}

-- the region that goes on in an operation, or begins with it
abbrev pub grown_by : LiveOp → Option Region → Region
grown_by live None = region_of live
grown_by live (Some region) = record { place = region.place; bytes = region.bytes ++ live.op.bytes }

-- a region that goes on in the one at the front
abbrev pub with_last : Option Region → List Region → List Region
with_last None regions = regions
with_last (Some region) [] = region ∷ []
with_last (Some region) (next ∷ regions) = record { place = region.place; bytes = region.bytes ++ next.bytes } ∷ regions
