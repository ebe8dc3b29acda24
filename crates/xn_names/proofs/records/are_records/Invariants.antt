use Rattle.std.proofs.Common.{◌≡◌, ℕ, ◌<◌, get_or}
use Rattle.xn_items.specs.declared.parent.ParentRec.{ParentRec}
use Rattle.xn_items.specs.Viewed.{record_of}
use Rattle.xn_names.specs.declared.entry.Naming.{Naming}
use Rattle.xn_names.specs.Names.{asked_by}
use Rattle.xn_names.proofs.records.are_records.Given as goal

abbrev pub invariant-loop-place : goal.invariant-loop-place
invariant-loop-place l = (k : ℕ) (d : Naming) (e : ParentRec) → k < l.place → asked_by (get_or l.namings k d) ≡ record_of (get_or l.parents k e)
