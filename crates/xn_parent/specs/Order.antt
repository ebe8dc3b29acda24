-- Parent records in order.
use Rattle.std.specs.Ordering.{nat_cmp, ordering_then}
use Rattle.std.specs.Cmp.Lexicographic.{slice_cmp}
use Rattle.std.specs.declared.cmp.Ordering.{Ordering}
use Rattle.xn_bytes.specs.Parents.{ParentRecord}

-- by the number of the directory, then by the bytes of the name, then by the generation
abbrev pub record_cmp : ParentRecord → ParentRecord → Ordering
record_cmp a b = ordering_then (nat_cmp a.dir b.dir) (ordering_then (slice_cmp nat_cmp a.name b.name) (nat_cmp a.generation b.generation))
