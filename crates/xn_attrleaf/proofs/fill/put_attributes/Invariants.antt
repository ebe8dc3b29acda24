use Rattle.std.proofs.Common.{◌≡◌, ◌+◌, take}
use Rattle.std.specs.Prelude.{sum_by}
use Rattle.xn_attrleaf.specs.Putting.{PutsFirst, name_bytes}
use Rattle.xn_attrleaf.proofs.fill.put_attributes.Given as goal

abbrev pub invariant-loop-index : goal.invariant-loop-index
invariant-loop-index l = record {
  puts : PutsFirst l.index l.initial.block l.block l.attributes;
  end : l.end + sum_by name_bytes (take l.index l.attributes) ≡ 4096;
}
