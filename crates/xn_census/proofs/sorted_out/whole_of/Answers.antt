use Rattle.std.proofs.Common.{rules, sym, ap, ◌∙◌, length}
use Rattle.xn_dir.specs.declared.listing.Listed.{Listed}
use Rattle.std.proofs.Common.{List}
use Rattle.xn_census.proofs.Sortings.{empty_by}
use Rattle.xn_census.proofs.sorted_out.whole_of.Goals as goal

pub returns : goal.returns
returns c = record {
  dir = search rules;
  dotdot = search rules;
  has_dot = search rules;
  right = rw c.deref.ensures.value at c.are_right.ensures;
  subdirectories = rw c.deref-2.ensures.value at c.count_directories.ensures;
  empty = empty_by c.args.held.now.contents.entries.items _ _ (ap (λ (xs : List Listed). length xs) (sym c.deref.ensures.value) ∙ c.deref.ensures.len) c.is_empty.ensures;
}
