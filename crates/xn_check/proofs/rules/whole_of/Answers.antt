use Rattle.std.proofs.Common.{length, sym, ap, ◌∙◌, arith}
use Rattle.std.proofs.lemmas.Bool.{ltb-false}
use Rattle.std.proofs.lemmas.List.{get_or_default}
use Rattle.xn_census.specs.declared.sorted_out.Whole.{Whole}
use Rattle.xn_check.proofs.WholesFound.{never_falls, none_there}
use Rattle.xn_check.proofs.rules.whole_of.Goals as goal

pub count_below-at-requires : goal.count_below-at-requires
count_below-at-requires c = never_falls (λ (w : Whole). w.dir) c.args.wholes.now c.requires

pub returns-in_default : goal.returns-in_default
returns-in_default c =
    let wholes = c.args.wholes.now in
    let at = c.count_below-at.result in
    none_there wholes c.args.dir at c.requires c.count_below-at.ensures.point (λ d within same.
    let is = c.in-Some.ensures.lookup.1 in
    c.if-whole-dir.false (ap (λ (w : Whole). w.dir) (is ∙ get_or_default wholes at c.in-Some.whole.now d within) ∙ same))

pub returns-in_default-2 : goal.returns-in_default-2
returns-in_default-2 c =
    let wholes = c.args.wholes.now in
    let at = c.count_below-at.result in
    none_there wholes c.args.dir at c.requires c.count_below-at.ensures.point (λ d within same.
    let none = rw c.in_default.is at c.get.ensures.lookup.0 in
    let past = ltb-false at (length wholes) (sym none) in
    omega (arith, past, within))
