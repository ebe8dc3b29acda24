use Rattle.std.proofs.Common.{◌↔◌, List, map, subst}
use Rattle.std.specs.Prelude.{IsTrue}
use Rattle.xn_rules.specs.NameRules.{BreaksDots, HasRightDotdot}
use Rattle.xn_names.specs.declared.entry.Naming.{Naming}
use Rattle.xn_names.specs.Names.{naming_of}
use Rattle.xn_check.specs.Known.{HoldsDots, meant}
use Rattle.xn_check.proofs.WholesFound.{found_none, found_right, found_wrong}
use Rattle.xn_check.proofs.RuleLemmas.{dots_told, dots_wrong, told_no}
use Rattle.xn_check.proofs.rules.dots_are_right.Goals as goal

pub returns-then-whole-2 : goal.returns-then-whole-2
returns-then-whole-2 c m image dir known =
    let g = c.args.geometry.now in
    let names = c.args.names.now in
    let whole = c.in-Some.whole in
    let of = found_right g m image names dir c.args.whole whole c.in-Some.is c.if-whole.true known in
    let tells = subst (λ (namings : List Naming). IsTrue c.has_dotdot.result ↔ HasRightDotdot g (map naming_of namings) whole.dir whole.dotdot) c.deref.ensures.value c.has_dotdot.ensures in
    dots_told g m image (meant names) whole dir c.has_dotdot.result of c.if-whole-2.true tells

pub returns-else-whole-2 : goal.returns-else-whole-2
returns-else-whole-2 c m image dir known =
    let g = c.args.geometry.now in
    let names = c.args.names.now in
    let whole = c.in-Some.whole in
    let of = found_right g m image names dir c.args.whole whole c.in-Some.is c.if-whole.true known in
    told_no whole.has_dot (HoldsDots g m image (meant names) dir) (BreaksDots g m image (meant names) dir) c.if-whole-2.false (dots_wrong g m image (meant names) whole dir of c.if-whole-2.false)

pub returns-in_default : goal.returns-in_default
returns-in_default c m image dir known = λ entries dotdot is.
    let none = (found_wrong c.args.geometry.now m image c.args.names.now dir c.args.whole c.in-Some.whole c.in-Some.is c.if-whole.false known).1 in
    absurd (none entries dotdot is)

pub returns-in_default-2 : goal.returns-in_default-2
returns-in_default-2 c m image dir known = λ entries dotdot is.
    absurd (found_none c.args.geometry.now m image c.args.names.now dir c.args.whole c.in_default.is known entries dotdot is)
