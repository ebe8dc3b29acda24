use Rattle.std.proofs.Common.{◌≡◌, ◌↔◌, ℕ, List, [], map, subst}
use Rattle.std.specs.Prelude.{IsTrue}
use Rattle.xn_bytes.specs.Entries.{Entry}
use Rattle.xn_rules.specs.Namings.{IsWhole, Leads, standing_in}
use Rattle.xn_rules.specs.NameRules.{HasPlaceInTree}
use Rattle.xn_names.specs.declared.entry.Naming.{Naming}
use Rattle.xn_names.specs.Names.{naming_of}
use Rattle.xn_check.specs.Known.{meant}
use Rattle.xn_check.proofs.DirectoryWays.{over_all, over_directories}
use Rattle.xn_check.proofs.WholesFound.{found_none, found_right, found_wrong}
use Rattle.xn_check.proofs.RuleLemmas.{place_told}
use Rattle.xn_check.proofs.rules.place_is_right.Goals as goal

pub returns-in-Some : goal.returns-in-Some
returns-in-Some c m image dir names_hold known =
    let g = c.args.geometry.now in
    let names = c.args.names.now in
    let whole = c.in-Some.whole in
    let of = found_right g m image names dir c.args.whole whole c.in-Some.is c.if-whole.true known in
    let says = subst (λ (namings : List Naming). (IsTrue whole.is_empty ↔ (standing_in whole.dir (map naming_of namings) ≡ []))
    → (IsTrue c.has-is_reached.result ↔ ((path : List ℕ) × Leads (map naming_of namings) g.root path whole.dir))
    → (IsTrue c.has_place.result ↔ HasPlaceInTree g (map naming_of namings) whole.dir)) c.deref.ensures.value c.has_place.ensures in
    let reached = c.has-is_reached.ensures in
    let leads = names_hold.leads whole.dir in
    let is_whole : (entries : List Entry) × (dotdot : ℕ) × IsWhole g m image whole.dir entries dotdot = (of.1.entries, whole.dotdot, of.1.holds) in
    place_told g m image (meant names) whole dir c.has_place.result of (says of.1.empty (
      λ yes.
          let way = leads.0 (reached.0 yes) in
          (way.0, over_all (meant names) g.root way.0 whole.dir way.1),
      λ way. reached.1 (leads.1 (way.0, over_directories g m image (meant names) names_hold.standing g.root way.0 whole.dir is_whole way.1)),
    ))

pub returns-in_default : goal.returns-in_default
returns-in_default c m image dir names_hold known = λ entries dotdot is.
    let none = (found_wrong c.args.geometry.now m image c.args.names.now dir c.args.whole c.in-Some.whole c.in-Some.is c.if-whole.false known).1 in
    absurd (none entries dotdot is)

pub returns-in_default-2 : goal.returns-in_default-2
returns-in_default-2 c m image dir names_hold known = λ entries dotdot is.
    absurd (found_none c.args.geometry.now m image c.args.names.now dir c.args.whole c.in_default.is known entries dotdot is)
