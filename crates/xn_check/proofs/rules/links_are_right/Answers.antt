use Rattle.std.proofs.lemmas.List.{length-map}
use Rattle.std.proofs.Common.{◌≡◌, ◌↔◌, ℕ, List, Some, length, map, subst, sym, ap, ◌∙◌, rules}
use Rattle.std.specs.Prelude.{IsTrue, count_by}
use Rattle.std.proofs.lemmas.Bool.{not-false, true≢false}
use denote.Enum.Bare.{same_true, sameb}
use Rattle.xn_bytes.specs.contracts.kind.Kind.{the_type}
use Rattle.xn_bytes.specs.declared.kind.Kind.TheVariants.{Dir}
use Rattle.xn_rules.specs.Namings.{naming, standing_in}
use Rattle.xn_rules.specs.NameRules.{HasDirectoryLinks, says_directory}
use Rattle.xn_names.specs.declared.entry.Naming.{Naming}
use Rattle.xn_names.specs.Names.{naming_of}
use Rattle.xn_check.specs.Known.{meant}
use Rattle.xn_check.proofs.WholesFound.{found_none, found_right, found_wrong}
use Rattle.xn_check.proofs.RuleLemmas.{directory_links_told, links_of_none, links_told, node_known}
use Rattle.xn_check.proofs.rules.links_are_right.Goals as goal

pub returns-then-ne : goal.returns-then-ne
returns-then-ne c m image known holds =
    let g = c.args.geometry.now in
    let node = c.args.node.now in
    let is = node_known g image node c.in-Some.known c.in-Some.is holds in
    let other : c.in-Some.known.kind ≡ Dir → ⊥ = λ e. let said = rw e at c.ne.ensures in true≢false (sym c.if-ne.true ∙ said) in
    let counted : length c.args.named.now ≡ length (naming node.ino (meant c.args.names.now)) =
    sym (length-map c.args.named.now naming_of) ∙ ap length c.requires.named in
    let tells = subst (λ (count : ℕ). IsTrue c.has_links.result ↔ (c.in-Some.known.nlink ≡ count)) counted c.has_links.ensures in
    links_told g m image (meant c.args.names.now) node.ino c.in-Some.known c.has_links.result is other tells

pub returns-in-Some-whole : goal.returns-in-Some-whole
returns-in-Some-whole c m image known holds =
    let g = c.args.geometry.now in
    let names = c.args.names.now in
    let node = c.args.node.now in
    let whole = c.in-Some-whole.whole in
    let is = node_known g image node c.in-Some.known c.in-Some.is holds in
    let of = found_right g m image names node.ino c.args.whole whole c.in-Some-whole.is c.if-whole.true known in
    let says = subst (λ (namings : List Naming). whole.subdirectories ≡ count_by says_directory (standing_in node.ino (map naming_of namings))
    → (IsTrue c.has_directory_links.result ↔ HasDirectoryLinks g (map naming_of namings) node.ino c.in-Some.known.nlink)) c.deref.ensures.value c.has_directory_links.ensures in
    let subdirectories = of.1.subdirectories ∙ ap (λ dir. count_by says_directory (standing_in dir (meant names))) of.0 in
    directory_links_told g m image (meant names) node.ino c.in-Some.known whole c.has_directory_links.result is of (says subdirectories)

pub returns-in_default-whole : goal.returns-in_default-whole
returns-in_default-whole c m image known holds =
    let g = c.args.geometry.now in
    let wrong = found_wrong g m image c.args.names.now c.args.node.now.ino c.args.whole c.in-Some-whole.whole c.in-Some-whole.is c.if-whole.false known in
    links_of_none g m image (meant c.args.names.now) c.args.node.now.ino wrong.0.directory wrong.1

pub returns-in_default-whole-2 : goal.returns-in_default-whole-2
returns-in_default-whole-2 c m image known holds =
    let g = c.args.geometry.now in
    let node = c.args.node.now in
    let none = found_none g m image c.args.names.now node.ino c.args.whole c.in_default-whole.is known in
    let is = node_known g image node c.in-Some.known c.in-Some.is holds in
    let kind : c.in-Some.known.kind ≡ Dir = same_true the_type (search rules) c.in-Some.known.kind Dir (not-false (sameb the_type c.in-Some.known.kind Dir) (sym c.ne.ensures ∙ c.if-ne.false)) in
    links_of_none g m image (meant c.args.names.now) node.ino (is.kind ∙ ap Some kind) none
