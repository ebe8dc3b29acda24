use Rattle.std.proofs.Common.{◌≡◌, rules, sym, subst, ◌∙◌}
use denote.Enum.Bare.{same_true, true_same}
use Rattle.xn_bytes.specs.contracts.kind.Kind.{the_type}
use Rattle.xn_dir.specs.Listings.{entry_of}
use Rattle.xn_facts.specs.declared.facts.Known.{Known}
use Rattle.std.specs.Prelude.{Option}
use Rattle.xn_census.specs.SortedOut.{IsOfKind}
use Rattle.xn_census.proofs.Nodes.{right_of, is_right_by}
use Rattle.xn_census.proofs.entries.is_right.Goals as goal

pub returns-in-Some-known : goal.returns-in-Some-known
returns-in-Some-known c =
    let node = c.in-Some.node.now in
    let listed = c.args.entry.now in
    let known = c.in-Some-known.known in (
      λ is.
          let same : known.kind ≡ listed.kind = same_true the_type (search rules) _ _ (sym c.eq.ensures ∙ is) in
          is_right_by c.args.nodes.now node (entry_of listed) c.in-Some.ensures.0 c.in-Some.ensures.1 (subst (λ (o : Option Known). IsOfKind listed.kind o) (sym c.in-Some-known.is) same),
      λ right.
          let of_kind = right_of c.args.nodes.now node (entry_of listed) c.requires c.in-Some.ensures.0 c.in-Some.ensures.1 right in
          let same : known.kind ≡ listed.kind = subst (λ (o : Option Known). IsOfKind listed.kind o) c.in-Some-known.is of_kind in
          c.eq.ensures ∙ true_same the_type _ _ same,
    )
