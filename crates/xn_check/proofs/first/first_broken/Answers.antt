use Rattle.std.proofs.Common.{◌≡◌, ℕ, ◌<◌, Option, get_or, length, subst, sym, ap, ◌∙◌, inl, inr, arith}
use Rattle.std.proofs.lemmas.Bool.{cases_lt}
use Rattle.std.proofs.lemmas.List.{get_or_default}
use Rattle.std.proofs.lemmas.List.Elements.{All-map}
use Rattle.std.specs.Prelude.{MatchOption}
use Rattle.xn_meaning.specs.Manifests.{IsLive}
use Rattle.xn_rules.specs.NameRules.{BreaksRule, Stands}
use Rattle.xn_facts.specs.declared.facts.Broken.{Broken}
use Rattle.xn_facts.specs.declared.facts.Node.{Node}
use Rattle.xn_facts.specs.Facts.{IsFirst, NodeHolds}
use Rattle.xn_check.specs.Known.{meant}
use Rattle.xn_check.proofs.FirstLemmas.{is_live, place_of, stands_before}
use Rattle.xn_check.proofs.StandLemmas.{stands_or_breaks}
use Rattle.xn_check.proofs.first.first_broken.Goals as goal

pub returns-in-Some : goal.returns-in-Some
returns-in-Some c m image names_hold live holds =
    let g = c.args.geometry.now in
    let namings = meant c.args.names.now in
    let nodes = c.args.nodes.now in
    let i = c.loop-node.node-index in
    let node = c.node-item.result in
    let there : i < length nodes = c.loop-node-test.true in
    let is = sym c.node-item.is in
    let here : IsLive g m node.ino = subst (λ (n : Node). IsLive g m n.ino) is (is_live g m nodes live i node there) in
    let known : NodeHolds g image node = subst (NodeHolds g image) is (holds i node there) in
    let first =
    subst (λ (o : Option Broken). MatchOption o (Stands g m image namings node.ino) (IsFirst (BreaksRule g m image namings node.ino))) c.in-Some.is (c.broken_rule.ensures m image names_hold here known) in
    record {
      live = here;
      breaks = first.0;
      least = first.1;
      first = λ before lesser other less is_one breaks.
          let found = place_of g m nodes live before is_one in
          let at : (get_or nodes found.0 node).ino ≡ before = found.2 node in
          let in_front : found.0 < i = stands_before g m nodes live i found.0 node there found.1 (let e = ap (λ (n : Node). n.ino) is in omega (arith, e, at, less)) in
          stands_or_breaks g m image namings before lesser other (subst (Stands g m image namings) at (c.loop-node.invariant m image names_hold live holds found.0 node in_front)) breaks;
    }

pub loop-node-preserved : goal.loop-node-preserved
loop-node-preserved c m image names_hold live holds k d within =
    let g = c.args.geometry.now in
    let namings = meant c.args.names.now in
    let nodes = c.args.nodes.now in
    let i = c.loop-node.node-index in
    elim (cases_lt k i) [
      | inl before ↦ c.loop-node.invariant m image names_hold live holds k d before
      | inr from ↦
          let there : i < length nodes = c.loop-node-test.true in
          let same : k ≡ i = omega (arith, within, from) in
          let node = c.node-item.result in
          let is = sym c.node-item.is in
          let here : IsLive g m node.ino = subst (λ (n : Node). IsLive g m n.ino) is (is_live g m nodes live i node there) in
          let known : NodeHolds g image node = subst (NodeHolds g image) is (holds i node there) in
          let stands =
          subst (λ (o : Option Broken). MatchOption o (Stands g m image namings node.ino) (IsFirst (BreaksRule g m image namings node.ino))) c.in_default.is (c.broken_rule.ensures m image names_hold here known) in
          let at : node ≡ get_or nodes k d = c.node-item.is ∙ get_or_default nodes i node d there ∙ ap (λ (j : ℕ). get_or nodes j d) (sym same) in
          subst (λ (n : Node). Stands g m image namings n.ino) at stands
    ]

pub returns : goal.returns
returns c m image names_hold live holds =
    All-map (Stands c.args.geometry.now m image (meant c.args.names.now)) (λ (node : Node). node.ino) c.args.nodes.now
    (λ k d within. c.loop-node.invariant m image names_hold live holds k d (omega (arith, within, c.loop-node-test.false)))
