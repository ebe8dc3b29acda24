use Rattle.std.proofs.Common.{◌≡◌, ◌↔◌, ℕ, List, map, sym, subst, ◌∙◌}
use Rattle.std.specs.Prelude.{IfSome, IsTrue}
use Rattle.xn_rules.specs.Namings.{AreLive}
use Rattle.xn_rules.specs.Sound.{MapOnce}
use Rattle.xn_facts.specs.Facts.{mapped_of}
use Rattle.xn_census.specs.Census.{AreAmong, CensusHolds}
use Rattle.xn_check.proofs.Examining.{live_places}
use Rattle.xn_check.proofs.examine.take_survey.Goals as goal

pub take_census-requires-clause-places : goal.take_census-requires-clause-places
take_census-requires-clause-places g c =
    rw c.deref.ensures.value (live_places (g.S.Store.shape c.args.store.now) c.args.manifest.now c.in_ok-live.live.items c.requires.places (rw c.geometry.ensures at c.in_ok-live.ensures))

pub runs_are_right-requires : goal.runs_are_right-requires
runs_are_right-requires g c =
    let are = rw c.geometry.ensures at c.in_ok-live.ensures in
    rw c.deref-3.ensures.value are.rising

pub returns-clause-surveys : goal.returns-clause-surveys
returns-clause-surveys g c =
    let shape = g.S.Store.shape c.args.store.now in
    let image = g.S.Store.image c.args.store.now in
    let live = c.in_ok-live.live.items in
    let census = c.in_ok-census.census in
    let are = rw c.geometry.ensures at c.in_ok-live.ensures in
    let back : live ≡ map (λ node. node.ino) census.nodes.items = sym (c.in_ok-census.ensures.inodes_are ∙ c.deref.ensures.value) in
    record {
      live = subst (λ (inodes : List ℕ). AreLive shape c.args.manifest.now inodes) back are;
      among = subst (λ (inodes : List ℕ). AreAmong inodes census.held.items) back (rw c.deref.ensures.value at c.in_ok-census.ensures.among);
      holds = subst (λ (inodes : List ℕ). IfSome image (λ x. CensusHolds shape x inodes census)) back (rw c.deref.ensures.value at c.in_ok-census.ensures.holds);
      once = subst (λ (inodes : List ℕ). IsTrue c.in_ok-is_mapped_once.is_mapped_once ↔ MapOnce inodes (map mapped_of census.runs.items)) back
          (rw (c.deref-3.ensures.value, c.deref-2.ensures.value) at c.in_ok-is_mapped_once.ensures);
    }
