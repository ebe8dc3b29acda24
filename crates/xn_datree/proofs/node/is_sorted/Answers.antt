use Rattle.std.proofs.Common.{◌+◌, ℕ, drop, refl, sym, ap, subst}
use Rattle.std.proofs.lemmas.List.{drop_all}
use Rattle.xn_bytes.specs.HashedTree.{Child}
use Rattle.xn_datree.proofs.Rising.{RiseBy, GoesOn, sorted_from, rise_from_sorted, goes_on, falls, drop_at}
use Rattle.xn_datree.proofs.node.is_sorted.Goals as goal

abbrev hash_of : Child → ℕ
hash_of child = child.hash

pub loop-child-init : goal.loop-child-init
loop-child-init c = record {
  to = sorted_from hash_of 0 c.args.children.now;
  back = rise_from_sorted hash_of c.args.children.now;
}

pub loop-child-preserved : goal.loop-child-preserved
loop-child-preserved c =
    let xs = c.args.children.now in
    let x = c.child-item.result in
    let there = subst (GoesOn hash_of xs c.loop-child.least) (drop_at xs c.loop-child.child-index x c.loop-child-test.true c.child-item.is) c.loop-child.invariant in
    let hash = ap hash_of c.child.view_is in
    rw hash (goes_on hash_of xs c.loop-child.least x (drop (c.loop-child.child-index + 1) xs) (rw hash at c.if-child-least.false) there)

pub returns-then-child-least : goal.returns-then-child-least
returns-then-child-least c =
    let xs = c.args.children.now in
    let x = c.child-item.result in
    let there = subst (GoesOn hash_of xs c.loop-child.least) (drop_at xs c.loop-child.child-index x c.loop-child-test.true c.child-item.is) c.loop-child.invariant in
    let hash = ap hash_of c.child.view_is in
    (λ f. absurd cc, λ sorted. absurd (falls hash_of xs c.loop-child.least x (drop (c.loop-child.child-index + 1) xs) (rw hash at c.if-child-least.true) there sorted))

pub returns : goal.returns
returns c =
    let gone = drop_all c.loop-child.child-index c.args.children.now c.loop-child-test.false in
    (λ t. c.loop-child.invariant.to (subst (RiseBy hash_of c.loop-child.least) (sym gone) tt), λ sorted. refl)
