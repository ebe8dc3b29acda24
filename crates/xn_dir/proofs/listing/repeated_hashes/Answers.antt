use Rattle.std.proofs.Common.{◌∙◌, ◌-◌, ap, arith, sym}
use Rattle.xn_dir.specs.Repeats.{hash_of}
use Rattle.xn_dir.proofs.Repeats.{are_repeated, hash_at, repeats_on, repeats_push}
use Rattle.xn_dir.proofs.listing.repeated_hashes.Goals as goal
use Rattle.xn_dir.proofs.listing.repeated_hashes.Goals.{then-leaf-before+in_ok-push, else-leaf-before}

pub loop-next-preserved : goal.loop-next-preserved
loop-next-preserved c =
    let leaves = c.args.leaves.now in
    let next = c.loop-next.next in
    let hashes = c.loop-next.repeated.items in
    let one = c.loop-next.auto.next in
    let within = c.loop-next-test.true in
    let here = hash_at leaves next c.index-leaves-next.result c.leaf.inside.hash within c.index-leaves-next.is (ap hash_of (sym c.leaf.view_is)) in
    let before = hash_at leaves (next - 1) c.index-leaves-next-in-loop-next.result c.before-in-loop-next.inside.hash (omega (arith, within)) c.index-leaves-next-in-loop-next.is (ap hash_of (sym c.before-in-loop-next.view_is)) in
    elim c.if-leaf-before.branch [
      | then-leaf-before+in_ok-push w ↦ rw w.repeated-is (repeats_push leaves next c.leaf.inside.hash hashes c.requires one within here (λ d. here d ∙ w.if-leaf-before.true ∙ sym (before d)) w.push.new.self.items w.in_ok-push.ensures.items c.loop-next.invariant)
      | else-leaf-before w ↦ rw w.repeated-is (repeats_on leaves next hashes c.requires one within (λ d e. w.if-leaf-before.false (sym (here d) ∙ e ∙ before d)) c.loop-next.invariant)
    ]

pub returns-clause-all : goal.returns-clause-all
returns-clause-all c = are_repeated c.args.leaves.now c.loop-next.next c.loop-next.repeated.items c.requires (omega (arith, c.loop-next-test.false)) c.loop-next.invariant.found
