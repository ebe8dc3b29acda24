use Rattle.std.proofs.Common.{◌≡◌, ◌≤◌, ◌+◌, cond, eqb, not, false, true, refl, arith}
use Rattle.std.proofs.lemmas.Bool.{eq-eqb, ne_eqb}
use Rattle.xn_bytes.specs.HashedTree.{bests_at, no_best, used_among}
use Rattle.xn_leaf.proofs.FreeForms.{used_step}
use Rattle.xn_leaf.proofs.free.used_in.Goals as goal
use Rattle.xn_leaf.proofs.free.used_in.Goals.{then-best_in, else-best_in}

pub loop-slot-preserved : goal.loop-slot-preserved
loop-slot-preserved c =
    let bytes = c.args.bytes.now in
    let all = used_among (bests_at c.args.valid 64 bytes) in
    let best = c.best_in.result in
    elim c.if-best_in.branch [
      | then-best_in w ↦
          let few : c.if-best_in.used ≤ c.loop-slot.slot + 1 = omega (arith, w.used-is, c.loop-slot.invariant.few) in
          let test : eqb best no_best ≡ false = ne_eqb _ _ w.if-best_in.true in
          let one : 1 ≡ cond (not (eqb best no_best)) 1 0 = rw test refl in
          record {
            few = few;
            so_far = rw w.used-is (used_step all c.loop-slot.slot c.args.valid c.loop-slot.used 1 best bytes c.loop-slot-test.true c.best_in.ensures one c.loop-slot.invariant.so_far);
          }
      | else-best_in w ↦
          let few : c.if-best_in.used ≤ c.loop-slot.slot + 1 = omega (arith, w.used-is, c.loop-slot.invariant.few) in
          let same : c.if-best_in.used ≡ c.loop-slot.used + 0 = omega (arith, w.used-is) in
          let test : eqb best no_best ≡ true = eq-eqb _ _ w.if-best_in.false in
          let zero : 0 ≡ cond (not (eqb best no_best)) 1 0 = rw test refl in
          record {
            few = few;
            so_far = rw same (used_step all c.loop-slot.slot c.args.valid c.loop-slot.used 0 best bytes c.loop-slot-test.true c.best_in.ensures zero c.loop-slot.invariant.so_far);
          }
    ]
