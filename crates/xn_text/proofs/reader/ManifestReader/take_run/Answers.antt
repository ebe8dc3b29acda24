use Rattle.std.proofs.Common.{◌≡◌, ◌≤◌, ◌+◌, [], ◌∷◌, ◌++◌, ℕ, ap, sym, subst, ◌∙◌, arith}
use Rattle.std.specs.Prelude.{sum_by}
use Rattle.std.proofs.lemmas.List.Sums.{sum_by_push}
use Rattle.xn_meaning.specs.Manifests.{Manifest as Said, IsManifest, ArePoolRuns, most_pool_blocks}
use Rattle.xn_text.specs.Reading.{end_of_runs}
use Rattle.xn_text.proofs.ManifestLemmas.{runs_more, last_run, runs_end}
use Rattle.xn_text.proofs.reader.ManifestReader.take_run.Goals as goal
use Rattle.xn_text.proofs.reader.ManifestReader.take_run.Goals.{then-block-self-via-then-block-self, then-block-self-via-else-block-self+then-count-eq0, then-block-self-via-else-block-self+else-count-eq0+then-count-self, then-block-self-via-else-block-self+else-count-eq0+else-count-self+then-block-count}

pub returns-then-block-self-clause-err : goal.returns-then-block-self-clause-err
returns-then-block-self-clause-err c = λ bad. record {
  small = (omega arith, omega arith);
  front = subst IsManifest c.self.view_is c.self.invariant.said;
  none = λ is.
      let runs = subst (λ (m : Said). ArePoolRuns 0 (m.runs ++ (c.args.block, c.args.count) ∷ [])) (sym c.self.view_is) is.runs in
      let last = last_run 0 c.self.inside.runs.items (c.args.block, c.args.count) runs in
      let few : sum_by (λ run. run.1) (c.self.inside.runs.items ++ (c.args.block, c.args.count) ∷ []) ≤ most_pool_blocks =
      subst (λ (m : Said). sum_by (λ run. run.1) (m.runs ++ (c.args.block, c.args.count) ∷ []) ≤ most_pool_blocks) (sym c.self.view_is) is.few in
      let pool = sum_by_push (λ (run : ℕ × ℕ). run.1) c.self.inside.runs.items (c.args.block, c.args.count) in
      elim c.then-block-self.branch [
        | then-block-self-via-then-block-self w ↦ omega (arith, last.above, c.self.invariant.runs)
        | then-block-self-via-else-block-self+then-count-eq0 w ↦ omega (arith, last.some)
        | then-block-self-via-else-block-self+else-count-eq0+then-count-self w ↦ omega (arith, few, pool, c.self.invariant.pool)
        | then-block-self-via-else-block-self+else-count-eq0+else-count-self+then-block-count w ↦ omega (arith, last.low)
      ];
}

pub invariant_of-self-2 : goal.invariant_of-self-2
invariant_of-self-2 c =
    let few : c.self.inside.pool_blocks + c.args.count ≡ sum_by (λ run. run.1) (c.self.inside.runs.items ++ (c.args.block, c.args.count) ∷ []) =
    omega (arith, c.self.invariant.pool, sum_by_push (λ (run : ℕ × ℕ). run.1) c.self.inside.runs.items (c.args.block, c.args.count)) in
    record {
      said = record {
        chunks = c.self.invariant.said.chunks;
        runs = rw c.in_ok-push.ensures.items (runs_more 0 c.self.inside.runs.items (c.args.block, c.args.count) c.self.invariant.said.runs
            (omega (arith, c.self.invariant.runs)) (omega arith) (omega arith));
        few = rw c.in_ok-push.ensures.items (omega (arith, few));
      };
      chunks = c.self.invariant.chunks;
      runs = sym (ap (end_of_runs 0) c.in_ok-push.ensures.items ∙ runs_end 0 c.self.inside.runs.items (c.args.block, c.args.count));
      pool = rw c.in_ok-push.ensures.items few;
    }
