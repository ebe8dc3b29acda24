use Rattle.std.proofs.Common.{[], ◌∷◌, ◌++◌, ap, sym, subst, ◌∙◌, arith}
use Rattle.xn_meaning.specs.Manifests.{Manifest as Said, AreChunks, IsManifest}
use Rattle.xn_text.specs.Reading.{end_of_chunks}
use Rattle.xn_text.proofs.ManifestLemmas.{chunks_more, last_chunk, chunks_end}
use Rattle.xn_text.proofs.reader.ManifestReader.take_chunk.Goals as goal
use Rattle.xn_text.proofs.reader.ManifestReader.take_chunk.Goals.{then-start-self-via-then-start-self, then-start-self-via-else-start-self+then-start-gt-LIMIT}

pub returns-then-start-self-clause-err : goal.returns-then-start-self-clause-err
returns-then-start-self-clause-err c = λ bad. record {
  small = (omega arith, omega arith);
  front = subst IsManifest c.self.view_is c.self.invariant.said;
  none = λ is.
      let chunks = subst (λ (m : Said). AreChunks 0 (m.chunks ++ (c.args.start, c.args.mask) ∷ [])) (sym c.self.view_is) is.chunks in
      let last = last_chunk 0 c.self.inside.chunks.items (c.args.start, c.args.mask) chunks in
      elim c.then-start-self.branch [
        | then-start-self-via-then-start-self w ↦ omega (arith, last.above, c.self.invariant.chunks)
        | then-start-self-via-else-start-self+then-start-gt-LIMIT w ↦ omega (arith, last.low)
      ];
}

pub invariant_of-self-2 : goal.invariant_of-self-2
invariant_of-self-2 c = record {
  said = record {
    chunks = rw c.in_ok-push.ensures.items (chunks_more 0 c.self.inside.chunks.items (c.args.start, c.args.mask) c.self.invariant.said.chunks
        (omega (arith, c.self.invariant.chunks)) (omega arith) (omega arith));
    runs = c.self.invariant.said.runs;
    few = c.self.invariant.said.few;
  };
  chunks = sym (ap (end_of_chunks 0) c.in_ok-push.ensures.items ∙ chunks_end 0 c.self.inside.chunks.items (c.args.start, c.args.mask));
  runs = c.self.invariant.runs;
  pool = c.self.invariant.pool;
}
