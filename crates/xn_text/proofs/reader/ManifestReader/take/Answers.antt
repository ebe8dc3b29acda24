use Rattle.std.proofs.Common.{◌≡◌, ◌≢◌, [], ap, length, subst, ◌∙◌, arith}
use Rattle.std.proofs.lemmas.Bool.Decides.{nat_tests}
use Rattle.std.proofs.lemmas.Result.{IfErr-weaker}
use Rattle.xn_meaning.specs.Manifests.{Manifest as Said, IsManifest}
use Rattle.xn_text.proofs.ManifestLemmas.{chunk_refused, run_refused, no_run_refused, no_line_refused}
use Rattle.xn_text.proofs.reader.ManifestReader.take.Goals as goal

pub returns-in-Some-clause-err : goal.returns-in-Some-clause-err
returns-in-Some-clause-err c =
    IfErr-weaker c.take_run.result _ _
    (λ fault is bad. run_refused c.args.self.now (c.in-Some.block, c.in-Some.count) c.args.line.now c.in-Some.ensures (is bad))
    c.take_run.ensures.err

pub returns-then-not-is_empty-clause-err : goal.returns-then-not-is_empty-clause-err
returns-then-not-is_empty-clause-err c = λ bad.
    let some : c.args.self.now.runs ≢ [] = λ none.
    let empty : c.self.inside.runs.items ≡ [] = ap (λ (m : Said). m.runs) c.self.view_is ∙ none in
    grind (arith, nat_tests, ap length empty, c.is_empty.ensures, c.if-not-is_empty.true) in
    no_run_refused c.args.self.now c.args.line.now (subst IsManifest c.self.view_is c.self.invariant.said) some c.in_default.ensures

pub returns-in-Some-read_chunk-clause-err : goal.returns-in-Some-read_chunk-clause-err
returns-in-Some-read_chunk-clause-err c =
    IfErr-weaker c.take_chunk.result _ _
    (λ fault is bad. chunk_refused c.args.self.now (c.in-Some-read_chunk.start, c.in-Some-read_chunk.mask) c.args.line.now c.in-Some-read_chunk.ensures (is bad))
    c.take_chunk.ensures.err

pub returns-in-None-clause-err : goal.returns-in-None-clause-err
returns-in-None-clause-err c = λ bad.
    no_line_refused c.args.self.now c.args.line.now (subst IsManifest c.self.view_is c.self.invariant.said) c.in-None.ensures c.in_default.ensures
