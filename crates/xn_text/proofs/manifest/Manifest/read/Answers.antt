use Rattle.std.proofs.Common.{◌∙◌, ◌++◌, List, ℕ, ap, sym, length, arith}
use Rattle.xn_meaning.specs.Manifests.{lines_in, manifest_lines}
use Rattle.xn_text.proofs.ManifestLemmas.{first_bad}
use Rattle.xn_text.proofs.manifest.Manifest.read.Goals as goal

pub loop-line-init : goal.loop-line-init
loop-line-init c = record {
  read = c.in-Some.ensures.lines ∙ ap (λ (lines : List (List ℕ)). lines ++ lines_in c.in-Some.rest.now) (sym c.new-reader.ensures);
  counted = sym (ap length c.new-reader.ensures);
  few = omega (arith, c.in-Some.ensures.shorter);
}

pub returns-in-Err-Bad-clause-err : goal.returns-in-Err-Bad-clause-err
returns-in-Err-Bad-clause-err c =
    first_bad c.args.text.now c.in-Some-first_line.line.now c.loop-line.reader (lines_in c.in-Some-first_line.behind.now) c.loop-line.number
    (c.loop-line.invariant.read ∙ ap (λ (lines : List (List ℕ)). manifest_lines c.loop-line.reader ++ lines) c.in-Some-first_line.ensures.lines)
    c.loop-line.invariant.counted (c.in-Err-Bad.ensures.err c.in-Err-Bad.field-0-is)
