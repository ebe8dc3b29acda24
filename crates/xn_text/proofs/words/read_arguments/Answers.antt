use Rattle.std.proofs.Common.{ap, ap₂, subst, arith, ◌∙◌, ◌∷◌, [], ℕ, List, get_or}
use Rattle.std.specs.Prelude.{codes}
use Rattle.std.proofs.lemmas.Result.{err_from_is_err_and}
use Rattle.xn_meaning.specs.Words.{IsWord}
use Rattle.xn_text.proofs.WordLemmas.{of_three, same_text, asks_of, none, list_refused, parents_refused, path_refused}
use Rattle.xn_text.proofs.words.read_arguments.Goals as goal

pub returns-then-eq-clause-ok : goal.returns-then-eq-clause-ok
returns-then-eq-clause-ok c =
    asks_of (codes "list") c.args.command.now c.args.rest.now c.in_ok-ino.ino c.if-eq.ensures c.in-len3.len_at_least c.in-len3.len_below c.requires c.in_ok-ino.ensures.ok (omega arith)

pub returns-then-eq-2-clause-ok : goal.returns-then-eq-2-clause-ok
returns-then-eq-2-clause-ok c =
    asks_of (codes "parents") c.args.command.now c.args.rest.now c.in_ok-ino-2.ino c.if-eq-2.ensures c.in-len3.len_at_least c.in-len3.len_below c.requires c.in_ok-ino-2.ensures.ok (omega arith)

pub returns-then-eq-3-clause-ok : goal.returns-then-eq-3-clause-ok
returns-then-eq-3-clause-ok c = record {
  image = (get_or c.args.rest.now 0 none).now;
  manifest = (get_or c.args.rest.now 1 none).now;
  form = ap₂ (λ (first : List ℕ) (rest : List (List ℕ)). first ∷ rest) (same_text _ _ c.if-eq-3.ensures)
      (of_three c.args.rest.now none c.in-len3.len_at_least c.in-len3.len_below
      ∙ ap (λ (word : List ℕ). (get_or c.args.rest.now 0 none).now ∷ (get_or c.args.rest.now 1 none).now ∷ word ∷ []) c.in_ok-path.ensures.text);
  image_word = c.requires 0 none (omega arith);
  manifest_word = c.requires 1 none (omega arith);
  path_word = subst IsWord c.in_ok-path.ensures.text (c.requires 2 none (omega arith));
  bytes = c.in_ok-path.ensures.bytes;
}

pub returns-in_err-ino-clause-err : goal.returns-in_err-ino-clause-err
returns-in_err-ino-clause-err c =
    let p = err_from_is_err_and c.from_residual.result c.from_residual.ensures.1 in
    rw (p.1, p.2) (λ usage. list_refused c.args.command.now c.args.rest.now c.in-len3.len_at_least c.in-len3.len_below c.if-eq.ensures (c.in_err-ino.ensures.err usage))

pub returns-in_err-ino-2-clause-err : goal.returns-in_err-ino-2-clause-err
returns-in_err-ino-2-clause-err c =
    let p = err_from_is_err_and c.from_residual-in_err-ino-2.result c.from_residual-in_err-ino-2.ensures.1 in
    rw (p.1, p.2) (λ usage. parents_refused c.args.command.now c.args.rest.now c.in-len3.len_at_least c.in-len3.len_below c.if-eq-2.ensures (c.in_err-ino-2.ensures.err usage))

pub returns-in_err-path-clause-err : goal.returns-in_err-path-clause-err
returns-in_err-path-clause-err c =
    let p = err_from_is_err_and c.from_residual-in_err-path.result c.from_residual-in_err-path.ensures.1 in
    rw (p.1, p.2) (λ usage. path_refused c.args.command.now c.args.rest.now c.in-len3.len_at_least c.in-len3.len_below c.if-eq-3.ensures (c.in_err-path.ensures.err usage))
