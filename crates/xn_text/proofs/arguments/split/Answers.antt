use Rattle.std.proofs.Common.{ap, sym, subst, arith, ◌≡◌, ◌∙◌, ◌<◌, ◌^◌, List, ℕ, length}
use Rattle.std.proofs.lemmas.List.{length-map}
use Rattle.std.specs.Prelude.{All, map, string_bytes}
use Rattle.std.proofs.lemmas.List.Elements.{All-map}
use Rattle.clap.specs.Words.{App, HasMatchesOf, HasKind, is_simple_and_free, fault_of}
use Rattle.xn_meaning.specs.Words.{IsWord}
use Rattle.xn_text.proofs.ArgumentLemmas.{splits, refuses, simple_and_free}
use Rattle.xn_text.proofs.arguments.split.Goals as goal

pub returns-in-Ok-clause-ok : goal.returns-in-Ok-clause-ok
returns-in-Ok-clause-ok c =
    let words : List (List ℕ) = map string_bytes c.args.words.now in
    let are : All IsWord words = All-map IsWord string_bytes c.args.words.now c.requires in
    splits words c.in-Ok.matches are
    (subst (λ (app : App). HasMatchesOf app words c.in-Ok.matches) c.in_ok-reader.ensures c.in-Ok.ensures.matches)
    (ap (λ (app : App). fault_of app words) (sym c.in_ok-reader.ensures) ∙ c.in-Ok.ensures.kinds (ap is_simple_and_free c.in_ok-reader.ensures ∙ simple_and_free))

pub returns-in-Err-clause-err : goal.returns-in-Err-clause-err
returns-in-Err-clause-err c = λ usage.
    let words : List (List ℕ) = map string_bytes c.args.words.now in
    let are : All IsWord words = All-map IsWord string_bytes c.args.words.now c.requires in
    let count : length words ≡ length c.args.words.now = length-map c.args.words.now string_bytes in
    let small : length c.args.words.now < 2 ^ 64 = omega arith in
    let few : length words < 2 = refuses words c.in-Err.error are (omega arith)
    (subst (λ (app : App). HasKind (fault_of app words) c.in-Err.error) c.in_ok-reader.ensures
    (c.in-Err.ensures.kinds (ap is_simple_and_free c.in_ok-reader.ensures ∙ simple_and_free)))
    (c.fault_of.ensures usage) in
    omega arith
