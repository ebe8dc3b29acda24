use Rattle.std.proofs.Common.{◌≡◌, ◌∙◌, ◌∷◌, ◌++◌, List, ℕ, Some, None, ap, subst, sym, append_assoc}
use Rattle.std.proofs.lemmas.Bool.Decides.{Decides-eqb}
use Rattle.std.proofs.lemmas.Slice.Eq.{strip_prefix_is}
use Rattle.std.specs.Str.{IsUtf8}
use Rattle.xn_meaning.specs.Replies.{space}
use Rattle.xn_text.proofs.PartLemmas.{words_utf8, behind_front, found_words, only_words, err_of, ok_of}
use Rattle.xn_text.proofs.parts.two_words.Goals as goal

pub returns-in_err-words-clause-only : goal.returns-in_err-words-clause-only
returns-in_err-words-clause-only c = λ first second are same.
    absurd (strip_prefix_is Decides-eqb c.args.line.now c.args.front.now None c.in_err-words.ensures.cases (first ++ space ∷ second)
    (same ∙ append_assoc c.args.front.now first (space ∷ second)))

pub returns-in_err-ok-clause-only : goal.returns-in_err-ok-clause-only
returns-in_err-ok-clause-only c = λ first second are same.
    let behind : c.args.line.now ≡ c.args.front.now ++ c.in_ok-words.words.now = strip_prefix_is Decides-eqb c.args.line.now c.args.front.now (Some c.in_ok-words.words) c.in_ok-words.ensures.cases in
    let is = behind_front c.args.line.now c.args.front.now first second c.in_ok-words.words.now behind same in
    let no = err_of c.from_utf8.result _ _ c.in_err-ok.ensures.value c.from_utf8.ensures.cases in
    absurd (no.1.0 (subst IsUtf8 (sym is) (words_utf8 first second are)))

pub returns-clause-found : goal.returns-clause-found
returns-clause-found c =
    let behind : c.args.line.now ≡ c.args.front.now ++ c.in_ok-words.words.now = strip_prefix_is Decides-eqb c.args.line.now c.args.front.now (Some c.in_ok-words.words) c.in_ok-words.ensures.cases in
    let text = ok_of c.from_utf8.result _ _ c.in_ok-ok.field-0 c.in_ok-ok.ensures.value c.from_utf8.ensures.cases in
    found_words c.split_once.result c.args.line.now c.args.front.now c.in_ok-ok.field-0.now (behind ∙ ap (λ (rest : List ℕ). c.args.front.now ++ rest) (sym text.0)) c.split_once.ensures.cases

pub returns-clause-only : goal.returns-clause-only
returns-clause-only c = λ first second are same.
    let behind : c.args.line.now ≡ c.args.front.now ++ c.in_ok-words.words.now = strip_prefix_is Decides-eqb c.args.line.now c.args.front.now (Some c.in_ok-words.words) c.in_ok-words.ensures.cases in
    let is = behind_front c.args.line.now c.args.front.now first second c.in_ok-words.words.now behind same in
    let text = ok_of c.from_utf8.result _ _ c.in_ok-ok.field-0 c.in_ok-ok.ensures.value c.from_utf8.ensures.cases in
    only_words c.split_once.result c.in_ok-ok.field-0.now first second c.split_once.ensures.cases are (text.0 ∙ is)
