use Rattle.xn_bytes.proofs.TestLemmas.{holds, fails}
use Rattle.xn_text.proofs.WordLemmas.{asks_nothing, all_unmapped, rest_words}
use Rattle.std.specs.Prelude.{map, string_bytes}
use Rattle.std.proofs.lemmas.List.Elements.{All-map}
use Rattle.xn_meaning.specs.Words.{IsWord}
use Rattle.xn_text.proofs.words.Words.read.Goals as goal

pub returns-then-not-are_words-clause-err : goal.returns-then-not-are_words-clause-err
returns-then-not-are_words-clause-err c = λ usage. asks_nothing _ (λ all. fails c.if-not-are_words.ensures (all_unmapped IsWord string_bytes c.args.words.now all))

pub read_arguments-requires : goal.read_arguments-requires
read_arguments-requires c =
    rest_words (map string_bytes c.args.words.now) c.in_ok-matches.matches c.in_ok-matches.ensures.ok c.get_strs.result c.in-Some-Some.rest c.get_strs.ensures c.in-Some-Some.is-1
    (All-map IsWord string_bytes c.args.words.now (holds c.if-not-are_words.ensures))
