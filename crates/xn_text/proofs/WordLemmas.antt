-- The words of the command line by their places.
use Rattle.std.proofs.Common.{◌≡◌, ◌≢◌, ◌∙◌, ◌+◌, ℕ, zero, suc, subst, ◌<◌, ◌≤◌, ◌^◌, true, List, [], ◌∷◌, length, get_or, map, refl, sym, ap, ap₂, arith, Option, Some}
use Rattle.std.specs.Prelude.{All, codes, decimal, option_map, unwrap_or}
use Rattle.std.proofs.lemmas.List.{length-map}
use Rattle.std.proofs.lemmas.List.Elements.{All-tail}
use Rattle.clap.specs.Words.{found_of, matched_of, raw_values}
use Rattle.clap.specs.declared.parser.matches.ArgMatches.{ArgMatches}
use Rattle.xn_text.specs.Arguments.{IsSplit}
use Rattle.xn_bytes.specs.Escapes.{escaped}
use Rattle.xn_meaning.specs.Words.{IsWord, AsksOf, AsksList, AsksParents, AsksResolve, AsksCheck, AsksNothing}
use Rattle.xn_text.proofs.NumberLemmas.{decimal_word}
use Rattle.std.specs.Borrow.{Bor}
use Rattle.std.specs.Str.{bytes_eq}
use Rattle.std.proofs.lemmas.Slice.Eq.{bytes_eq-Decides}

-- the texts of three words
pub of_three : (words : List (Bor (List ℕ))) (d : Bor (List ℕ)) → 3 ≤ length words → length words < 4
    → map (λ word. word.now) words ≡ (get_or words 0 d).now ∷ (get_or words 1 d).now ∷ (get_or words 2 d).now ∷ []
of_three [] d h k = absurd (omega arith)
of_three (a ∷ []) d h k = absurd (omega arith)
of_three (a ∷ b ∷ []) d h k = absurd (omega arith)
of_three (a ∷ b ∷ c ∷ []) d h k = refl
of_three (a ∷ b ∷ c ∷ e ∷ words) d h k = absurd (omega arith)

-- and of two
pub of_two : (words : List (Bor (List ℕ))) (d : Bor (List ℕ)) → length words ≡ 2 → map (λ word. word.now) words ≡ (get_or words 0 d).now ∷ (get_or words 1 d).now ∷ []
of_two [] d two = absurd (omega arith)
of_two (a ∷ []) d two = absurd (omega arith)
of_two (a ∷ b ∷ []) d two = refl
of_two (a ∷ b ∷ c ∷ words) d two = absurd (omega arith)

-- texts that a test found the same
pub same_text : (xs ys : List ℕ) → true ≡ bytes_eq xs ys → xs ≡ ys
same_text xs ys e = (bytes_eq-Decides xs ys).0 (sym e)

-- where no word stands
abbrev pub none : Bor (List ℕ)
none = record { ref_ptr = (0, 0); now = [] }

-- the words of a form that ends with an inode
pub asks_of : (command first : List ℕ) (rest : List (Bor (List ℕ))) (ino : ℕ) → true ≡ bytes_eq first command → 3 ≤ length rest → length rest < 4
    → All (λ word. IsWord word.now) rest → (get_or rest 2 none).now ≡ decimal ino → ino < 2 ^ 64 → AsksOf command (first ∷ map (λ word. word.now) rest) ino
asks_of command first rest ino same least most are last small = record {
  image = (get_or rest 0 none).now;
  manifest = (get_or rest 1 none).now;
  form = ap₂ (λ (word : List ℕ) (words : List (List ℕ)). word ∷ words) (same_text first command same)
      (of_three rest none least most ∙ ap (λ (word : List ℕ). (get_or rest 0 none).now ∷ (get_or rest 1 none).now ∷ word ∷ []) last);
  image_word = are 0 none (omega arith);
  manifest_word = are 1 none (omega arith);
  small = small;
}

-- the words of the form that ends with the manifest
pub asks_check : (first : List ℕ) (rest : List (Bor (List ℕ))) → true ≡ bytes_eq first (codes "check") → length rest ≡ 2
    → All (λ word. IsWord word.now) rest → AsksCheck (first ∷ map (λ word. word.now) rest)
asks_check first rest same two are = record {
  image = (get_or rest 0 none).now;
  manifest = (get_or rest 1 none).now;
  form = ap₂ (λ (word : List ℕ) (words : List (List ℕ)). word ∷ words) (same_text first (codes "check") same) (of_two rest none two);
  image_word = are 0 none (omega arith);
  manifest_word = are 1 none (omega arith);
}

-- how many words there are of a form
words_of : (command one : List ℕ) (rest : List (Bor (List ℕ))) (others : List (List ℕ)) → command ∷ map (λ word. word.now) rest ≡ one ∷ others → length rest ≡ length others
words_of command one rest others form =
    let mapped : length (map (λ (word : Bor (List ℕ)). word.now) rest) ≡ length rest = length-map rest (λ (word : Bor (List ℕ)). word.now) in
    let both : suc (length (map (λ (word : Bor (List ℕ)). word.now) rest)) ≡ suc (length others) = ap (λ (words : List (List ℕ)). length words) form in
    omega (arith, mapped, both)

-- words that are neither two nor three behind the command
pub other_count : (command : List ℕ) (rest : List (Bor (List ℕ))) → length rest ≢ 2 → length rest ≢ 3 → AsksNothing (command ∷ map (λ word. word.now) rest)
other_count command rest not_two not_three = record {
  no_list = λ ino asks. not_three (words_of _ _ rest _ asks.form);
  no_resolve = λ path asks. not_three (words_of _ _ rest _ asks.form);
  no_parents = λ ino asks. not_three (words_of _ _ rest _ asks.form);
  no_check = λ asks. not_two (words_of _ _ rest _ asks.form);
}

-- two words behind another command than that of the form
pub check_refused : (command : List ℕ) (rest : List (Bor (List ℕ))) → length rest ≡ 2 → (true ≡ bytes_eq command (codes "check") → ⊥) → AsksNothing (command ∷ map (λ word. word.now) rest)
check_refused command rest two other = record {
  no_list = λ ino asks. let three = words_of _ _ rest _ asks.form in omega (arith, two, three);
  no_resolve = λ path asks. let three = words_of _ _ rest _ asks.form in omega (arith, two, three);
  no_parents = λ ino asks. let three = words_of _ _ rest _ asks.form in omega (arith, two, three);
  no_check = λ asks. let is : command ≡ codes "check" = (let form = asks.form in cc) in other (sym ((bytes_eq-Decides command (codes "check")).1 is));
}

-- ---- words of which the last is none of its form

distinct : (command one other : List ℕ) → true ≡ bytes_eq command one → get_or one 0 0 ≢ get_or other 0 0 → command ≢ other
distinct command one other same differ is = differ (ap (λ (word : List ℕ). get_or word 0 0) (sym (same_text command one same) ∙ is))

module _ (command : List ℕ) (rest : List (Bor (List ℕ))) (least : 3 ≤ length rest) (most : length rest < 4) where
  abbrev last : List ℕ
  last = (get_or rest 2 none).now

  abbrev IsNoInode : Type 0
  IsNoInode = (ino : ℕ) → ino < 2 ^ 64 → last ≢ decimal ino

  abbrev IsNoPath : Type 0
  IsNoPath = (path : List ℕ) → All (λ byte. byte < 256) path → last ≢ escaped path

  parts : (first image manifest end : List ℕ) → command ∷ map (λ word. word.now) rest ≡ first ∷ image ∷ manifest ∷ end ∷ [] → (command ≡ first) × (last ≡ end)
  parts first image manifest end form = let three = of_three rest none least most in (cc, cc)

  refused : (command ≡ codes "list" → IsNoInode) → (command ≡ codes "resolve" → IsNoPath) → (command ≡ codes "parents" → IsNoInode)
      → AsksNothing (command ∷ map (λ word. word.now) rest)
  refused lists resolves parents = record {
    no_list = λ ino asks. let are = parts _ _ _ _ asks.form in lists are.0 ino asks.small are.1;
    no_resolve = λ path asks. let are = parts _ _ _ _ asks.form in resolves are.0 path asks.bytes are.1;
    no_parents = λ ino asks. let are = parts _ _ _ _ asks.form in parents are.0 ino asks.small are.1;
    no_check = λ asks. let two = words_of _ _ rest _ asks.form in omega (arith, two, least);
  }

  pub list_refused : true ≡ bytes_eq command (codes "list") → IsNoInode → AsksNothing (command ∷ map (λ word. word.now) rest)
  list_refused same unread = refused (λ is. unread)
      (λ is. absurd (distinct command (codes "list") (codes "resolve") same (λ e. omega (arith, e)) is))
      (λ is. absurd (distinct command (codes "list") (codes "parents") same (λ e. omega (arith, e)) is))

  pub parents_refused : true ≡ bytes_eq command (codes "parents") → IsNoInode → AsksNothing (command ∷ map (λ word. word.now) rest)
  parents_refused same unread = refused
      (λ is. absurd (distinct command (codes "parents") (codes "list") same (λ e. omega (arith, e)) is))
      (λ is. absurd (distinct command (codes "parents") (codes "resolve") same (λ e. omega (arith, e)) is))
      (λ is. unread)

  pub path_refused : true ≡ bytes_eq command (codes "resolve") → IsNoPath → AsksNothing (command ∷ map (λ word. word.now) rest)
  path_refused same unread = refused
      (λ is. absurd (distinct command (codes "resolve") (codes "list") same (λ e. omega (arith, e)) is))
      (λ is. unread)
      (λ is. absurd (distinct command (codes "resolve") (codes "parents") same (λ e. omega (arith, e)) is))

-- ---- each word of a form is one

four : {X : Type 0} (P : X → Type 0) (a b c d : X) → P a → P b → P c → P d → All P (a ∷ b ∷ c ∷ d ∷ [])
four P a b c d pa pb pc pd zero e lt = pa
four P a b c d pa pb pc pd (suc zero) e lt = pb
four P a b c d pa pb pc pd (suc (suc zero)) e lt = pc
four P a b c d pa pb pc pd (suc (suc (suc zero))) e lt = pd
four P a b c d pa pb pc pd (suc (suc (suc (suc k)))) e lt = absurd (omega arith)

three : {X : Type 0} (P : X → Type 0) (a b c : X) → P a → P b → P c → All P (a ∷ b ∷ c ∷ [])
three P a b c pa pb pc zero e lt = pa
three P a b c pa pb pc (suc zero) e lt = pb
three P a b c pa pb pc (suc (suc zero)) e lt = pc
three P a b c pa pb pc (suc (suc (suc k))) e lt = absurd (omega arith)

inode_words : (command : List ℕ) (words : List (List ℕ)) (ino : ℕ) → IsWord command → AsksOf command words ino → All IsWord words
inode_words command words ino is asks = subst (All IsWord) (sym asks.form) (four IsWord _ _ _ _ is asks.image_word asks.manifest_word (decimal_word ino asks.small))

list_words : (words : List (List ℕ)) (ino : ℕ) → AsksList words ino → All IsWord words
list_words words ino asks = inode_words (codes "list") words ino (record { some = omega arith; no_dash = λ e. omega (arith, e) }) asks

parents_words : (words : List (List ℕ)) (ino : ℕ) → AsksParents words ino → All IsWord words
parents_words words ino asks = inode_words (codes "parents") words ino (record { some = omega arith; no_dash = λ e. omega (arith, e) }) asks

check_words : (words : List (List ℕ)) → AsksCheck words → All IsWord words
check_words words asks =
    let check : IsWord (codes "check") = record { some = omega arith; no_dash = λ e. omega (arith, e) } in
    subst (All IsWord) (sym asks.form) (three IsWord _ _ _ check asks.image_word asks.manifest_word)

resolve_words : (words : List (List ℕ)) (path : List ℕ) → AsksResolve words path → All IsWord words
resolve_words words path asks =
    let resolve : IsWord (codes "resolve") = record { some = omega arith; no_dash = λ e. omega (arith, e) } in
    subst (All IsWord) (sym asks.form) (four IsWord _ _ _ _ resolve asks.image_word asks.manifest_word asks.path_word)

-- so words of which one is none are none of the forms
pub asks_nothing : (words : List (List ℕ)) → ¬ All IsWord words → AsksNothing words
asks_nothing words none = record {
  no_list = λ ino asks. none (list_words words ino asks);
  no_resolve = λ path asks. none (resolve_words words path asks);
  no_parents = λ ino asks. none (parents_words words ino asks);
  no_check = λ asks. none (check_words words asks);
}

pub all_unmapped : {X Y : Type 0} (P : Y → Type 0) (f : X → Y) (xs : List X) → All P (map f xs) → All (λ x. P (f x)) xs
all_unmapped P f [] all k d lt = absurd (omega arith)
all_unmapped P f (x ∷ xs) all zero d lt = all 0 (f x) (omega arith)
all_unmapped P f (x ∷ xs) all (suc k) d lt = all_unmapped P f xs (λ i e within. all (suc i) e (omega arith)) k d (omega arith)

-- ---- the rest as it is read from the matches

abbrev texts : List (Bor (List ℕ)) → List (List ℕ)
texts = map (λ word. word.now)

module _ (words : List (List ℕ)) (m : ArgMatches) (split : IsSplit words m) (found : Option (Bor (List (Bor (List ℕ))))) (rest : Bor (List (Bor (List ℕ))))
    (gets : option_map (λ (s : Bor (List (Bor (List ℕ)))). texts s.now) found ≡ option_map raw_values (matched_of (found_of m) (codes "rest"))) (is : found ≡ Some rest) where
  pub rest_is : texts rest.now ≡ split.rest
  rest_is = ap (λ (o : Option (List (List ℕ))). unwrap_or o []) (ap (option_map (λ (s : Bor (List (Bor (List ℕ)))). texts s.now)) (sym is) ∙ gets ∙ split.has_rest)

  pub rest_words : All IsWord words → All (λ word. IsWord word.now) rest.now
  rest_words all = all_unmapped IsWord (λ word. word.now) rest.now
      (subst (All IsWord) (sym rest_is) (All-tail IsWord split.command split.rest (subst (All IsWord) split.parts all)))
