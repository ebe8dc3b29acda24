-- How `clap` parts words none of which begins with `-`: the first is the command, and those after it are the rest.
use Rattle.std.proofs.Common.{◌≡◌, ◌≢◌, suc, subst, inl, inr, ◌∙◌, ◌<◌, ◌^◌, ◌==◌, ℕ, Bool, true, false, refl, sym, ap, List, [], ◌∷◌, ◌++◌, ap₂, append-nil, length, fold, codes, Option, Some, None, append_assoc, arith}
use Rattle.std.specs.List.{All}
use Rattle.std.proofs.lemmas.Bool.{ne_eqb, le-ltb}
use Rattle.std.specs.Prelude.{IsSomeAnd, if◌then◌else◌, is_some}
use Rattle.std.specs.Option.{option_map_or}
use Rattle.std.specs.Str.{bytes_eq}
use Rattle.clap.specs.Walk.{Row, Rule, Text, Walk, walk, walked, walk_from, nothing_held, positional, idle, reading_by, first_of, all_of}
use Rattle.clap.specs.Walk.{Held, Step, Waiting, trailing, subcommand_met, subcommand_or_other, word_met, plain_word, long_or_other, short_or_plain, walked_from, after_step, finished, settled}
use Rattle.clap.specs.Kinds.{or_else, range_kinds, values_kinds, Kinds}
use Rattle.clap.specs.Lexer.{usize_max, long_of, short_of}
use Rattle.clap.specs.declared.builder.value_parser.ValueParser.TheVariants as parsers
use Rattle.clap.specs.declared.error.kind.ErrorKind.TheVariants.{MissingRequiredArgument, OutOfMemory}
use Rattle.clap.specs.Simple.{Shape, built, entered, matches_of, is_simple}
use Rattle.clap.specs.Faults.{turn_fault, walk_fault, settle_fault, entered_fault, defaults_fault, fault_of, is_simple_and_free, word_fault, other_fault, step_fault, flag_word_fault, bundle_fault, check_fault}
use Rattle.clap.specs.declared.parser.matches.ValueSource.TheVariants.{CommandLine}
use Rattle.clap.proofs.OnLiterals.{clap_on_literals}
use Rattle.clap.specs.Words.{HasMatchesOf, HasKind, found_of, rows_of, kind_of}
use Rattle.clap.specs.declared.parser.matches.ArgMatches.{ArgMatches}
use Rattle.clap.specs.declared.error.Error.{Error}
use Rattle.clap.proofs.WalkLemmas.{first_value-rows, raw_values-rows}
use Rattle.xn_meaning.specs.Words.{IsWord}
use Rattle.xn_text.specs.Arguments.{IsSplit, reader_app, command_rule, rest_rule}

-- a word with bytes, the first of them no `-`
abbrev pub IsBare : Text → Type 0
IsBare [] = ⊥
IsBare (byte ∷ bytes) = (byte == 45) ≡ false

abbrev top : Shape
top = (built reader_app).top

abbrev command_row : Text → Row
command_row first = record { id = codes "command"; values = first ∷ []; count = None; source = Some CommandLine; reading = reading_by command_rule }

abbrev rest_row : List Text → Row
rest_row rest = record { id = codes "rest"; values = rest; count = None; source = Some CommandLine; reading = reading_by rest_rule }

-- after the command's word
abbrev after_first : Text → Walk
after_first first = record {
  held = record { rows = []; pending = Some (codes "command", first ∷ []); skip = 0 };
  waiting = idle;
  position = 2;
  is_trailing = false;
  stopped = None;
}

-- after that, with the words of the rest that were seen
abbrev after_more : Text → List Text → Walk
after_more first seen = record {
  held = record { rows = command_row first ∷ []; pending = Some (codes "rest", seen); skip = 0 };
  waiting = positional;
  position = 2;
  is_trailing = false;
  stopped = None;
}

-- ---- a word that is no flag

not_dashes : (word : Text) → IsBare word → bytes_eq word (45 ∷ 45 ∷ []) ≡ false
not_dashes [] bare = absurd bare
not_dashes (byte ∷ bytes) bare = rw bare refl

no_long : (word : Text) → IsBare word → long_of word ≡ None
no_long [] bare = absurd bare
no_long (byte ∷ bytes) bare = rw bare refl

no_short : (word : Text) → IsBare word → short_of word ≡ None
no_short [] bare = absurd bare
no_short (byte ∷ bytes) bare = rw bare refl

-- where no subcommand is known, it goes to a positional
meets : (rules : List Rule) (waiting : Waiting) (position : ℕ) (word : Text) (held : Held) → subcommand_met [] waiting word ≡ None → IsBare word
    → word_met rules [] false waiting position word held ≡ plain_word rules waiting word held
meets rules waiting position word held none bare =
    ap (λ (name : Option Text). subcommand_or_other rules name waiting position word held) none
    ∙ ap₂ (λ (dashes : Bool) (long : Option (Text × Option Text)). if dashes then (held, trailing position) else long_or_other rules waiting word long held)
    (not_dashes word bare) (no_long word bare)
    ∙ ap (λ (flags : Option Text). short_or_plain rules waiting word flags held) (no_short word bare)

walks : (w : Walk) (word : Text) → w.stopped ≡ None → w.is_trailing ≡ false → subcommand_met [] w.waiting word ≡ None → IsBare word
    → walked top.rules [] w word ≡ after_step top.rules word w (plain_word top.rules w.waiting word w.held).0 (plain_word top.rules w.waiting word w.held).1
unfolding walked
walks w word runs leads none bare =
    ap (λ (stop : Option (Text × List Text)). walked_from top.rules [] stop w word) runs
    ∙ ap (λ (trails : Bool). after_step top.rules word w (word_met top.rules [] trails w.waiting w.position word w.held).0
    (word_met top.rules [] trails w.waiting w.position word w.held).1) leads
    ∙ ap (λ (met : Held × Step). after_step top.rules word w met.0 met.1) (meets top.rules w.waiting w.position word w.held none bare)

walks_first : (first : Text) → IsBare first → walked top.rules [] (walk_from nothing_held) first ≡ after_first first
walks_first first bare = walks (walk_from nothing_held) first refl refl refl bare

walks_second : (first second : Text) → IsBare second → walked top.rules [] (after_first first) second ≡ after_more first (second ∷ [])
walks_second first second bare = walks (after_first first) second refl refl refl bare

walks_more : (first word : Text) (seen : List Text) → IsBare word → walked top.rules [] (after_more first seen) word ≡ after_more first (seen ++ word ∷ [])
walks_more first word seen bare = walks (after_more first seen) word refl refl refl bare

-- each of the words is one
abbrev pub AreBare : List Text → Type 0
AreBare [] = Unit {0}
AreBare (word ∷ words) = IsBare word × AreBare words

walks_rest : (first : Text) (seen words : List Text) → AreBare words → fold (walked top.rules []) (after_more first seen) words ≡ after_more first (seen ++ words)
walks_rest first seen [] bare = ap (after_more first) (sym (append-nil seen))
walks_rest first seen (word ∷ words) bare =
    ap (λ w. fold (walked top.rules []) w words) (walks_more first word seen bare.0)
    ∙ walks_rest first (seen ++ word ∷ []) words bare.1
    ∙ ap (after_more first) (append_assoc seen (word ∷ []) words)

walks_all : (first second : Text) (words : List Text) → IsBare first → IsBare second → AreBare words
    → walk top.rules [] nothing_held (first ∷ second ∷ words) ≡ after_more first (second ∷ words)
walks_all first second words one two more =
    ap (λ w. fold (walked top.rules []) (walked top.rules [] w second) words) (walks_first first one)
    ∙ ap (λ w. fold (walked top.rules []) w words) (walks_second first second two)
    ∙ walks_rest first (second ∷ []) words more

-- what the matches are
pub parted : (first second : Text) (words : List Text) → IsBare first → IsBare second → AreBare words
    → matches_of reader_app (first ∷ second ∷ words) ≡ command_row first ∷ rest_row (second ∷ words) ∷ []
unfolding clap_on_literals
parted first second words one two more = ap (λ (w : Walk). finished top.rules w.held) (walks_all first second words one two more)

pub simple : is_simple reader_app ≡ true
unfolding clap_on_literals
simple = refl

pub simple_and_free : is_simple_and_free reader_app ≡ true
unfolding clap_on_literals
simple_and_free = refl

pub some_same : {X : Type 0} (found : Option X) (x : X) → IsSomeAnd found (λ y. y ≡ x) → found ≡ Some x
some_same (Some y) x same = ap Some same
some_same None x same = absurd same

-- ---- no fault

faultless_word : (waiting : Waiting) (word : Text) (held : Held) → subcommand_met [] waiting word ≡ None → IsBare word → word_fault top [] false waiting word held ≡ []
faultless_word waiting word held none bare =
    ap (λ (name : Option Text). other_fault top name word held) none
    ∙ ap₂ (λ (dashes : Bool) (long : Option (Text × Option Text)). if dashes then [] else flag_word_fault top.rules false long word held)
    (not_dashes word bare) (no_long word bare)
    ∙ ap (λ (flags : Option Text). option_map_or (λ some. bundle_fault top.rules false some held) flags []) (no_short word bare)

faultless_turn : (w : Walk) (word : Text) → w.stopped ≡ None → w.is_trailing ≡ false → subcommand_met [] w.waiting word ≡ None → IsBare word
    → turn_fault top [] w word ≡ step_fault top w.position (plain_word top.rules w.waiting word w.held).0 (plain_word top.rules w.waiting word w.held).1
faultless_turn w word runs leads none bare =
    ap₂ (λ (stop : Option (Text × List Text)) (trails : Bool). if is_some stop then [] else or_else (word_fault top [] trails w.waiting word w.held)
    (step_fault top w.position (word_met top.rules [] trails w.waiting w.position word w.held).0
    (word_met top.rules [] trails w.waiting w.position word w.held).1)) runs leads
    ∙ ap₂ (λ (kinds : Kinds) (met : Held × Step). or_else kinds (step_fault top w.position met.0 met.1))
    (faultless_word w.waiting word w.held none bare) (meets top.rules w.waiting w.position word w.held none bare)

faultless_rest : (first : Text) (seen words : List Text) → AreBare words → walk_fault top [] (after_more first seen) words ≡ []
unfolding walk_fault
faultless_rest first seen [] bare = refl
faultless_rest first seen (word ∷ words) bare =
    ap₂ (λ (kinds : Kinds) (w : Walk). or_else kinds (walk_fault top [] w words))
    (faultless_turn (after_more first seen) word refl refl refl bare.0) (walks_more first word seen bare.0)
    ∙ faultless_rest first (seen ++ word ∷ []) words bare.1

faultless_second : (first second : Text) (words : List Text) → IsBare second → AreBare words → walk_fault top [] (after_first first) (second ∷ words) ≡ []
unfolding walk_fault
faultless_second first second words two more =
    ap₂ (λ (kinds : Kinds) (w : Walk). or_else kinds (walk_fault top [] w words))
    (faultless_turn (after_first first) second refl refl refl two) (walks_second first second two)
    ∙ faultless_rest first (second ∷ []) words more

faultless_walk : (first second : Text) (words : List Text) → IsBare first → IsBare second → AreBare words
    → walk_fault top [] (walk_from nothing_held) (first ∷ second ∷ words) ≡ []
unfolding walk_fault
faultless_walk first second words one two more =
    ap₂ (λ (kinds : Kinds) (w : Walk). or_else kinds (walk_fault top [] w (second ∷ words)))
    (faultless_turn (walk_from nothing_held) first refl refl refl one) (walks_first first one)
    ∙ faultless_second first second words two more

-- so many values are in the range of the rest
in_range : (n : ℕ) → 0 < n → n < 2 ^ 64 → range_kinds 1 usize_max n ≡ []
in_range n some small = rw (ne_eqb n 0 (λ e. omega arith), le-ltb n 1 (omega arith), le-ltb usize_max n (omega arith)) refl

-- each text is a value
all_pass : (words : List Text) → values_kinds false parsers.String words ≡ []
all_pass [] = refl
all_pass (word ∷ words) = all_pass words

rest_settles : (first : Text) (words : List Text) → 0 < length words → length words < 2 ^ 64 → settle_fault top.rules false (after_more first words).held ≡ []
rest_settles first [] some small = absurd (omega arith)
rest_settles first (word ∷ words) some small =
    ap₂ or_else (in_range (length (word ∷ words)) some small) (all_pass (word ∷ words))

ends_well : (first second : Text) (words : List Text) → length (second ∷ words) < 2 ^ 64
    → or_else (settle_fault top.rules false (after_more first (second ∷ words)).held)
    (or_else (defaults_fault (settled top.rules (after_more first (second ∷ words)).held).rows top.rules)
    (check_fault top (finished top.rules (after_more first (second ∷ words)).held) false)) ≡ []
unfolding clap_on_literals
ends_well first second words small =
    ap (λ (kinds : Kinds). or_else kinds (or_else (defaults_fault (settled top.rules (after_more first (second ∷ words)).held).rows top.rules)
    (check_fault top (finished top.rules (after_more first (second ∷ words)).held) false))) (rest_settles first (second ∷ words) (omega arith) small)

-- the faults of a level, by those of the walk and where it ends
abbrev level : Kinds → Walk → Kinds
level kinds w = or_else kinds (or_else (entered_fault (built reader_app) w.stopped)
    (or_else (settle_fault top.rules false w.held) (or_else (defaults_fault (settled top.rules w.held).rows top.rules)
    (check_fault top (finished top.rules w.held) (is_some (entered (built reader_app) w.stopped))))))

-- two words or more have no fault
pub faultless : (first second : Text) (words : List Text) → IsBare first → IsBare second → AreBare words → length (second ∷ words) < 2 ^ 64
    → fault_of reader_app (first ∷ second ∷ words) ≡ []
faultless first second words one two more small =
    ap₂ level (faultless_walk first second words one two more) (walks_all first second words one two more) ∙ ends_well first second words small

faultless_first : (first : Text) → IsBare first → walk_fault top [] (walk_from nothing_held) (first ∷ []) ≡ []
unfolding walk_fault
faultless_first first one = ap (λ (kinds : Kinds). or_else kinds []) (faultless_turn (walk_from nothing_held) first refl refl refl one)

ends_early : (first : Text) → level [] (after_first first) ≡ MissingRequiredArgument ∷ []
unfolding clap_on_literals
ends_early first = refl

-- a command alone lacks the rest, and no words lack the command
pub lacks_rest : (first : Text) → IsBare first → fault_of reader_app (first ∷ []) ≡ MissingRequiredArgument ∷ []
lacks_rest first one = ap₂ level (faultless_first first one) (walks_first first one) ∙ ends_early first

pub lacks_command : fault_of reader_app [] ≡ MissingRequiredArgument ∷ []
unfolding clap_on_literals
lacks_command = refl

-- ---- words as the command line has them

bare_word : (word : Text) → IsWord word → IsBare word
bare_word [] is = absurd (omega (arith, is.some))
bare_word (byte ∷ bytes) is = ne_eqb byte 45 is.no_dash

bare_words : (words : List Text) → All IsWord words → AreBare words
bare_words [] are = tt
bare_words (word ∷ words) are = (bare_word word (are 0 word (omega arith)), bare_words words (λ k d lt. are (suc k) d (omega arith)))

no_kinds : (kinds : Kinds) → kinds ≡ MissingRequiredArgument ∷ [] → kinds ≡ [] → ⊥
no_kinds kinds some none = absurd cc

-- matches part the words
pub splits : (words : List Text) (m : ArgMatches) → All IsWord words → HasMatchesOf reader_app words m → fault_of reader_app words ≡ [] → IsSplit words m
splits [] m are has none = absurd (no_kinds _ lacks_command none)
splits (first ∷ []) m are has none = absurd (no_kinds _ (lacks_rest first (bare_words (first ∷ []) are).0) none)
splits (first ∷ second ∷ words) m are has none =
    let bare = bare_words (first ∷ second ∷ words) are in
    let rows : rows_of (found_of m) ≡ command_row first ∷ rest_row (second ∷ words) ∷ [] = (has simple).0 ∙ parted first second words bare.0 bare.1.0 bare.1.1 in
    record {
      command = first;
      rest = second ∷ words;
      parts = refl;
      has_command = first_value-rows (found_of m) (codes "command") ∙ ap (first_of (codes "command")) rows;
      has_rest = raw_values-rows (found_of m) (codes "rest") ∙ ap (all_of (codes "rest")) rows;
    }

-- what is refused, but for want of memory, has no words for command and rest
pub refuses : (words : List Text) (e : Error) → All IsWord words → length words < 2 ^ 64 → HasKind (fault_of reader_app words) e → kind_of e ≢ OutOfMemory → length words < 2
refuses [] e are small has other = omega arith
refuses (first ∷ []) e are small has other = omega arith
refuses (first ∷ second ∷ words) e are small has other =
    let bare = bare_words (first ∷ second ∷ words) are in
    absurd (other (elim (subst (λ (kinds : Kinds). HasKind kinds e) (faultless first second words bare.0 bare.1.0 bare.1.1 (omega arith)) has) [
      | inl memory ↦ memory
      | inr among ↦ absurd among
    ]))
