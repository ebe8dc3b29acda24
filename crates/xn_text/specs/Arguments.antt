-- The command that `clap` reads, and how its matches part the words.
use Rattle.std.specs.Prelude.{◌≡◌, ℕ, true, List, ◌∷◌, Some, codes, option_map}
use Rattle.clap.specs.Lexer.{usize_max}
use Rattle.clap.specs.Words.{App, Rule, new_app, new_rule, with_rule, first_value, found_of, matched_of, raw_values}
use Rattle.clap.specs.Simple.{on_top}
use Rattle.clap.specs.declared.parser.matches.ArgMatches.{ArgMatches}

abbrev pub command_rule : Rule
command_rule = record (new_rule (codes "command")) { required = true }

abbrev pub rest_rule : Rule
rest_rule = record (new_rule (codes "rest")) {
  required = true;
  range = Some (record { start_inclusive = 1; end_inclusive = usize_max });
}

-- the words are those after the program's name, and help is nobody's wish
abbrev pub plain_app : App
plain_app = on_top (λ s. record s { no_binary_name = true; disable_help_flag = true }) (new_app (codes "xfsns"))

abbrev pub reader_app : App
reader_app = with_rule (with_rule plain_app command_rule) rest_rule

-- the first word is the command, and those after it are the rest
pub record IsSplit (words : List (List ℕ)) (m : ArgMatches) : Type 0 where
  pub command : List ℕ
  pub rest : List (List ℕ)
  pub parts : words ≡ command ∷ rest
  pub has_command : first_value (found_of m) (codes "command") ≡ Some command
  pub has_rest : option_map raw_values (matched_of (found_of m) (codes "rest")) ≡ Some rest
