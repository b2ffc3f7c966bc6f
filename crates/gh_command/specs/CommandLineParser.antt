-- The command as clap's parser reads it.
use Rattle.std.specs.Prelude.{ℕ, Bool, true, false, List, [], ◌∷◌, map, Option, Some, None, codes, if◌then◌else◌, option_and_then}
use Rattle.std.specs.Str.{bytes_eq}
use Rattle.clap.specs.Words.{App, Kinds, Row, Rule, Shape, fault_of, first_of, new_app, new_rule, one_of, subcommand_of, with_subcommand}
use Rattle.clap.specs.declared.builder.action.ArgAction.{ArgAction}
use Rattle.clap.specs.declared.builder.action.ArgAction.TheVariants.{Set, SetTrue}
use Rattle.clap.specs.declared.builder.value_parser.ValueParser.{ValueParser}
use Rattle.gh_replay.specs.declared.schedule.Turn.{Turn}
use Rattle.gh_command.specs.CommandLine.{LineOption, Text, Value, NoValue, Number, is_given, list_said, no_options, replay_by, replay_options, script_by, script_options, u64_of}
use Rattle.gh_command.specs.declared.line.Line.{Line}

-- a flag sets its value, and another option takes it from the words
abbrev pub action_for : Value → ArgAction
action_for NoValue = SetTrue
action_for _ = Set

-- a number is read in its range
abbrev pub parser_by : Value → Option ValueParser
parser_by (Number least most) = Some (ValueParser.Unsigned least most)
parser_by _ = None

abbrev pub defaults_by : Option Text → List Text
defaults_by None = []
defaults_by (Some word) = word ∷ []

-- an option
abbrev pub option_rule : LineOption → Rule
option_rule option = record (new_rule option.name) {
  long = Some option.name;
  action = Some (action_for option.value);
  parser = parser_by option.value;
  defaults = defaults_by option.default;
  required = option.is_required;
}

-- a subcommand with its options
abbrev pub subcommand_shape : Text → List LineOption → Shape
subcommand_shape name options = record (new_app name).top { rules = map option_rule options }

-- the command without its subcommands: it requires one, and has no help and no version
abbrev pub goheap_top : App
goheap_top = record {
  top = record (new_app (codes "goheap")).top {
    subcommand_required = true;
    disable_help_flag = true;
    disable_help_subcommand = true;
    disable_version_flag = true;
  };
  subs = [];
}

-- with those that read a text
abbrev pub goheap_reading : App
goheap_reading = with_subcommand (with_subcommand (with_subcommand goheap_top (subcommand_shape (codes "run") no_options)) (subcommand_shape (codes "replay") replay_options)) (subcommand_shape (codes "verify") no_options)

-- the command
abbrev pub goheap_app : App
goheap_app = with_subcommand (with_subcommand goheap_reading (subcommand_shape (codes "gen") script_options)) (subcommand_shape (codes "soak") script_options)

-- the number that was found for an option
abbrev pub found_number : Text → List Row → Option ℕ
found_number name rows = option_and_then u64_of (one_of name rows)

-- the list that was found
abbrev pub found_list : List Row → Option (List Turn)
found_list rows = list_said (first_of (codes "list") rows)

-- whether the flag was
abbrev pub found_check : List Row → Bool
found_check rows = is_given (first_of (codes "check") rows)

-- a line of which nothing more is found
abbrev pub found_plain : Line → List Row → Option Line
found_plain line rows = Some line

-- the replay that was found
abbrev pub found_replay : List Row → Option Line
found_replay rows = replay_by (found_number (codes "budget") rows) (found_number (codes "seed") rows) (found_list rows) (found_check rows)

-- what is asked for of the script that was found
abbrev pub found_script : (ℕ → ℕ → Line) → List Row → Option Line
found_script does rows = script_by does (found_number (codes "seed") rows) (found_number (codes "size") rows)

-- the line that a subcommand and what was found for it say
abbrev pub found_line : Option (Text × List Row) → Option Line
found_line None = None
found_line (Some found) =
    if bytes_eq found.0 (codes "run") then found_plain Line.Run found.1
    else (if bytes_eq found.0 (codes "replay") then found_replay found.1
    else (if bytes_eq found.0 (codes "gen") then found_script Line.Gen found.1
    else (if bytes_eq found.0 (codes "soak") then found_script Line.Soak found.1
    else (if bytes_eq found.0 (codes "verify") then found_plain Line.Verify found.1
    else None))))

-- no kind of error comes
abbrev pub no_error_comes : Kinds → Bool
no_error_comes [] = true
no_error_comes (kind ∷ kinds) = false

-- the line of the words by the parser's matches, where it takes the words
abbrev pub parsed_line : List Text → Option Line
parsed_line words =
    if no_error_comes (fault_of goheap_app words) then found_line (subcommand_of goheap_app words) else None
