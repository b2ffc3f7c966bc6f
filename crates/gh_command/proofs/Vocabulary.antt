-- The names that several files of proofs/ share.
pub use Rattle.std.proofs.lemmas.Slice.Eq.{bytes_eq-Decides}
pub use Rattle.std.specs.Borrow.{Bor}
pub use Rattle.std.specs.List.{fold, list_all, list_any}
pub use Rattle.std.specs.Option.{option_map_or, option_or}
pub use Rattle.std.specs.Str.{bytes_eq}
unfoldable pub use Rattle.std.specs.Str.{chars}
pub use Rattle.std.specs.Str.Parse.{AllDigits, digits_value, ExplainsUnsignedError, HasUnsignedDigitsIfOk, IsNumeral, ParsesUnsigned, without_leading_plus}
pub use Rattle.clap.proofs.WalkLemmas.{both, find-map, first_value-rows, one_text-rows}
pub use Rattle.clap.specs.Facts.{explicit_source}
pub use Rattle.clap.specs.Faults.{check_fault, default_fault, entered_fault, fault_of, is_simple_and_free, level_fault, settle_fault, turn_fault, use_fault}
unfoldable pub use Rattle.clap.specs.Faults.{defaults_fault, flags_fault, walk_fault}
pub use Rattle.clap.specs.Kinds.{check_kinds, IsAmong, Kinds, or_else}
pub use Rattle.clap.specs.Lexer.{long_of, short_of}
pub use Rattle.clap.specs.Matches.{one_text, ReadsOne}
pub use Rattle.clap.specs.Simple.{App, built, entered, filled, is_simple, names_of, Shape, subcommand_of, with_index}
pub use Rattle.clap.specs.Walk.{arg_by_id, arg_by_index, arg_by_long, arg_by_short, at_row, finished, has_row, Held, idle, most_values, Names, nothing_held, one_of, option, positional, reacted, Row, row_text, rows_after, Rule, settled, subcommand_met, takes_values, used, Waiting, Walk, walk_from, with_default, with_values, without}
unfoldable pub use Rattle.clap.specs.Walk.{bundle_met, walked}
pub use Rattle.clap.specs.Words.{app_of, first_of, found_of, rows_of, subcommand_rows_of}
pub use Rattle.clap.specs.declared.parser.matches.ValueSource.TheVariants.{CommandLine, DefaultValue}
pub use Rattle.gh_command.specs.CommandLine.{AnyText, asked_for, begun, budget, Choice, choices, chosen, command_line, ended, flag_value, has_required, is_chosen, is_end, is_flag, is_given, is_none, is_number_in, is_numeral, is_taken_by, is_value, LineOption, list_said, next, no_options, NoValue, Number, number_said, option_named, option_takes, plain_of, Reading, replay_by, replay_of, replay_options, script_asked_for, script_by, script_options, seed, size, Text, texts, u64_of, Value, with_choice, with_flag}
pub use Rattle.gh_command.specs.CommandLineParser.{found_check, found_line, found_list, found_number, found_plain, found_replay, found_script, goheap_app, no_error_comes, option_rule, parsed_line, subcommand_shape}
pub use Rattle.gh_command.specs.declared.line.Line.{Line}
pub use Rattle.gh_command.specs.declared.line.Line.TheVariants.{Gen, Replay, Run, Soak, Verify}
pub use Rattle.gh_replay.specs.declared.schedule.Turn.{Turn}
