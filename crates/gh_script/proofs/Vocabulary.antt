-- The names that several files of proofs/ share.
pub use Rattle.std.proofs.Math.Seq.{drop-append_seam, take-append_seam}
pub use Rattle.std.proofs.lemmas.Bool.{cases_lt, eqb-false, lt-leb}
pub use Rattle.std.proofs.lemmas.Fmt.{decimal_digit}
pub use Rattle.std.proofs.lemmas.List.{at_drop_all, at_drop_more, drop-append-le, drop_all, drop_more, get_or_append_left, get_or_at, get_or_past, length-map, length-replicate, length_push, map-append, map_push, nil_from_length, take_min, take_rest}
pub use Rattle.std.proofs.lemmas.List.Elements.{All-append, All-cons, All-drop, All-from_get_or, All-get_or, All-head, All-map, All-nil, All-push, All-tail, All-take}
pub use Rattle.std.proofs.lemmas.List.Folds.{list_all-append, list_any_at, list_any_none}
pub use Rattle.std.proofs.lemmas.List.FromFn.{get_or-map-range_with_len, length-map-range_with_len, map-range_with_len_more}
pub use Rattle.std.proofs.lemmas.List.Quantifiers.{all_pairs_push, position-Some}
pub use Rattle.std.proofs.lemmas.List.Sums.{fails_before_first, passes_at_first, position_or_len_is, prefix_len_is, sum_by-append, sum_by-cons}
pub use Rattle.std.proofs.lemmas.Slice.Eq.{bytes_eq-Decides}
pub use Rattle.std.proofs.lemmas.Str.{is_utf8-from_IsUtf8, IsUtf8-from_ascii, IsUtf8-from_is_utf8}
pub use Rattle.std.specs.Int.{bit_at, from_bool}
pub use Rattle.std.specs.List.{after_first, position_or_len, prefix_len, slice_range, sum_by}
pub use Rattle.std.specs.Str.{IsAscii, IsUtf8}
pub use Rattle.gh_base.specs.Shapes.{is_pointer, no_shape}
pub use Rattle.gh_script.specs.Draft.{are_too_many, AreOpenStatements, blank_draft, block_ended, Draft, finished_goroutine, given_at, globals_in, goroutines_begun, is_too_long, IsNewName, IsOpenNamed, IsSound, just_begun, nothing_given, Open, program_in, repeats_open, settings_in, with_closed, with_given, with_repeat, with_statement}
unfoldable pub use Rattle.gh_script.specs.Draft.{has_goroutine, kept, type_of, written_out}
pub use Rattle.gh_script.specs.Form.{AreApart, Block, given_by_key, goroutine_by, HasForm, inside, is_type_key, IsBlock, IsHead, IsHeadKey, IsRoutine, IsTaken, IsTakenAs, lines_in, names_by, Nothing, Repeated, Routine, routine_lines, said_in, Say, settings_by, shapes_by, statement_by_key, statements_by, types_in}
unfoldable pub use Rattle.gh_script.specs.Form.{sayings}
pub use Rattle.gh_script.specs.Generated.{generated_goroutine, generated_name, GeneratedGoroutinesKeepApart, GeneratedScriptsHaveTheirSize, head_lines, KeepsTo, node_shape, word_drawn}
unfoldable pub use Rattle.gh_script.specs.Generated.{generated_program, generated_text, goroutine_lines, spaced, state_behind, statement_by, statement_words, statements_drawn, text_of}
pub use Rattle.gh_script.specs.Grammar.{go_on, is_limit_fault, is_nesting_fault, is_number_fault, is_skipped, is_twice_fault, is_unknown_fault, is_word_fault, line_fault, number_in, read_cause, read_key, Refused, register_in, Spells, statement_of, then_end}
unfoldable pub use Rattle.gh_script.specs.Grammar.{cause_at, continued, read_end, read_line, read_lines, reading_of}
pub use Rattle.gh_script.specs.Limits.{least, most, most_bytes}
pub use Rattle.gh_script.specs.Outcome.{Continues, EndsAsRead, ReadsAll}
pub use Rattle.gh_script.specs.Program.{AreNamedApart, AreStatements, AreWithin, Goroutine, IsNamed, IsPacked, IsStatement, no_goroutine, Program, statements_in, WellFormed}
pub use Rattle.gh_script.specs.Said.{said}
pub use Rattle.gh_script.specs.ShapeText.{count_fits, fields_in, has_count, has_no_stray, is_kind, Item, total_in}
unfoldable pub use Rattle.gh_script.specs.ShapeText.{are_counts, are_letters, bits_as_number, fields_behind_letter, fields_of, fits_behind, fits_limits, items_of, packed, shape_with, spread}
pub use Rattle.gh_script.specs.Text.{is_blank, is_feed, is_filled, Sentence, sentence_of, with_front, without_return, word_in_front}
unfoldable pub use Rattle.gh_script.specs.Text.{lines_of, pieces, words_of}
pub use Rattle.gh_script.specs.Vocabulary.{Arena, before_first, bytes_eq, FitsShape, flat_map, Given, Globals, Gogc, is_utf8, Key, list_all, list_any, Minheap, MOST_TYPE_WORDS, option_and_then, option_map, option_to_list, Procs, range_with_len, repeat, ScriptFault, Setting, Settings, Shape, ShapesFit, Stmt, Why, Workers}
pub use Rattle.gh_script.specs.Words.{is_digit, is_letter, is_name_byte}
unfoldable pub use Rattle.gh_script.specs.Words.{block_key_of, digits_value_of, is_name, key_of, number_spelled, register_named, setting_named, statement_key_of, value_from}
pub use Rattle.gh_script.specs.declared.fault.ParseError.{ParseError}
pub use Rattle.gh_script.specs.declared.fault.Why.TheVariants.{Limit, Missing, Nesting, Number, Size, Twice, Unknown, Utf8, Word}
pub use Rattle.gh_script.specs.declared.goroutine.Repeat.{Repeat}
