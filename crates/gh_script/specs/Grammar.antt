-- The grammar of scripts: what a text spells, or where and why it is refused.
--
-- A text is read line by line. A line is refused by the first cause of the table that it meets, where the
-- tests of the table stand below in its order; one that meets none is said, and the next is read.
use Rattle.std.specs.Prelude.{◌≡◌, ℕ, ◌+◌, ◌==◌, ◌||◌, Bool, false, if◌then◌else◌, not, nat_lt, nat_le, List, [], ◌∷◌, ◌++◌, length, slice_index, Option, Some, None, Result, Ok, Err, is_some, is_none, unwrap_or}
use Rattle.gh_script.specs.Vocabulary.{is_utf8, Key, option_map, ScriptFault, Stmt, Why}
use Rattle.gh_script.specs.declared.fault.Why.TheVariants.{Size, Utf8, Word, Number, Limit, Twice, Unknown, Nesting, Missing}
use Rattle.gh_script.specs.Limits.{most_bytes, most_types, most_goroutines, most_times, most_repeats, most_field, least, most}
use Rattle.gh_script.specs.Program.{Program}
use Rattle.gh_script.specs.Text.{Sentence, sentence_of, lines_of, words_of}
use Rattle.gh_script.specs.Words.{key_of, register_named, number_spelled, is_name}
use Rattle.gh_script.specs.ShapeText.{are_letters, are_counts, fits_limits, fields_of, shape_with}
use Rattle.gh_script.specs.Draft.{Draft, blank_draft, given_at, with_given, globals_in, type_of, has_goroutine, goroutines_begun, repeats_open, just_begun, with_statement, with_repeat, block_ended, is_too_long, program_in}

-- ---- what a line's words say

-- the number, or the register, that a word spells
abbrev pub number_in : List ℕ → ℕ
number_in word = unwrap_or (number_spelled word) 0

abbrev pub register_in : List ℕ → ℕ
register_in word = unwrap_or (register_named word) 0

-- how many words a line has
abbrev pub words_in : Key → ℕ
words_in (Key.Setting x) = 2
words_in Key.Type = 3
words_in Key.Go = 2
words_in Key.Repeat = 2
words_in Key.End = 1
words_in Key.New = 3
words_in Key.Load = 4
words_in Key.Store = 4
words_in Key.GetGlobal = 3
words_in Key.SetGlobal = 3
words_in Key.Int = 3
words_in Key.Move = 3
words_in Key.Nil = 2
words_in Key.Gc = 1

-- ---- the table of causes

abbrev pub is_no_register : List ℕ → Bool
is_no_register word = is_none (register_named word)

-- Word: the number of words differs, or a register, a name or the letters of a shape are misspelt
abbrev pub is_misspelt : Key → Sentence → Bool
is_misspelt (Key.Setting x) line = false
is_misspelt Key.Type line = not (is_name line.second) || not (are_letters line.third)
is_misspelt Key.Go line = not (is_name line.second)
is_misspelt Key.Repeat line = false
is_misspelt Key.End line = false
is_misspelt Key.New line = is_no_register line.second || not (is_name line.third)
is_misspelt Key.Load line = is_no_register line.second || is_no_register line.third
is_misspelt Key.Store line = is_no_register line.second || is_no_register line.fourth
is_misspelt Key.GetGlobal line = is_no_register line.second
is_misspelt Key.SetGlobal line = is_no_register line.third
is_misspelt Key.Int line = is_no_register line.second
is_misspelt Key.Move line = is_no_register line.second || is_no_register line.third
is_misspelt Key.Nil line = is_no_register line.second
is_misspelt Key.Gc line = false

abbrev pub is_word_fault : Key → Sentence → Bool
is_word_fault key line = not (line.count == words_in key) || is_misspelt key line

abbrev pub is_no_number : List ℕ → Bool
is_no_number word = is_none (number_spelled word)

-- Number: something else stands where a number belongs
abbrev pub is_number_fault : Key → Sentence → Bool
is_number_fault (Key.Setting x) line = is_no_number line.second
is_number_fault Key.Type line = not (are_counts line.third)
is_number_fault Key.Go line = false
is_number_fault Key.Repeat line = is_no_number line.second
is_number_fault Key.End line = false
is_number_fault Key.New line = false
is_number_fault Key.Load line = is_no_number line.fourth
is_number_fault Key.Store line = is_no_number line.third
is_number_fault Key.GetGlobal line = is_no_number line.third
is_number_fault Key.SetGlobal line = is_no_number line.second
is_number_fault Key.Int line = is_no_number line.third
is_number_fault Key.Move line = false
is_number_fault Key.Nil line = false
is_number_fault Key.Gc line = false

-- Limit: a number or a shape's length lies outside its limits; one type or goroutine too many; at a goroutine's end,
-- too many statements
abbrev pub is_limit_fault : Draft → Key → Sentence → Bool
is_limit_fault draft (Key.Setting x) line = nat_lt (number_in line.second) (least x) || nat_lt (most x) (number_in line.second)
is_limit_fault draft Key.Type line = not (fits_limits line.third) || nat_le most_types (length draft.names)
is_limit_fault draft Key.Go line = nat_le most_goroutines (goroutines_begun draft)
is_limit_fault draft Key.Repeat line = nat_lt (number_in line.second) 1 || nat_lt most_times (number_in line.second)
is_limit_fault draft Key.End line = is_too_long draft.closed draft.current
is_limit_fault draft Key.New line = false
is_limit_fault draft Key.Load line = nat_lt most_field (number_in line.fourth)
is_limit_fault draft Key.Store line = nat_lt most_field (number_in line.third)
is_limit_fault draft Key.GetGlobal line = nat_le (globals_in draft.given) (number_in line.third)
is_limit_fault draft Key.SetGlobal line = nat_le (globals_in draft.given) (number_in line.second)
is_limit_fault draft Key.Int line = false
is_limit_fault draft Key.Move line = false
is_limit_fault draft Key.Nil line = false
is_limit_fault draft Key.Gc line = false

-- Twice: a setting stands a second time; a type's or a goroutine's name is taken
abbrev pub is_twice_fault : Draft → Key → Sentence → Bool
is_twice_fault draft (Key.Setting x) line = is_some (given_at draft.given x)
is_twice_fault draft Key.Type line = is_some (type_of draft.names line.second)
is_twice_fault draft Key.Go line = has_goroutine draft line.second
is_twice_fault draft key line = false

-- Unknown: `new` names no type
abbrev pub is_unknown_fault : Draft → Key → Sentence → Bool
is_unknown_fault draft Key.New line = is_none (type_of draft.names line.third)
is_unknown_fault draft key line = false

-- Nesting: a setting or a type once a goroutine has begun; `go` in a goroutine; a statement, `repeat` or `end` in none;
-- one open `repeat` too many
abbrev pub is_nesting_fault : Draft → Key → Bool
is_nesting_fault draft (Key.Setting x) = nat_le 1 (goroutines_begun draft)
is_nesting_fault draft Key.Type = nat_le 1 (goroutines_begun draft)
is_nesting_fault draft Key.Go = is_some draft.current
is_nesting_fault draft Key.Repeat = is_none draft.current || nat_le most_repeats (length (repeats_open draft))
is_nesting_fault draft key = is_none draft.current

-- the first cause of the table that the line meets
unfoldable pub cause_at : Draft → Key → Sentence → Option Why
cause_at draft key line =
    if is_word_fault key line then Some Word else
    (if is_number_fault key line then Some Number else
    (if is_limit_fault draft key line then Some Limit else
    (if is_twice_fault draft key line then Some Twice else
    (if is_unknown_fault draft key line then Some Unknown else
    (if is_nesting_fault draft key then Some Nesting else None)))))

-- ---- a line that meets no cause

-- the statement of a line
abbrev pub statement_of : List (List ℕ) → Key → Sentence → Option Stmt
statement_of names Key.New line = Some (Stmt.New (register_in line.second) (unwrap_or (type_of names line.third) 0))
statement_of names Key.Load line = Some (Stmt.Load (register_in line.second) (register_in line.third) (number_in line.fourth))
statement_of names Key.Store line = Some (Stmt.Store (register_in line.second) (number_in line.third) (register_in line.fourth))
statement_of names Key.GetGlobal line = Some (Stmt.GetGlobal (register_in line.second) (number_in line.third))
statement_of names Key.SetGlobal line = Some (Stmt.SetGlobal (number_in line.second) (register_in line.third))
statement_of names Key.Int line = Some (Stmt.Int (register_in line.second) (number_in line.third))
statement_of names Key.Move line = Some (Stmt.Move (register_in line.second) (register_in line.third))
statement_of names Key.Nil line = Some (Stmt.Nil (register_in line.second))
statement_of names Key.Gc line = Some Stmt.Gc
statement_of names key line = None

-- what the lines so far and this one say
unfoldable pub continued : Draft → Key → Sentence → Draft
continued draft (Key.Setting x) line = record draft { given = with_given draft.given x (number_in line.second) }
continued draft Key.Type line = record draft { names = draft.names ++ line.second ∷ []; shapes = draft.shapes ++ shape_with (fields_of line.third) ∷ [] }
continued draft Key.Go line = record draft { current = Some (just_begun line.second) }
continued draft Key.Repeat line = record draft { current = option_map (with_repeat (number_in line.second)) draft.current }
continued draft Key.End line = block_ended draft draft.current
continued draft key line = record draft { current = option_map (with_statement (statement_of draft.names key line)) draft.current }

-- ---- lines

-- a line without a word, and one whose first word begins with #, is counted and no more
abbrev pub is_skipped : Sentence → Bool
is_skipped line = (line.count == 0) || (slice_index line.first 0 == 35)

abbrev pub read_cause : Draft → Key → Sentence → Option Why → Result Draft Why
read_cause draft key line None = Ok (continued draft key line)
read_cause draft key line (Some why) = Err why

abbrev pub read_key : Draft → Option Key → Sentence → Result Draft Why
read_key draft None line = Err Word
read_key draft (Some key) line = read_cause draft key line (cause_at draft key line)

-- a line after those so far
unfoldable pub read_line : Draft → Sentence → Result Draft Why
read_line draft line = if is_skipped line then Ok draft else read_key draft (key_of line.first) line

abbrev pub line_fault : ℕ → Why → ScriptFault
line_fault n why = record { line = n; why = why }

abbrev pub go_on : (Draft → Result Draft ScriptFault) → ℕ → Result Draft Why → Result Draft ScriptFault
go_on rest n (Ok draft) = rest draft
go_on rest n (Err why) = Err (line_fault n why)

-- the lines, of which n stand before, up to the first that is refused
unfoldable pub read_lines : Draft → ℕ → List (List ℕ) → Result Draft ScriptFault
read_lines draft n [] = Ok draft
read_lines draft n (line ∷ lines) = go_on (λ next. read_lines next (n + 1) lines) (n + 1) (read_line draft (sentence_of (words_of line)))

-- the text's end, after n lines
unfoldable pub read_end : ℕ → Draft → Result Program ScriptFault
read_end n draft =
    if is_some draft.current then Err (line_fault n Nesting) else
    (if length draft.closed == 0 then Err (line_fault 0 Missing) else Ok (program_in draft))

abbrev pub then_end : ℕ → Result Draft ScriptFault → Result Program ScriptFault
then_end n (Ok draft) = read_end n draft
then_end n (Err fault) = Err fault

-- what a text spells, or the first fault
unfoldable pub reading_of : List ℕ → Result Program ScriptFault
reading_of text =
    if nat_lt most_bytes (length text) then Err (line_fault 0 Size) else
    (if not (is_utf8 text) then Err (line_fault 0 Utf8) else then_end (length (lines_of text)) (read_lines blank_draft 0 (lines_of text)))

-- the text says the program
abbrev pub Spells : List ℕ → Program → Type 0
Spells text program = reading_of text ≡ Ok program

-- the text is no script: the first line that can't be continued (0: no line), and its first cause
abbrev pub Refused : List ℕ → ℕ → Why → Type 0
Refused text line why = reading_of text ≡ Err (line_fault line why)
