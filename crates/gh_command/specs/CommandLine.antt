-- What the command line asks for.
use Rattle.std.specs.Prelude.{ℕ, Bool, true, false, not, List, [], ◌∷◌, ◌++◌, map, Option, Some, None, is_some, codes, length, ◌&&◌, ◌||◌, nat_le, nat_lt, ◌^◌, if◌then◌else◌, find, option_and_then, option_map, slice_get}
use Rattle.std.specs.List.{list_all, list_any}
use Rattle.std.specs.Option.{option_map_or, option_or}
use Rattle.std.specs.Char.{digit_value}
use Rattle.std.specs.Str.{bytes_eq, chars}
use Rattle.std.specs.Str.Parse.{digits_value, without_leading_plus}
use Rattle.std.specs.Borrow.{Bor}
use Rattle.clap.specs.Lexer.{long_of, short_of}
use Rattle.gh_replay.specs.ListText.{list_of}
use Rattle.gh_replay.specs.declared.schedule.Turn.{Turn}
use Rattle.gh_command.specs.declared.line.Line.{Line}

-- the bytes of a word
abbrev pub Text : Type 0
Text = List ℕ

-- the bytes of each word
abbrev pub texts : List (Bor Text) → List Text
texts words = map (λ w. w.now) words

-- ---- options

-- what an option takes: a number from the least to the most, any text, or, as a flag, nothing
pub data Value : Type 0 where
  Number : ℕ → ℕ → Value
  AnyText : Value
  NoValue : Value

-- an option: its name without the two hyphens, what it takes, the word that counts where a line does not have it, and whether each line must have it
pub record LineOption : Type 0 where
  pub name : Text
  pub value : Value
  pub default : Option Text
  pub is_required : Bool

-- an option that a line may leave out
abbrev pub option_of : Text → Value → LineOption
option_of name value = record { name = name; value = value; default = None; is_required = false }

abbrev pub required : LineOption → LineOption
required option = record option { is_required = true }

-- one decimal digit or more, and nothing else
abbrev pub is_numeral : Text → Bool
is_numeral digits = nat_lt 0 (length digits) && list_all (λ d. nat_lt (digit_value d) 10) digits

-- the number of a word: decimal digits, after at most one plus sign, below 2 ^ 64
abbrev pub u64_of : Text → Option ℕ
u64_of word =
    let digits = without_leading_plus word in
    if is_numeral digits && nat_lt (digits_value 10 digits) (2 ^ 64)
    then Some (digits_value 10 digits) else None

-- the word spells a number in this range
abbrev pub is_number_in : ℕ → ℕ → Text → Bool
is_number_in least most word =
    let digits = without_leading_plus word in
    let number = digits_value 10 digits in
    is_numeral digits && (nat_lt number (2 ^ 64) && (nat_le least number && nat_le number most))

-- the word is one that an option takes; a flag takes none
abbrev pub is_taken_by : Value → Text → Bool
is_taken_by (Number least most) word = is_number_in least most word
is_taken_by AnyText word = true
is_taken_by NoValue word = false

abbrev pub is_none : Value → Bool
is_none NoValue = true
is_none _ = false

-- what a flag stands for where it is given
abbrev pub flag_value : Text
flag_value = codes "true"

-- the option of this name
abbrev pub option_named : List LineOption → Text → Option LineOption
option_named options name = find (λ o. bytes_eq o.name name) options

-- the name is a flag's
abbrev pub is_flag : List LineOption → Text → Bool
is_flag options name = option_map_or (λ o. is_none o.value) (option_named options name) false

-- the option of this name takes the value
abbrev pub option_takes : List LineOption → Text → Text → Bool
option_takes options name value = option_map_or (λ o. is_taken_by o.value value) (option_named options name) false

-- ---- the words behind a subcommand

-- an option's name, and the value that it is given
abbrev pub Choice : Type 0
Choice = Text × Text

abbrev pub is_chosen : Text → List Choice → Bool
is_chosen name made = list_any (λ c. bytes_eq c.0 name) made

-- the value that an option is given
abbrev pub chosen : Text → List Choice → Option Text
chosen name made = option_map (λ c. c.1) (find (λ c. bytes_eq c.0 name) made)

-- one choice more, of a value that the option takes, and of no option a second time
abbrev pub with_choice : List LineOption → List Choice → Text → Text → Option (List Choice)
with_choice options made name value =
    if not (is_chosen name made) && option_takes options name value then Some (made ++ (name, value) ∷ []) else None

-- one flag more, and none a second time
abbrev pub with_flag : List Choice → Text → Option (List Choice)
with_flag made name =
    if not (is_chosen name made) then Some (made ++ (name, flag_value) ∷ []) else None

-- the word is a value: no `--name`, and no hyphen with a letter behind it
abbrev pub is_value : Text → Bool
is_value word = not (is_some (long_of word)) && not (is_some (option_and_then (λ letters. slice_get (chars letters) 0) (short_of word)))

-- the choices, and the name of the option that waits for its value
abbrev pub Reading : Type 0
Reading = List Choice × Option Text

abbrev pub settled : List Choice → Reading
settled made = (made, None)

-- after `--name=value`, or after `--name`, which waits where it is no flag
abbrev pub begun : List LineOption → List Choice → Text × Option Text → Option Reading
begun options made (name, Some value) = option_map settled (with_choice options made name value)
begun options made (name, None) =
    if is_flag options name then option_map settled (with_flag made name) else Some (made, Some name)

-- after one word more
abbrev pub next : List LineOption → List Choice → Option Text → Text → Option Reading
next options made (Some name) word = if is_value word then option_map settled (with_choice options made name word) else None
next options made None word = option_and_then (begun options made) (long_of word)

-- each option that is required was chosen
abbrev pub has_required : List LineOption → List Choice → Bool
has_required options made = list_all (λ o. not o.is_required || is_chosen o.name made) options

abbrev pub ended : List LineOption → List Choice → Option Text → Option (List Choice)
ended options made (Some name) = None
ended options made None = if has_required options made then Some made else None

-- no word is left
abbrev pub is_end : List Text → Bool
is_end [] = true
is_end (word ∷ rest) = false

-- the choices of the words, behind those that are made, after which one `--` may stand
abbrev pub choices : List LineOption → List Choice → Option Text → List Text → Option (List Choice)
choices options made waiting [] = ended options made waiting
choices options made waiting (word ∷ rest) =
    if bytes_eq word (codes "--") then (if is_end rest then ended options made waiting else None)
    else option_and_then (λ reading. choices options reading.0 reading.1 rest) (next options made waiting word)

-- ---- what the choices say

-- the word that counts for an option
abbrev pub word_said : LineOption → List Choice → Option Text
word_said option made = option_or (chosen option.name made) option.default

-- the number of it
abbrev pub number_said : LineOption → List Choice → Option ℕ
number_said option made = option_and_then u64_of (word_said option made)

-- the list that a text spells, and the empty one where there is no text
abbrev pub list_said : Option Text → Option (List Turn)
list_said None = Some []
list_said (Some text) = list_of text

-- a flag is given where it has this value
abbrev pub is_given : Option Text → Bool
is_given None = false
is_given (Some value) = bytes_eq value flag_value

-- ---- the subcommands

-- `--budget`, how many turns a run may take
abbrev pub budget : LineOption
budget = record (option_of (codes "budget") (Number 1 1000000000)) { default = Some (codes "50000000") }

-- `--seed`, which turns behind the list, or a script, are drawn by: any number below 2 ^ 64
abbrev pub seed : LineOption
seed = option_of (codes "seed") (Number 0 18446744073709551615)

-- `--list`, who steps when
abbrev pub list : LineOption
list = option_of (codes "list") AnyText

-- `--check`: the heap that never frees is run beside the script
abbrev pub check : LineOption
check = option_of (codes "check") NoValue

-- `--size`, by which the number of statements of a generated script goes
abbrev pub size : LineOption
size = option_of (codes "size") (Number 4 200000)

-- `run` and `verify` take none
abbrev pub no_options : List LineOption
no_options = []

abbrev pub replay_options : List LineOption
replay_options = budget ∷ seed ∷ list ∷ check ∷ []

-- those of `gen` and of `soak`
abbrev pub script_options : List LineOption
script_options = required seed ∷ required size ∷ []

-- a line that no choice says more of
abbrev pub plain_of : Line → List Choice → Option Line
plain_of line made = Some line

-- a replay under a budget, with a seed or none, and a list, which is checked or not
abbrev pub replay_by : Option ℕ → Option ℕ → Option (List Turn) → Bool → Option Line
replay_by (Some turns) drawn (Some items) checked = Some (Line.Replay (record { list = items; seed = drawn }) turns checked)
replay_by (Some turns) drawn None checked = None
replay_by None drawn items checked = None

-- the replay that the choices ask for, none where the list is none
abbrev pub replay_of : List Choice → Option Line
replay_of made = replay_by (number_said budget made) (number_said seed made) (list_said (word_said list made)) (is_given (word_said check made))

-- what is asked for of the script that is generated from a seed, of a size
abbrev pub script_by : (ℕ → ℕ → Line) → Option ℕ → Option ℕ → Option Line
script_by does (Some drawn) (Some many) = Some (does drawn many)
script_by does (Some drawn) None = None
script_by does None many = None

abbrev pub script_asked_for : (ℕ → ℕ → Line) → List Choice → Option Line
script_asked_for does made = script_by does (number_said seed made) (number_said size made)

-- ---- the line

-- what the words behind a subcommand with these options ask for
abbrev pub asked_for : List LineOption → (List Choice → Option Line) → List Text → Option Line
asked_for options of words = option_and_then of (choices options [] None words)

-- the line of a subcommand and the words that follow its name
abbrev pub subcommand_line : Text → List Text → Option Line
subcommand_line name words =
    if bytes_eq name (codes "run") then asked_for no_options (plain_of Line.Run) words
    else (if bytes_eq name (codes "replay") then asked_for replay_options replay_of words
    else (if bytes_eq name (codes "gen") then asked_for script_options (script_asked_for Line.Gen) words
    else (if bytes_eq name (codes "soak") then asked_for script_options (script_asked_for Line.Soak) words
    else (if bytes_eq name (codes "verify") then asked_for no_options (plain_of Line.Verify) words
    else None))))

-- what the words ask for, none where the command does not take them: the program's name, a
-- subcommand, and its words: each option at most once, in any order, and each that is required
abbrev pub command_line : List Text → Option Line
command_line (program ∷ name ∷ words) = subcommand_line name words
command_line _ = None
