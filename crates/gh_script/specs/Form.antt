-- The form of a script, without the reading of it line by line: settings and types in any order, then goroutines, each
-- of statements and repeated blocks.
use Rattle.std.specs.Prelude.{◌≡◌, ℕ, Bool, true, false, not, List, [], ◌∷◌, ◌++◌, map, filter, fold, Option, Some, None, All, ◌≢◌, AllPairs, ◌+◌, ◌<◌, ◌≤◌, length, sum_by}
use Rattle.gh_script.specs.Vocabulary.{flat_map, Given, is_utf8, Key, option_to_list, repeat, Setting, Shape, Stmt}
use Rattle.gh_script.specs.Limits.{most_bytes, most_types, most_goroutines, most_statements, most_repeats}
use Rattle.gh_script.specs.Program.{Program, Goroutine, AreNamedApart, statements_in}
use Rattle.gh_script.specs.Text.{Sentence, sentence_of, lines_of, words_of}
use Rattle.gh_script.specs.Words.{key_of}
use Rattle.gh_script.specs.ShapeText.{fields_of, shape_with}
use Rattle.gh_script.specs.Draft.{Draft, blank_draft, nothing_given, just_begun, with_given, settings_in}
use Rattle.gh_script.specs.Grammar.{cause_at, is_skipped, number_in, statement_of}

-- a line's words
abbrev pub said_in : List ℕ → Sentence
said_in line = sentence_of (words_of line)

-- the lines of a text that say something
unfoldable pub sayings : List (List ℕ) → List Sentence
sayings lines = filter (λ line. not (is_skipped line)) (map said_in lines)

-- a setting or a type
abbrev pub IsHeadKey : Option Key → Type 0
IsHeadKey (Some (Key.Setting x)) = Unit {0}
IsHeadKey (Some Key.Type) = Unit {0}
IsHeadKey (Some key) = ⊥
IsHeadKey None = ⊥

abbrev pub IsHead : Sentence → Type 0
IsHead line = IsHeadKey (key_of line.first)

abbrev pub is_type_key : Option Key → Bool
is_type_key (Some Key.Type) = true
is_type_key (Some key) = false
is_type_key None = false

-- the types among the lines
abbrev pub types_in : List Sentence → List Sentence
types_in lines = filter (λ line. is_type_key (key_of line.first)) lines

abbrev pub given_by_key : Given → Sentence → Option Key → Given
given_by_key given line (Some (Key.Setting x)) = with_given given x (number_in line.second)
given_by_key given line (Some key) = given
given_by_key given line None = given

-- the settings that the lines give
abbrev pub settings_by : List Sentence → Given
settings_by lines = fold (λ given line. given_by_key given line (key_of line.first)) nothing_given lines

-- the types' names and shapes
abbrev pub names_by : List Sentence → List (List ℕ)
names_by lines = map (λ line. line.second) (types_in lines)

abbrev pub shapes_by : List Sentence → List Shape
shapes_by lines = map (λ line. shape_with (fields_of line.third)) (types_in lines)

abbrev pub statement_by_key : List (List ℕ) → Sentence → Option Key → Option Stmt
statement_by_key names line (Some key) = statement_of names key line
statement_by_key names line None = None

-- a draft with these settings and types' names, and a goroutine open
abbrev pub inside : Given → List (List ℕ) → Draft
inside given names = record { given = given; names = names; shapes = []; closed = []; current = Some (just_begun []) }

-- the line meets no cause after those of the draft
abbrev pub IsTaken : Draft → Sentence → Type 0
IsTaken draft line = (key : Key) → key_of line.first ≡ Some key → cause_at draft key line ≡ None

-- and this is its key
abbrev pub IsTakenAs : Draft → Key → Sentence → Type 0
IsTakenAs draft key line = (key_of line.first ≡ Some key) × (cause_at draft key line ≡ None)

-- two lines don't give the same setting
abbrev pub AreApart : Sentence → Sentence → Type 0
AreApart one other = (x : Setting) → key_of one.first ≡ Some (Key.Setting x) → key_of other.first ≡ Some (Key.Setting x) → ⊥

-- a line is a statement
abbrev pub IsSaying : List (List ℕ) → Sentence → Type 0
IsSaying names line = (statement : Stmt) × (statement_by_key names line (key_of line.first) ≡ Some statement)

-- ---- blocks

-- a block of lines: nothing; a block and then a statement; or a block and then `repeat`, a block of its own, and `end`
pub data Block : Type 0 where
  Nothing : Block
  Say : Block → Sentence → Block
  Repeated : Block → Sentence → Block → Sentence → Block

-- the lines of a block
abbrev pub lines_in : Block → List Sentence
lines_in Nothing = []
lines_in (Say before line) = lines_in before ++ line ∷ []
lines_in (Repeated before opens body closes) = lines_in before ++ opens ∷ (lines_in body ++ closes ∷ [])

-- its statements, each repeated block written out
abbrev pub statements_by : List (List ℕ) → Block → List Stmt
statements_by names Nothing = []
statements_by names (Say before line) = statements_by names before ++ option_to_list (statement_by_key names line (key_of line.first))
statements_by names (Repeated before opens body closes) = statements_by names before ++ repeat (number_in opens.second) (statements_by names body)

-- each line of the block would be taken in a goroutine that opens behind these settings and types, and with the
-- `repeat`s that stand open around the block no more are ever open than may be
abbrev pub IsBlock : Given → List (List ℕ) → ℕ → Block → Type 0
IsBlock given names around Nothing = Unit {0}
IsBlock given names around (Say before line) = IsBlock given names around before × IsSaying names line × IsTaken (inside given names) line
IsBlock given names around (Repeated before opens body closes) =
    IsBlock given names around before × IsTakenAs (inside given names) Key.Repeat opens × (around < most_repeats) × IsBlock given names (around + 1) body × IsTakenAs (inside given names) Key.End closes

-- ---- goroutines

-- the lines of a goroutine: `go`, a block and `end`
pub record Routine : Type 0 where
  pub go : Sentence
  pub block : Block
  pub last : Sentence

abbrev pub routine_lines : Routine → List Sentence
routine_lines r = r.go ∷ (lines_in r.block ++ r.last ∷ [])

pub record IsRoutine (given : Given) (names : List (List ℕ)) (r : Routine) : Type 0 where
  pub begins : IsTakenAs blank_draft Key.Go r.go
  pub block : IsBlock given names 0 r.block
  pub ends : IsTakenAs (inside given names) Key.End r.last

-- what it says
abbrev pub goroutine_by : List (List ℕ) → Routine → Goroutine
goroutine_by names r = record { name = r.go.second; statements = statements_by names r.block }

-- The lines that say something are settings and types, and then goroutines, and that is what the program says.
-- Each setting, type and `go` would be taken as a text's first line, and each line of a goroutine in one that opens behind
-- the settings and types; no setting, no type's name and no goroutine's name stands twice, and the counts are within their
-- limits.
pub record HasForm (text : List ℕ) (p : Program) : Type 0 where
  pub size : length text ≤ most_bytes
  pub characters : is_utf8 text ≡ true
  pub head : List Sentence
  pub routines : List Routine
  pub lines : sayings (lines_of text) ≡ head ++ flat_map routine_lines routines
  pub heads : All IsHead head
  pub heads_taken : All (IsTaken blank_draft) head
  pub once : AllPairs AreApart head
  pub names_apart : AllPairs (λ a b. a ≢ b) (names_by head)
  pub few_types : length (names_by head) ≤ most_types
  pub right : All (IsRoutine (settings_by head) (names_by head)) routines
  pub some_goroutine : 1 ≤ length routines
  pub few_goroutines : length routines ≤ most_goroutines
  pub goroutines_apart : AllPairs AreNamedApart p.goroutines
  pub few_statements : sum_by statements_in p.goroutines ≤ most_statements
  pub settings : p.settings ≡ settings_in (settings_by head)
  pub shapes : p.shapes ≡ shapes_by head
  pub goroutines : p.goroutines ≡ map (goroutine_by (names_by head)) routines
