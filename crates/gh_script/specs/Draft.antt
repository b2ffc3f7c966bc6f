-- What the lines so far say.
use Rattle.std.specs.Prelude.{◌≡◌, ℕ, ◌+◌, ◌*◌, ◌≤◌, ◌≢◌, ◌==◌, ◌&&◌, ◌||◌, Bool, true, false, if◌then◌else◌, nat_lt, List, [], ◌∷◌, ◌++◌, length, take, drop, Option, Some, None, unwrap_or, position, sum_by, All, AllPairs}
use Rattle.gh_script.specs.Vocabulary.{Arena, bytes_eq, FitsShape, Given, Globals, Gogc, list_any, Minheap, option_and_then, option_map, option_to_list, Procs, repeat, Setting, Settings, Shape, Stmt, Workers}
use Rattle.gh_script.specs.declared.goroutine.Repeat.{Repeat}
use Rattle.gh_script.specs.Limits.{least, most, most_types, most_goroutines, most_statements}
use Rattle.gh_script.specs.Words.{is_name}
use Rattle.gh_script.specs.Program.{Goroutine, Program, statements_in, AreStatements, AreNamedApart, IsPacked, IsStatement, IsNamed}

-- a goroutine that is open: its name; its statements so far, with the body of each open `repeat` once, none once they are
-- more than a script may have (that many can never get fewer); and the open `repeat`s, innermost first
pub record Open : Type 0 where
  pub name : List ℕ
  pub statements : Option (List Stmt)
  pub repeats : List Repeat

-- the settings given so far, the types with their names, the goroutines that have ended, and the one that is open
pub record Draft : Type 0 where
  pub given : Given
  pub names : List (List ℕ)
  pub shapes : List Shape
  pub closed : List Goroutine
  pub current : Option Open

-- before the first line
abbrev pub nothing_given : Given
nothing_given = record { procs = None; workers = None; arena = None; globals = None; gogc = None; minheap = None }

abbrev pub blank_draft : Draft
blank_draft = record { given = nothing_given; names = []; shapes = []; closed = []; current = None }

-- what a setting was given as
abbrev pub given_at : Given → Setting → Option ℕ
given_at given Procs = given.procs
given_at given Workers = given.workers
given_at given Arena = given.arena
given_at given Globals = given.globals
given_at given Gogc = given.gogc
given_at given Minheap = given.minheap

abbrev pub with_given : Given → Setting → ℕ → Given
with_given given Procs n = record given { procs = Some n }
with_given given Workers n = record given { workers = Some n }
with_given given Arena n = record given { arena = Some n }
with_given given Globals n = record given { globals = Some n }
with_given given Gogc n = record given { gogc = Some n }
with_given given Minheap n = record given { minheap = Some n }

-- how many globals there are
abbrev pub globals_in : Given → ℕ
globals_in given = unwrap_or given.globals 1

-- the settings, each as given, or its default: for minheap a quarter of the arena's bytes
abbrev pub settings_in : Given → Settings
settings_in given = record {
  procs = unwrap_or given.procs 1;
  workers = unwrap_or given.workers 1;
  arena = unwrap_or given.arena 256;
  globals = globals_in given;
  gogc = unwrap_or given.gogc 100;
  minheap = unwrap_or given.minheap (2048 * unwrap_or given.arena 256);
}

-- the place of the type of a name
unfoldable pub type_of : List (List ℕ) → List ℕ → Option ℕ
type_of names word = position (λ name. bytes_eq name word) names

-- a goroutine of this name has begun
unfoldable pub has_goroutine : Draft → List ℕ → Bool
has_goroutine draft word = list_any (λ g. bytes_eq g.name word) draft.closed || list_any (λ g. bytes_eq g.name word) (option_to_list draft.current)

-- how many goroutines have begun
abbrev pub goroutines_begun : Draft → ℕ
goroutines_begun draft = length draft.closed + length (option_to_list draft.current)

-- the `repeat`s that are open, innermost first
abbrev pub repeats_open : Draft → List Repeat
repeats_open draft = unwrap_or (option_map (λ g. g.repeats) draft.current) []

-- statements, none where a script may not have so many
unfoldable pub kept : List Stmt → Option (List Stmt)
kept statements = if nat_lt most_statements (length statements) then None else Some statements

-- a goroutine that has just begun
abbrev pub just_begun : List ℕ → Open
just_begun name = record { name = name; statements = Some []; repeats = [] }

-- a goroutine with one more statement
abbrev pub with_statement : Option Stmt → Open → Open
with_statement statement g = record g { statements = option_and_then (λ statements. kept (statements ++ option_to_list statement)) g.statements }

-- a goroutine with one more open `repeat`, whose body begins behind the statements so far
abbrev pub with_repeat : ℕ → Open → Open
with_repeat times g = record g { repeats = record { start = length (unwrap_or g.statements []); times = times } ∷ g.repeats }

-- the statements before the body of the `repeat`, and then the body as often as it stands
unfoldable pub written_out : Repeat → List Stmt → Option (List Stmt)
written_out innermost statements = kept (take innermost.start statements ++ repeat innermost.times (drop innermost.start statements))

-- a goroutine with the innermost of its open `repeat`s closed, if there is one
abbrev pub with_closed : Open → List Repeat → Open
with_closed g [] = g
with_closed g (innermost ∷ others) = record g { statements = option_and_then (written_out innermost) g.statements; repeats = others }

-- a goroutine that ends
abbrev pub finished_goroutine : Open → Goroutine
finished_goroutine g = record { name = g.name; statements = unwrap_or g.statements [] }

-- `end` closes the open goroutine where it has no open `repeat`, and its innermost `repeat` where it has one
abbrev pub block_ended : Draft → Option Open → Draft
block_ended draft None = draft
block_ended draft (Some g) =
    if length g.repeats == 0 then record draft { closed = draft.closed ++ finished_goroutine g ∷ []; current = None }
    else record draft { current = Some (with_closed g g.repeats) }

-- with the statements of the closed goroutines these are more than a script may have
abbrev pub are_too_many : List Goroutine → Option (List Stmt) → Bool
are_too_many closed None = true
are_too_many closed (Some statements) = nat_lt most_statements (sum_by statements_in closed + length statements)

-- `end` would close the goroutine, and there are too many statements
abbrev pub is_too_long : List Goroutine → Option Open → Bool
is_too_long closed None = false
is_too_long closed (Some g) = (length g.repeats == 0) && are_too_many closed g.statements

-- what is said in all
abbrev pub program_in : Draft → Program
program_in draft = record { settings = settings_in draft.given; shapes = draft.shapes; goroutines = draft.closed }

-- the name of the open goroutine is spelled as names are
abbrev pub IsOpenNamed : Open → Type 0
IsOpenNamed g = is_name g.name ≡ true

-- no goroutine that has ended has the name of the open one
abbrev pub IsNewName : List Goroutine → Open → Type 0
IsNewName closed g = All (λ other. other.name ≢ g.name) closed

abbrev pub AreOpenStatements : ℕ → ℕ → Open → Type 0
AreOpenStatements globals types g = All (IsStatement globals types) (unwrap_or g.statements [])

-- what the lines so far keep
pub record IsSound (draft : Draft) : Type 0 where
  pub given : (x : Setting) (n : ℕ) → given_at draft.given x ≡ Some n → (least x ≤ n) × (n ≤ most x)
  pub types : length draft.names ≤ most_types
  pub named : length draft.shapes ≡ length draft.names
  pub shapes_fit : All FitsShape draft.shapes
  pub shapes_packed : All IsPacked draft.shapes
  pub goroutines : goroutines_begun draft ≤ most_goroutines
  pub closed_names : All IsNamed draft.closed
  pub open_names : All IsOpenNamed (option_to_list draft.current)
  pub names_apart : AllPairs AreNamedApart draft.closed
  pub open_apart : All (IsNewName draft.closed) (option_to_list draft.current)
  pub statements : All (AreStatements (globals_in draft.given) (length draft.names)) draft.closed
  pub open_statements : All (AreOpenStatements (globals_in draft.given) (length draft.names)) (option_to_list draft.current)
  pub few_statements : sum_by statements_in draft.closed ≤ most_statements
