-- A script that is made without a text: its settings, its types' shapes, and how often each goroutine may ask.
use Rattle.std.specs.Prelude.{◌≡◌, ℕ, ◌+◌, ◌==◌, ◌&&◌, ◌||◌, Bool, if◌then◌else◌, not, nat_lt, nat_le, List, [], ◌∷◌, ◌++◌, length, map, replicate, Option, Some, None, Result, Ok, Err}
use Rattle.gh_script.specs.Vocabulary.{Arena, Gc, Globals, Gogc, Minheap, New, Procs, Setting, Settings, Shape, Why, Workers}
use Rattle.gh_script.specs.declared.fault.ParseError.{ParseError}
use Rattle.gh_script.specs.declared.fault.ParseError.TheVariants.{NoMemory, Script}
use Rattle.gh_script.specs.declared.fault.Why.TheVariants.{Word, Number, Limit, Unknown, Missing}
use Rattle.gh_script.specs.declared.made.Wishes.{Wishes}
use Rattle.gh_script.specs.Generated.{generated_name}
use Rattle.gh_script.specs.Grammar.{line_fault}
use Rattle.gh_script.specs.Limits.{least, most, most_types, most_goroutines, most_statements, most_times}
use Rattle.gh_script.specs.Program.{Goroutine, Program}
use Rattle.gh_script.specs.ShapeText.{are_letters, are_counts, fits_limits, fields_of, shape_with}

-- ---- what it says

-- the shape that a word spells
abbrev pub shape_spelled : List ℕ → Shape
shape_spelled word = shape_with (fields_of word)

-- goroutine g: its name is g and its number, and its statements are so many `new` and then so many `gc`
unfoldable pub asking : ℕ → Wishes → Goroutine
asking g w = record { name = generated_name g; statements = replicate w.news (New 0 0) ++ replicate w.gcs Gc }

-- the goroutines from number g on
unfoldable pub asking_from : ℕ → List Wishes → List Goroutine
asking_from g [] = []
asking_from g (w ∷ ws) = asking g w ∷ asking_from (g + 1) ws

unfoldable pub made_program : Settings → List (List ℕ) → List Wishes → Program
made_program settings types ws = record { settings = settings; shapes = map shape_spelled types; goroutines = asking_from 0 ws }

-- ---- why it is refused

-- the first of two causes
abbrev pub first_cause : Option Why → Option Why → Option Why
first_cause None other = other
first_cause (Some why) other = Some why

-- a setting is within its limits
abbrev pub is_within : Setting → ℕ → Bool
is_within x n = nat_le (least x) n && nat_le n (most x)

unfoldable pub are_within : Settings → Bool
are_within s = is_within Procs s.procs && (is_within Workers s.workers && (is_within Arena s.arena && (is_within Globals s.globals && (is_within Gogc s.gogc && is_within Minheap s.minheap))))

-- of a type behind i others: its letters are misspelt, something else stands in a number's place, or its shape is outside the limits or one too many
unfoldable pub type_cause : ℕ → List ℕ → Option Why
type_cause i word =
    if not (are_letters word) then Some Word else
    (if not (are_counts word) then Some Number else
    (if not (fits_limits word) || nat_le most_types i then Some Limit else None))

-- of types, the first behind i others
unfoldable pub types_cause : ℕ → List (List ℕ) → Option Why
types_cause i [] = None
types_cause i (word ∷ words) = first_cause (type_cause i word) (types_cause (i + 1) words)

-- of a goroutine behind g others with so many statements: it is one too many, or its `new` alone are; it has a `new` where there is no type; or with it there are too many statements
unfoldable pub goroutine_cause : ℕ → ℕ → ℕ → Wishes → Option Why
goroutine_cause types g before w =
    if nat_le most_goroutines g || nat_lt most_times w.news then Some Limit else
    (if nat_lt 0 w.news && (types == 0) then Some Unknown else
    (if nat_lt most_statements (before + (w.news + w.gcs)) then Some Limit else None))

-- of goroutines, the first behind g others with so many statements
unfoldable pub goroutines_cause : ℕ → ℕ → ℕ → List Wishes → Option Why
goroutines_cause types g before [] = None
goroutines_cause types g before (w ∷ ws) = first_cause (goroutine_cause types g before w) (goroutines_cause types (g + 1) (before + (w.news + w.gcs)) ws)

-- the first cause: of the settings, the types and the goroutines in this order; and that there is no goroutine
unfoldable pub made_cause : Settings → List (List ℕ) → List Wishes → Option Why
made_cause settings types ws =
    if not (are_within settings) then Some Limit else
    first_cause (types_cause 0 types) (first_cause (goroutines_cause (length types) 0 0 ws) (if length ws == 0 then Some Missing else None))

-- refused for this cause, and no line is named; or memory ran out
abbrev pub StopsFor : ParseError → Option Why → Type 0
StopsFor NoMemory cause = Unit {0}
StopsFor (Script fault) cause = (cause ≡ Some fault.why) × (fault ≡ line_fault 0 fault.why)

-- it was made, and there is no cause; or it was refused for the cause
abbrev pub AsLimits : {T : Type 0} → Result T ParseError → Option Why → Type 0
AsLimits (Ok x) cause = cause ≡ None
AsLimits (Err e) cause = StopsFor e cause

-- and so was the whole, as the program
abbrev pub IsMade : Result Program ParseError → Option Why → Program → Type 0
IsMade (Ok script) cause program = (cause ≡ None) × (script ≡ program)
IsMade (Err e) cause program = StopsFor e cause
