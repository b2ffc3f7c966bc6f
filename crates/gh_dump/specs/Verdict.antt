-- Which texts are accepted, and for what a text is refused.
use Rattle.std.specs.Prelude.{◌≡◌, ℕ, zero, suc, ◌<◌, ◌==◌, ◌&&◌, if◌then◌else◌, not, nat_lt, List, take, length, Option, Some, None, Result, Ok, Err}
use Rattle.gh_dump.specs.Items.{items_of}
use Rattle.gh_dump.specs.Listing.{is_total, objects_listed}
use Rattle.gh_dump.specs.Causes.{cause_of}
use Rattle.gh_dump.specs.Vocabulary.{DumpWhy, Item, list_any, option_and_then, option_or, slice_get}
use Rattle.gh_dump.specs.declared.fault.DumpWhy.TheVariants.{Size, Total}
use Rattle.gh_dump.specs.declared.fault.VerifyError.{VerifyError}
use Rattle.gh_dump.specs.declared.fault.VerifyError.TheVariants.{NoMemory, Dump}

-- the most bytes of a dump
abbrev pub most_bytes : ℕ
most_bytes = 268435456

-- the first cause of the line at place i, from 0
abbrev pub line_cause : List (Option Item) → ℕ → Option DumpWhy
line_cause items i = option_and_then (cause_of items (take i items)) (slice_get items i)

-- behind all lines, at the number of the last: no line is a total
abbrev pub end_cause : List (Option Item) → ℕ → Option DumpWhy
end_cause items n = if (n == length items) && not (list_any is_total items) then Some Total else None

-- before all lines: the text is too long
abbrev pub size_cause : List ℕ → Option DumpWhy
size_cause text = if nat_lt most_bytes (length text) then Some Size else None

-- the first cause of line n itself, where line 0 stands before all lines
unfoldable pub own_cause : List ℕ → ℕ → Option DumpWhy
own_cause text zero = size_cause text
own_cause text (suc i) = line_cause (items_of text) i

-- the first cause at line n
unfoldable pub cause_at : List ℕ → ℕ → Option DumpWhy
cause_at text n = option_or (own_cause text n) (end_cause (items_of text) n)

-- no line has a cause, and n objects are listed
pub record Accepts (text : List ℕ) (n : ℕ) : Type 0 where
  pub right : (line : ℕ) → cause_at text line ≡ None
  pub count : n ≡ objects_listed (items_of text)

-- this is the first line that has a cause, and its first cause
pub record Faults (text : List ℕ) (line : ℕ) (why : DumpWhy) : Type 0 where
  pub cause : cause_at text line ≡ Some why
  pub first : (before : ℕ) → before < line → cause_at text before ≡ None

-- whatever is accepted or refused of the one is so of the other
pub record HaveOneVerdict (a b : List ℕ) : Type 0 where
  pub accepted : (n : ℕ) → Accepts a n → Accepts b n
  pub refused : (line : ℕ) (why : DumpWhy) → Faults a line why → Faults b line why

-- ---- what the code answered; memory may run out at any time

-- the text was accepted with so many objects
abbrev pub AnswersCount : Result ℕ VerifyError → ℕ → Type 0
AnswersCount (Ok count) n = count ≡ n
AnswersCount (Err NoMemory) n = Unit {0}
AnswersCount (Err (Dump fault)) n = ⊥

-- the text was refused for this cause at this line
abbrev pub AnswersFault : Result ℕ VerifyError → ℕ → DumpWhy → Type 0
AnswersFault (Ok count) line why = ⊥
AnswersFault (Err NoMemory) line why = Unit {0}
AnswersFault (Err (Dump fault)) line why = fault ≡ record { line = line; why = why }

abbrev pub IsVerdict : List ℕ → Result ℕ VerifyError → Type 0
IsVerdict text (Ok n) = Accepts text n
IsVerdict text (Err NoMemory) = Unit {0}
IsVerdict text (Err (Dump fault)) = Faults text fault.line fault.why
