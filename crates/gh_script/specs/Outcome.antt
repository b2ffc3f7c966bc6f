-- What the code answered, beside what the grammar says. Memory may run out at any time.
use Rattle.std.specs.Prelude.{◌≡◌, ℕ, Result, Ok, Err}
use Rattle.gh_script.specs.Vocabulary.{ScriptFault, Why}
use Rattle.gh_script.specs.declared.fault.ParseError.{ParseError}
use Rattle.gh_script.specs.declared.fault.ParseError.TheVariants.{NoMemory, Script}
use Rattle.gh_script.specs.Program.{Program}
use Rattle.gh_script.specs.Draft.{Draft}
use Rattle.gh_script.specs.Grammar.{line_fault}

-- after line n: the new draft, or the line's cause
abbrev pub Continues : {T : Type 0} → Result T ParseError → Draft → ℕ → Result Draft Why → Type 0
Continues (Ok x) new n read = read ≡ Ok new
Continues (Err NoMemory) new n read = Unit {0}
Continues (Err (Script fault)) new n read = (read ≡ Err fault.why) × (fault ≡ line_fault n fault.why)

-- after all lines, of which there are so many: the new draft, or the first fault
abbrev pub ReadsAll : Result ℕ ParseError → Draft → ℕ → Result Draft ScriptFault → Type 0
ReadsAll (Ok n) new count read = (read ≡ Ok new) × (n ≡ count)
ReadsAll (Err NoMemory) new count read = Unit {0}
ReadsAll (Err (Script fault)) new count read = read ≡ Err fault

-- at the text's end: the program, or the first fault
abbrev pub EndsAsRead : Result Program ParseError → Result Program ScriptFault → Type 0
EndsAsRead (Ok script) read = read ≡ Ok script
EndsAsRead (Err NoMemory) read = Unit {0}
EndsAsRead (Err (Script fault)) read = read ≡ Err fault

-- the program was taken
abbrev pub TakesProgram : Result Program ParseError → Program → Type 0
TakesProgram (Ok script) program = script ≡ program
TakesProgram (Err NoMemory) program = Unit {0}
TakesProgram (Err (Script fault)) program = ⊥

-- the text was refused for this cause at this line
abbrev pub Faults : Result Program ParseError → ℕ → Why → Type 0
Faults (Ok script) line why = ⊥
Faults (Err NoMemory) line why = Unit {0}
Faults (Err (Script fault)) line why = fault ≡ line_fault line why
