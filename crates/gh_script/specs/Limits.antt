-- How much a script may have.
use Rattle.std.specs.Prelude.{ℕ}
use Rattle.gh_script.specs.Vocabulary.{Setting}
use Rattle.gh_base.specs.declared.limits.TheConstants.{LEAST_PAGES, MOST_GLOBALS, MOST_GOROUTINES, MOST_PAGES, MOST_PROCS, MOST_STATEMENTS, MOST_WORKERS, REGISTERS}

-- the most bytes of a script
abbrev pub most_bytes : ℕ
most_bytes = 4194304

abbrev pub most_types : ℕ
most_types = 64

abbrev pub most_goroutines : ℕ
most_goroutines = MOST_GOROUTINES

-- the most statements of all goroutines, repetitions written out
abbrev pub most_statements : ℕ
most_statements = MOST_STATEMENTS

-- the most times that a body of `repeat` stands
abbrev pub most_times : ℕ
most_times = MOST_STATEMENTS

-- the most `repeat`s that are open at once
abbrev pub most_repeats : ℕ
most_repeats = 8

-- the greatest k of load and store
abbrev pub most_field : ℕ
most_field = 65535

abbrev pub least : Setting → ℕ
least Setting.Procs = 1
least Setting.Workers = 1
least Setting.Arena = LEAST_PAGES
least Setting.Globals = 1
least Setting.Gogc = 0
least Setting.Minheap = 0

abbrev pub most : Setting → ℕ
most Setting.Procs = MOST_PROCS
most Setting.Workers = MOST_WORKERS
most Setting.Arena = MOST_PAGES
most Setting.Globals = MOST_GLOBALS
most Setting.Gogc = 1000
most Setting.Minheap = 8388608

-- how many registers there are
abbrev pub registers : ℕ
registers = REGISTERS
