-- How many cycles a script may ask for, and how many it may have.
use Rattle.std.specs.Prelude.{ℕ, ◌+◌, ◌*◌, Bool, true, false, List, length, sum_by}
use Rattle.gh_world.specs.Vocabulary.{filter, Goroutine, Program, statements_of}
use Rattle.gh_script.specs.declared.statement.Stmt.{Stmt}
use Rattle.gh_script.specs.declared.statement.Stmt.TheVariants.{New, Gc}

-- it may ask for a cycle
abbrev pub may_ask : Stmt → Bool
may_ask (New d t) = true
may_ask Gc = true
may_ask _ = false

abbrev pub wishes_among : List Stmt → ℕ
wishes_among statements = length (filter may_ask statements)

abbrev pub wishes_in : Goroutine → ℕ
wishes_in g = wishes_among g.statements

-- how many `new` and `gc` goroutine g has
abbrev pub wishes_of : Program → ℕ → ℕ
wishes_of p g = wishes_among (statements_of p g)

-- each may ask for two cycles at most, and the last one is not asked for
abbrev pub most_cycles : Program → ℕ
most_cycles p = 2 * sum_by wishes_in p.goroutines + 1
