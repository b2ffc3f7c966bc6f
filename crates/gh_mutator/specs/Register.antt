-- A statement on registers alone, of one step: it loads the touch word, and its register takes a value.
use Rattle.std.specs.Prelude.{ℕ, Some, true}
use Rattle.gh_mutator.specs.Vocabulary.{Answer, Ask, Cell, Ends, Op, Register, Source, Step, Value}
use Rattle.gh_mutator.specs.declared.register.Source.TheVariants.{Int, Move, Nil}

abbrev pub op_from : Register → Source → Op
op_from x (Int n) = Op.Int x.g x.d n
op_from x (Move s) = Op.Move x.g x.d s
op_from x Nil = Op.Nil x.g x.d

abbrev pub op_of : Register → Op
op_of x = op_from x x.source

abbrev pub begins : (g d : ℕ) → Source → Register
begins g d source = record { g = g; d = d; source = source }

-- the register that it reads; where it reads none, its own
abbrev pub read_from : Register → Source → ℕ
read_from x (Move s) = s
read_from x _ = x.d

abbrev pub read_of : Register → ℕ
read_of x = read_from x x.source

-- the value that the register takes, where the one that is read holds this
abbrev pub value_of_source : (held : Value) → Source → Value
value_of_source held (Int n) = Value.Int n
value_of_source held (Move s) = held
value_of_source held Nil = Value.Nil

-- the step that it asks for, and what that step does
abbrev pub asks : Register → Ask
asks x = Ask.Load Cell.Touch

abbrev pub step : (held : Value) → Register → Step Register
step held x = record { then = Ends Answer.Done; sets = Some (value_of_source held x.source); acts = true }
