-- What one step of a statement does, and what is read off it.
use Rattle.std.specs.Prelude.{true, false, Option, Some, None}
use Rattle.gh_mutator.specs.Vocabulary.{Answer, Ends, GoesOn, Step, Then}

-- the statement goes on so, and the step does nothing else
abbrev pub goes_on : {S : Type 0} → S → Step S
goes_on s = record { then = GoesOn s; sets = None; acts = false }

-- the statement acts by the step, and ends with this answer
abbrev pub ends : {S : Type 0} → Answer → Step S
ends a = record { then = Ends a; sets = None; acts = true }

-- what the statement is answered, if it ends
abbrev pub answered : {S : Type 0} → Then S → Option Answer
answered (GoesOn s) = None
answered (Ends a) = Some a
