-- The parts of a step of a new object, as the code makes them: what the making says, and what the processor does then.
use Rattle.std.specs.Prelude.{ℕ, ◌+◌, ◌*◌, ◌≤◌, Bool, true, false, if◌then◌else◌, Option, Some, None}
use Rattle.gh_mutator.specs.Vocabulary.{Layout, Name, Placing, Wanted}
use Rattle.gh_mutator.specs.Processing.{Processor}
use Rattle.gh_alloc.specs.Place as place
use Rattle.gh_mutator.specs.New.{made_object, made_then, wants}
use Rattle.gh_mutator.specs.Processor.{at_task}

-- a step of the making makes the object in the slot at this heap word
abbrev pub made_at : Placing → Option ℕ
made_at p = if place.makes_its_object p then Some p.at else None

-- the processor at the next stage, once the object is made in the slot at this heap word, if it is, and the making is over, where it says whether a cycle is to be asked for
abbrev pub made_by_step : Processor → Wanted → Option ℕ → Processor
made_by_step m w None = m
made_by_step m w (Some a) = made_object m w a

abbrev pub after_making : Processor → Wanted → Option ℕ → Name → (asks : Option Bool) → Processor
after_making m w made n None = made_by_step m w made
after_making m w made n (Some true) = at_task (made_by_step m w made) (wants w n)
after_making m w made n (Some false) = at_task (made_by_step m w made) (made_then m.poll w n)

-- the object's slot lies in the arena
abbrev pub MakingFits : Layout → Option ℕ → Type 0
MakingFits l None = Unit {0}
MakingFits l (Some at) = at + 1 ≤ 1024 * l.pages
