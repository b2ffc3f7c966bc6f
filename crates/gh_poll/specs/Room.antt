-- How many entries a processor has room for, as it knows.
use Rattle.std.specs.Prelude.{ℕ, ◌-◌, if◌then◌else◌, Option, Some, None}
use Rattle.gh_poll.specs.Vocabulary.{ENTRIES, Held}
use Rattle.gh_poll.specs.Local.{marking_at}
use Rattle.gh_poll.specs.Poll.{Polling}

-- how many entries more go into a buffer, where one is held
abbrev pub free_in : Option Held → ℕ
free_in None = 0
free_in (Some held) = ENTRIES - held.count

-- while marking is on, those of the buffer that it holds, and else those of an empty one
abbrev pub room_in : Polling → ℕ
room_in p = if marking_at p then free_in p.local.held else ENTRIES
