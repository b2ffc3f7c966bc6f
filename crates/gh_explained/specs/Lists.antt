-- What every legal list of a script's processors, workers and coordinator keeps of credit and of work buffers, in whatever order the processors' operations are.
use Rattle.std.specs.Prelude.{◌≡◌, ◌+◌, true, List}
use Rattle.gh_world.specs.Vocabulary.{Coordinating, Entry, Layout, Leads, Legal, Op, Program, WellFormed}
use Rattle.gh_coord.specs.Listing.{is_done_at}
pub use Rattle.gh_law.specs.Below.{objects_in, scanned_in}
pub use Rattle.gh_law.specs.Credit.{CreditStands}
pub use Rattle.gh_law.specs.Room.{RoomStands}
use Rattle.gh_world.specs.Runs.{answers_given, CreditIsTold, outcome_by, spent_after, words_in}
use Rattle.gh_world.specs.World.{actor_after, LaysOut, setting_of, setup_of}

-- At every moment what workers have earned was spent, has lapsed, or is in the bank.
abbrev pub EveryListOfAScriptBalances : Type 0
EveryListOfAScriptBalances = (p : Program) (l : Layout) (es : List (Entry Op)) → WellFormed p → LaysOut p l → Legal (setting_of p l) es → CreditStands (setup_of p l) es

-- At every moment there is a grey work buffer that nobody holds and into which two entries more go.
abbrev pub EveryListOfAScriptHasRoom : Type 0
EveryListOfAScriptHasRoom = (p : Program) (l : Layout) (es : List (Entry Op)) → WellFormed p → LaysOut p l → Legal (setting_of p l) es → RoomStands l (words_in p l es)

-- And once the coordinator is done all that workers have scanned was earned, and all that was earned was spent or has lapsed.
abbrev pub EveryListOfAScriptSettles : Type 0
EveryListOfAScriptSettles = (p : Program) (l : Layout) (es : List (Entry Op)) (c : Coordinating) → WellFormed p → LaysOut p l → Legal (setting_of p l) es → actor_after p l es (l.procs + l.workers) ≡ Leads c → is_done_at c.stage ≡ true → CreditIsTold p l es (outcome_by (answers_given p l es) (spent_after p l es) c)
