-- That a world is the state of a list of steps, and what one step of it adds to that list.
use Rattle.std.specs.Prelude.{◌≡◌, ℕ, ◌<◌, true, List, ◌∷◌, ◌++◌, length, reverse, slice_index, slice_get, Some}
use Rattle.gh_world.specs.Vocabulary.{begun_in, by, ended_in, Entry, Event, has_left, MOST_GOROUTINES, Op, Program, Progress, Runner, ShowsCells, words_after}
use Rattle.gh_world.specs.Runs.{IsRunSoFar}
use Rattle.gh_world.specs.Turns.{leave_is_begun, MayBeOver, statement_count, to_come, turns_of}
use Rattle.gh_world.specs.World.{actor_after, actor_of, actors_of, answer_in, answered_in, event_of, marks_at, marks_by, marks_of, now_by, now_in, points_in, setting_of, State, with_goroutine}

-- ---- book-keeping

-- What a world keeps to know what comes next. It is no promise of what a world does: its next step rests on it, and leaves it so. All that is promised stands in `IsAfter` and `Appends`.

-- Of the processor at seat a: which of its turns are still to come; how many statements of each goroutine it has begun, and which last; and that none is to come of a goroutine that has ended, and nothing once it has left.
pub record KeepsPlace (p : Program) (a : ℕ) (t : Progress) (es : List (Entry Op)) : Type 0 where
  pub turns : turns_of p a ≡ reverse (begun_in (by a es)) ++ to_come p a t.next
  pub counted : (g : ℕ) → g < MOST_GOROUTINES → slice_index t.begun g ≡ statement_count g (begun_in (by a es))
  pub now : (t.last, slice_index t.begun t.last) ≡ now_by a es
  pub ended : (g : ℕ) → ended_in (by a es) g ≡ true → MayBeOver p t.next g
  pub left : has_left (by a es) ≡ true → leave_is_begun t.next ≡ true

-- there are as many processors and workers as in the layout, and each processor keeps its place
pub record KeepsPlaces (w : State) (es : List (Entry Op)) : Type 0 where
  pub processors : length w.runners ≡ w.layout.procs
  pub workers : length w.workers ≡ w.layout.workers
  pub each : (a : ℕ) (x : Runner) → slice_get w.runners a ≡ Some x → KeepsPlace w.script a x.progress es

-- ---- what is promised

-- The world is the state of the list: the list is a run of the world's script so far, so each entry of it is legal; and the words, each actor with its marks, and the statements that have had their points are those after it.
pub record IsAfter (w : State) (es : List (Entry Op)) : Type 0 where
  pub run : IsRunSoFar w.script w.layout es
  pub words : ShowsCells w.layout w.words (words_after (setting_of w.script w.layout).opening es)
  pub actors : (a : ℕ) → a < actors_of w → actor_of w a ≡ actor_after w.script w.layout es a
  pub marks : (a : ℕ) → a < actors_of w → marks_of w a ≡ marks_by (marks_at w.script.shapes w.layout a es) (actor_after w.script w.layout es a)
  pub points : w.points ≡ points_in w.script.shapes w.layout es
  -- the book-keeping
  pub keeps : KeepsPlaces w es

-- The list grows by one entry, of this actor, and the world is the state of that list. What is said is what the entry's step says, with the answer of the statement that ends with it, if one does.
pub record Appends (w : State) (actor : ℕ) (es : List (Entry Op)) (happened : Event) : Type 0 where
  pub e : Entry Op
  pub by : e.actor ≡ actor
  pub after : IsAfter w (e ∷ es)
  pub says : happened ≡ event_of w.script w.layout es e
  pub answers : answered_in happened ≡ with_goroutine (now_in (e ∷ es)).0 (answer_in w.script.shapes w.layout es e)
