-- The actors of a world: whose turn it is.
use Rattle.std.specs.Prelude.{◌≡◌, ℕ, ◌+◌, ◌-◌, Bool, not, if◌then◌else◌, List, [], ◌∷◌, ◌++◌, Option, Some, None, nat_lt}
use Rattle.gh_world.specs.Vocabulary.{Actor, Entry, has_left_at, Leads, Marks, Op, range_with_len, Runs, Setting, state_of}
use Rattle.gh_coord.specs.Listing as coord
use Rattle.gh_worker.specs.Listing as worker

-- the actor has no step left: the processor has left, the worker is gone, the last cycle is swept
abbrev pub has_ended : Actor → Bool
has_ended (Runs m) = has_left_at m.task
has_ended (Marks w) = not (worker.is_busy w.stage)
has_ended (Leads c) = coord.is_done_at c.stage

-- the first of these that has not ended
abbrev pub first_going : (ended : ℕ → Bool) → List ℕ → Option ℕ
first_going ended [] = None
first_going ended (a ∷ more) = if ended a then first_going ended more else Some a

-- n actors in ascending order, from this one on, and behind the last from 0 on
abbrev pub in_order_from : (a n : ℕ) → List ℕ
in_order_from a n = range_with_len a (n - a) ++ range_with_len 0 a

-- whose turn it is among n actors, where it would be this one's
abbrev pub turn_from : (ended : ℕ → Bool) → (n a : ℕ) → Option ℕ
turn_from ended n a = first_going ended (in_order_from a n)

-- the actor behind this one
abbrev pub behind : (n a : ℕ) → ℕ
behind n a = if nat_lt (a + 1) n then a + 1 else 0

module _ (s : Setting Actor Op) where
  -- the actor has ended after the list
  abbrev pub ended_after : List (Entry Op) → ℕ → Bool
  ended_after es a = has_ended (state_of s.kind a es)

  -- the first turn is that of actor 0, and the next one that of the actor behind the one that stepped last
  abbrev pub next_in : List (Entry Op) → ℕ
  next_in [] = 0
  next_in (e ∷ es) = behind s.actors e.actor

  -- The actors take turns in ascending order, again and again, passing over those that have ended.
  abbrev pub IsInTurn : List (Entry Op) → Type 0
  IsInTurn [] = Unit {0}
  IsInTurn (e ∷ es) = IsInTurn es × (turn_from (ended_after es) s.actors (next_in es) ≡ Some e.actor)
