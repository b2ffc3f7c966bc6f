-- Where a schedule stands among the steps of a run, and who steps next.
use Rattle.std.specs.Prelude.{ℕ, ◌-◌, ◌%◌, ◌||◌, ◌==◌, Bool, not, if◌then◌else◌, nat_le, List, [], ◌∷◌, length, Option, Some, None, option_map, slice_get}
use Rattle.gh_replay.specs.Vocabulary.{behind, filter, Marks, range_with_len, Steps, Turn, turn_from, Until, Without}
use Rattle.rand_xoshiro.specs.SplitMix64.{mix_u64}
use Rattle.gh_replay.specs.Plan.{Plan}

-- what the actors have come to: how many there are, which of them have ended, and the marks of each
pub record ActorsSoFar : Type 0 where
  pub actors : ℕ
  pub ended : ℕ → Bool
  pub marks : ℕ → ℕ

-- all that, were this actor among those that have ended
abbrev pub with_actor_ended : ℕ → ActorsSoFar → ActorsSoFar
with_actor_ended a r = record { actors = r.actors; ended = λ b. a == b || r.ended b; marks = r.marks }

-- where a schedule stands: the items to come, the first of them with the turns that it has left; whose turn it would be in ascending order, by the first item or behind all; and the state of SplitMix64, where there is a seed
pub record Standing : Type 0 where
  pub items : List Turn
  pub next : ℕ
  pub drawn : Option ℕ

-- before the first step; the eight bytes of the seed, lowest first, are the state
abbrev pub opening : Plan → Standing
opening plan = record { items = plan.list; next = 0; drawn = plan.seed }

-- what an item has left once a turn of it is taken
abbrev pub until_then : Until → Until
until_then (Steps n) = Steps (n - 1)
until_then (Marks m) = Marks m
until_then (Without n) = Without (n - 1)

abbrev pub one_less : Turn → Turn
one_less t = record { actor = t.actor; until = until_then t.until }

module _ (r : ActorsSoFar) where
  -- the actors that have not ended, in ascending order
  abbrev pub going : List ℕ
  going = filter (λ a. not (r.ended a)) (range_with_len 0 r.actors)

  -- the next of them in ascending order, or the one that the word drawn says
  abbrev pub who_behind : (next : ℕ) → Option ℕ → Option ℕ
  who_behind next None = turn_from r.ended r.actors next
  who_behind next (Some x) = slice_get going ((mix_u64 x).0 % length going)

  -- where the schedule stands once this one has stepped, with these items
  abbrev pub behind_it : ℕ → List Turn → Standing → Standing
  behind_it a items s = record { items = items; next = behind r.actors a; drawn = option_map (λ x. (mix_u64 x).1) s.drawn }

module _ (r : ActorsSoFar) where
  -- the actor does not exist or has ended
  abbrev pub is_gone : ℕ → Bool
  is_gone a = nat_le r.actors a || r.ended a

  -- the item has ended: whoever is to take its turns is gone, or no turn is left, or the marks are reached
  abbrev pub is_over_by : ℕ → Until → Bool
  is_over_by a (Steps n) = is_gone a || n == 0
  is_over_by a (Marks m) = is_gone a || nat_le m (r.marks a)
  is_over_by a (Without n) = n == 0 || length (going (with_actor_ended a r)) == 0

  abbrev pub is_over : Turn → Bool
  is_over t = is_over_by t.actor t.until

  -- the items from the first on that has not ended
  abbrev pub to_come : List Turn → List Turn
  to_come [] = []
  to_come (t ∷ more) = if is_over t then to_come more else t ∷ more

  -- behind an item that has ended it would be the turn of actor 0
  abbrev pub next_of : List Turn → ℕ → ℕ
  next_of [] next = next
  next_of (t ∷ more) next = if is_over t then 0 else next

  -- where the schedule stands with the items passed that have ended
  abbrev pub passed : Standing → Standing
  passed s = record { items = to_come s.items; next = next_of s.items s.next; drawn = s.drawn }

  -- who steps next by an item: its actor, or where others do, as behind all items, were its actor among those that have ended
  abbrev pub who_by : ℕ → Until → Standing → Option ℕ
  who_by a (Without n) s = who_behind (with_actor_ended a r) s.next s.drawn
  who_by a _ s = Some a

  abbrev pub who_of : List Turn → Standing → Option ℕ
  who_of [] s = who_behind r s.next s.drawn
  who_of (t ∷ more) s = who_by t.actor t.until s

  abbrev pub who_at : Standing → Option ℕ
  who_at s = who_of s.items s

  -- who steps next, where anybody does
  abbrev pub who : Standing → Option ℕ
  who s = who_at (passed s)

  -- where the schedule stands once this actor has stepped
  abbrev pub stands_by : ℕ → Until → List Turn → Standing → Standing
  stands_by a (Without n) items s = behind_it r a items s
  stands_by a _ items s = record { items = items; next = s.next; drawn = s.drawn }

  abbrev pub stands_behind : ℕ → List Turn → Standing → Standing
  stands_behind a [] s = behind_it r a [] s
  stands_behind a (t ∷ more) s = stands_by a t.until (one_less t ∷ more) s

  abbrev pub moved_at : ℕ → Standing → Standing
  moved_at a s = stands_behind a s.items s

  abbrev pub moved : ℕ → Standing → Standing
  moved a s = moved_at a (passed s)
