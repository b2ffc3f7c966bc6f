-- The making of an object asks for a cycle where it loads a trigger that is reached.
use Rattle.std.proofs.Common.{◌≡◌, ℕ, Bool, true, List, Option, Some, arith}
use Rattle.gh_mutator.proofs.Vocabulary.{after_assist, after_gc, after_leave, after_poll, Assisting, follows, Found, Layout, Leaving, Name, NewStage, Place, PlaceStage, Placing, Polling, Processor, Seeking, Shape, takes_at, Task, Then, Waiting, Want, Wanted}
use Rattle.gh_alloc.specs.Place as place
use Rattle.gh_alloc.specs.Trigger.{AnObjectAsksAtTheTrigger}
use Rattle.gh_mutator.specs.New as new
use Rattle.gh_mutator.specs.Asking.{Compares, CountsUpTo, SawReached, SeesReached, SeesReachedAt, ProcessorsAskAtTheTrigger}

-- The making of an object: behind the counting it looks at the trigger, and behind that it may ask for a cycle.

abbrev LooksAt : PlaceStage → Type 0
LooksAt (PlaceStage.LoadTrigger bytes) = Unit {0}
LooksAt _ = ⊥

abbrev IsBehindAt : NewStage → Type 0
IsBehindAt (Place p) = LooksAt p.stage
IsBehindAt (Want n) = Unit {0}
IsBehindAt _ = ⊥

abbrev IsBehind : Task → Type 0
IsBehind (Task.New x) = IsBehindAt x.stage
IsBehind _ = ⊥

abbrev IsPlacingAt : NewStage → Type 0
IsPlacingAt (Place p) = Unit {0}
IsPlacingAt _ = ⊥

abbrev IsPlacing : Task → Type 0
IsPlacing (Task.New x) = IsPlacingAt x.stage
IsPlacing _ = ⊥

saw_behind : (t : Task) → SawReached t → IsBehind t
saw_behind t saw = grind arith

compares_behind : (bytes : ℕ) (t : Task) → Compares t bytes → IsBehind t
compares_behind bytes t e = grind arith

-- so it was making an object before
module _ (l : Layout) (shapes : List Shape) (m : Processor) (found : ℕ) where
  search_behind : (n : Wanted) (waited : Bool) (s : Seeking) (p : Processor) (out : Option Found) → IsBehind (new.after_search shapes p n waited s out).task → ⊥
  search_behind n waited s p out e = grind arith

  wait_behind : (n : Wanted) (w : Waiting) (out : Option (Unit {0})) → IsBehind (new.after_wait m n w out).task → ⊥
  wait_behind n w out e = grind arith

  assist_behind : (n : Wanted) (u : Name) (x : Assisting) (out : Option (Unit {0})) → IsBehind (after_assist m n u x out).task → ⊥
  assist_behind n u x out e = grind arith

  gc_behind : (g : ℕ) (w : Waiting) (out : Option (Unit {0})) → IsBehind (after_gc m g w out).task → ⊥
  gc_behind g w out e = grind arith

  poll_behind : (p : Polling) (out : Option (Unit {0})) → IsBehind (after_poll m p out).task → ⊥
  poll_behind p out e = grind arith

  leave_behind : (x : Leaving) (out : Option (Unit {0})) → IsBehind (after_leave m x out).task → ⊥
  leave_behind x out e = grind arith

  into_behind : {S : Type 0} (into : S → Task) (then : Then S) → ((y : S) → IsBehind (into y) → ⊥) → IsBehind (follows into then) → ⊥
  into_behind into then spared e = grind arith

  new_behind : (n : Wanted) (q : NewStage) → IsBehind (new.takes_at l shapes m n q found).task → IsPlacingAt q
  new_behind n q e = grind (arith, assist_behind, search_behind, wait_behind)

  was_placing : (t : Task) → t ≡ m.task → IsBehind (takes_at l shapes m t found).task → IsPlacing t
  was_placing t is e = grind (arith, gc_behind, into_behind, leave_behind, new_behind, poll_behind)

  module _ (k : AnObjectAsksAtTheTrigger) where
    made_asks : (n : Wanted) (y : Placing) (asks : Option Bool) → SawReached (new.made_task m.poll n y asks) → asks ≡ Some true
    made_asks n y asks saw = grind arith

    saw_at : (n : Wanted) (q : NewStage) → IsPlacingAt q → SawReached (new.takes_at l shapes m n q found).task → (bytes : ℕ) × SeesReachedAt found bytes q
    saw_at n (Place y) here e = k.asks_there y found (made_asks n (place.goes y found) (place.gives y found) e)
    saw_at n _ here e = absurd here

    saw_by : (t : Task) → IsPlacing t → SawReached (takes_at l shapes m t found).task → (bytes : ℕ) × SeesReached t found bytes
    saw_by t here e = grind (arith, saw_at)

    sees_by : (bytes : ℕ) (t : Task) → SeesReached t found bytes → SawReached (takes_at l shapes m t found).task
    sees_by bytes t e = grind arith

    compares_by : (bytes : ℕ) (t : Task) → IsPlacing t → Compares (takes_at l shapes m t found).task bytes → CountsUpTo t found bytes
    compares_by bytes t here e = grind arith

pub asks_at_the_trigger : AnObjectAsksAtTheTrigger → ProcessorsAskAtTheTrigger
asks_at_the_trigger k = grind (arith, compares_behind, compares_by, saw_behind, saw_by, sees_by, was_placing)
