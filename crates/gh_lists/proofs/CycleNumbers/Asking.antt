-- A processor of the heap asks for a cycle once in a wait, at its begin, and once behind the making of an object: so a `new` asks twice at the most, a `gc` once, and no other operation.
use Rattle.std.proofs.Common.{◌≡◌, ℕ, suc, ◌≤◌, ◌⊎◌, Bool, true, cond, refl, arith, List, Option}
use Rattle.gh_lists.proofs.Vocabulary.{Ask, asked_after, asks_for_one, IsWanting, IsWritten, Layout, Op, Processor, WritesOf}
use Rattle.gh_mutator.specs.New as new
use Rattle.gh_poll.specs.Wait as wait
use Rattle.gh_mutator.specs.New.{after_assist}
use Rattle.gh_mutator.specs.Listing.{after_gc, after_leave, after_poll, asks, follows, takes, takes_at}
use Rattle.gh_mutator.specs.declared.new.NewStage.TheVariants.{Assist, Place, Search, Wait, Want}
use Rattle.gh_assist.specs.Listing.{Assisting}
use Rattle.gh_alloc.specs.declared.sought.Found.{Found}
use Rattle.gh_poll.specs.Leave.{Leaving}
use Rattle.gh_base.specs.declared.value.Name.{Name}
use Rattle.gh_mutator.specs.declared.new.NewStage.{NewStage}
use Rattle.gh_alloc.specs.Place.{Placing}
use Rattle.gh_poll.specs.Poll.{Polling}
use Rattle.gh_alloc.specs.Search.{Seeking}
use Rattle.gh_base.specs.declared.shape.Shape.{Shape}
use Rattle.gh_mutator.specs.declared.task.Task.{Task}
use Rattle.gh_mutator.specs.declared.step.Then.{Then}
use Rattle.gh_poll.specs.declared.wait.WaitStage.{WaitStage}
use Rattle.gh_mutator.specs.declared.new.Wanted.{Wanted}

-- an operation asks for so many cycles at the most
abbrev pub most_asks : Op → ℕ
most_asks (Op.New g d t) = 2
most_asks (Op.Gc g) = 1
most_asks _ = 0

-- how often it may still ask: at rest it may not; an operation that begins lets it ask so often; and whenever it asks, less is left

abbrev left_wait : WaitStage → ℕ
left_wait WaitStage.Want = 1
left_wait _ = 0

abbrev left_new : NewStage → ℕ
left_new (Search waited q) = cond waited 1 2
left_new (Wait w) = suc (left_wait w.stage)
left_new (Place p) = 1
left_new (Want n) = 1
left_new (Assist n x) = 0

abbrev left_at : Task → ℕ
left_at (Task.New x) = left_new x.stage
left_at (Task.Gc g w) = left_wait w.stage
left_at _ = 0

abbrev pub left : Processor → ℕ
left m = left_at m.task

-- A step: where it asks, less is left; and it adds nothing.

follows_asks : {S : Type 0} (goes : S → Task) → ((s : S) → left_at (goes s) ≡ 0) → (t : Then S) → left_at (follows goes t) ≡ 0
follows_asks goes none t = grind arith

module _ (l : Layout) (shapes : List Shape) (m : Processor) (found : ℕ) where
  waits_on : (w : wait.Waiting) (s : WaitStage) → left_wait (wait.goes_at l w s found).wait.stage ≡ 0
  waits_on w s = grind arith

  search_asks : (c : Processor) (w : Wanted) (waited : Bool) (q : Seeking) (o : Option Found) → left (new.after_search shapes c w waited q o) ≤ cond waited 1 2
  search_asks c w waited q o = grind arith

  wait_asks : (w : Wanted) (x : wait.Waiting) (o : Option (Unit {0})) → left_wait x.wait.stage ≡ 0 → left (new.after_wait m w x o) ≡ 1
  wait_asks w x o none = grind arith

  gc_asks : (g : ℕ) (x : wait.Waiting) (o : Option (Unit {0})) → left_wait x.wait.stage ≡ 0 → left (after_gc m g x o) ≡ 0
  gc_asks g x o none = grind arith

  place_asks : (w : Wanted) (p : Placing) (asks : Option Bool) → left_at (new.made_task m.poll w p asks) ≤ 1
  place_asks w p asks = grind arith

  assist_asks : (w : Wanted) (n : Name) (x : Assisting) (o : Option (Unit {0})) → left (after_assist m w n x o) ≡ 0
  assist_asks w n x o = grind arith

  poll_asks : (p : Polling) (o : Option (Unit {0})) → left (after_poll m p o) ≡ 0
  poll_asks p o = grind arith

  leave_asks : (x : Leaving) (o : Option (Unit {0})) → left (after_leave m x o) ≡ 0
  leave_asks x o = grind arith

  at_most : (a b : ℕ) → a ≡ 0 → a ≤ b
  at_most a b is = omega (arith, is)

  new_adds : (w : Wanted) (s : NewStage) → left (new.takes_at l shapes m w s found) ≤ left_new s
  new_adds w s = grind (arith, assist_asks, at_most, place_asks, search_asks, wait_asks, waits_on)

  adds_nothing : (t : Task) → left (takes_at l shapes m t found) ≤ left_at t ⊎ (left (takes_at l shapes m t found) ≤ left m)
  adds_nothing t = grind (arith, at_most, follows_asks, gc_asks, leave_asks, new_adds, poll_asks, waits_on)

  no_more : left (takes l shapes m found) ≤ left m
  no_more = grind (arith, adds_nothing)

  wants_at : (t : Task) → IsWanting t → suc (left (takes_at l shapes m t found)) ≤ left_at t
  wants_at t h = grind arith

  asks_there : (q : Ask) → WritesOf (IsWritten l m) q → asks_for_one q ≡ true → IsWanting m.task
  asks_there q w is = grind arith

  pub asked_once : WritesOf (IsWritten l m) (asks l m) → asked_after (asks l m) (left (takes l shapes m found)) ≤ left m
  asked_once w = go (asks_for_one (asks l m)) refl where
    go : (b : Bool) → asks_for_one (asks l m) ≡ b → cond b (suc (left (takes l shapes m found))) (left (takes l shapes m found)) ≤ left m
    go b is = grind (arith, asks_there, no_more, wants_at)
