-- A `new` that finds no room has waited, and so has a `gc` that ends: behind its begin a later cycle was swept before.
use Rattle.std.proofs.Common.{◌≡◌, ℕ, ◌<◌, ◌≤◌, Bool, true, false, List, Option, Some, refl, ap, ◌∙◌, arith, is_some}
use Rattle.gh_law.proofs.Vocabulary.{Act, acting, acts_at, after_assist, after_gc, after_leave, after_place, after_poll, after_search, after_wait, Answer, Ask, asks, begins_at, cache_span, Cell, follows, gives_at, GlobalStage, is_busy_at, Layout, Name, NewStage, once_ended, Op, Placing, Polling, Processor, register_of, Seeking, Shape, takes_at, Task, WaitStage, Wanted}
use Rattle.gh_mutator.specs.declared.new.NewStage.TheVariants.{Assist, Place, Search, Wait, Want}
use Rattle.gh_assist.specs.Listing.{Assisting}
use Rattle.gh_alloc.specs.declared.sought.Found.{Found}
use Rattle.gh_mutator.specs.declared.global.Global.{Global}
use Rattle.gh_mutator.specs.declared.register.Register.{Register}
use Rattle.gh_mutator.specs.declared.register.Source.{Source}
use Rattle.gh_mutator.specs.declared.step.Then.{Then}
use Rattle.gh_mutator.specs.Listing.{asks_at}
use Rattle.gh_alloc.specs.Place as place
use Rattle.gh_alloc.specs.Search as search
use Rattle.gh_assist.specs.Listing as assist
use Rattle.gh_poll.specs.declared.wait.Wait.{Wait as WaitState}
use Rattle.gh_mutator.specs.Global as global
use Rattle.gh_poll.specs.Leave as leave
use Rattle.gh_mutator.specs.Load as load
use Rattle.gh_mutator.specs.New as new
use Rattle.gh_poll.specs.Poll as poll
use Rattle.gh_mutator.specs.Register as register
use Rattle.gh_mutator.specs.Store as store
use Rattle.gh_poll.specs.Wait as wait
use Rattle.gh_poll.specs.Leave.{Leaving}

-- Where so many cycles had begun when the operation did, and so many are swept: a wait knows as many at least, and behind it more are swept.
abbrev pub HasWaitedAt : (low swept : ℕ) → NewStage → Type 0
HasWaitedAt low swept (Search false s) = Unit {0}
HasWaitedAt low swept (Search true s) = low < swept
HasWaitedAt low swept (Wait x) = low ≤ x.known
HasWaitedAt low swept (Place p) = Unit {0}
HasWaitedAt low swept (Want n) = Unit {0}
HasWaitedAt low swept (Assist n x) = Unit {0}

abbrev pub HasWaited : (low swept : ℕ) → Task → Type 0
HasWaited low swept (Task.New x) = HasWaitedAt low swept x.stage
HasWaited low swept (Task.Gc g x) = low ≤ x.known
HasWaited low swept _ = Unit {0}

-- it searches for a slot, or for one once more
abbrev pub IsSearchingAt : NewStage → Type 0
IsSearchingAt (Search waited s) = Unit {0}
IsSearchingAt _ = ⊥

abbrev pub IsSearching : Task → Type 0
IsSearching (Task.New x) = IsSearchingAt x.stage
IsSearching _ = ⊥

abbrev pub SearchesAgainAt : NewStage → Type 0
SearchesAgainAt (Search true s) = Unit {0}
SearchesAgainAt _ = ⊥

-- the load of the number of the last swept cycle ends the wait
abbrev pub EndsWaitAt : (known found : ℕ) → WaitStage → Type 0
EndsWaitAt known found st = (st ≡ WaitStage.LoadSwept) × (known < found)

-- the wait of this operation is over: it searches once more for its object, or ends with the step that finds this
abbrev pub HasSeenCycle : (found : ℕ) → Task → Op → Type 0
HasSeenCycle found (Task.New x) o = (new.op_of x.wanted ≡ o) × SearchesAgainAt x.stage
HasSeenCycle found (Task.Gc g x) o = (Op.Gc g ≡ o) × EndsWaitAt x.known found x.stage
HasSeenCycle found _ o = ⊥

pub full_searches : (l : Layout) (m : Processor) (t : Task) (found : ℕ) (x : Act) → acts_at l m t found ≡ Some x → x.full ≡ true → HasSeenCycle found t x.op
full_searches l m t found x e f = grind arith

-- and so has a `gc` that acts, by the step that answers it

abbrev is_gc : Op → Bool
is_gc (Op.Gc g) = true
is_gc _ = false

other_acts : (b full : Bool) (o : Op) (g : ℕ) (x : Act) → is_gc o ≡ false → acting b o full ≡ Some x → x.op ≡ Op.Gc g → ⊥
other_acts b full o g x other e f = grind arith

global_other : (y : Global) (st : GlobalStage) → is_gc (global.op_in y st) ≡ false
global_other y st = grind arith

register_other : (y : Register) (from : Source) → is_gc (register.op_from y from) ≡ false
register_other y from = grind arith

gc_waited : (l : Layout) (y : WaitState) (p : Polling) (found : ℕ) (out : Option (Unit {0})) → wait.gives l (wait.waiting y p) found ≡ out → (g : ℕ) (x : Act) → acting (is_some out) (Op.Gc g) false ≡ Some x → ((Op.Gc g ≡ x.op) × EndsWaitAt y.known found y.stage) × (once_ended out Answer.Swept ≡ Some Answer.Swept)
gc_waited l y p found out is g x e = grind arith

pub gc_acts : (l : Layout) (m : Processor) (t : Task) (found g : ℕ) (x : Act) → acts_at l m t found ≡ Some x → x.op ≡ Op.Gc g → HasSeenCycle found t x.op × (gives_at l m t found ≡ Some Answer.Swept)
gc_acts l m Task.Idle found g x e f = absurd cc
gc_acts l m Task.Left found g x e f = absurd cc
gc_acts l m (Task.Load y) found g x e f = absurd (other_acts (load.step l y found).acts false (load.op_of y) g x refl e f)
gc_acts l m (Task.Store y) found g x e f = absurd (other_acts (store.step l m.poll.local (register_of m y.g y.v) y found).acts false (store.op_of y) g x refl e f)
gc_acts l m (Task.Global y) found g x e f = absurd (other_acts (global.step l (register_of m y.g y.r) y found).acts false (global.op_of y) g x (global_other y y.stage) e f)
gc_acts l m (Task.Register y) found g x e f = absurd (other_acts (register.step (register_of m y.g (register.read_of y)) y).acts false (register.op_of y) g x (register_other y y.source) e f)
gc_acts l m (Task.New y) found g x e f = absurd (other_acts (new.acts_at l y.stage found) (new.is_full_at y.stage) (new.op_of y.wanted) g x refl e f)
gc_acts l m (Task.Gc h y) found g x e f = gc_waited l y m.poll found (wait.gives l (wait.waiting y m.poll) found) refl h x e
gc_acts l m Task.Poll found g x e f = absurd (other_acts (is_some (poll.gives l m.poll found)) false Op.Poll g x refl e f)
gc_acts l m (Task.End h) found g x e f = absurd (other_acts true false (Op.End h) g x refl e f)
gc_acts l m (Task.Leave y) found g x e f = absurd (other_acts (is_some (leave.gives y found)) false Op.Leave g x refl e f)

-- an operation that begins has not
pub first_sees_none : (shapes : List Shape) (m : Processor) (found : ℕ) (o q : Op) → HasSeenCycle found (begins_at shapes m o) q → ⊥
first_sees_none shapes m found o q h = grind arith

pub first_waits : (shapes : List Shape) (m : Processor) (o : Op) (low swept : ℕ) → low ≤ m.poll.local.view.begun → HasWaited low swept (begins_at shapes m o)
first_waits shapes m o low swept knows = grind arith

-- more cycles are swept
pub more_swept : (low swept then : ℕ) (t : Task) → swept ≤ then → HasWaited low swept t → HasWaited low then t
more_swept low swept then t le h = grind arith

-- One step.

module _ (l : Layout) (shapes : List Shape) (m : Processor) (low swept found : ℕ) where
  statement : {S : Type 0} (into : S → Task) (then : Then S) → ((x : S) → HasWaited low swept (into x)) → HasWaited low swept (follows into then)
  statement into then h = grind arith

  -- a search
  finds : (n : Processor) (w : Wanted) (waited : Bool) (s : Seeking) (out : Option Found) → low ≤ n.poll.local.view.begun → (waited ≡ true → low < swept) → HasWaited low swept (after_search shapes n w waited s out).task
  finds n w waited s out knows h = grind arith

  was_second : (waited : Bool) (s : Seeking) → HasWaitedAt low swept (Search waited s) → waited ≡ true → low < swept
  was_second waited s h e = grind arith

  waited : (w : Wanted) (x : WaitState) (out : Option (Unit {0})) → wait.gives l (wait.waiting x m.poll) found ≡ out → low ≤ x.known → (wait.asks (wait.waiting x m.poll) ≡ Ask.Load Cell.Swept → found ≤ swept) → HasWaited low swept (after_wait m w (wait.goes l (wait.waiting x m.poll) found) out).task
  waited w x out is h so = grind arith

  placed : (w : Wanted) (made : Bool) (a : ℕ) (p : Placing) → HasWaited low swept (after_place m w made a p).task
  placed w made a p = grind arith

  assisted : (w : Wanted) (n : Name) (x : Assisting) (out : Option (Unit {0})) → HasWaited low swept (after_assist m w n x out).task
  assisted w n x out = grind arith

  new_steps : (w : Wanted) (st : NewStage) → HasWaitedAt low swept st → (IsSearchingAt st → low ≤ m.poll.local.view.begun) → (new.asks_at l m st ≡ Ask.Load Cell.Swept → found ≤ swept) → HasWaited low swept (new.takes_at l shapes m w st found).task
  new_steps w (Search again s) h knows so = finds (cache_span m w.sought (search.goes l s found).find.cached) w again (search.goes l s found) (search.gives l s found) (knows tt) (was_second again s h)
  new_steps w (Wait x) h knows so = waited w x (wait.gives l (wait.waiting x m.poll) found) refl h so
  new_steps w (Place p) h knows so = placed w (place.makes_its_object p) p.at (place.goes p found)
  new_steps w (Want n) h knows so = tt
  new_steps w (Assist n x) h knows so = assisted w n (assist.goes l x found) (assist.gives l x found)

  gc_waits : (g : ℕ) (x : WaitState) (out : Option (Unit {0})) → low ≤ x.known → HasWaited low swept (after_gc m g (wait.goes l (wait.waiting x m.poll) found) out).task
  gc_waits g x out h = grind arith

  poll_ends : (p : Polling) (out : Option (Unit {0})) → HasWaited low swept (after_poll m p out).task
  poll_ends p out = grind arith

  leave_ends : (x : Leaving) (out : Option (Unit {0})) → HasWaited low swept (after_leave m x out).task
  leave_ends x out = grind arith

  pub steps_on : (t : Task) → m.task ≡ t → is_busy_at t ≡ true → HasWaited low swept t → (IsSearching t → low ≤ m.poll.local.view.begun) → (asks l m ≡ Ask.Load Cell.Swept → found ≤ swept) → HasWaited low swept (takes_at l shapes m t found).task
  steps_on Task.Idle is busy h knows so = absurd cc
  steps_on Task.Left is busy h knows so = absurd cc
  steps_on (Task.Load x) is busy h knows so = statement Task.Load (load.step l x found).then (λ y. tt)
  steps_on (Task.Store x) is busy h knows so = statement Task.Store (store.step l m.poll.local (register_of m x.g x.v) x found).then (λ y. tt)
  steps_on (Task.Global x) is busy h knows so = statement Task.Global (global.step l (register_of m x.g x.r) x found).then (λ y. tt)
  steps_on (Task.Register x) is busy h knows so = statement Task.Register (register.step (register_of m x.g (register.read_of x)) x).then (λ y. tt)
  steps_on (Task.New x) is busy h knows so = new_steps x.wanted x.stage h knows (λ e. so (ap (asks_at l m) is ∙ e))
  steps_on (Task.Gc g x) is busy h knows so = gc_waits g x (wait.gives l (wait.waiting x m.poll) found) h
  steps_on Task.Poll is busy h knows so = poll_ends (poll.goes l m.poll found) (poll.gives l m.poll found)
  steps_on (Task.End g) is busy h knows so = tt
  steps_on (Task.Leave x) is busy h knows so = leave_ends (leave.goes x found) (leave.gives x found)
