-- What each step, and each beginning, is to a statement: it acts once, it is answered last, and its object is counted once.
use Rattle.std.proofs.Common.{◌≡◌, ℕ, ◌+◌, ◌*◌, ◌%◌, ◌^◌, ◌≤◌, nat_le, Bool, true, false, cond, ltb, not, ◌&&◌, List, get_or, refl, ap, Option, Some, None, arith, is_none, is_some}
use Rattle.gh_world.proofs.Vocabulary.{Act, acting, acts_at, after_gc, after_leave, after_poll, Answer, answer_at, applied, at_task, begins_at, bit, cache_span, follows, gives_at, in_range, is_busy_at, is_leave, is_leaving, is_point, is_serving, is_statement, is_unacted, keeping, Layout, made_by, making, once_ended, Op, op_at, Polling, Processor, read_after_set, register_of, set, Shape, takes_at, taking, Task}
use Rattle.gh_mutator.specs.New.{after_place, after_search, after_wait, is_made, made_object, makes, searches, answer_assist, answer_made, answer_search, op_of as new_op, refuses_behind_wait, after_assist, assisting, assists}
use Rattle.gh_mutator.specs.Step.{ends, goes_on, answered}
use Rattle.gh_mutator.specs.Fields.{is_pointer_by, kinds_differ, has_field}
use Rattle.gh_mutator.specs.declared.load.Load.{Load}
use Rattle.gh_mutator.specs.declared.load.LoadStage.{LoadStage}
use Rattle.gh_mutator.specs.declared.step.Step.{Step}
use Rattle.gh_mutator.specs.declared.store.Store.{Store}
use Rattle.gh_mutator.specs.declared.store.StoreStage.{StoreStage}
use Rattle.gh_base.specs.declared.value.Fault.{Fault}
use Rattle.gh_bitmap.specs.SetPointers as bits
use Rattle.gh_alloc.specs.Search as search
use Rattle.gh_alloc.specs.Place as place
use Rattle.gh_assist.specs.Listing as assist
use Rattle.gh_barrier.specs.Listing as write
use Rattle.gh_poll.specs.declared.wait.Wait.{Wait as WaitState}
use Rattle.gh_poll.specs.declared.poll.Local.{Local}
use Rattle.gh_mutator.specs.Global as global
use Rattle.gh_mutator.specs.Load as load
use Rattle.gh_poll.specs.Leave as leave
use Rattle.gh_poll.specs.Local.{marking_at}
use Rattle.gh_poll.specs.Poll as poll
use Rattle.gh_poll.specs.Wait as wait
use Rattle.gh_mutator.specs.Store as store
use Rattle.gh_mutator.specs.declared.new.NewStage.TheVariants.{Assist, Place, Search, Wait, Want}
use Rattle.gh_assist.specs.Listing.{Assisting}
use Rattle.gh_alloc.specs.declared.sought.Found.{Found}
use Rattle.gh_mutator.specs.declared.global.Global.{Global}
use Rattle.gh_mutator.specs.declared.global.GlobalStage.{GlobalStage}
use Rattle.gh_poll.specs.Leave.{Leaving}
use Rattle.gh_base.specs.declared.value.Name.{Name}
use Rattle.gh_mutator.specs.declared.new.NewStage.{NewStage}
use Rattle.gh_alloc.specs.declared.place.PlaceStage.{PlaceStage}
use Rattle.gh_alloc.specs.Place.{Placing}
use Rattle.gh_mutator.specs.declared.register.Register.{Register}
use Rattle.gh_alloc.specs.Search.{Seeking}
use Rattle.gh_mutator.specs.declared.register.Source.{Source}
use Rattle.gh_base.specs.declared.pack.SpanHead.{SpanHead}
use Rattle.gh_mutator.specs.declared.step.Then.{Then}
use Rattle.gh_base.specs.declared.value.Value.{Value}
use Rattle.gh_poll.specs.Wait.{Waiting}
use Rattle.gh_mutator.specs.declared.new.Wanted.{Wanted}

-- from task t and the processor m to the next one, with the act and the answer of the step
pub record StepFacts (m : Processor) (t : Task) (next : Processor) (act : Option Act) (given : Option Answer) : Type 0 where
  pub counted : (g : ℕ) → made_by next g + making next.task ≤ made_by m g + making t
  pub leaves : is_leaving next.task ≡ is_leaving t
  pub answered : bit (is_some (answer_at t given)) + bit (is_serving next.task) ≤ bit (is_serving t)
  pub once : bit (is_unacted (op_at t)) ≡ bit (is_unacted (op_at next.task)) + bit (is_point act)
  pub ends : is_busy_at next.task ≡ not (is_some given)
  pub serves : is_serving next.task ≡ (is_busy_at next.task && is_serving t)

-- ---- a statement whose steps change no more than its register

-- its tasks are those of a statement
record IsServed {S : Type 0} (into : S → Task) : Type 0 where
  serves : (x : S) → is_serving (into x) ≡ true
  leaves : (x : S) → is_leaving (into x) ≡ false
  makes : (x : S) → making (into x) ≡ 0
  busy : (x : S) → is_busy_at (into x) ≡ true

-- it acts once
abbrev ActsOnce : {S : Type 0} → (S → Task) → S → Step S → Type 0
ActsOnce into x step = bit (is_unacted (op_at (into x))) ≡ bit (is_unacted (op_at (follows into step.then))) + bit step.acts

-- from m, behind which a step of a statement leaves another buffer held in n
from_step : {S : Type 0} (into : S → Task) (m n : Processor) (g d : ℕ) (x : S) (step : Step S) (o : Op) → IsServed into → is_statement o ≡ true → ActsOnce into x step → ((k : ℕ) → made_by n k ≡ made_by m k) → StepFacts m (into x) (applied into n g d step) (acting step.acts o false) (answered step.then)
from_step {S} into m n g d x step o h is once same = by step.then once where
  by : (then : Then S) → bit (is_unacted (op_at (into x))) ≡ bit (is_unacted (op_at (follows into then))) + bit step.acts → StepFacts m (into x) (at_task (taking n g d step.sets) (follows into then)) (acting step.acts o false) (answered then)
  by then once = grind arith

load_served : IsServed Task.Load
load_served = record { serves = λ x. refl; leaves = λ x. refl; makes = λ x. refl; busy = λ x. refl }

load_once : (l : Layout) (x : Load) (s : LoadStage) (found : ℕ) → ActsOnce Task.Load (load.at_stage x s) (load.step_at l x s found)
load_once l x s found = grind arith

store_served : IsServed Task.Store
store_served = record { serves = λ x. refl; leaves = λ x. refl; makes = λ x. refl; busy = λ x. refl }

store_page_once : (x : Store) (b : Bool) → ActsOnce Task.Store (store.at_stage x StoreStage.Page) (cond b (goes_on (store.at_stage x StoreStage.Bits)) (ends (Answer.Fault Fault.Field)))
store_page_once x b = grind arith

store_bits_once : (x : Store) (next : StoreStage) (b : Bool) → ActsOnce Task.Store (store.at_stage x StoreStage.Bits) (cond b (ends (Answer.Fault Fault.Kind)) (goes_on (store.at_stage x next)))
store_bits_once x next b = grind arith

store_once : (l : Layout) (own : Local) (held : Value) (x : Store) (s : StoreStage) (found : ℕ) → ActsOnce Task.Store (store.at_stage x s) (store.step_at l own held x s found)
store_once l own held x StoreStage.NilBase found = refl
store_once l own held x StoreStage.Page found = store_page_once x (has_field x.k found)
store_once l own held x StoreStage.Bits found =
    let pointer = is_pointer_by l (x.at + x.k) found in
    store_bits_once x (store.stores l own held x pointer) (kinds_differ pointer held)
store_once l own held x StoreStage.Field found = refl
store_once l own held x (StoreStage.Writing w) found = by (write.gives l w found) where
  by : (out : Option (Unit {0})) → ActsOnce Task.Store (store.at_stage x (StoreStage.Writing w)) (store.after_write x (write.goes l w found) out)
  by None = refl
  by (Some y) = refl

global_served : IsServed Task.Global
global_served = record { serves = λ x. refl; leaves = λ x. refl; makes = λ x. refl; busy = λ x. refl }

global_once : (l : Layout) (held : Value) (x : Global) (s : GlobalStage) (found : ℕ) → ActsOnce Task.Global (global.at_stage x s) (global.step_at l held x s found)
global_once l held x s found = grind arith

global_statement : (x : Global) (s : GlobalStage) → is_statement (global.op_in x s) ≡ true
global_statement x s = grind arith

-- ---- each step

module _ (l : Layout) (shapes : List Shape) (m : Processor) where
  abbrev pub FactsAt : Task → ℕ → Type 0
  FactsAt t found = StepFacts m t (takes_at l shapes m t found) (acts_at l m t found) (gives_at l m t found)

  register_facts : (x : Register) (s : Source) (found : ℕ) → FactsAt (Task.Register (record x { source = s })) found
  register_facts x s found = grind arith

  -- a step of a wait, of a poll and of a leave, by what that has given
  gc_facts : (g : ℕ) (x : WaitState) (next : Waiting) (out : Option (Unit {0})) → StepFacts m (Task.Gc g x) (after_gc m g next out) (acting (is_some out) (Op.Gc g) false) (once_ended out Answer.Swept)
  gc_facts g x next out = grind arith

  poll_facts : (next : Polling) (out : Option (Unit {0})) → StepFacts m Task.Poll (after_poll m next out) (acting (is_some out) Op.Poll false) (once_ended out Answer.Done)
  poll_facts next out = grind arith

  leave_facts : (x next : Leaving) (out : Option (Unit {0})) → StepFacts m (Task.Leave x) (after_leave m next out) (acting (is_some out) Op.Leave false) (once_ended out Answer.Done)
  leave_facts x next out = grind arith

  end_facts : (g found : ℕ) → FactsAt (Task.End g) found
  end_facts g found = record { counted = λ h. omega arith; leaves = refl; answered = omega arith; once = refl; ends = refl; serves = refl }

  search_facts : (w : Wanted) (waited : Bool) (s : Seeking) (found : ℕ) → FactsAt (searches w waited s) found
  search_facts w waited s found = go waited (search.gives l s found) where
    go : (b : Bool) (out : Option Found) → StepFacts m (searches w b s) (after_search shapes (cache_span m w.sought (search.goes l s found).find.cached) w b (search.goes l s found) out) (acting (refuses_behind_wait b out) (new_op w) true) (answer_search b out)
    go b out = grind arith

  wait_facts : (w : Wanted) (x : WaitState) (next : Waiting) (out : Option (Unit {0})) → StepFacts m (Task.New (record { wanted = w; stage = Wait x })) (after_wait m w next out) None None
  wait_facts w x next out = grind arith

  -- a step of the making before the object is made, the one that makes it, and one behind that
  before_made : (w : Wanted) (p n : Placing) → is_made p.stage ≡ false → is_made n.stage ≡ false → StepFacts m (makes w p) (at_task m (makes w n)) None None
  before_made w p n here next = record { counted = λ g. rw (here, next) (omega arith); leaves = refl; answered = omega arith; once = rw (here, next) refl; ends = refl; serves = refl }

  now_made : (w : Wanted) (p n : Placing) (a : ℕ) → is_made p.stage ≡ false → is_made n.stage ≡ true → StepFacts m (makes w p) (at_task (made_object m w a) (makes w n)) (acting true (new_op w) false) None
  now_made w p n a here next = record { counted = λ g. rw (here, next) (omega (arith, more g)); leaves = refl; answered = omega arith; once = rw (here, next) refl; ends = refl; serves = refl } where
    more : (g : ℕ) → get_or (set m.made w.g (made_by m w.g + 1)) g 0 ≤ made_by m g + 1
    more g = read_after_set (λ (n : ℕ). n ≤ made_by m g + 1) m.made w.g g (made_by m w.g + 1) 0
        (λ e. let same : made_by m w.g ≡ made_by m g = ap (λ (h : ℕ). made_by m h) e in omega arith) (omega arith)

  -- it is made, and no cycle is asked for: while marking is on it assists
  made_last : (w : Wanted) (p : Placing) → is_made p.stage ≡ true → (marking : Bool) → StepFacts m (makes w p) (at_task m (cond marking (assists w p.name (assisting m.poll w)) Task.Idle)) None (cond marking None (Some (Answer.Ref p.name)))
  made_last w p here marking = grind arith

  place_facts : (w : Wanted) (p : Placing) (found : ℕ) (q : PlaceStage) → FactsAt (makes w (place.at_stage p q)) found
  place_facts w p found (PlaceStage.Clear k) = go (ltb (k + 1) p.slot) where
    go : (b : Bool) → StepFacts m (makes w (place.at_stage p (PlaceStage.Clear k))) (after_place m w false p.at (place.at_stage p (cond b (PlaceStage.Clear (k + 1)) PlaceStage.Birth))) None
        (answer_made (marking_at m.poll) p.name (place.given_at (cond b (PlaceStage.Clear (k + 1)) PlaceStage.Birth)))
    go true = before_made w _ _ refl refl
    go false = before_made w _ _ refl refl
  place_facts w p found PlaceStage.Birth = before_made w _ _ refl refl
  place_facts w p found (PlaceStage.Bits s) = go (is_none (bits.given (bits.goes s found))) where
    next : Bool → PlaceStage
    next b = cond b (PlaceStage.Bits (bits.goes s found)) (place.filled p.marking)

    go : (b : Bool) → StepFacts m (makes w (place.at_stage p (PlaceStage.Bits s))) (after_place m w false p.at (place.at_stage p (next b))) None (answer_made (marking_at m.poll) p.name (place.given_at (next b)))
    go b = grind arith
  place_facts w p found PlaceStage.Mark = before_made w _ _ refl refl
  place_facts w p found PlaceStage.Alloc = go p.span where
    go : (s : Option SpanHead) → StepFacts m (makes w (place.at_stage p PlaceStage.Alloc)) (after_place m w true p.at (place.at_stage p (place.made p s))) (acting true (new_op w) false) (answer_made (marking_at m.poll) p.name (place.given_at (place.made p s)))
    go None = now_made w _ _ p.at refl refl
    go (Some h) = now_made w _ _ p.at refl refl
  place_facts w p found (PlaceStage.Give g) = record { counted = λ g. omega arith; leaves = refl; answered = omega arith; once = refl; ends = refl; serves = refl }
  place_facts w p found PlaceStage.Count = go p.marking where
    next : Bool → PlaceStage
    next b = cond b (PlaceStage.Ended false) (PlaceStage.LoadTrigger ((found + 8 * p.slot) % 2 ^ 64))

    go : (b : Bool) → StepFacts m (makes w (place.at_stage p PlaceStage.Count)) (after_place m w false p.at (place.at_stage p (next b))) None (answer_made (marking_at m.poll) p.name (place.given_at (next b)))
    go true = made_last w (place.at_stage p PlaceStage.Count) refl (marking_at m.poll)
    go false = record { counted = λ g. omega arith; leaves = refl; answered = omega arith; once = refl; ends = refl; serves = refl }
  place_facts w p found (PlaceStage.LoadTrigger bytes) = over (nat_le found bytes) where
    over : (b : Bool) → StepFacts m (makes w (place.at_stage p (PlaceStage.LoadTrigger bytes))) (after_place m w false p.at (place.at_stage p (PlaceStage.Ended b))) None (answer_made (marking_at m.poll) p.name (Some b))
    over true = record { counted = λ g. omega arith; leaves = refl; answered = omega arith; once = refl; ends = refl; serves = refl }
    over false = made_last w (place.at_stage p (PlaceStage.LoadTrigger bytes)) refl (marking_at m.poll)
  place_facts w p found (PlaceStage.Ended wants) = made_last w (place.at_stage p (PlaceStage.Ended wants)) refl (marking_at m.poll)

  assist_facts : (w : Wanted) (n : Name) (x next : Assisting) (out : Option (Unit {0})) → StepFacts m (assists w n x) (after_assist m w n next out) None (answer_assist n out)
  assist_facts w n x next out = grind arith

  new_facts : (w : Wanted) (s : NewStage) (found : ℕ) → FactsAt (Task.New (record { wanted = w; stage = s })) found
  new_facts w (Search waited x) found = search_facts w waited x found
  new_facts w (Wait x) found = wait_facts w x (wait.goes l (wait.waiting x m.poll) found) (wait.gives l (wait.waiting x m.poll) found)
  new_facts w (Place p) found = place_facts w p found p.stage
  new_facts w (Want n) found = record { counted = λ g. omega arith; leaves = refl; answered = omega arith; once = refl; ends = refl; serves = refl }
  new_facts w (Assist n x) found = assist_facts w n x (assist.goes l x found) (assist.gives l x found)

  pub step_facts : (t : Task) (found : ℕ) → is_busy_at t ≡ true → FactsAt t found
  step_facts Task.Idle found busy = absurd (cc)
  step_facts Task.Left found busy = absurd (cc)
  step_facts (Task.Load x) found busy = from_step Task.Load m m x.g x.d x (load.step l x found) (load.op_of x) load_served refl (load_once l x x.stage found) (λ k. refl)
  step_facts (Task.Store x) found busy = from_step Task.Store m (keeping m (store.held_behind l m.poll.local.held x.stage found)) x.g x.v x (store.step l m.poll.local (register_of m x.g x.v) x found) (store.op_of x) store_served refl (store_once l m.poll.local (register_of m x.g x.v) x x.stage found) (λ k. refl)
  step_facts (Task.Global x) found busy = from_step Task.Global m (keeping m (global.held_behind l m.poll.local.held x.stage found)) x.g x.r x (global.step l (register_of m x.g x.r) x found) (global.op_of x) global_served (global_statement x x.stage) (global_once l (register_of m x.g x.r) x x.stage found) (λ k. refl)
  step_facts (Task.Register x) found busy = register_facts x x.source found
  step_facts (Task.New x) found busy = new_facts x.wanted x.stage found
  step_facts (Task.Gc g x) found busy = gc_facts g x (wait.goes l (wait.waiting x m.poll) found) (wait.gives l (wait.waiting x m.poll) found)
  step_facts Task.Poll found busy = poll_facts (poll.goes l m.poll found) (poll.gives l m.poll found)
  step_facts (Task.End g) found busy = end_facts g found
  step_facts (Task.Leave x) found busy = leave_facts x (leave.goes x found) (leave.gives x found)

-- ---- where an operation begins

-- from no operation to the first task of this one
pub record BeginFacts (o : Op) (t : Task) : Type 0 where
  pub made : making t ≤ bit (is_statement o)
  pub leaves : is_leaving t ≡ is_leave o
  pub serves : is_serving t ≡ is_statement o
  pub is : op_at t ≡ Some o

-- an operation that is begun
pub begin_facts : (shapes : List Shape) (m : Processor) (o : Op) → is_busy_at (begins_at shapes m o) ≡ true → BeginFacts o (begins_at shapes m o)
begin_facts shapes m o busy = grind arith

-- one that is in range is begun
pub begins_busy : (shapes : List Shape) (m : Processor) (goroutines globals types : ℕ) (o : Op) → in_range goroutines globals types o ≡ true → is_busy_at (begins_at shapes m o) ≡ true
begins_busy shapes m gs gl ts o h = grind arith
