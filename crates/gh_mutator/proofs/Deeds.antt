-- Each operation of the processor acts once before it ends, and only those with a point change the heap that never frees.
use Rattle.std.proofs.Common.{◌≡◌, ℕ, Bool, true, false, cond, is_some, List, refl, ap, ◌∙◌, Option, Some, None, arith}
use Rattle.gh_mutator.proofs.Vocabulary.{Act, acted, acting, acts, acts_at, after_assist, after_gc, after_leave, after_place, after_poll, after_search, after_wait, Assist, Assisting, begins, begins_at, cache_span, deeds, follows, Found, Global, GlobalStage, has_left_at, is_busy_at, Layout, Leaving, Load, LoadStage, Local, meaning, Name, new_op, NewStage, OnlyPointsChange, Op, op_at, Place, PlaceStage, Placing, point_of, pointed, Polling, Processor, processor_kind, ProcessorsDeedsFit, refuses_behind_wait, register_of, Search, searches, Seeking, Shape, Step, Store, StoreStage, takes, takes_at, Task, unacted, Value, Wait, Waiting, Want, Wanted}
use Rattle.gh_base.specs.Orders.{before_step, left_at, model_after}
use Rattle.gh_alloc.specs.Place as place
use Rattle.gh_alloc.specs.Search as search
use Rattle.gh_assist.specs.Listing as assist
use Rattle.gh_model.specs.Ever.{Ever}
use Rattle.gh_mutator.specs.Acting.{ActsOnce, EachOperationActsOnce}
use Rattle.gh_mutator.specs.Global as global
use Rattle.gh_poll.specs.Leave as leave
use Rattle.gh_mutator.specs.Load as load
use Rattle.gh_poll.specs.Poll as poll
use Rattle.gh_mutator.specs.Store as store
use Rattle.gh_poll.specs.Wait as wait

-- ---- a step of a statement acts once

-- this step, for this operation
abbrev StepActs : {S : Type 0} → (S → Task) → (before : Option Op) → Op → Step S → Type 0
StepActs into before o step = ActsOnce before (op_at (follows into step.then)) (acting step.acts o false)

abbrev LoadActs : Load → LoadStage → Step Load → Type 0
LoadActs x s step = StepActs Task.Load (load.unacted x s) (load.op_of x) step

load_acts : (l : Layout) (x : Load) (s : LoadStage) (found : ℕ) → LoadActs x s (load.step_at l x s found)
load_acts l x s found = grind arith

abbrev StoreActs : Store → Step Store → Type 0
StoreActs x step = StepActs Task.Store (Some (store.op_of x)) (store.op_of x) step

store_acts : (l : Layout) (own : Local) (held : Value) (x : Store) (s : StoreStage) (found : ℕ) → StoreActs x (store.step_at l own held x s found)
store_acts l own held x s found = grind arith

global_acts : (l : Layout) (held : Value) (x : Global) (s : GlobalStage) (found : ℕ) → StepActs Task.Global (global.unacted x s) (global.op_in x s) (global.step_at l held x s found)
global_acts l held x s found = grind arith

-- ---- each step acts once

module _ (l : Layout) (shapes : List Shape) (m : Processor) where
  abbrev ActsAt : Task → ℕ → Type 0
  ActsAt t found = ActsOnce (op_at t) (op_at (takes_at l shapes m t found).task) (acts_at l m t found)

  search_acts : (w : Wanted) (waited : Bool) (s : Seeking) (found : ℕ) → ActsAt (searches w waited s) found
  search_acts w waited s found = go waited (search.gives l s found) where
    go : (b : Bool) (out : Option Found) → ActsOnce (Some (new_op w)) (op_at (after_search shapes (cache_span m w.sought (search.goes l s found).find.cached) w b (search.goes l s found) out).task) (acting (refuses_behind_wait b out) (new_op w) true)
    go b out = grind arith

  -- the wait for a cycle is no point
  wait_acts : (w : Wanted) (x : Waiting) (out : Option (Unit {0})) → op_at (after_wait m w x out).task ≡ Some (new_op w)
  wait_acts w x out = grind arith

  -- the making is at q, and then at n
  abbrev PlaceActs : Wanted → Placing → (q n : PlaceStage) → Type 0
  PlaceActs w p q n = ActsOnce (unacted w (Place (place.at_stage p q))) (op_at (after_place m w (place.makes_its_object_at q) p.at (place.at_stage p n)).task) (acting (place.makes_its_object_at q) (new_op w) false)

  place_acts : (w : Wanted) (p : Placing) (found : ℕ) (q : PlaceStage) → PlaceActs w p q (place.goes_at p q found)
  place_acts w p found q = grind arith

  assist_acts : (w : Wanted) (n : Name) (x : Assisting) (out : Option (Unit {0})) → op_at (after_assist m w n x out).task ≡ None
  assist_acts w n x out = grind arith

  new_acts : (w : Wanted) (s : NewStage) (found : ℕ) → ActsAt (Task.New (record { wanted = w; stage = s })) found
  new_acts w (Search waited s) found = search_acts w waited s found
  new_acts w (Wait x) found = wait_acts w (wait.goes l (wait.waiting x m.poll) found) (wait.gives l (wait.waiting x m.poll) found)
  new_acts w (Place p) found = place_acts w p found p.stage
  new_acts w (Want n) found = refl
  new_acts w (Assist n x) found = assist_acts w n (assist.goes l x found) (assist.gives l x found)

  -- what ends acts
  gc_acts : (g : ℕ) (x : Waiting) (out : Option (Unit {0})) → ActsOnce (Some (Op.Gc g)) (op_at (after_gc m g x out).task) (acting (is_some out) (Op.Gc g) false)
  gc_acts g x out = grind arith

  poll_acts : (p : Polling) (out : Option (Unit {0})) → ActsOnce (Some Op.Poll) (op_at (after_poll m p out).task) (acting (is_some out) Op.Poll false)
  poll_acts p out = grind arith

  leave_acts : (x : Leaving) (out : Option (Unit {0})) → ActsOnce (Some Op.Leave) (op_at (after_leave m x out).task) (acting (is_some out) Op.Leave false)
  leave_acts x out = grind arith

  acts_once_at : (t : Task) (found : ℕ) → is_busy_at t ≡ true → ActsAt t found
  acts_once_at Task.Idle found busy = absurd (cc)
  acts_once_at Task.Left found busy = absurd (cc)
  acts_once_at (Task.Load x) found busy = load_acts l x x.stage found
  acts_once_at (Task.Store x) found busy = store_acts l m.poll.local (register_of m x.g x.v) x x.stage found
  acts_once_at (Task.Global x) found busy = global_acts l (register_of m x.g x.r) x x.stage found
  acts_once_at (Task.Register x) found busy = (refl, refl)
  acts_once_at (Task.New x) found busy = new_acts x.wanted x.stage found
  acts_once_at (Task.Gc g x) found busy = gc_acts g (wait.goes l (wait.waiting x m.poll) found) (wait.gives l (wait.waiting x m.poll) found)
  acts_once_at Task.Poll found busy = poll_acts (poll.goes l m.poll found) (poll.gives l m.poll found)
  acts_once_at (Task.End g) found busy = (refl, refl)
  acts_once_at (Task.Leave x) found busy = leave_acts (leave.goes x found) (leave.gives x found)

-- ---- where an operation begins, it is to act

to_act : (shapes : List Shape) (m : Processor) (o : Op) → is_busy_at (begins_at shapes m o) ≡ true → op_at (begins_at shapes m o) ≡ Some o
to_act shapes m o busy = grind arith

none_at_rest : (t : Task) → is_busy_at t ≡ false → op_at t ≡ None
none_at_rest t idle = grind arith

-- ---- those with a point

-- a step that is no point leaves the operation with a point as it is
leaves_it : (before after : Option Op) (act : Option Act) → ActsOnce before after act → point_of act ≡ None → pointed after ≡ pointed before
leaves_it before after act same none = grind arith

-- a point is that of the operation, and then none is to act
acts_for_it : (before after : Option Op) (act : Option Act) (x : Act) → ActsOnce before after act → point_of act ≡ Some x → (pointed before ≡ Some x.op) × (pointed after ≡ None)
acts_for_it before after act x same is = grind arith

acts_once : (l : Layout) (shapes : List Shape) (m : Processor) (found : ℕ) → is_busy_at m.task ≡ true → ActsOnce (op_at m.task) (op_at (takes l shapes m found).task) (acts l m found)
acts_once l shapes m found busy = acts_once_at l shapes m m.task found busy

pub each_operation_acts_once : EachOperationActsOnce
each_operation_acts_once = record { begins = to_act; rests = none_at_rest; steps = acts_once }

-- one that has left begins nothing
begins_to_act : (shapes : List Shape) (m : Processor) (o : Op) (left : Bool) → is_busy_at m.task ≡ false → is_busy_at (cond left m (begins shapes m o)).task ≡ true → op_at (cond left m (begins shapes m o)).task ≡ Some o
begins_to_act shapes m o left idle busy = grind arith

pub processors_deeds_fit : ProcessorsDeedsFit
processors_deeds_fit shapes l = record {
  opens = λ a. refl;
  idle = λ m idle. ap pointed (none_at_rest m.task idle);
  begins = λ m o idle busy. ap pointed (begins_to_act shapes m o (has_left_at m.task) idle busy);
  goes_on = λ m found busy none. leaves_it _ _ (acts l m found) (acts_once l shapes m found busy) none;
  acts_for = λ m found x busy is. (acts_for_it _ _ (acts l m found) x (acts_once l shapes m found busy) is).0;
  acts_once = λ m found x busy is. (acts_for_it _ _ (acts l m found) x (acts_once l shapes m found busy) is).1;
}

-- ---- only points change the heap that never frees

alone : (shapes : List Shape) (e : Ever) (x : Option Act) → acted shapes e (point_of x) ≡ acted shapes e x
alone shapes e x = grind arith

-- the model after a point is what the act leaves
left_is : (shapes : List Shape) (e : Ever) (x : Option Act) → left_at (meaning shapes) e x ≡ acted shapes e x
left_is shapes e x = grind arith

pub only_points_change : OnlyPointsChange
only_points_change shapes l = record {
  alone = alone shapes;
  follows = λ es e. left_is shapes _ (point_of (acts l (before_step (processor_kind shapes l) (deeds l shapes) es e) e.found))
      ∙ alone shapes (model_after (processor_kind shapes l) (deeds l shapes) (meaning shapes) es) (acts l (before_step (processor_kind shapes l) (deeds l shapes) es e) e.found);
}
