-- A statement that is answered a fault has loaded words alone, and has changed nothing of the processor.
use Rattle.std.proofs.Common.{◌≡◌, ℕ, zero, suc, ◌≤◌, Bool, true, false, cond, List, refl, sym, ap, ◌∙◌, Option, Some, None, arith}
use Rattle.gh_mutator_writes.proofs.Vocabulary.{after_assist, after_gc, after_leave, after_poll, after_search, after_wait, Answer, answer_at, answer_search, applied, asks_at, Assist, Assisting, at_poll, at_task, begins, begins_at, begun_with, cache_span, FaultsChangeNothing, FaultsFrom, follows, Found, gives, gives_at, goes, GoesTo, Held, held_before, is_load, is_serving, keeping, Layout, Leaving, listing, marking_at, marks_after, Mutating, Name, NewStage, once_ended, Op, Place, Placing, Polling, Processor, register_of, rested, Search, Seeking, Shape, Step, takes_at, taking, Task, Then, told, Value, Wait, Waiting, Want, Wanted}
use Rattle.gh_base.specs.declared.value.Fault.{Fault as Cause}
use Rattle.gh_alloc.specs.Place as place
use Rattle.gh_alloc.specs.Search as search
use Rattle.gh_assist.specs.Listing as assist
use Rattle.gh_mutator.specs.Global as global_listing
use Rattle.gh_poll.specs.Leave as leave
use Rattle.gh_mutator.specs.Load as load_listing
use Rattle.gh_mutator.specs.New as new
use Rattle.gh_poll.specs.Poll as poll
use Rattle.gh_mutator.specs.Step.{answered}
use Rattle.gh_mutator.specs.Store as store_listing
use Rattle.gh_poll.specs.Wait as wait
use Rattle.gh_mutator.proofs.GlobalSteps as global
use Rattle.gh_mutator.proofs.LoadSteps as load
use Rattle.gh_mutator.proofs.StoreSteps as store

-- from here a fault may be answered, and nothing was changed yet
abbrev may_fault : Task → Bool
may_fault (Task.Load x) = load.may_fault x
may_fault (Task.Store x) = store.may_fault x
may_fault (Task.Global x) = global.may_fault x
may_fault _ = false

-- a fault is answered only from here, and only here leads to here; no more than the task is changed then
record FaultsAt (m : Processor) (t : Task) (next : Processor) (given : Option Answer) : Type 0 where
  here : (cause : Cause) → given ≡ Some (Answer.Fault cause) → (may_fault t ≡ true) × (next ≡ at_task m Task.Idle)
  before : may_fault next.task ≡ true → (may_fault t ≡ true) × (next ≡ at_task m next.task) × (given ≡ None)

-- where no fault is answered, and none may be
none_at : (m : Processor) (t : Task) (next : Processor) (given : Option Answer) → ((cause : Cause) → given ≡ Some (Answer.Fault cause) → ⊥) → may_fault next.task ≡ false → FaultsAt m t next given
none_at m t next given never not = record { here = λ cause e. absurd (never cause e); before = λ e. absurd (cc (e, not)) }

from_step : {S : Type 0} (may : S → Bool) (into : S → Task) (m : Processor) (g d : ℕ) (x : S) (step : Step S) → ((y : S) → may_fault (into y) ≡ may y) → FaultsFrom may x step → FaultsAt m (into x) (applied into m g d step) (answered step.then)
from_step {S} may into m g d x step is f = by step.then step.sets f.here f.keeps f.before where
  by : (then : Then S) (sets : Option Value) → ((cause : Cause) → answered then ≡ Some (Answer.Fault cause) → may x ≡ true) → ((cause : Cause) → answered then ≡ Some (Answer.Fault cause) → sets ≡ None) →
      GoesTo (λ (y : S). may y ≡ true → (may x ≡ true) × (sets ≡ None)) then → FaultsAt m (into x) (at_task (taking m g d sets) (follows into then)) (answered then)
  by then sets here keeps before = grind arith

-- what a step leaves that may hold another buffer then: where a fault is answered, or may be, it holds the same
keeps_buffer : (m : Processor) (t : Task) (held : Option Held) (next : Processor) (given : Option Answer) → (may_fault t ≡ true → held ≡ m.poll.local.held) → (with : Option Held → Processor) → with m.poll.local.held ≡ next → (with held).task ≡ next.task → FaultsAt m t next given → FaultsAt m t (with held) given
keeps_buffer m t held next given still with same task_is f = record {
  here = λ cause e. let h = f.here cause e in (h.0, ap with (still h.0) ∙ same ∙ h.1);
  before = λ e.
      let h = f.before (ap may_fault (sym task_is) ∙ e) in
      (h.0, ap with (still h.0) ∙ same ∙ h.1 ∙ ap (λ (q : Task). at_task m q) (sym task_is), h.2);
}

-- an object is looked for or made: no fault is answered

search_quiet : (shapes : List Shape) (m : Processor) (w : Wanted) (waited : Bool) (s : Seeking) (out : Option Found) → may_fault (after_search shapes m w waited s out).task ≡ false
search_quiet shapes m w waited s out = grind arith

search_answers : (waited : Bool) (out : Option Found) (cause : Cause) → answer_search waited out ≡ Some (Answer.Fault cause) → ⊥
search_answers waited out cause e = grind arith

wait_quiet : (m : Processor) (w : Wanted) (x : Waiting) (out : Option (Unit {0})) → may_fault (after_wait m w x out).task ≡ false
wait_quiet m w x out = grind arith

place_quiet : (p : Polling) (w : Wanted) (x : Placing) (asks : Option Bool) → may_fault (new.made_task p w x asks) ≡ false
place_quiet p w x asks = grind arith

place_answers : (marking : Bool) (n : Name) (asks : Option Bool) (cause : Cause) → new.answer_made marking n asks ≡ Some (Answer.Fault cause) → ⊥
place_answers marking n asks cause e = grind arith

assist_quiet : (m : Processor) (w : Wanted) (n : Name) (x : Assisting) (out : Option (Unit {0})) → may_fault (after_assist m w n x out).task ≡ false
assist_quiet m w n x out = grind arith

assist_answers : (n : Name) (out : Option (Unit {0})) (cause : Cause) → new.answer_assist n out ≡ Some (Answer.Fault cause) → ⊥
assist_answers n out cause e = grind arith

new_faults : (l : Layout) (shapes : List Shape) (n m : Processor) (t : Task) (w : Wanted) (s : NewStage) (found : ℕ) → FaultsAt n t (new.takes_at l shapes m w s found) (new.gives_at l (marking_at m.poll) s found)
new_faults l shapes n m t w (Search waited s) found =
    none_at n t _ _ (search_answers waited (search.gives l s found)) (search_quiet shapes (cache_span m w.sought (search.goes l s found).find.cached) w waited (search.goes l s found) (search.gives l s found))
new_faults l shapes n m t w (Wait x) found =
    none_at n t _ _ (λ cause e. absurd (cc)) (wait_quiet m w (wait.goes l (wait.waiting x m.poll) found) (wait.gives l (wait.waiting x m.poll) found))
new_faults l shapes n m t w (Place p) found =
    none_at n t _ _ (place_answers (marking_at m.poll) p.name (place.gives p found)) (place_quiet m.poll w (place.goes p found) (place.gives p found))
new_faults l shapes n m t w (Want u) found = none_at n t _ _ (λ cause e. absurd (cc)) refl
new_faults l shapes n m t w (Assist u x) found = none_at n t _ _ (assist_answers u (assist.gives l x found)) (assist_quiet m w u (assist.goes l x found) (assist.gives l x found))

-- a `gc`, and what is the processor's own
gc_faults : (n m : Processor) (t : Task) (g : ℕ) (x : Waiting) (out : Option (Unit {0})) → FaultsAt n t (after_gc m g x out) (once_ended out Answer.Swept)
gc_faults n m t g x out = grind arith

poll_faults : (n m : Processor) (t : Task) (p : Polling) (out : Option (Unit {0})) → FaultsAt n t (after_poll m p out) (once_ended out Answer.Done)
poll_faults n m t p out = grind arith

leave_faults : (n m : Processor) (t : Task) (x : Leaving) (out : Option (Unit {0})) → FaultsAt n t (after_leave m x out) (once_ended out Answer.Done)
leave_faults n m t x out = grind arith

module _ (l : Layout) (shapes : List Shape) where
  faults_at : (m : Processor) (t : Task) (found : ℕ) → FaultsAt m t (takes_at l shapes (at_task m t) t found) (gives_at l (at_task m t) t found)
  faults_at m (Task.Load x) found = from_step load.may_fault Task.Load m x.g x.d x (load_listing.step l x found) (λ y. refl) (load.faults l x found)
  faults_at m (Task.Store x) found = keeps_buffer m (Task.Store x) (store_listing.held_behind l m.poll.local.held x.stage found) (applied Task.Store m x.g x.v (store_listing.step l m.poll.local (register_of m x.g x.v) x found)) _ (store.holds_still l m.poll.local.held x.stage found) (λ held. applied Task.Store (keeping m held) x.g x.v (store_listing.step l m.poll.local (register_of m x.g x.v) x found)) refl refl
      (from_step store.may_fault Task.Store m x.g x.v x (store_listing.step l m.poll.local (register_of m x.g x.v) x found) (λ y. refl) (store.faults l m.poll.local (register_of m x.g x.v) x found))
  faults_at m (Task.Global x) found = keeps_buffer m (Task.Global x) (global_listing.held_behind l m.poll.local.held x.stage found) (applied Task.Global m x.g x.r (global_listing.step l (register_of m x.g x.r) x found)) _ (global.holds_still l m.poll.local.held x.stage found) (λ held. applied Task.Global (keeping m held) x.g x.r (global_listing.step l (register_of m x.g x.r) x found)) refl refl
      (from_step global.may_fault Task.Global m x.g x.r x (global_listing.step l (register_of m x.g x.r) x found) (λ y. refl) (global.faults l (register_of m x.g x.r) x found))
  faults_at m (Task.New x) found = new_faults l shapes m (at_task m (Task.New x)) (Task.New x) x.wanted x.stage found
  faults_at m (Task.Gc g x) found = gc_faults m (at_task m (Task.Gc g x)) (Task.Gc g x) g (wait.goes l (wait.waiting x m.poll) found) (wait.gives l (wait.waiting x m.poll) found)
  faults_at m Task.Poll found = poll_faults m (at_task m Task.Poll) Task.Poll (poll.goes l m.poll found) (poll.gives l m.poll found)
  faults_at m (Task.Leave x) found = leave_faults m (at_task m (Task.Leave x)) (Task.Leave x) (leave.goes x found) (leave.gives x found)
  faults_at m _ found = none_at m _ _ _ (λ cause e. absurd (cc)) refl

loads_at : (l : Layout) (m : Processor) (t : Task) → may_fault t ≡ true → is_load (asks_at l m t) ≡ true
loads_at l m t e = grind arith

serves_at : (t : Task) → may_fault t ≡ true → is_serving t ≡ true
serves_at t e = grind arith

-- The machine.

abbrev faulting : Mutating → Bool
faulting x = may_fault x.processor.task

faults_here : (l : Layout) (x : Mutating) (word : ℕ) → FaultsAt x.processor x.processor.task (goes l x word).processor (gives l x word)
faults_here l x word = faults_at l x.shapes x.processor x.processor.task word

unanswered : (k : ℕ) (t : Task) → marks_after k (answer_at t None) ≡ k
unanswered k t = grind arith

-- a step to a task from which a fault may be answered changes no more than the task
keeps : (l : Layout) (x : Mutating) (word : ℕ) → faulting (goes l x word) ≡ true → goes l x word ≡ record x { processor = at_task x.processor (goes l x word).processor.task }
keeps l x word e =
    let h = (faults_here l x word).before e in
    ap (λ (p : Processor). record (goes l x word) { processor = p }) h.1
    ∙ ap (λ (k : ℕ). record x { processor = at_task x.processor (goes l x word).processor.task; marks = k }) (ap (λ (a : Option Answer). marks_after x.marks (answer_at x.processor.task a)) h.2 ∙ unanswered x.marks x.processor.task)

stays_until : (l : Layout) (m : Mutating) (found : ℕ → ℕ) (i : ℕ) → ((j : ℕ) → j ≤ i → faulting (told (listing l) m found j) ≡ true) → told (listing l) m found i ≡ record m { processor = at_task m.processor (told (listing l) m found i).processor.task }
stays_until l m found zero h = refl
stays_until l m found (suc i) h =
    keeps l (told (listing l) m found i) (found i) (h (suc i) (omega arith))
    ∙ ap (λ (x : Mutating). record x { processor = at_task x.processor (told (listing l) m found (suc i)).processor.task }) (stays_until l m found i (λ j le. h j (omega arith)))

-- the step that answers the fault
ends_so : (l : Layout) (x : Mutating) (word : ℕ) (cause : Cause) → gives l x word ≡ Some (Answer.Fault cause) → goes l x word ≡ rested x x.processor (Answer.Fault cause)
ends_so l x word cause e =
    let h = (faults_here l x word).here cause e in
    let serves : is_serving x.processor.task ≡ true = serves_at x.processor.task h.0 in
    ap (λ (p : Processor). record (goes l x word) { processor = p }) h.1
    ∙ ap (λ (a : Option Answer). record x { processor = at_task x.processor Task.Idle; marks = marks_after x.marks (answer_at x.processor.task a) }) e
    ∙ ap (λ (b : Bool). record x { processor = at_task x.processor Task.Idle; marks = marks_after x.marks (cond b (Some (Answer.Fault cause)) None) }) serves

-- what may be answered a fault begins with the poll as it was
same_poll : (shapes : List Shape) (m : Processor) (o : Op) → may_fault (begins_at shapes m o) ≡ true → begun_with m.poll o ≡ m.poll
same_poll shapes m o e = grind arith

pub faults_change_nothing : FaultsChangeNothing
faults_change_nothing l m o found n cause e =
    let b = begins m o in
    let all : (i : ℕ) → i ≤ n → faulting (told (listing l) (begins m o) found i) ≡ true =
    held_before faulting (listing l) (begins m o) found (λ x word p. ((faults_here l x word).before p).0) n ((faults_here l (told (listing l) (begins m o) found n) (found n)).here cause e).0 in
    record {
      loads = λ i le. loads_at l (told (listing l) (begins m o) found i).processor (told (listing l) (begins m o) found i).processor.task (all i le);
      stays = ends_so l (told (listing l) (begins m o) found n) (found n) cause e ∙ ap (λ (x : Mutating). rested x x.processor (Answer.Fault cause)) (stays_until l (begins m o) found n all)
          ∙ ap (λ (p : Polling). rested m (at_poll m.processor p) (Answer.Fault cause)) (same_poll m.shapes m.processor o (all 0 (omega arith)));
    }
