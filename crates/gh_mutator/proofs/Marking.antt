-- While marking is on, each step of a whole processor that polls, waits or leaves is made of moves that its seat may make: by its tasks.
use Rattle.std.proofs.Common.{◌≡◌, ℕ, true, List, Option, None, refl, sym, subst, arith}
use Rattle.gh_mutator.proofs.Vocabulary.{after_gc, after_leave, after_poll, asks_at, Assist, begins, GlobalStage, leaves_on, Leaving, Local, NewStage, Op, Place, PointerWrite, Polling, Processor, Search, Shape, stage_at, Store, StoreStage, takes_at, Task, Wait, Waiting, WaitState, Want, Wanted}
use Rattle.gh_assist.specs.Facts.{AssistsByMoves}
use Rattle.gh_barrier.specs.Facts.{WritesByMoves}
use Rattle.gh_phase.specs.Shakes.{IsParked}
use Rattle.gh_poll.specs.Give as give
use Rattle.gh_poll.specs.Leave as leave
use Rattle.gh_poll.specs.MarkFacts.{IsBetween, KnowsCycle, KnowsStacks, LeaveFacts, LeavesByMoves, PollFacts, PollsByMoves, RestFacts, WaitFacts, WaitsByMoves, stacks_last, holding_only}
use Rattle.gh_mutator.specs.New as new
use Rattle.gh_poll.specs.Poll as poll
use Rattle.gh_mutator.specs.ProcessorMarks.{GlobalFacts, IsWriting, MarkFacts, MarksByMoves, new_polls, NewFacts, only_polls, reserved_at, StoreFacts, TaskFacts}
use Rattle.gh_poll.specs.Wait as wait
use Rattle.gh_mutator.specs.Vocabulary.{cell_of}
use Rattle.gh_mutator.specs.MarkVocabulary.{Cycle, effect, Good, Hands, Keeps, KnowsObjects, landing, LeaveStage, nothing, Others, Shared, Steps}
use Rattle.gh_poll.proofs.Marking.Known.{Known}

module _ (k : Known) (h : PollsByMoves) (v : WaitsByMoves) (l : LeavesByMoves) (b : WritesByMoves) (c : AssistsByMoves) (z : Cycle) (a : ℕ) where
  -- behind a step
  polled_then : (t : Shared) (m : Processor) (p : Polling) (out : Option (Unit {0})) → poll.given p.stage ≡ out → PollFacts z a t p → MarkFacts z a t (after_poll m p out)
  polled_then t m p out e f = grind arith

  gc_then : (t : Shared) (m : Processor) (g : ℕ) (w : Waiting) (out : Option (Unit {0})) → wait.given w.wait.stage ≡ out → WaitFacts z a t w → MarkFacts z a t (after_gc m g w out)
  gc_then t m g w out e f = grind arith

  new_then : (t : Shared) (m : Processor) (n : Wanted) (w : Waiting) (out : Option (Unit {0})) → wait.given w.wait.stage ≡ out → WaitFacts z a t w → MarkFacts z a t (new.after_wait m n w out)
  new_then t m n w out e f = grind arith

  module _ (s : Shared) (good : Good z s) (objects : KnowsObjects z s) (now : KnowsCycle z s) (shapes : List Shape) (m : Processor) (seat_is : m.poll.seat ≡ a) (stacks : KnowsStacks z a s m.poll.local.stacks m.poll.local.scanned) where
    abbrev Leads : Task → Type 0
    Leads t = Steps z a s (asks_at z.arena.layout m t) (λ u. MarkFacts z a u (takes_at z.arena.layout shapes m t (s.words (cell_of (asks_at z.arena.layout m t)))))

    polls : PollFacts z a s m.poll → Leads Task.Poll
    polls f =
        let n : ℕ = s.words (cell_of (poll.asks m.poll)) in
        landing z a s (effect s.words (poll.asks m.poll)) (λ t. PollFacts z a t (poll.goes z.arena.layout m.poll n)) (λ t. MarkFacts z a t (after_poll m (poll.goes z.arena.layout m.poll n) (poll.gives z.arena.layout m.poll n)))
        (λ t went f. polled_then t m (poll.goes z.arena.layout m.poll n) (poll.gives z.arena.layout m.poll n) refl f)
        (h.own_step z a s m.poll good objects now f)

    waits : (g : ℕ) (x : WaitState) → WaitFacts z a s (wait.waiting x m.poll) → Leads (Task.Gc g x)
    waits g x f =
        let w : Waiting = wait.waiting x m.poll in
        let n : ℕ = s.words (cell_of (wait.asks w)) in
        landing z a s (effect s.words (wait.asks w)) (λ t. WaitFacts z a t (wait.goes z.arena.layout w n)) (λ t. MarkFacts z a t (after_gc m g (wait.goes z.arena.layout w n) (wait.gives z.arena.layout w n)))
        (λ t went f. gc_then t m g (wait.goes z.arena.layout w n) (wait.gives z.arena.layout w n) refl f)
        (v.own_step z a s w good objects now f)

    new_waits : (n : Wanted) (x : WaitState) → WaitFacts z a s (wait.waiting x m.poll) → Leads (Task.New (record { wanted = n; stage = Wait x }))
    new_waits wanted x f =
        let w : Waiting = wait.waiting x m.poll in
        let n : ℕ = s.words (cell_of (wait.asks w)) in
        landing z a s (effect s.words (wait.asks w)) (λ t. WaitFacts z a t (wait.goes z.arena.layout w n)) (λ t. MarkFacts z a t (new.after_wait m wanted (wait.goes z.arena.layout w n) (wait.gives z.arena.layout w n)))
        (λ t went f. new_then t m wanted (wait.goes z.arena.layout w n) (wait.gives z.arena.layout w n) refl f)
        (v.own_step z a s w good objects now f)

    new_steps : (n : Wanted) (q : NewStage) → new_polls q ≡ true → NewFacts z a s m.poll q → Leads (Task.New (record { wanted = n; stage = q }))
    new_steps n q only x = grind (arith, new_waits)

    left_then : (t : Shared) (x : Leaving) (q : LeaveStage) (found : ℕ) → m.poll.local.held ≡ None → Keeps z a s t → LeaveFacts z a t (leave.goes_at x q found).stage → MarkFacts z a t (after_leave m (leave.goes_at x q found) (leave.given (leave.goes_at x q found).stage))
    left_then t x (LeaveStage.Giving g) found none kept f = subst (λ (o : Option (Unit {0})). MarkFacts z a t (after_leave m (leave.goes_at x (LeaveStage.Giving g) found) o)) (sym (leaves_on (give.goes g found)))
        (record { seat_is = seat_is; stacks = stacks_last z a s t m.poll.local.stacks m.poll.local.scanned kept stacks; task_is = (none, f) })
    left_then t x LeaveStage.Leave found none kept f = record { seat_is = seat_is; stacks = stacks_last z a s t m.poll.local.stacks m.poll.local.scanned kept stacks; task_is = (none, f) }
    left_then t x LeaveStage.Left found none kept f = record { seat_is = seat_is; stacks = stacks_last z a s t m.poll.local.stacks m.poll.local.scanned kept stacks; task_is = (none, f) }

    leaves : (x : Leaving) → m.poll.local.held ≡ None → LeaveFacts z a s x.stage → Leads (Task.Leave x)
    leaves x none f =
        let n : ℕ = s.words (cell_of (leave.asks x)) in
        landing z a s (effect s.words (leave.asks x)) (λ t. Keeps z a s t × LeaveFacts z a t (leave.goes x n).stage) (λ t. MarkFacts z a t (after_leave m (leave.goes x n) (leave.gives x n)))
        (λ t went f. left_then t x x.stage n none f.0 f.1)
        (l.own_step z a s x good objects f)

    steps_at : (t : Task) → only_polls t ≡ true → TaskFacts z a s m.poll t → Leads t
    steps_at (Task.New y) only x = new_steps y.wanted y.stage only x
    steps_at (Task.Gc g y) only x = waits g y x
    steps_at Task.Poll only x = polls x
    steps_at (Task.Leave y) only x = leaves y x.0 x.1
    steps_at _ only x = absurd (cc)

  -- what others do
  between_lasts : (s t : Shared) (local : Local) → Others z a s t → IsBetween z a s local → IsBetween z a t local
  between_lasts s t local o b = record { stacks = stacks_last z a s t local.stacks local.scanned o.keeps b.stacks; number = b.number; hands = k.last z a s t (holding_only local.held) o b.hands }

  new_lasts : (s t : Shared) (p : Polling) (q : NewStage) → Others z a s t → NewFacts z a s p q → NewFacts z a t p q
  new_lasts s t p (Search waited y) o x = between_lasts s t p.local o x
  new_lasts s t p (Wait y) o x = v.lasts z a s t (wait.waiting y p) o x
  new_lasts s t p (Want n) o x = between_lasts s t p.local o x
  new_lasts s t p (Assist n y) o x = record { stacks = stacks_last z a s t p.local.stacks p.local.scanned o.keeps x.stacks; number = x.number; assists = c.lasts z a s t y o x.assists }
  new_lasts s t p (Place y) o x = record {
    marking = x.marking;
    stacks = stacks_last z a s t p.local.stacks p.local.scanned o.keeps x.stacks;
    number = x.number;
    hands = k.last z a s t (record (holding_only p.local.held) { placing = reserved_at y.at y.stage }) o x.hands;
  }

  writing_lasts : (s t : Shared) (local : Local) (w : PointerWrite) → Others z a s t → IsWriting z a s local w → IsWriting z a t local w
  writing_lasts s t local w o x = record { stacks = stacks_last z a s t local.stacks local.scanned o.keeps x.stacks; number = x.number; writes = b.keeps.lasts z a s t nothing w o x.writes }

  store_lasts : (s t : Shared) (p : Polling) (y : Store) (q : StoreStage) → Others z a s t → StoreFacts z a s p y q → StoreFacts z a t p y q
  store_lasts s t p y StoreStage.Page o x = (between_lasts s t p.local o x.0, x.1)
  store_lasts s t p y StoreStage.Bits o x = (between_lasts s t p.local o x.0, x.1)
  store_lasts s t p y StoreStage.Field o x = (between_lasts s t p.local o x.0, x.1)
  store_lasts s t p y (StoreStage.Writing w) o x = writing_lasts s t p.local w o x
  store_lasts s t p y StoreStage.NilBase o x = between_lasts s t p.local o x

  global_lasts : (s t : Shared) (p : Polling) (q : GlobalStage) → Others z a s t → GlobalFacts z a s p q → GlobalFacts z a t p q
  global_lasts s t p GlobalStage.Store o x = (between_lasts s t p.local o x.0, x.1)
  global_lasts s t p (GlobalStage.Writing w) o x = writing_lasts s t p.local w o x
  global_lasts s t p _ o x = between_lasts s t p.local o x

  task_lasts : (s t : Shared) (p : Polling) (q : Task) → Others z a s t → TaskFacts z a s p q → TaskFacts z a t p q
  task_lasts s t p Task.Left o x = (x.0, k.last z a s t nothing o x.1)
  task_lasts s t p (Task.New y) o x = new_lasts s t p y.stage o x
  task_lasts s t p (Task.Gc g y) o x = v.lasts z a s t (wait.waiting y p) o x
  task_lasts s t p (Task.Store y) o x = store_lasts s t p y y.stage o x
  task_lasts s t p (Task.Global y) o x = global_lasts s t p y.stage o x
  task_lasts s t p Task.Poll o x = h.lasts z a s t p o x
  task_lasts s t p (Task.Leave y) o x = (x.0, l.lasts z a s t y o x.1)
  task_lasts s t p _ o x = between_lasts s t p.local o x

  abbrev HasNothing : Shared → Polling → Type 0
  HasNothing s p = (p.local.held ≡ None) × Hands a s nothing

  stands : (s : Shared) (p : Polling) (t : Task) (stops : ℕ) → IsParked stops (stage_at p t) → TaskFacts z a s p t → HasNothing s p
  stands s p t stops still x = grind arith

  -- where a cycle begins
  module _ (s : Shared) (p : Polling) (stops : ℕ) (seat_is : p.seat ≡ a) (none : p.local.held ≡ None) (stacks : KnowsStacks z a s p.local.stacks p.local.scanned) (x : Hands a s nothing) where
    task_opens : (t : Task) → IsParked stops (stage_at p t) → TaskFacts z a s p t
    task_opens t still = grind arith

  -- what an idle processor begins
  begins_facts : (shapes : List Shape) (s : Shared) (m : Processor) (o : Op) → only_polls (begins shapes m o).task ≡ true → RestFacts z a s m.poll → MarkFacts z a s (begins shapes m o)
  begins_facts shapes s m o only r = grind arith

pub marks_by_moves : Known → PollsByMoves → WaitsByMoves → LeavesByMoves → WritesByMoves → AssistsByMoves → MarksByMoves
marks_by_moves k h v l b c = record {
  opens = λ z a s m n. record { seat_is = n.seat_is; stacks = n.stacks; task_is = task_opens k h v l b c z a s m.poll n.stops n.seat_is n.no_buffer n.stacks n.nothing_in_hand m.task n.parked };
  begins = λ shapes z a s m o idle only f. begins_facts k h v l b c z a shapes s m o only (record { seat_is = f.seat_is; between = subst (λ (t : Task). TaskFacts z a s m.poll t) idle f.task_is });
  own_step = λ shapes z a s m good objects now only f. steps_at k h v l b c z a s good objects now shapes m f.seat_is f.stacks m.task only f.task_is;
  lasts = λ z a s t m o f. record { seat_is = f.seat_is; stacks = stacks_last z a s t m.poll.local.stacks m.poll.local.scanned o.keeps f.stacks; task_is = task_lasts k h v l b c z a s t m.poll m.task o f.task_is };
  waits = λ z a s m stops still f. let x = stands k h v l b c z a s m.poll m.task stops still f.task_is in record { stops = stops; parked = still; seat_is = f.seat_is; no_buffer = x.0; stacks = f.stacks; nothing_in_hand = x.1 };
}
