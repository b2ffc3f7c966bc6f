-- A poll, a wait and a leave beside any number of others: each begins with what is known between two operations; each of its steps is a move that the rights of its seat allow, on a word that there is, and leaves the heap that never frees as it is; what is known lasts whatever others do, and at a stop also while spans are swept; and so it ends.
use Rattle.std.specs.Prelude.{◌≡◌, ℕ, Bool, false}
use Rattle.gh_mutator_heap.specs.Vocabulary.{Arena, cell_of, Good, InRange, IsParked, KeepsObjects, Leaving, leaving, Others, Polling, Shared, Steps, View, view, Waiting, with_nothing}
use Rattle.gh_poll.specs.Handshake.{leaves_at, poll_stage_of, wait_stage_of}
use Rattle.gh_poll.specs.Leave as leave
use Rattle.gh_poll.specs.Poll as poll
use Rattle.gh_mutator_heap.specs.PollHeap.{Has, KeepsGhosts, LeaveFacts, PollFacts, Rests, KnowsAtAnyTime, WaitFacts, leave_held, leave_locked, lists, no_page, poll_held, poll_locked, waits_held, waits_locked}
use Rattle.gh_poll.specs.Wait as wait

-- between two operations, with no lock and what is cached
abbrev pub IsBetweenOperations : Arena → (a : ℕ) → View → Polling → Type 0
IsBetweenOperations z a v p = Has a v false (lists p.local.cache) × Rests z a v p

-- A poll.

abbrev pub Polls : Arena → (a : ℕ) → View → Polling → Type 0
Polls z a v p = Has a v (poll_locked p) (poll_held p) × PollFacts z a v p

pub record PollsByRights : Type 0 where
  pub begins : (z : Arena) (a : ℕ) (v : View) (p : Polling) (waits : Bool) → IsBetweenOperations z a v p → Polls z a v (poll.begins p waits)
  pub own_step : (z : Arena) (a : ℕ) (s : Shared) (p : Polling) → Good z (view s) → Polls z a (view s) p →
      Steps z a s (poll.asks p) (λ t. KeepsObjects (view s) (view t) × Polls z a (view t) (poll.goes z.layout p (s.words (cell_of (poll.asks p)))))
  pub within : (z : Arena) (a : ℕ) (v : View) (p : Polling) → Good z v → Polls z a v p → InRange z.layout (cell_of (poll.asks p))
  pub lasts : (z : Arena) (a : ℕ) (v w : View) (p : Polling) → Good z v → Others z a v w → PollFacts z a v p → PollFacts z a w p
  pub parked : (z : Arena) (a : ℕ) (v : View) (p : Polling) (stops : ℕ) → IsParked stops (poll_stage_of p) → Polls z a v p → Has a v false no_page
  pub stopped : (z : Arena) (a : ℕ) (v w : View) (p : Polling) (stops : ℕ) → IsParked stops (poll_stage_of p) → KeepsGhosts a v w → PollFacts z a v p → PollFacts z a w p
  pub ends : (z : Arena) (a : ℕ) (v : View) (p : Polling) → poll.is_busy p.stage ≡ false → Polls z a v p → IsBetweenOperations z a v p

-- A wait.

abbrev pub Waits : Arena → (a : ℕ) → View → Waiting → Type 0
Waits z a v w = Has a v (waits_locked w) (waits_held w) × WaitFacts z a v w

pub record WaitsByRights : Type 0 where
  pub begins : (z : Arena) (a : ℕ) (v : View) (p : Polling) → IsBetweenOperations z a v p → Waits z a v (wait.opening p)
  pub own_step : (z : Arena) (a : ℕ) (s : Shared) (w : Waiting) → Good z (view s) → Waits z a (view s) w →
      Steps z a s (wait.asks w) (λ t. KeepsObjects (view s) (view t) × Waits z a (view t) (wait.goes z.layout w (s.words (cell_of (wait.asks w)))))
  pub within : (z : Arena) (a : ℕ) (v : View) (w : Waiting) → Good z v → Waits z a v w → InRange z.layout (cell_of (wait.asks w))
  pub lasts : (z : Arena) (a : ℕ) (v u : View) (w : Waiting) → Good z v → Others z a v u → WaitFacts z a v w → WaitFacts z a u w
  pub parked : (z : Arena) (a : ℕ) (v : View) (w : Waiting) (stops : ℕ) → IsParked stops (wait_stage_of w) → Waits z a v w → Has a v false no_page
  pub stopped : (z : Arena) (a : ℕ) (v u : View) (w : Waiting) (stops : ℕ) → IsParked stops (wait_stage_of w) → KeepsGhosts a v u → WaitFacts z a v w → WaitFacts z a u w
  pub ends : (z : Arena) (a : ℕ) (v : View) (w : Waiting) → wait.is_busy w.wait.stage ≡ false → Waits z a v w → IsBetweenOperations z a v w.poll

-- A leave, which has from its beginning on what its processor held.

abbrev pub TakesLeave : Arena → (a : ℕ) → View → Polling → Leaving → Type 0
TakesLeave z a v p x = Has a v (leave_locked x) (leave_held x) × LeaveFacts z a v p x

pub record LeavesByRights : Type 0 where
  pub begins : (z : Arena) (a : ℕ) (v : View) (p : Polling) → IsBetweenOperations z a v p → TakesLeave z a v (with_nothing p) (leaving p)
  pub own_step : (z : Arena) (a : ℕ) (s : Shared) (p : Polling) (x : Leaving) → Good z (view s) → TakesLeave z a (view s) p x →
      Steps z a s (leave.asks x) (λ t. KeepsObjects (view s) (view t) × TakesLeave z a (view t) p (leave.goes x (s.words (cell_of (leave.asks x)))))
  pub within : (z : Arena) (a : ℕ) (v : View) (p : Polling) (x : Leaving) → Good z v → TakesLeave z a v p x → InRange z.layout (cell_of (leave.asks x))
  pub lasts : (z : Arena) (a : ℕ) (v w : View) (p : Polling) (x : Leaving) → Good z v → Others z a v w → LeaveFacts z a v p x → LeaveFacts z a w p x
  pub parked : (z : Arena) (a : ℕ) (v : View) (p : Polling) (x : Leaving) (stops : ℕ) → IsParked stops (leaves_at x.stage) → TakesLeave z a v p x → Has a v false no_page
  pub stopped : (z : Arena) (a : ℕ) (v w : View) (p : Polling) (x : Leaving) (stops : ℕ) → IsParked stops (leaves_at x.stage) → KeepsGhosts a v w → LeaveFacts z a v p x → LeaveFacts z a w p x
  pub ends : (z : Arena) (a : ℕ) (v : View) (p : Polling) (x : Leaving) → leave.is_busy x.stage ≡ false → TakesLeave z a v p x → Has a v false no_page × KnowsAtAnyTime z a v p
