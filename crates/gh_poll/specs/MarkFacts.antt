-- What is known of a processor that polls, waits or leaves while marking is on, at each stage, and what each step of its own is then. It may hold a buffer between two polls. While it scans a stack it has the object besides that it shades; and at a stop, with its buffer given back, it has nothing.
use Rattle.std.proofs.Common.{◌∙◌, sym, ap, eqb, refl, subst, ◌≡◌, ◌≢◌, ℕ, ◌+◌, ◌-◌, ◌%◌, ◌<◌, ◌≤◌, Bool, true, false, List, [], length, slice_index, slice_index_or, Option, Some, None}
use Rattle.gh_poll.specs.Vocabulary.{Ask, CachedSpan, Cell, END, GiveStage, Held, LeaveStage, Local, Mark, MarkStackStage, PollStage, StackStage, Value, View, WaitStage}
use Rattle.gh_base.specs.Rows.{Row}
use Rattle.gh_marks.specs.Colours.{IsSince, seen_word}
use Rattle.gh_phase.specs.Listing as resume
use Rattle.gh_shade.specs.Facts as shade_facts
use Rattle.gh_shade.specs.Listing as shade
use Rattle.gh_stack.specs.Facts as stack_facts
use Rattle.gh_stack.specs.Listing as stack
use Rattle.gh_wbuf.specs.Facts as buffer_facts
use Rattle.gh_poll.specs.Give as give
use Rattle.gh_poll.specs.Leave as leave
use Rattle.gh_poll.specs.MarkStack as mark
use Rattle.gh_poll.specs.MarkVocabulary.{Cycle, Good, Hands, InHand, IsOf, Keeps, KnowsObjects, Others, Shared, Steps, cell_of, nothing}
use Rattle.gh_poll.specs.Poll as poll
use Rattle.gh_poll.specs.Wait as wait

-- it holds this and has nothing else in hand
abbrev pub holding_only : Option Held → InHand
holding_only held = buffer_facts.holding nothing held

-- What a processor alone knows of its stacks is what the shared state says of them. The goroutines that it takes for its own are those of its seat; the registers of each that goes on name what it has in them, and the cycle in which it noted a stack as scanned is that in the stack's word.
pub record KnowsStacks (z : Cycle) (a : ℕ) (s : Shared) (stacks : List (List Value)) (notes : List ℕ) : Type 0 where
  pub own : (g : ℕ) → g < z.arena.layout.goroutines → g % z.arena.layout.procs ≡ a → IsOf z.arena a g
  pub registers : (g : ℕ) → IsOf z.arena a g → s.words (Cell.Scanned g) ≢ END → stack_facts.AreRegisters s.extents.base (s.registers g) (slice_index_or stacks g [])
  -- and those name objects of the cycle
  pub since : (g : ℕ) → IsOf z.arena a g → s.words (Cell.Scanned g) ≢ END → (d : ℕ) → d < length (slice_index_or stacks g []) → IsSince s.since (s.registers g d)
  pub noted : (g : ℕ) → IsOf z.arena a g → slice_index notes g ≡ s.words (Cell.Scanned g)
  -- there is a note for each
  pub places : z.arena.layout.goroutines ≤ length notes

-- what is seen of a word stays, where that is of the cycle
seen_stays : (since : ℕ → Bool) (b c : Row) (w : ℕ) → ((x : ℕ) → since (b x) ≡ true → c x ≡ b x) → IsSince since (seen_word b w) → seen_word c w ≡ seen_word b w
seen_stays since b c w same known = by (eqb w 0) refl where
  by : (t : Bool) → eqb w 0 ≡ t → seen_word c w ≡ seen_word b w
  by true e = rw e refl
  by false e = let is : seen_word b w ≡ b (w - 1) + 1 = rw e refl in rw e (ap (λ x. x + 1) (same (w - 1) (known (b (w - 1)) is)))

-- what it knows of its stacks lasts, save by its own scans
pub stacks_last : (z : Cycle) (a : ℕ) (s t : Shared) (stacks : List (List Value)) (notes : List ℕ) → Keeps z a s t → KnowsStacks z a s stacks notes → KnowsStacks z a t stacks notes
stacks_last z a s t stacks notes k f = record {
  own = f.own;
  registers = λ g own on. let was = f.registers g own (λ e. on (k.stacks g own ∙ e)) in record {
    whole = was.whole;
    each = λ d lt. k.registers g d own ∙ was.each d lt ∙ sym (seen_stays s.since s.extents.base t.extents.base (stack_facts.named (slice_index_or (slice_index_or stacks g []) d Value.Nil)) k.bases (subst (λ (v : ℕ). IsSince s.since v) (was.each d lt) (f.since g own (λ e. on (k.stacks g own ∙ e)) d lt)));
    some = was.some;
  };
  since = λ g own on d lt o is. k.since o (f.since g own (λ e. on (k.stacks g own ∙ e)) d lt o (sym (k.registers g d own) ∙ is));
  noted = λ g own. f.noted g own ∙ sym (k.stacks g own);
  places = f.places;
}

-- while it takes marking to be on it knows the number of the cycle
abbrev pub KnowsNumber : Cycle → View → Type 0
KnowsNumber z v = v.phase ≡ Mark → v.begun ≡ z.number

-- The cycle is the last that has begun. Whoever runs the processors knows that while marking is on.
abbrev pub KnowsCycle : Cycle → Shared → Type 0
KnowsCycle z s = s.words Cell.Begun ≡ z.number

-- between two polls
pub record IsBetween (z : Cycle) (a : ℕ) (s : Shared) (local : Local) : Type 0 where
  pub stacks : KnowsStacks z a s local.stacks local.scanned
  pub number : KnowsNumber z local.view
  pub hands : Hands a s (holding_only local.held)

-- The giving back.
abbrev pub GiveStageFacts : Cycle → (a : ℕ) → Shared → Option Held → GiveStage → Type 0
GiveStageFacts z a s held (GiveStage.GiveBuffer b) = buffer_facts.GiveFacts z a s nothing b
GiveStageFacts z a s held GiveStage.Ended = Hands a s nothing × (held ≡ None)
GiveStageFacts z a s held _ = Hands a s (holding_only held)

abbrev pub GiveFacts : Cycle → (a : ℕ) → Shared → give.Giving → Type 0
GiveFacts z a s g = GiveStageFacts z a s g.held g.stage

-- The scan of a stack with the shading: what is shaded is what the scan wishes.
pub record ShadesWish (z : Cycle) (a : ℕ) (s : Shared) (m : stack.StackScan) (reference : ℕ) : Type 0 where
  pub scans : stack_facts.Facts z a s m
  pub wish : stack.wish_of m.stage ≡ Some reference

-- it looks for room for the object that it has marked
pub record LooksForRoom (s : Shared) (reference : ℕ) : Type 0 where
  pub some : 1 ≤ reference
  pub marked : shade_facts.HasBoth s (shade.object_of reference)

abbrev pub pending : (reference : ℕ) → InHand
pending reference = record nothing { pending = Some (shade.object_of reference) }

abbrev pub ScanStageFacts : Cycle → (a : ℕ) → Shared → Option Held → stack.StackScan → MarkStackStage → Type 0
ScanStageFacts z a s held m (MarkStackStage.Shading sh) = ShadesWish z a s m sh.reference × shade_facts.Facts z a s nothing sh
ScanStageFacts z a s held m (MarkStackStage.FindRoom sh r) = ShadesWish z a s m sh.reference × LooksForRoom s sh.reference × buffer_facts.RoomFacts z a s (pending sh.reference) r
ScanStageFacts z a s held m MarkStackStage.Store = stack_facts.Facts z a s m × (m.stage ≡ StackStage.Store) × Hands a s (holding_only held)
ScanStageFacts z a s held m MarkStackStage.Ended = ⊥

-- it is the scan of this goroutine's stack
pub record ScanFacts (z : Cycle) (a : ℕ) (s : Shared) (g : ℕ) (m : mark.StackMarking) : Type 0 where
  pub seat_is : m.seat ≡ a
  pub of : m.scan.goroutine ≡ g
  pub stage_is : ScanStageFacts z a s m.held m.scan m.stage

-- A poll that is no part of a wait ends with a buffer that has room for the two entries of a write barrier, while marking is on.
abbrev pub PollEndsWithRoom : (waits : Bool) → Local → Type 0
PollEndsWithRoom waits local = waits ≡ false → local.view.phase ≡ Mark → poll.has_two local.held ≡ true

-- A poll.
abbrev pub PollStageFacts : Cycle → (a : ℕ) → Shared → (waits : Bool) → Local → PollStage → Type 0
PollStageFacts z a s waits local PollStage.LoadPhase = KnowsNumber z local.view × Hands a s (holding_only local.held)
PollStageFacts z a s waits local (PollStage.Giving g stops) = GiveFacts z a s g
PollStageFacts z a s waits local (PollStage.Resuming r) = Hands a s nothing × (local.held ≡ None) × (resume.is_busy r ≡ true)
PollStageFacts z a s waits local (PollStage.Marking g m) = (local.view.begun ≡ z.number) × ScanFacts z a s g m
PollStageFacts z a s waits local (PollStage.FindRoom r) = KnowsNumber z local.view × buffer_facts.RoomFacts z a s nothing r
PollStageFacts z a s waits local PollStage.Ended = KnowsNumber z local.view × PollEndsWithRoom waits local × Hands a s (holding_only local.held)

pub record PollFacts (z : Cycle) (a : ℕ) (s : Shared) (p : poll.Polling) : Type 0 where
  pub seat_is : p.seat ≡ a
  pub stacks : KnowsStacks z a s p.local.stacks p.local.scanned
  pub stage_is : PollStageFacts z a s p.waits p.local p.stage

-- a processor that is at no poll
pub record RestFacts (z : Cycle) (a : ℕ) (s : Shared) (p : poll.Polling) : Type 0 where
  pub seat_is : p.seat ≡ a
  pub between : IsBetween z a s p.local

-- A wait: while it polls it knows what the poll does.
abbrev pub WaitStageFacts : Cycle → (a : ℕ) → Shared → poll.Polling → WaitStage → Type 0
WaitStageFacts z a s p WaitStage.Polling = PollFacts z a s p
WaitStageFacts z a s p _ = RestFacts z a s p

abbrev pub WaitFacts : Cycle → (a : ℕ) → Shared → wait.Waiting → Type 0
WaitFacts z a s w = WaitStageFacts z a s w.poll w.wait.stage

-- Leaving: once all is given back it has nothing.
abbrev pub LeaveFacts : Cycle → (a : ℕ) → Shared → LeaveStage → Type 0
LeaveFacts z a s (LeaveStage.Giving g) = GiveFacts z a s g
LeaveFacts z a s LeaveStage.Leave = Hands a s nothing
LeaveFacts z a s LeaveStage.Left = Hands a s nothing

pub record PollsByMoves : Type 0 where
  pub begins : (z : Cycle) (a : ℕ) (s : Shared) (p : poll.Polling) (waits : Bool) → RestFacts z a s p → PollFacts z a s (poll.begins p waits)
  pub own_step : (z : Cycle) (a : ℕ) (s : Shared) (p : poll.Polling) → Good z s → KnowsObjects z s → KnowsCycle z s → PollFacts z a s p →
      Steps z a s (poll.asks p) (λ t. PollFacts z a t (poll.goes z.arena.layout p (s.words (cell_of (poll.asks p)))))
  pub lasts : (z : Cycle) (a : ℕ) (s t : Shared) (p : poll.Polling) → Others z a s t → PollFacts z a s p → PollFacts z a t p
  pub ends : (z : Cycle) (a : ℕ) (s : Shared) (p : poll.Polling) → poll.is_busy p.stage ≡ false → PollFacts z a s p → RestFacts z a s p × PollEndsWithRoom p.waits p.local
  -- where it acknowledges a stop it has nothing in hand
  pub stops : (z : Cycle) (a i number : ℕ) (s : Shared) (p : poll.Polling) → poll.asks p ≡ Ask.Store (Cell.Ack i) number → PollFacts z a s p → Hands a s nothing

pub record WaitsByMoves : Type 0 where
  pub begins : (z : Cycle) (a : ℕ) (s : Shared) (p : poll.Polling) → RestFacts z a s p → WaitFacts z a s (wait.opening p)
  pub own_step : (z : Cycle) (a : ℕ) (s : Shared) (w : wait.Waiting) → Good z s → KnowsObjects z s → KnowsCycle z s → WaitFacts z a s w →
      Steps z a s (wait.asks w) (λ t. WaitFacts z a t (wait.goes z.arena.layout w (s.words (cell_of (wait.asks w)))))
  pub lasts : (z : Cycle) (a : ℕ) (s t : Shared) (w : wait.Waiting) → Others z a s t → WaitFacts z a s w → WaitFacts z a t w
  pub ends : (z : Cycle) (a : ℕ) (s : Shared) (w : wait.Waiting) → wait.is_busy w.wait.stage ≡ false → WaitFacts z a s w → RestFacts z a s w.poll
  pub stops : (z : Cycle) (a i number : ℕ) (s : Shared) (w : wait.Waiting) → wait.asks w ≡ Ask.Store (Cell.Ack i) number → WaitFacts z a s w → Hands a s nothing

pub record LeavesByMoves : Type 0 where
  pub begins : (z : Cycle) (a seat generation : ℕ) (s : Shared) (cache : List (Option CachedSpan)) (held : Option Held) → Hands a s (holding_only held) →
      LeaveFacts z a s (leave.opening seat generation cache held).stage
  -- and its steps change no stack
  pub own_step : (z : Cycle) (a : ℕ) (s : Shared) (w : leave.Leaving) → Good z s → KnowsObjects z s → LeaveFacts z a s w.stage →
      Steps z a s (leave.asks w) (λ t. Keeps z a s t × LeaveFacts z a t (leave.goes w (s.words (cell_of (leave.asks w)))).stage)
  pub lasts : (z : Cycle) (a : ℕ) (s t : Shared) (w : leave.Leaving) → Others z a s t → LeaveFacts z a s w.stage → LeaveFacts z a t w.stage
  -- it says that it is gone with nothing in hand
  pub stops : (z : Cycle) (a i number : ℕ) (s : Shared) (w : leave.Leaving) → leave.asks w ≡ Ask.Store (Cell.Ack i) number → LeaveFacts z a s w.stage → Hands a s nothing
