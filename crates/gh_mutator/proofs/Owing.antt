-- What a processor owes is dropped where marking is off, or another cycle is marked: by its tasks.
use Rattle.std.proofs.Common.{◌≡◌, ◌⊎◌, inl, subst, ℕ, Bool, true, false, cond, List, Option, Some, refl, sym, ap, arith}
use Rattle.gh_mutator.proofs.Vocabulary.{after_gc, after_leave, after_mark, after_place, after_poll, after_resume, after_room, after_search, after_wait, Assist, Assisting, assists, by_phase, cache_span, CachedSpan, follows, Found, Held, is_busy_at, is_mark, keeping, Layout, Leaving, Name, NewStage, Op, other_cycle_owes, Place, Placing, Polling, PollStage, Processor, processor_kind, register_of, Resumed, RunPhase, Search, Seeking, Shape, stops_then, takes_at, taking, Task, Then, Value, Wait, Waiting, Want, Wanted}
use Rattle.gh_phase.specs.declared.view.View.{View}
use Rattle.gh_phase.specs.Listing as resume
use Rattle.gh_wbuf.specs.RoomFinding as room
use Rattle.gh_alloc.specs.Place as place
use Rattle.gh_alloc.specs.Search as search
use Rattle.gh_assist.specs.Listing as assist
use Rattle.gh_poll.specs.Give as give
use Rattle.gh_mutator.specs.Global as global
use Rattle.gh_poll.specs.Leave as leave
use Rattle.gh_mutator.specs.Load as load
use Rattle.gh_poll.specs.MarkStack as mark
use Rattle.gh_poll.specs.Poll as poll
use Rattle.gh_mutator.specs.Register as register
use Rattle.gh_mutator.specs.Spending.{DebtsAreDropped, owed_at, owed_of, OwesWhileMarking}
use Rattle.gh_mutator.specs.Store as store
use Rattle.gh_poll.specs.Wait as wait
use Rattle.gh_mutator.specs.Running.{IsAssisting, SoundAssist, SoundAssistAt}
use Rattle.gh_mutator.specs.MarkVocabulary.{WaitStage}

-- What is known of the phase, and what is owed.
abbrev Due : Type 0
Due = View × ℕ

-- Behind a step both are as they were; or marking is on, and as much is owed; or nothing is owed.
abbrev Drops : Due → Due → Type 0
Drops was now = (now ≡ was) ⊎ ((is_mark now.0.phase ≡ true) × (now.1 ≡ was.1)) ⊎ (now.1 ≡ 0)

same : {was now : Due} → now ≡ was → Drops was now
same e = inl e

-- ---- a poll and a wait

abbrev due_at : Polling → Due
due_at p = (p.local.view, p.local.owed)

stops_owe : (p : Polling) (g : give.Giving) (stops : ℕ) → due_at (stops_then p g stops) ≡ due_at p
stops_owe p g stops = grind arith

phase_owes : (l : Layout) (p : Polling) (stops : ℕ) (phase : Option RunPhase) → due_at (by_phase l p stops phase) ≡ due_at p
phase_owes l p stops phase = grind arith

resume_drops : (l : Layout) (p : Polling) (r : resume.Resuming) (out : Option Resumed) → Drops (due_at p) (due_at (after_resume l p r out))
resume_drops l p r out = grind arith

mark_owes : (p : Polling) (g : ℕ) (m : mark.StackMarking) (out : Option (Unit {0})) → due_at (after_mark p g m out) ≡ due_at p
mark_owes p g m out = grind arith

room_owes : (p : Polling) (r : room.RoomFinding) (out : Option Held) → due_at (after_room p r out) ≡ due_at p
room_owes p r out = grind arith

poll_at : (l : Layout) (p : Polling) (stage : PollStage) (found : ℕ) → Drops (due_at p) (due_at (poll.goes_at l p stage found))
poll_at l p stage found = grind (arith, mark_owes, phase_owes, resume_drops, room_owes, same, stops_owe)

poll_drops : (l : Layout) (p : Polling) (found : ℕ) → Drops (due_at p) (due_at (poll.goes l p found))
poll_drops l p found = grind (arith, poll_at)

after_owes : (w : Waiting) (p : Polling) (out : Option (Unit {0})) → due_at (wait.after_poll w p out).poll ≡ due_at p
after_owes w p out = grind arith

swept_owes : (w : Waiting) (later : Bool) → due_at (cond later (wait.at_stage w WaitStage.Ended) (wait.polling w)).poll ≡ due_at w.poll
swept_owes w later = grind arith

wait_at : (l : Layout) (w : Waiting) (stage : WaitStage) (found : ℕ) → Drops (due_at w.poll) (due_at (wait.goes_at l w stage found).poll)
wait_at l w stage found = grind (arith, after_owes, poll_drops, same, swept_owes)

wait_drops : (l : Layout) (w : Waiting) (found : ℕ) → Drops (due_at w.poll) (due_at (wait.goes l w found).poll)
wait_drops l w found = grind (arith, wait_at)

-- ---- the processor

abbrev due_of : Processor → Due
due_of m = (m.poll.local.view, owed_of m)

into_owes : {S : Type 0} (into : S → Task) (m : Processor) (g d : ℕ) (sets : Option Value) (then : Then S) → ((p : Polling) (y : S) → owed_at p (into y) ≡ p.local.owed) → due_of (record (taking m g d sets) { task = follows into then }) ≡ due_at m.poll
into_owes into m g d sets then plain = grind arith

gc_owes : (m : Processor) (g : ℕ) (w : Waiting) (out : Option (Unit {0})) → due_of (after_gc m g w out) ≡ due_at w.poll
gc_owes m g w out = grind arith

poll_then : (m : Processor) (p : Polling) (out : Option (Unit {0})) → due_of (after_poll m p out) ≡ due_at p
poll_then m p out = grind arith

leave_owes : (m : Processor) (x : Leaving) (out : Option (Unit {0})) → due_of (after_leave m x out) ≡ due_at m.poll
leave_owes m x out = grind arith

search_owes : (shapes : List Shape) (m : Processor) (w : Wanted) (waited : Bool) (c : Option CachedSpan) (s : Seeking) (out : Option Found) → due_of (after_search shapes (cache_span m w.sought c) w waited s out) ≡ due_at m.poll
search_owes shapes m w waited c s out = grind arith

wait_then : (m : Processor) (w : Wanted) (x : Waiting) (out : Option (Unit {0})) → due_of (after_wait m w x out) ≡ due_at x.poll
wait_then m w x out = grind arith

place_owes : (m : Processor) (w : Wanted) (made : Bool) (a : ℕ) (x : Placing) → due_of (after_place m w made a x) ≡ due_at m.poll
place_owes m w made a x = grind arith

abbrev with_stage : Wanted → NewStage → Task
with_stage w q = Task.New (record { wanted = w; stage = q })

abbrev running : Polling → List ℕ → Task → Processor
running p made t = record { poll = p; made = made; task = t }

-- Any step but that of an assist.
module _ (l : Layout) (shapes : List Shape) (p : Polling) (made : List ℕ) (found : ℕ) where
  abbrev DropsAt : Task → Type 0
  DropsAt t = Drops (due_of (running p made t)) (due_of (takes_at l shapes (running p made t) t found))

  behind : {now then : Due} → then ≡ now → Drops (due_at p) now → Drops (due_at p) then
  behind e d = subst (λ (x : Due). Drops (due_at p) x) (sym e) d

  new_drops : (w : Wanted) (q : NewStage) → (IsAssisting (with_stage w q) → ⊥) → DropsAt (with_stage w q)
  new_drops w (Search waited y) rests = same (search_owes shapes (running p made (with_stage w (Search waited y))) w waited (search.goes l y found).find.cached (search.goes l y found) (search.gives l y found))
  new_drops w (Wait x) rests = behind (wait_then (running p made (with_stage w (Wait x))) w (wait.goes l (wait.waiting x p) found) (wait.gives l (wait.waiting x p) found)) (wait_drops l (wait.waiting x p) found)
  new_drops w (Place y) rests = same (place_owes (running p made (with_stage w (Place y))) w (place.makes_its_object y) y.at (place.goes y found))
  new_drops w (Want n) rests = same refl
  new_drops w (Assist n x) rests = absurd (rests tt)

  drops_at : (t : Task) → is_busy_at t ≡ true → (IsAssisting t → ⊥) → DropsAt t
  drops_at Task.Idle busy rests = absurd (cc)
  drops_at Task.Left busy rests = absurd (cc)
  drops_at (Task.Load x) busy rests = same (let step = load.step l x found in into_owes Task.Load (running p made (Task.Load x)) x.g x.d step.sets step.then (λ q y. refl))
  drops_at (Task.Store x) busy rests = same
      (let step = store.step l p.local (register_of (running p made (Task.Store x)) x.g x.v) x found in into_owes Task.Store (keeping (running p made (Task.Store x)) (store.held_behind l p.local.held x.stage found)) x.g x.v step.sets step.then (λ q y. refl))
  drops_at (Task.Global x) busy rests = same
      (let step = global.step l (register_of (running p made (Task.Global x)) x.g x.r) x found in into_owes Task.Global (keeping (running p made (Task.Global x)) (global.held_behind l p.local.held x.stage found)) x.g x.r step.sets step.then (λ q y. refl))
  drops_at (Task.Register x) busy rests = same (let step = register.step (register_of (running p made (Task.Register x)) x.g (register.read_of x)) x in into_owes Task.Register (running p made (Task.Register x)) x.g x.d step.sets step.then (λ q y. refl))
  drops_at (Task.New x) busy rests = new_drops x.wanted x.stage rests
  drops_at (Task.Gc g x) busy rests = behind (gc_owes (running p made (Task.Gc g x)) g (wait.goes l (wait.waiting x p) found) (wait.gives l (wait.waiting x p) found)) (wait_drops l (wait.waiting x p) found)
  drops_at Task.Poll busy rests = behind (poll_then (running p made Task.Poll) (poll.goes l p found) (poll.gives l p found)) (poll_drops l p found)
  drops_at (Task.End g) busy rests = same refl
  drops_at (Task.Leave x) busy rests = same (leave_owes (running p made (Task.Leave x)) (leave.goes x found) (leave.gives x found))

  -- in an assist it is the assist's own account, and marking is on
  assists_at : (w : Wanted) (n : Name) (x : Assisting) → due_of (takes_at l shapes (running p made (assists w n x)) (assists w n x) found) ≡ (p.local.view, (assist.goes l x found).owed)
  assists_at w n x = grind arith

-- Who does not know of marking owes nothing.
off_by : {was now : Due} → Drops was now → (is_mark was.0.phase ≡ false → was.1 ≡ 0) → is_mark now.0.phase ≡ false → now.1 ≡ 0
off_by h before off = grind arith

stays_by : {was now : Due} → Drops was now → (now.1 ≡ was.1) ⊎ (now.1 ≡ 0)
stays_by h = grind arith

module _ (l : Layout) (shapes : List Shape) (p : Polling) (made : List ℕ) (found : ℕ) where
  abbrev OffAt : Task → Type 0
  OffAt t = OwesWhileMarking (running p made t) → OwesWhileMarking (takes_at l shapes (running p made t) t found)

  off_plainly : (t : Task) → is_busy_at t ≡ true → (IsAssisting t → ⊥) → OffAt t
  off_plainly t busy rests before = off_by (drops_at l shapes p made found t busy rests) before

  off_new : (w : Wanted) (q : NewStage) → SoundAssistAt p q → OffAt (with_stage w q)
  off_new w (Assist n x) s before = λ off. absurd (let e = ap (λ (d : Due). is_mark d.0.phase) (assists_at l shapes p made found w n x) in let on = s.0 in cc)
  off_new w (Search waited y) s before = off_plainly (with_stage w (Search waited y)) refl (λ a. a) before
  off_new w (Wait x) s before = off_plainly (with_stage w (Wait x)) refl (λ a. a) before
  off_new w (Place y) s before = off_plainly (with_stage w (Place y)) refl (λ a. a) before
  off_new w (Want n) s before = off_plainly (with_stage w (Want n)) refl (λ a. a) before

  off_at : (t : Task) → SoundAssist p t → is_busy_at t ≡ true → OffAt t
  off_at (Task.New x) s busy before = off_new x.wanted x.stage s before
  off_at Task.Idle s busy before = absurd (cc)
  off_at Task.Left s busy before = absurd (cc)
  off_at (Task.Load x) s busy before = off_plainly (Task.Load x) busy (λ a. a) before
  off_at (Task.Store x) s busy before = off_plainly (Task.Store x) busy (λ a. a) before
  off_at (Task.Global x) s busy before = off_plainly (Task.Global x) busy (λ a. a) before
  off_at (Task.Register x) s busy before = off_plainly (Task.Register x) busy (λ a. a) before
  off_at (Task.Gc g x) s busy before = off_plainly (Task.Gc g x) busy (λ a. a) before
  off_at Task.Poll s busy before = off_plainly Task.Poll busy (λ a. a) before
  off_at (Task.End g) s busy before = off_plainly (Task.End g) busy (λ a. a) before
  off_at (Task.Leave x) s busy before = off_plainly (Task.Leave x) busy (λ a. a) before

begun : (shapes : List Shape) (z : Layout) (m : Processor) (o : Op) → is_busy_at m.task ≡ false → due_of ((processor_kind shapes z).begins m o) ≡ due_of m
begun shapes z m o rests = grind arith

other_cycle_step : (l : Layout) (p : Polling) (r : resume.Resuming) (found : ℕ) (out : Resumed) → p.stage ≡ PollStage.Resuming r → resume.gives r found ≡ Some out → out.another_cycle ≡ true → (poll.goes l p found).local.owed ≡ 0
other_cycle_step l p r found out is gives another = grind arith

assists_so : (l : Layout) (shapes : List Shape) (m : Processor) (found : ℕ) (w : Wanted) (n : Name) (x : Assisting) (t : Task) → t ≡ assists w n x → owed_of (takes_at l shapes m t found) ≡ (assist.goes l x found).owed
assists_so l shapes m found w n x t e = grind arith

pub debts_are_dropped : DebtsAreDropped
debts_are_dropped = record {
  at_first = λ seat. refl;
  begins = λ shapes z m o rests. ap (λ (d : Due). d.1) (begun shapes z m o rests);
  off_begins = λ shapes z m o rests before. off_by (same (begun shapes z m o rests)) before;
  off = λ l shapes m found s busy before. off_at l shapes m.poll m.made found m.task s.assist busy before;
  other_cycle = other_cycle_owes;
  other_cycle_step = other_cycle_step;
  assists_so = λ l shapes m found w n x is. assists_so l shapes m found w n x m.task is;
  stays = λ l shapes m found s busy rests. stays_by (drops_at l shapes m.poll m.made found m.task busy rests);
}
