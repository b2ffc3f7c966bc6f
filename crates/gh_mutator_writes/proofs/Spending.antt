-- A processor counts as spent what it takes out of the bank: by its tasks.
use Rattle.std.proofs.Common.{◌≡◌, ℕ, ◌+◌, ◌^◌, ◌<◌, Bool, true, false, List, Option, refl, ◌∙◌, arith}
use Rattle.gh_mutator_writes.proofs.Vocabulary.{after_gc, after_leave, after_place, after_poll, after_search, after_wait, Ask, asks, Assist, assist_spent, Assisting, assists, AssistsPay, cache_span, CachedSpan, follows, Found, is_busy_at, IsAssisting, IsWritten, keeping, Layout, Leaving, marking_at, Name, NewStage, Op, Place, Placing, poll_spent, Polling, Processor, processor_kind, ProcessorWritesItsOwn, register_of, Search, Seeking, Shape, SoundAssist, SoundAssistAt, takes_at, taking, Task, Then, Value, Wait, wait_spent, Waiting, Want, Wanted, WritesOf}
use Rattle.gh_alloc.specs.Place as place
use Rattle.gh_alloc.specs.Search as search
use Rattle.gh_assist.specs.Listing as assist
use Rattle.gh_credit.specs.Drawing.{drawn_by, LeavesOrDraws}
use Rattle.gh_mutator.specs.Global as global
use Rattle.gh_poll.specs.Leave as leave
use Rattle.gh_mutator.specs.Load as load
use Rattle.gh_poll.specs.Poll as poll
use Rattle.gh_mutator.specs.Register as register
use Rattle.gh_mutator_writes.specs.Spending.{ProcessorsSpend}
use Rattle.gh_mutator.specs.Spending.{spent_in_task, spent_of}
use Rattle.gh_mutator.specs.Store as store
use Rattle.gh_poll.specs.Wait as wait

-- A step of a processor that does not assist takes nothing out of the bank, and leaves it.
module _ (l : Layout) (m : Processor) (rests : IsAssisting m.task → ⊥) where
  draws_none : (step : Ask) (found : ℕ) → WritesOf (IsWritten l m) step → drawn_by step found ≡ 0
  draws_none step found w = grind arith

  leaves_bank : (step : Ask) → WritesOf (IsWritten l m) step → LeavesOrDraws step
  leaves_bank step w = grind arith

-- What is spent stays by each step but those of an assist.

abbrev SpentSo : Processor → ℕ → Type 0
SpentSo m spent = spent_of m ≡ spent

into_spent : {S : Type 0} (into : S → Task) (m : Processor) (g d : ℕ) (sets : Option Value) (then : Then S) → ((p : Polling) (y : S) → spent_in_task p (into y) ≡ p.local.spent) → spent_in_task (taking m g d sets).poll (follows into then) ≡ m.poll.local.spent
into_spent into m g d sets then plain = grind arith

gc_spent : (m : Processor) (g : ℕ) (w : Waiting) (out : Option (Unit {0})) → SpentSo (after_gc m g w out) w.poll.local.spent
gc_spent m g w out = grind arith

poll_then : (m : Processor) (p : Polling) (out : Option (Unit {0})) → SpentSo (after_poll m p out) p.local.spent
poll_then m p out = grind arith

leave_spent : (m : Processor) (x : Leaving) (out : Option (Unit {0})) → SpentSo (after_leave m x out) m.poll.local.spent
leave_spent m x out = grind arith

search_spent : (shapes : List Shape) (m : Processor) (w : Wanted) (waited : Bool) (c : Option CachedSpan) (s : Seeking) (out : Option Found) → SpentSo (after_search shapes (cache_span m w.sought c) w waited s out) m.poll.local.spent
search_spent shapes m w waited c s out = grind arith

wait_then : (m : Processor) (w : Wanted) (x : Waiting) (out : Option (Unit {0})) → SpentSo (after_wait m w x out) x.poll.local.spent
wait_then m w x out = grind arith

place_spent : (m : Processor) (w : Wanted) (made : Bool) (a : ℕ) (x : Placing) → SpentSo (after_place m w made a x) m.poll.local.spent
place_spent m w made a x = grind arith

abbrev with_stage : Wanted → NewStage → Task
with_stage w q = Task.New (record { wanted = w; stage = q })

abbrev running : Polling → List ℕ → Task → Processor
running p made t = record { poll = p; made = made; task = t }

module _ (l : Layout) (shapes : List Shape) (p : Polling) (made : List ℕ) (found : ℕ) where
  -- the step, at this task
  record Spends (t : Task) : Type 0 where
    spends : spent_of (takes_at l shapes (running p made t) t found) ≡ spent_in_task p t + drawn_by (asks l (running p made t)) found

  -- where it does not assist
  plainly : (t : Task) → (IsAssisting t → ⊥) → WritesOf (IsWritten l (running p made t)) (asks l (running p made t)) → spent_of (takes_at l shapes (running p made t) t found) ≡ spent_in_task p t → Spends t
  plainly t rests w stays = record { spends = stays ∙ by (draws_none l (running p made t) rests (asks l (running p made t)) found w) } where
    by : {a b : ℕ} → b ≡ 0 → a ≡ a + b
    by e = omega arith

  module _ (pay : AssistsPay) where
    assisted : (w : Wanted) (n : Name) (x : Assisting) → SoundAssistAt p (Assist n x) → x.spent + drawn_by (assist.asks l x) found < 2 ^ 64 → Spends (assists w n x)
    assisted w n x s most = record { spends = assist_spent (running p made (assists w n x)) w n (assist.goes l x found) (assist.gives l x found) ∙ pay.spends l x found s.1 most }

    new_spends : (w : Wanted) (q : NewStage) → let t : Task = Task.New (record { wanted = w; stage = q }) in SoundAssistAt p q → WritesOf (IsWritten l (running p made t)) (asks l (running p made t)) → spent_in_task p t + drawn_by (asks l (running p made t)) found < 2 ^ 64 → Spends t
    new_spends w (Search waited y) s writes most = plainly (with_stage w (Search waited y)) (λ a. a) writes (search_spent shapes (running p made (with_stage w (Search waited y))) w waited (search.goes l y found).find.cached (search.goes l y found) (search.gives l y found))
    new_spends w (Wait x) s writes most = plainly (with_stage w (Wait x)) (λ a. a) writes (wait_then (running p made (with_stage w (Wait x))) w (wait.goes l (wait.waiting x p) found) (wait.gives l (wait.waiting x p) found) ∙ wait_spent l (wait.waiting x p) found)
    new_spends w (Place y) s writes most = plainly (with_stage w (Place y)) (λ a. a) writes (place_spent (running p made (with_stage w (Place y))) w (place.makes_its_object y) y.at (place.goes y found))
    new_spends w (Want n) s writes most = plainly (with_stage w (Want n)) (λ a. a) writes refl
    new_spends w (Assist n x) s writes most = assisted w n x s most

    spends_at : (t : Task) → SoundAssist p t → is_busy_at t ≡ true → WritesOf (IsWritten l (running p made t)) (asks l (running p made t)) → spent_in_task p t + drawn_by (asks l (running p made t)) found < 2 ^ 64 → Spends t
    spends_at Task.Idle s busy writes most = absurd (cc)
    spends_at Task.Left s busy writes most = absurd (cc)
    spends_at (Task.Load x) s busy writes most = plainly (Task.Load x) (λ a. a) writes (let step = load.step l x found in into_spent Task.Load (running p made (Task.Load x)) x.g x.d step.sets step.then (λ q y. refl))
    spends_at (Task.Store x) s busy writes most = plainly (Task.Store x) (λ a. a) writes
        (let step = store.step l p.local (register_of (running p made (Task.Store x)) x.g x.v) x found in into_spent Task.Store (keeping (running p made (Task.Store x)) (store.held_behind l p.local.held x.stage found)) x.g x.v step.sets step.then (λ q y. refl))
    spends_at (Task.Global x) s busy writes most = plainly (Task.Global x) (λ a. a) writes
        (let step = global.step l (register_of (running p made (Task.Global x)) x.g x.r) x found in into_spent Task.Global (keeping (running p made (Task.Global x)) (global.held_behind l p.local.held x.stage found)) x.g x.r step.sets step.then (λ q y. refl))
    spends_at (Task.Register x) s busy writes most = plainly (Task.Register x) (λ a. a) writes (let step = register.step (register_of (running p made (Task.Register x)) x.g (register.read_of x)) x in into_spent Task.Register (running p made (Task.Register x)) x.g x.d step.sets step.then (λ q y. refl))
    spends_at (Task.New x) s busy writes most = new_spends x.wanted x.stage s writes most
    spends_at (Task.Gc g x) s busy writes most = plainly (Task.Gc g x) (λ a. a) writes (gc_spent (running p made (Task.Gc g x)) g (wait.goes l (wait.waiting x p) found) (wait.gives l (wait.waiting x p) found) ∙ wait_spent l (wait.waiting x p) found)
    spends_at Task.Poll s busy writes most = plainly Task.Poll (λ a. a) writes (poll_then (running p made Task.Poll) (poll.goes l p found) (poll.gives l p found) ∙ poll_spent l p found)
    spends_at (Task.End g) s busy writes most = plainly (Task.End g) (λ a. a) writes refl
    spends_at (Task.Leave x) s busy writes most = plainly (Task.Leave x) (λ a. a) writes (leave_spent (running p made (Task.Leave x)) (leave.goes x found) (leave.gives x found))

-- The draws are those of an assist.
module _ (l : Layout) (pay : AssistsPay) (p : Polling) (made : List ℕ) where
  new_draws : (w : Wanted) (q : NewStage) → let m : Processor = running p made (Task.New (record { wanted = w; stage = q })) in WritesOf (IsWritten l m) (asks l m) → LeavesOrDraws (asks l m)
  new_draws w q writes = grind arith

  draws_at : (t : Task) → WritesOf (IsWritten l (running p made t)) (asks l (running p made t)) → LeavesOrDraws (asks l (running p made t))
  draws_at (Task.New x) writes = new_draws x.wanted x.stage writes
  draws_at Task.Idle writes = tt
  draws_at Task.Left writes = tt
  draws_at (Task.Load x) writes = leaves_bank l (running p made (Task.Load x)) (λ a. a) (asks l (running p made (Task.Load x))) writes
  draws_at (Task.Store x) writes = leaves_bank l (running p made (Task.Store x)) (λ a. a) (asks l (running p made (Task.Store x))) writes
  draws_at (Task.Global x) writes = leaves_bank l (running p made (Task.Global x)) (λ a. a) (asks l (running p made (Task.Global x))) writes
  draws_at (Task.Register x) writes = leaves_bank l (running p made (Task.Register x)) (λ a. a) (asks l (running p made (Task.Register x))) writes
  draws_at (Task.Gc g x) writes = leaves_bank l (running p made (Task.Gc g x)) (λ a. a) (asks l (running p made (Task.Gc g x))) writes
  draws_at Task.Poll writes = leaves_bank l (running p made Task.Poll) (λ a. a) (asks l (running p made Task.Poll)) writes
  draws_at (Task.End g) writes = leaves_bank l (running p made (Task.End g)) (λ a. a) (asks l (running p made (Task.End g))) writes
  draws_at (Task.Leave x) writes = leaves_bank l (running p made (Task.Leave x)) (λ a. a) (asks l (running p made (Task.Leave x))) writes

marking_at_task : (p : Polling) (t : Task) → SoundAssist p t → IsAssisting t → marking_at p ≡ true
marking_at_task p t s is = grind arith

begun : (shapes : List Shape) (l : Layout) (m : Processor) (o : Op) → is_busy_at m.task ≡ false → SpentSo ((processor_kind shapes l).begins m o) (spent_of m)
begun shapes l m o rests = grind arith

pub processors_spend : AssistsPay → ProcessorWritesItsOwn → ProcessorsSpend
processors_spend pay own = record {
  at_first = λ seat. refl;
  begins = begun;
  spends = λ l shapes m found s busy most. (spends_at l shapes m.poll m.made found pay m.task s.assist busy (own.writes l m s) most).spends;
  draws = λ l m s busy. draws_at l pay m.poll m.made m.task (own.writes l m s);
  marking = λ l m s is. marking_at_task m.poll m.task s.assist is;
}
