-- What a step of a whole processor leaves: its heap, its seat, what it knows of the stack that it scans, and the notes.
use Rattle.std.proofs.Common.{ℕ, Bool, true, false, cond, ltb, List, Option, Some, None, refl, arith}
use Rattle.gh_mutator_writes.proofs.Vocabulary.{after_assist, after_gc, after_poll, asks_at, Assist, Assisting, AssistsAreQuiet, begun_with, cache_span, CachedSpan, Found, Held, keeping, Layout, Leaving, Name, NewStage, Op, Place, Placing, Polling, Processor, register_of, Search, Seeking, Shape, SoundScanAt, takes_at, taking, Task, Value, Wait, Waiting, WaitStage, WaitState, Want, Wanted, with_ended, WritesOf}
use Rattle.gh_alloc.specs.Place as place
use Rattle.gh_alloc.specs.Search as search
use Rattle.gh_assist.specs.Listing as assist
use Rattle.gh_mutator.specs.Global as global
use Rattle.gh_poll.specs.Leave as leave
use Rattle.gh_mutator.specs.Load as load
use Rattle.gh_mutator.specs.New as new
use Rattle.gh_poll.specs.Poll as poll
use Rattle.gh_mutator.specs.Register as register
use Rattle.gh_mutator.specs.Store as store
use Rattle.gh_poll.specs.Wait as wait
use Rattle.gh_mutator_writes.proofs.Writing.Polls.{carried, ended_noted, Goes, goes_by, heap_not, marking_not, NotStack, poll_goes, Stays, stays_so, told_noted}
use Rattle.gh_mutator_writes.proofs.Writing.Routines.{global_writes, load_writes, store_writes}
use Rattle.gh_mutator_writes.proofs.Writing.Rows.{assist_writes, place_writes}

-- a register takes a value
taking_stays : (l : Layout) (m : Processor) (g d : ℕ) (v : Option Value) → SoundScanAt l m.poll m.poll.stage → Stays l m.poll (taking m g d v).poll
taking_stays l m g d v s = grind arith

-- and another buffer is held
kept_stays : (l : Layout) (m : Processor) (g d : ℕ) (held : Option Held) (v : Option Value) → SoundScanAt l m.poll m.poll.stage → Stays l m.poll (taking (keeping m held) g d v).poll
kept_stays l m g d held v s = grind arith

-- a new object
search_not : (l : Layout) (s : Seeking) → WritesOf NotStack (search.asks l s)
search_not l s = grind arith

found_stays : (l : Layout) (shapes : List Shape) (m : Processor) (w : Wanted) (waited : Bool) (c : Option CachedSpan) (s : Seeking) (out : Option Found) → SoundScanAt l m.poll m.poll.stage → Stays l m.poll (new.after_search shapes (cache_span m w.sought c) w waited s out).poll
found_stays l shapes m w waited c s out scan = grind arith

made_stays : (l : Layout) (m : Processor) (w : Wanted) (made : Bool) (a : ℕ) (y : Placing) → SoundScanAt l m.poll m.poll.stage → Stays l m.poll (new.after_place m w made a y).poll
made_stays l m w made a y s = grind arith

assist_stays : (l : Layout) (m : Processor) (w : Wanted) (n : Name) (x : Assisting) (out : Option (Unit {0})) → SoundScanAt l m.poll m.poll.stage → Stays l m.poll (after_assist m w n x out).poll
assist_stays l m w n x out s = grind arith

-- a wait
wait_goes : (l : Layout) (w : Waiting) (q : WaitStage) (found : ℕ) → SoundScanAt l w.poll w.poll.stage → Goes l (wait.asks_at w q) w.poll (wait.goes_at l w q found).poll
wait_goes l w WaitStage.Want found s = goes_by l _ w.poll _ tt (record { seat = refl; scanned = refl; scan = tt })
wait_goes l w WaitStage.Polling found s = polled (poll.goes l w.poll found) (poll.gives l w.poll found) (poll_goes l w.poll w.poll.stage found s) where
  polled : (p : Polling) (out : Option (Unit {0})) → Goes l (poll.asks w.poll) w.poll p → Goes l (poll.asks w.poll) w.poll (wait.after_poll w p out).poll
  polled p None g = g
  polled p (Some u) g = g
wait_goes l w WaitStage.LoadSwept found s = by (ltb w.wait.known found) where
  by : (later : Bool) → Goes l (wait.asks_at w WaitStage.LoadSwept) w.poll (cond later (wait.at_stage w WaitStage.Ended) (wait.polling w)).poll
  by true = goes_by l _ w.poll _ tt (stays_so l w.poll s)
  by false = goes_by l _ w.poll _ tt (record { seat = refl; scanned = refl; scan = tt })
wait_goes l w WaitStage.Ended found s = goes_by l _ w.poll _ tt (record { seat = refl; scanned = refl; scan = tt })

module _ (l : Layout) (k : AssistsAreQuiet) (shapes : List Shape) (m : Processor) (found : ℕ) (s : SoundScanAt l m.poll m.poll.stage) where
  gc_goes : (g : ℕ) (x : WaitState) → Goes l (asks_at l m (Task.Gc g x)) m.poll (takes_at l shapes m (Task.Gc g x) found).poll
  gc_goes g x = by (wait.gives l (wait.waiting x m.poll) found) where
    by : (out : Option (Unit {0})) → Goes l (wait.asks (wait.waiting x m.poll)) m.poll (after_gc m g (wait.goes l (wait.waiting x m.poll) found) out).poll
    by None = wait_goes l (wait.waiting x m.poll) x.stage found s
    by (Some u) = wait_goes l (wait.waiting x m.poll) x.stage found s

  new_waits : (n : Wanted) (x : WaitState) → Goes l (wait.asks (wait.waiting x m.poll)) m.poll (new.takes_at l shapes m n (Wait x) found).poll
  new_waits n x = by (wait.gives l (wait.waiting x m.poll) found) where
    by : (out : Option (Unit {0})) → Goes l (wait.asks (wait.waiting x m.poll)) m.poll (new.after_wait m n (wait.goes l (wait.waiting x m.poll) found) out).poll
    by None = wait_goes l (wait.waiting x m.poll) x.stage found s
    by (Some u) = wait_goes l (wait.waiting x m.poll) x.stage found s

  new_goes : (n : Wanted) (q : NewStage) → Goes l (new.asks_at l m q) m.poll (new.takes_at l shapes m n q found).poll
  new_goes n (Search waited y) = goes_by l _ m.poll _ (search_not l y) (found_stays l shapes m n waited (search.goes l y found).find.cached (search.goes l y found) (search.gives l y found) s)
  new_goes n (Wait x) = new_waits n x
  new_goes n (Place y) = goes_by l _ m.poll _ (place_writes NotStack heap_not l y (λ e. tt) (λ e. tt)) (made_stays l m n (place.makes_its_object y) y.at (place.goes y found) s)
  new_goes n (Want u) = goes_by l _ m.poll _ tt (stays_so l m.poll s)
  new_goes n (Assist u y) = goes_by l _ m.poll _ (assist_writes NotStack marking_not (assist.asks l y) (λ old new e. tt) (k.writes l y)) (assist_stays l m n u (assist.goes l y found) (assist.gives l y found) s)

  polls : Goes l (poll.asks m.poll) m.poll (takes_at l shapes m Task.Poll found).poll
  polls = by (poll.gives l m.poll found) where
    by : (out : Option (Unit {0})) → Goes l (poll.asks m.poll) m.poll (after_poll m (poll.goes l m.poll found) out).poll
    by None = poll_goes l m.poll m.poll.stage found s
    by (Some u) = poll_goes l m.poll m.poll.stage found s

  leaves : (x : Leaving) → Goes l (leave.asks x) m.poll (takes_at l shapes m (Task.Leave x) found).poll
  leaves x = grind arith

  ends : (g : ℕ) → Goes l (asks_at l m (Task.End g)) m.poll (takes_at l shapes m (Task.End g) found).poll
  ends g = record { seat = refl; noted = told_noted g _ m.poll.local.scanned; scan = carried l m.poll (with_ended m.poll g).local refl (λ h. ended_noted m.poll.local.scanned g h) m.poll.stage s }

  pub goes_at : (t : Task) → Goes l (asks_at l m t) m.poll (takes_at l shapes m t found).poll
  goes_at Task.Idle = goes_by l _ m.poll _ tt (stays_so l m.poll s)
  goes_at Task.Left = goes_by l _ m.poll _ tt (stays_so l m.poll s)
  goes_at (Task.Load x) = goes_by l _ m.poll _ (load_writes NotStack heap_not l x) (taking_stays l m x.g x.d (load.step l x found).sets s)
  goes_at (Task.Store x) = goes_by l _ m.poll _ (store_writes NotStack heap_not l (register_of m x.g x.v) x (λ w e. marking_not)) (kept_stays l m x.g x.v (store.held_behind l m.poll.local.held x.stage found) (store.step l m.poll.local (register_of m x.g x.v) x found).sets s)
  goes_at (Task.Global x) = goes_by l _ m.poll _ (global_writes NotStack heap_not l (register_of m x.g x.r) x (λ w e. marking_not)) (kept_stays l m x.g x.r (global.held_behind l m.poll.local.held x.stage found) (global.step l (register_of m x.g x.r) x found).sets s)
  goes_at (Task.Register x) = goes_by l _ m.poll _ tt (taking_stays l m x.g x.d (register.step (register_of m x.g (register.read_of x)) x).sets s)
  goes_at (Task.New x) = new_goes x.wanted x.stage
  goes_at (Task.Gc g x) = gc_goes g x
  goes_at Task.Poll = polls
  goes_at (Task.End g) = ends g
  goes_at (Task.Leave x) = leaves x

-- what is begun
pub begun_stays : (l : Layout) (p : Polling) (o : Op) → SoundScanAt l p p.stage → Stays l p (begun_with p o)
begun_stays l p o s = grind arith
