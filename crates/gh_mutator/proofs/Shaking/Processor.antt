-- Each step of the whole processor is one of the handshake of a stop: by its tasks.
use Rattle.std.proofs.Common.{◌≡◌, ℕ, Bool, true, false, cond, List, refl, ap, ◌∙◌, Option, Some, None, arith, is_none}
use Rattle.std.proofs.lemmas.List.{length-set}
use Rattle.gh_mutator.proofs.Vocabulary.{Acts, after_assist, after_gc, after_leave, after_place, after_poll, after_search, after_wait, applied, asks_at, Assist, Assisting, Awake, begins, cache_span, cache_with, CachedSpan, Ends, follows, Found, GoesOn, has_left_at, is_busy_at, IsQuietInHandshake, keeping, Large, Layout, LeavesOn, Leaving, makes, MarkingIsQuiet, Name, NewStage, Op, party_at, party_of, Place, PlaceBegins, Placing, Polling, Processor, ProcessorInHandshake, ProcessorIsQuiet, register_of, Search, Seeking, Shape, Small, Sought, SoundAt, SoundPlace, span_index, stage_at, StageGoes, Step, takes, takes_at, Task, Then, Value, Wait, Waiting, WaitState, Want, Wanted}
use Rattle.gh_alloc.specs.Search as search
use Rattle.gh_alloc.specs.Place as place
use Rattle.gh_assist.specs.Listing as assist
use Rattle.gh_mutator.specs.Global as global
use Rattle.gh_poll.specs.Handshake.{HasPlaces, knower, LeavesInHandshake, PollsInHandshake, PollsOn, SoundWait, wait_stage_of, waiter_of, WaitsInHandshake}
use Rattle.gh_poll.specs.Leave as leave
use Rattle.gh_mutator.specs.Load as load
use Rattle.gh_poll.specs.Poll as poll
use Rattle.gh_mutator.specs.ProcessorPlaces.{stage_of}
use Rattle.gh_mutator.specs.Register as register
use Rattle.gh_mutator.specs.Store as store
use Rattle.gh_poll.specs.Wait as wait
use Rattle.gh_mutator.proofs.Shaking.Acknowledging.{acks}

-- a step at this task leads here
record Goes (l : Layout) (found : ℕ) (m : Processor) (t : Task) (to : Processor) : Type 0 where
  sound : SoundPlace to
  goes : StageGoes found (party_at m.poll t) (stage_at m.poll t) (asks_at l m t) (party_of to) (stage_of to)

-- it is awake there, of the same seat, and knows the same of the phase
record Lands (m to : Processor) : Type 0 where
  sound : SoundPlace to
  party : party_of to ≡ knower m.poll
  stage : stage_of to ≡ Awake

awake : (l : Layout) (found : ℕ) (m : Processor) (t : Task) (to : Processor) → party_at m.poll t ≡ knower m.poll → stage_at m.poll t ≡ Awake → IsQuietInHandshake (asks_at l m t) → Lands m to → Goes l found m t to
awake l found m t to party stage quiet x = record { sound = x.sound; goes = rw (party, stage, x.party, x.stage) (refl, quiet, tt) }

-- at this task a processor is awake, whatever it has polled
record Plain (t : Task) : Type 0 where
  sound : (p : Polling) → SoundAt p t
  party : (p : Polling) → party_at p t ≡ knower p
  stage : (p : Polling) → stage_at p t ≡ Awake

idle_plain : Plain Task.Idle
idle_plain = record { sound = λ p. tt; party = λ p. refl; stage = λ p. refl }

lands : (m to : Processor) → HasPlaces to.poll.local.cache → knower to.poll ≡ knower m.poll → Plain to.task → Lands m to
lands m to has same plain = record { sound = (has, plain.sound to.poll); party = plain.party to.poll ∙ same; stage = plain.stage to.poll }

-- a statement's step, behind which another buffer may be held
applied_lands : {S : Type 0} (into : S → Task) (m n : Processor) (g d : ℕ) (step : Step S) → HasPlaces n.poll.local.cache → knower n.poll ≡ knower m.poll → ((y : S) → Plain (into y)) → Lands m (applied into n g d step)
applied_lands {S} into m n g d step has same plain = by step.sets step.then where
  follows_plain : (then : Then S) → Plain (follows into then)
  follows_plain (GoesOn y) = plain y
  follows_plain (Ends a) = idle_plain

  by : (sets : Option Value) (then : Then S) → Lands m (applied into n g d (record { then = then; sets = sets; acts = step.acts }))
  by None then = lands m _ has same (follows_plain then)
  by (Some v) then = lands m _ has same (follows_plain then)

load_plain : (x : _) → Plain (Task.Load x)
load_plain x = record { sound = λ p. tt; party = λ p. refl; stage = λ p. refl }

store_plain : (x : _) → Plain (Task.Store x)
store_plain x = record { sound = λ p. tt; party = λ p. refl; stage = λ p. refl }

global_plain : (x : _) → Plain (Task.Global x)
global_plain x = record { sound = λ p. tt; party = λ p. refl; stage = λ p. refl }

register_plain : (x : _) → Plain (Task.Register x)
register_plain x = record { sound = λ p. tt; party = λ p. refl; stage = λ p. refl }

search_plain : (w : Wanted) (waited : Bool) (s : Seeking) → Plain (Task.New (record { wanted = w; stage = Search waited s }))
search_plain w waited s = record { sound = λ p. tt; party = λ p. refl; stage = λ p. refl }

make_plain : (w : Wanted) (p : Placing) → Plain (makes w p)
make_plain w p = record { sound = λ q. tt; party = λ q. refl; stage = λ q. refl }

assist_lands : (m : Processor) (w : Wanted) (n : Name) (x : Assisting) (out : Option (Unit {0})) → HasPlaces m.poll.local.cache → Lands m (after_assist m w n x out)
assist_lands m w n x out has = grind arith

-- a new object
recached : (cache : List (Option CachedSpan)) (x : Sought) (c : Option CachedSpan) → HasPlaces cache → HasPlaces (cache_with cache x c)
recached cache (Small k) c has = length-set cache (span_index k) c ∙ has
recached cache (Large pages noscan) c has = has

search_lands : (shapes : List Shape) (m : Processor) (w : Wanted) (waited : Bool) (s : Seeking) (c : Option CachedSpan) (out : Option Found) → HasPlaces m.poll.local.cache → Lands m (after_search shapes (cache_span m w.sought c) w waited s out)
search_lands shapes m w waited s c out has = grind (arith, idle_plain, lands, make_plain, recached, search_plain)

place_lands : (m : Processor) (w : Wanted) (made : Bool) (a : ℕ) (p : Placing) → HasPlaces m.poll.local.cache → Lands m (after_place m w made a p)
place_lands m w made a p has = record { sound = grind arith; party = grind arith; stage = grind arith }

module _ (l : Layout) (q : ProcessorIsQuiet) (k : MarkingIsQuiet) (h : PollsInHandshake) (v : WaitsInHandshake) (e : LeavesInHandshake) where
  -- what a step of a wait leaves, where it has ended
  record Woken (found : ℕ) (x y : Waiting) : Type 0 where
    has : HasPlaces y.poll.local.cache
    goes : StageGoes found (waiter_of x) (wait_stage_of x) (wait.asks x) (knower y.poll) Awake

  wakes : (found : ℕ) (x : Waiting) → SoundWait x → wait.is_busy x.wait.stage ≡ true → (u : Unit {0}) → wait.gives l x found ≡ Some u → Woken found x (wait.goes l x found)
  wakes found x s busy u e =
      let last = v.ends (wait.goes l x found) (ap is_none e) in
      record { has = ((v.keeps l).stays_sound x found s busy).0; goes = rw (← last.0, ← last.1) ((v.keeps l).goes x found s busy) }

  gc_goes : (found : ℕ) (m : Processor) (g : ℕ) (x : WaitState) → SoundWait (wait.waiting x m.poll) → wait.is_busy x.stage ≡ true → (out : Option (Unit {0})) → wait.gives l (wait.waiting x m.poll) found ≡ out →
      Goes l found m (Task.Gc g x) (after_gc m g (wait.goes l (wait.waiting x m.poll) found) out)
  gc_goes found m g x s busy None e = let t = (v.keeps l).stays_sound (wait.waiting x m.poll) found s busy in record { sound = (t.0, (t, ap is_none e)); goes = (v.keeps l).goes (wait.waiting x m.poll) found s busy }
  gc_goes found m g x s busy (Some u) e = let woken = wakes found (wait.waiting x m.poll) s busy u e in record { sound = (woken.has, tt); goes = woken.goes }

  wait_goes : (found : ℕ) (m : Processor) (w : Wanted) (x : WaitState) → SoundWait (wait.waiting x m.poll) → wait.is_busy x.stage ≡ true → (out : Option (Unit {0})) → wait.gives l (wait.waiting x m.poll) found ≡ out →
      Goes l found m (Task.New (record { wanted = w; stage = Wait x })) (after_wait m w (wait.goes l (wait.waiting x m.poll) found) out)
  wait_goes found m w x s busy None e = let t = (v.keeps l).stays_sound (wait.waiting x m.poll) found s busy in record { sound = (t.0, (t, ap is_none e)); goes = (v.keeps l).goes (wait.waiting x m.poll) found s busy }
  wait_goes found m w x s busy (Some u) e = let woken = wakes found (wait.waiting x m.poll) s busy u e in record { sound = (woken.has, tt); goes = woken.goes }

  poll_goes : (found : ℕ) (m : Processor) → PollsOn m.poll → (out : Option (Unit {0})) → poll.gives l m.poll found ≡ out → Goes l found m Task.Poll (after_poll m (poll.goes l m.poll found) out)
  poll_goes found m s None e = let t = (h.keeps l).stays_sound m.poll found s.sound s.busy in record { sound = (t.0, record { busy = ap is_none e; sound = t }); goes = (h.keeps l).goes m.poll found s.sound s.busy }
  poll_goes found m s (Some u) e = let last = h.ends (poll.goes l m.poll found) (ap is_none e) in record { sound = (((h.keeps l).stays_sound m.poll found s.sound s.busy).0, tt); goes = rw (← last.0, ← last.1) ((h.keeps l).goes m.poll found s.sound s.busy) }

  leave_goes : (found : ℕ) (m : Processor) (x : Leaving) → HasPlaces m.poll.local.cache → LeavesOn m.poll x → (out : Option (Unit {0})) → leave.gives x found ≡ out → Goes l found m (Task.Leave x) (after_leave m (leave.goes x found) out)
  leave_goes found m x has s out e = grind arith

  module _ (shapes : List Shape) where
    new_goes : (found : ℕ) (m : Processor) (w : Wanted) (s : NewStage) → HasPlaces m.poll.local.cache → SoundAt m.poll (Task.New (record { wanted = w; stage = s })) → Goes l found m (Task.New (record { wanted = w; stage = s })) (takes_at l shapes m (Task.New (record { wanted = w; stage = s })) found)
    new_goes found m w (Search waited s) has sound = awake l found m _ _ refl refl (q.searches l s) (search_lands shapes m w waited (search.goes l s found) (search.goes l s found).find.cached (search.gives l s found) has)
    new_goes found m w (Wait x) has sound = wait_goes found m w x sound.0 sound.1 (wait.gives l (wait.waiting x m.poll) found) refl
    new_goes found m w (Want n) has sound = awake l found m _ _ refl refl tt (lands m _ has refl idle_plain)
    new_goes found m w (Assist n x) has sound = awake l found m _ _ refl refl (q.assists l x) (assist_lands m w n (assist.goes l x found) (assist.gives l x found) has)
    new_goes found m w (Place p) has sound = awake l found m _ _ refl refl (q.makes l p) (place_lands m w (place.makes_its_object p) p.at (place.goes p found) has)

    goes_at : (found : ℕ) (m : Processor) (t : Task) → HasPlaces m.poll.local.cache → SoundAt m.poll t → is_busy_at t ≡ true → Goes l found m t (takes_at l shapes m t found)
    goes_at found m Task.Idle has s busy = absurd cc
    goes_at found m Task.Left has s busy = absurd cc
    goes_at found m (Task.Load x) has s busy = awake l found m _ _ refl refl (q.loads l x) (applied_lands Task.Load m m x.g x.d (load.step l x found) has refl load_plain)
    goes_at found m (Task.Store x) has s busy = awake l found m _ _ refl refl (q.stores l (register_of m x.g x.v) x) (applied_lands Task.Store m (keeping m (store.held_behind l m.poll.local.held x.stage found)) x.g x.v (store.step l m.poll.local (register_of m x.g x.v) x found) has refl store_plain)
    goes_at found m (Task.Global x) has s busy = awake l found m _ _ refl refl (q.globals l (register_of m x.g x.r) x) (applied_lands Task.Global m (keeping m (global.held_behind l m.poll.local.held x.stage found)) x.g x.r (global.step l (register_of m x.g x.r) x found) has refl global_plain)
    goes_at found m (Task.Register x) has s busy = awake l found m _ _ refl refl (q.registers x) (applied_lands Task.Register m m x.g x.d (register.step (register_of m x.g (register.read_of x)) x) has refl register_plain)
    goes_at found m (Task.New x) has s busy = new_goes found m x.wanted x.stage has s
    goes_at found m (Task.Gc g x) has s busy = gc_goes found m g x s.0 s.1 (wait.gives l (wait.waiting x m.poll) found) refl
    goes_at found m Task.Poll has s busy = poll_goes found m s (poll.gives l m.poll found) refl
    goes_at found m (Task.End g) has s busy = awake l found m _ _ refl refl tt (lands m _ has refl idle_plain)
    goes_at found m (Task.Leave x) has s busy = leave_goes found m x has s (leave.gives x found) refl

    goes_on : (m : Processor) (found : ℕ) → SoundPlace m → is_busy_at m.task ≡ true → Goes l found m m.task (takes l shapes m found)
    goes_on m found s busy = grind (arith, goes_at)

-- one that has left begins nothing
record BegunFrom (m to : Processor) : Type 0 where
  sound : SoundPlace to
  begins : PlaceBegins (Acts (party_of m) (stage_of m)) (Acts (party_of to) (stage_of to))

begins_from : (shapes : List Shape) (m : Processor) (o : Op) → SoundPlace m → is_busy_at m.task ≡ false → (left : Bool) → has_left_at m.task ≡ left → BegunFrom m (cond left m (begins shapes m o))
begins_from shapes m o s rests left e = grind arith

pub processor_in_handshake : ProcessorIsQuiet → MarkingIsQuiet → PollsInHandshake → WaitsInHandshake → LeavesInHandshake → ProcessorInHandshake
processor_in_handshake q k h v e = record {
  first = λ seat. refl;
  awake = λ seat. refl;
  sound_first = λ seat. (refl, tt);
  sound_begins = λ shapes z m o s rests. (begins_from shapes m o s rests (has_left_at m.task) refl).sound;
  sound_takes = λ l shapes m found s busy. (goes_on l q k h v e shapes m found s busy).sound;
  begins_so = λ shapes z m o s rests. (begins_from shapes m o s rests (has_left_at m.task) refl).begins;
  takes_so = λ l shapes m found s busy. (goes_on l q k h v e shapes m found s busy).goes;
  acknowledges = λ l m i number s is. acks l q k i number m m.task s.1 is;
}
