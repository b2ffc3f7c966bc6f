-- Which actor is at which seat after every list, and what an entry makes of it.
use Rattle.std.proofs.Common.{◌≡◌, ℕ, ◌<◌, ◌≤◌, Bool, false, cond, ◌==◌, refl, arith, List, [], ◌∷◌, Option}
use Rattle.gh_lists.specs.Vocabulary.{acks_of, Actor, Entry, Kind, Layout, Op, Processor, processor_kind, started, state_of}
use Rattle.gh_coord.specs.Listing as coord
use Rattle.gh_worker.specs.Listing as worker
use Rattle.gh_lists.specs.Handshake.{actors, start, actor_takes, Setup}

-- processors, then workers, then the coordinator
abbrev pub IsSeated : Layout → (a : ℕ) → Actor → Type 0
IsSeated l a (Actor.Runs m) = a < l.procs
IsSeated l a (Actor.Marks w) = (l.procs ≤ a) × (a < acks_of l)
IsSeated l a (Actor.Leads c) = acks_of l ≤ a

module _ (setup : Setup) where
  abbrev k : Kind Processor Op
  k = processor_kind setup.shapes setup.layout

  abbrev all : Kind Actor Op
  all = actors setup

  -- what is begun, by each kind of actor
  pub run_started : (o : Option Op) (m : Processor) → started all o (Actor.Runs m) ≡ Actor.Runs (started k o m)
  run_started o m = grind arith

  pub worker_started : (o : Option Op) (w : worker.Working) → started all o (Actor.Marks w) ≡ Actor.Marks w
  worker_started o w = grind arith

  pub lead_started : (o : Option Op) (c : coord.Coordinating) → started all o (Actor.Leads c) ≡ Actor.Leads c
  lead_started o c = grind arith

  first : (a : ℕ) → IsSeated setup.layout a (start setup.layout setup.pacing a)
  first a = grind arith

  begun : (a : ℕ) (o : Option Op) (m : Actor) → IsSeated setup.layout a m → IsSeated setup.layout a (started all o m)
  begun a o m s = grind arith

  taken : (a found : ℕ) (m : Actor) → IsSeated setup.layout a m → IsSeated setup.layout a (actor_takes setup.shapes setup.layout m found)
  taken a found (Actor.Runs m) s = s
  taken a found (Actor.Marks w) s = s
  taken a found (Actor.Leads c) s = s

  abbrev state : List (Entry Op) → ℕ → Actor
  state es a = state_of all a es

  next : (e : Entry Op) (a : ℕ) (m : Actor) (b : Bool) → IsSeated setup.layout a m → IsSeated setup.layout a (cond b (actor_takes setup.shapes setup.layout (started all e.begun m) e.found) m)
  next e a m b s = grind (arith, begun, taken)

  pub seated : (es : List (Entry Op)) (a : ℕ) → IsSeated setup.layout a (state es a)
  seated [] a = first a
  seated (e ∷ es) a = next e a (state es a) (e.actor == a) (seated es a)

  -- one entry more
  module _ (e : Entry Op) (es : List (Entry Op)) where
    pub other : (a : ℕ) → (e.actor == a) ≡ false → state (e ∷ es) a ≡ state es a
    other a x = rw x refl

    pub runs : (m : Processor) → state es e.actor ≡ Actor.Runs m → state (e ∷ es) e.actor ≡ Actor.Runs (k.takes (started k e.begun m) e.found)
    runs m is = grind arith

    pub works : (w : worker.Working) → state es e.actor ≡ Actor.Marks w → state (e ∷ es) e.actor ≡ Actor.Marks (worker.goes setup.layout w e.found)
    works w is = grind arith

    pub leads : (c : coord.Coordinating) → state es e.actor ≡ Actor.Leads c → state (e ∷ es) e.actor ≡ Actor.Leads (coord.goes setup.layout c e.found)
    leads c is = grind arith
