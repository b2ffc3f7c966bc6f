-- What an entry of a legal list is: a step of a processor, of a worker, or of the coordinator.
use Rattle.std.proofs.Common.{◌≡◌, ℕ, ◌+◌, ◌<◌, ◌≤◌, ◌==◌, Bool, true, false, refl, sym, ap, subst, ◌∙◌, arith, List, [], ◌∷◌, Option, Some, None}
use Rattle.gh_lists.specs.Vocabulary.{acks_of, Actor, Ask, Begins, cell_of, Entry, IsSound, Kind, Legal, nat_tests, Op, Processor, processor_kind, ProcessorWritesItsOwn, Setting, started, state_of, Words, words_after}
use Rattle.gh_coord.specs.Handshake as leading
use Rattle.gh_coord.specs.Listing as coord
use Rattle.gh_worker.specs.Handshake as working
use Rattle.gh_worker.specs.Listing as worker
use Rattle.gh_lists.specs.Handshake.{asks, is_busy, KeepsIt, Sound, those, Setup}
use Rattle.gh_lists.specs.Seats.{IsSeated, lead_started, leads, other, run_started, runs, seated, worker_started, works}

module _ (setup : Setup) where
  abbrev k : Kind Processor Op
  k = processor_kind setup.shapes setup.layout

  abbrev pub n : ℕ
  n = acks_of setup.layout

  abbrev pub it : Setting Actor Op
  it = those setup

  abbrev pub at : List (Entry Op) → ℕ → Actor
  at es a = state_of it.kind a es

  abbrev pub words : List (Entry Op) → Words
  words es = words_after it.opening es

  -- before the first step
  pub first_lead : (c : coord.Coordinating) → at [] n ≡ Actor.Leads c → c ≡ coord.opening setup.layout n setup.pacing.gogc setup.pacing.minheap setup.pacing.room
  first_lead c led = grind arith

  -- who is at the coordinator's seat
  pub record LedBy (es : List (Entry Op)) : Type 0 where
    pub lead : coord.Coordinating
    pub led_by : at es n ≡ Actor.Leads lead

  pub led_by : (es : List (Entry Op)) → LedBy es
  led_by es = go (at es n) refl where
    go : (m : Actor) → at es n ≡ m → LedBy es
    go (Actor.Leads c) is = record { lead = c; led_by = is }
    go (Actor.Runs m) is = absurd (let lt : n < setup.layout.procs = subst (IsSeated setup.layout n) is (seated setup es n) in omega (arith, lt))
    go (Actor.Marks w) is = absurd (let lt : n < n = (subst (IsSeated setup.layout n) is (seated setup es n)).1 in omega (arith, lt))

  pub worker_seat : (es : List (Entry Op)) (a : ℕ) (w : worker.Working) → at es a ≡ Actor.Marks w → a < n
  worker_seat es a w is = (subst (IsSeated setup.layout a) is (seated setup es a)).1

  module _ (e : Entry Op) (es : List (Entry Op)) where
    -- a processor's, which may have begun an operation
    pub record RunsIt (m : Processor) : Type 0 where
      pub is : at es e.actor ≡ Actor.Runs m
      pub seat : e.actor < setup.layout.procs
      pub then : at (e ∷ es) e.actor ≡ Actor.Runs (k.takes (started k e.begun m) e.found)
      pub sound_it : IsSound setup.layout m
      pub sound_then : IsSound setup.layout (started k e.begun m)
      pub busy : k.busy (started k e.begun m) ≡ true
      pub asked : e.ask ≡ k.asks (started k e.begun m)

    pub record WorksIt (w : worker.Working) : Type 0 where
      pub is : at es e.actor ≡ Actor.Marks w
      pub from : setup.layout.procs ≤ e.actor
      pub seat : e.actor < n
      pub then : at (e ∷ es) e.actor ≡ Actor.Marks (worker.goes setup.layout w e.found)
      pub sound_it : working.Sound w
      pub busy : worker.is_busy w.stage ≡ true
      pub asked : e.ask ≡ worker.asks setup.layout w

    pub record LeadsIt (c : coord.Coordinating) : Type 0 where
      pub is : at es n ≡ Actor.Leads c
      pub seat : e.actor ≡ n
      pub then : at (e ∷ es) n ≡ Actor.Leads (coord.goes setup.layout c e.found)
      pub sound_it : leading.Sound c
      pub busy : coord.is_busy c.stage ≡ true
      pub asked : e.ask ≡ coord.asks setup.layout c
      pub found : e.found ≡ words es (cell_of (coord.asks setup.layout c))

    pub data Step : Type 0 where
      by_processor : (m : Processor) → RunsIt m → at (e ∷ es) n ≡ at es n → Step
      by_worker : (w : worker.Working) → WorksIt w → at (e ∷ es) n ≡ at es n → Step
      by_lead : (c : coord.Coordinating) → LeadsIt c → Step

    -- what the worker at a seat and the coordinator were: they have made the step, or were so before it
    pub data WorkerWas (a : ℕ) (w : worker.Working) : Type 0 where
      worker_stepped : (v : worker.Working) → WorksIt v → w ≡ worker.goes setup.layout v e.found → WorkerWas a w
      worker_stayed : at es a ≡ Actor.Marks w → WorkerWas a w

    pub worker_was : Step → (a : ℕ) (w : worker.Working) → at (e ∷ es) a ≡ Actor.Marks w → WorkerWas a w
    worker_was step a w is = go (e.actor == a) refl step where
      here : (e.actor == a) ≡ true → at (e ∷ es) e.actor ≡ Actor.Marks w
      here own = let end : e.actor ≡ a = grind (arith, nat_tests, own) in ap (at (e ∷ es)) end ∙ is

      go : (b : Bool) → (e.actor == a) ≡ b → Step → WorkerWas a w
      go false apart s = worker_stayed (sym (other setup e es a apart) ∙ is)
      go true own (by_worker v x stays) = worker_stepped v x (let both : Actor.Marks w ≡ Actor.Marks (worker.goes setup.layout v e.found) = sym (here own) ∙ x.then in cc)
      go true own (by_processor m x stays) = absurd (let both = sym (here own) ∙ x.then in cc)
      go true own (by_lead c x) = absurd (let both = sym (here own) ∙ ap (at (e ∷ es)) x.seat ∙ x.then in cc)

    pub data LeadWas (c : coord.Coordinating) : Type 0 where
      lead_stepped : (b : coord.Coordinating) → LeadsIt b → c ≡ coord.goes setup.layout b e.found → LeadWas c
      lead_stayed : at es n ≡ Actor.Leads c → LeadWas c

    pub lead_was : Step → (c : coord.Coordinating) → at (e ∷ es) n ≡ Actor.Leads c → LeadWas c
    lead_was (by_processor m x stays) c is = lead_stayed (sym stays ∙ is)
    lead_was (by_worker w x stays) c is = lead_stayed (sym stays ∙ is)
    lead_was (by_lead b x) c is = lead_stepped b x (let both : Actor.Leads c ≡ Actor.Leads (coord.goes setup.layout b e.found) = sym is ∙ x.then in cc)

    module _ (writes : ProcessorWritesItsOwn) (legal : Legal it (e ∷ es)) (all_sound : (a : ℕ) → a < n + 1 → Sound setup.layout (at es a)) where
      abbrev begun : Actor
      begun = started it.kind e.begun (at es e.actor)

      within : e.actor < n + 1
      within = legal.1.actor

      sound_of : (m : Actor) → at es e.actor ≡ m → Sound setup.layout m
      sound_of m is = subst (Sound setup.layout) is (all_sound e.actor within)

      seat_of : (m : Actor) → at es e.actor ≡ m → IsSeated setup.layout e.actor m
      seat_of m is = subst (IsSeated setup.layout e.actor) is (seated setup es e.actor)

      busy_of : (m : Actor) → begun ≡ m → is_busy m ≡ true
      busy_of m is = sym (ap is_busy is) ∙ legal.1.runs

      asked_of : (m : Actor) → begun ≡ m → e.ask ≡ asks setup.layout m
      asked_of m is = legal.1.asks ∙ ap (asks setup.layout) is

      sound_begun : (m : Processor) (o : Option Op) → at es e.actor ≡ Actor.Runs m → Begins it e.actor es o → IsSound setup.layout m → IsSound setup.layout (started k o m)
      sound_begun m None is b s = s
      sound_begun m (Some o) is b s = writes.sound_begins setup.shapes setup.layout m o s (sym (ap is_busy is) ∙ b.0)

      stays : e.actor < n → at (e ∷ es) n ≡ at es n
      stays lt = other setup e es n (grind (arith, nat_tests, lt))

      by : (m : Actor) → at es e.actor ≡ m → Step
      by (Actor.Runs m) is =
          let lt : e.actor < setup.layout.procs = seat_of (Actor.Runs m) is in
          let begun_is : begun ≡ Actor.Runs (started k e.begun m) = ap (started it.kind e.begun) is ∙ run_started setup e.begun m in
          by_processor m (record {
            is = is;
            seat = lt;
            then = runs setup e es m is;
            sound_it = sound_of (Actor.Runs m) is;
            sound_then = sound_begun m e.begun is legal.1.begins (sound_of (Actor.Runs m) is);
            busy = busy_of (Actor.Runs (started k e.begun m)) begun_is;
            asked = asked_of (Actor.Runs (started k e.begun m)) begun_is;
          }) (stays (omega (arith, lt)))
      by (Actor.Marks w) is =
          let lt : e.actor < n = (seat_of (Actor.Marks w) is).1 in
          let begun_is : begun ≡ Actor.Marks w = ap (started it.kind e.begun) is ∙ worker_started setup e.begun w in
          by_worker w (record {
            is = is;
            from = (seat_of (Actor.Marks w) is).0;
            seat = lt;
            then = works setup e es w is;
            sound_it = sound_of (Actor.Marks w) is;
            busy = busy_of (Actor.Marks w) begun_is;
            asked = asked_of (Actor.Marks w) begun_is;
          }) (stays lt)
      by (Actor.Leads c) is =
          let ge : n ≤ e.actor = seat_of (Actor.Leads c) is in
          let end : e.actor ≡ n = omega (arith, ge, within) in
          let begun_is : begun ≡ Actor.Leads c = ap (started it.kind e.begun) is ∙ lead_started setup e.begun c in
          let asked_it : e.ask ≡ coord.asks setup.layout c = asked_of (Actor.Leads c) begun_is in
          by_lead c (record {
            is = sym (ap (at es) end) ∙ is;
            seat = end;
            then = sym (ap (at (e ∷ es)) end) ∙ leads setup e es c is;
            sound_it = sound_of (Actor.Leads c) is;
            busy = busy_of (Actor.Leads c) begun_is;
            asked = asked_it;
            found = legal.1.found ∙ ap (λ (q : Ask). words es (cell_of q)) asked_it;
          })

      pub step_by : Step
      step_by = by (at es e.actor) refl

    pub step : ProcessorWritesItsOwn → Legal it (e ∷ es) → KeepsIt it es → Step
    step writes legal keeps = step_by writes legal keeps.shakes.all_sound
