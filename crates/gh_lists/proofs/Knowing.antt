-- What every legal list of processors, workers and a coordinator keeps of the handshake.
use Rattle.std.proofs.Common.{◌≡◌, ℕ, ◌<◌, ◌⊎◌, refl, sym, ap, subst, ◌∙◌, arith, inl, inr, List, [], ◌∷◌, ◌↔◌}
use Rattle.gh_lists.proofs.Vocabulary.{acks_of, Actor, Acts, Cell, Entry, FinishedStays, GONE, Gone, GoneStay, HandshakePlace, IsAwake, IsCurrent, IsExact, IsParked, IsSeated, it, KeepsIt, last_of, last_phase, Lead, Leads, Legal, Op, Party, party_of, place_of, Processor, RunPhase, seated, Setup, Shakes, Sound, Stage, stage_of, state, Stopped, WaitsWithNone, words}
use Rattle.gh_phase.specs.declared.resume.ResumeStage.TheVariants.{LoadPhase}
use Rattle.gh_phase.specs.Listing as resume
use Rattle.gh_phase.specs.ResumePlaces as resumes
use Rattle.gh_coord.specs.Handshake as leading
use Rattle.gh_coord.specs.Listing as coord
use Rattle.gh_worker.specs.Handshake as working
use Rattle.gh_worker.specs.Listing as worker
use Rattle.gh_phase.specs.declared.resume.ResumeStage.{ResumeStage}
use Rattle.gh_worker.specs.declared.worker.WorkerStage.{WorkerStage}
use Rattle.gh_lists.proofs.LastCycle.{Cited, Ends, follows, opens}

-- who is awake does not wait at a stop
awake_moves : (stops : ℕ) (s : Stage) → IsAwake s → IsParked stops s → ⊥
awake_moves stops s a p = grind arith

-- marking is known to be on exactly where it is the last phase
reads : (last known : RunPhase) → (known ≡ last) ⊎ ((last ≡ RunPhase.Finished) × (known ≡ RunPhase.Off)) → known ≡ RunPhase.Mark ↔ (last ≡ RunPhase.Mark)
reads last known h = grind arith

module _ (setup : Setup) where
  abbrev place : Actor → HandshakePlace
  place = place_of

  abbrev n : ℕ
  n = acks_of setup.layout

  -- the coordinator, where a place is its
  leads_at : (m : Actor) (lead : Lead) → place m ≡ Leads lead → (c : coord.Coordinating) × (m ≡ Actor.Leads c) × (leading.lead_of c ≡ lead)
  leads_at (Actor.Leads c) lead e = (c, refl, cc)
  leads_at (Actor.Runs m) lead e = absurd cc
  leads_at (Actor.Marks w) lead e = absurd cc

  sound_of : (m : Actor) (c : coord.Coordinating) → m ≡ Actor.Leads c → Sound setup.layout m → leading.Sound c
  sound_of m c e s = subst (λ (y : Actor). Sound setup.layout y) e s

  worker_sound : (m : Actor) (w : worker.Working) → m ≡ Actor.Marks w → Sound setup.layout m → working.Sound w
  worker_sound m w e s = subst (λ (y : Actor). Sound setup.layout y) e s

  module _ (cited : Cited)
      (shakes : (es : List (Entry Op)) → Legal (it setup) es → Shakes (it setup) n (Sound setup.layout) place es)
      (gone : (e : Entry Op) (es : List (Entry Op)) → Legal (it setup) (e ∷ es) → GoneStay (it setup) n place e es)
      (stays : (e : Entry Op) (es : List (Entry Op)) → Legal (it setup) (e ∷ es) → FinishedStays e es) where
    ends : (es : List (Entry Op)) → Legal (it setup) es → Ends setup es
    ends [] h = opens setup
    ends (e ∷ es) h = follows setup cited es e (record { legal = h; was = ends es h.0; shakes = shakes es h.0; gone = gone e es h; stays = stays e es h })

    module _ (es : List (Entry Op)) (h : Legal (it setup) es) where
      x : Shakes (it setup) n (Sound setup.layout) place es
      x = shakes es h

      i : Ends setup es
      i = grind (arith, ends)

      -- every processor has left once the last cycle is swept
      left : (a : ℕ) → a < setup.layout.procs → last_phase es ≡ RunPhase.Finished → words setup es (Cell.Ack a) ≡ GONE
      left a m f = grind (arith, i, leads_at, sound_of, x)

      gone_sleeps : (s : Stage) → s ≡ Gone → IsAwake s → ⊥
      gone_sleeps s e a = rw e at a

      exact : (a : ℕ) (m : Processor) → a < n → state setup es a ≡ Actor.Runs m → IsAwake (stage_of m) → IsExact (last_phase es) (words setup es) (party_of m).view
      exact a m lt e awake = record { phase_is = elim c.phase_is [ inl y ↦ y | inr y ↦ absurd (late y.0) ]; generation_is = c.generation_is; begun_is = c.begun_is } where
        c : IsCurrent (last_phase es) (words setup es) (party_of m).view
        c = x.views a (party_of m) (stage_of m) lt (ap place e) awake

        late : last_phase es ≡ RunPhase.Finished → ⊥
        late f =
            let low : a < setup.layout.procs = subst (IsSeated setup.layout a) e (seated setup es a) in
            gone_sleeps (stage_of m) ((x.gone a (party_of m) (stage_of m) lt (ap place e)).0 (left a low f)) awake

      -- where the world is stopped
      stopped_lead : (c : coord.Coordinating) → state setup es n ≡ Actor.Leads c → x.lead ≡ leading.lead_of c
      stopped_lead c e = let both : Leads x.lead ≡ Leads (leading.lead_of c) = sym x.leads ∙ ap place e in cc

      parked : (c : coord.Coordinating) (phase : RunPhase) (a : ℕ) (p : Party) (s : Stage) → state setup es n ≡ Actor.Leads c → leading.post_at c.stage ≡ Stopped phase → a < n → place (state setup es a) ≡ Acts p s → IsParked (leading.lead_of c).stops s
      parked c phase a p s e post lt at =
          let same = stopped_lead c e in
          subst (λ (y : Lead). IsParked y.stops s) same (x.stopped phase a p s (ap (λ (y : Lead). y.post) same ∙ post) lt at)

      routine_parked : (stops : ℕ) (r : resume.Resuming) (s : ResumeStage) → IsParked stops (resumes.stands_at r.stops s) → (s ≡ LoadPhase) × (r.stops ≡ stops)
      routine_parked stops r s p = grind arith

      waits : (stops : ℕ) (w : worker.Working) (s : WorkerStage) → w.stage ≡ s → working.SoundAt w s → (working.IsLeaving s → ⊥) → IsParked stops (working.stands_at s) → WaitsWithNone stops w
      waits stops w (WorkerStage.Resuming r) e sound_it on p =
          let at = routine_parked stops r r.stage p in
          record { none = sound_it.none; routine = r; is_at = e; loads = at.0; stop_is = at.1 }
      waits stops w WorkerStage.Done e sound_it on p = absurd (on tt)
      waits stops w _ e sound_it on p = absurd p

      -- who is awake is not where the world is stopped
      running : (c : coord.Coordinating) (a : ℕ) (p : Party) (s : Stage) → state setup es n ≡ Actor.Leads c → a < n → place (state setup es a) ≡ Acts p s → IsAwake s → (phase : RunPhase) → leading.post_at c.stage ≡ Stopped phase → ⊥
      running c a p s e lt at awake phase post = awake_moves (leading.lead_of c).stops s awake (parked c phase a p s e post lt at)

      -- so it knows that marking is on exactly while a cycle is marked
      marks_so : (c : coord.Coordinating) (a : ℕ) (p : Party) (s : Stage) → state setup es n ≡ Actor.Leads c → a < n → place (state setup es a) ≡ Acts p s → IsAwake s → p.view.phase ≡ RunPhase.Mark ↔ leading.Marks c.stage
      marks_so c a p s e lt at awake = (λ y. on.0 (sym last ∙ known.0 y), λ y. known.1 (last ∙ on.1 y)) where
        same : x.lead ≡ leading.lead_of c
        same = stopped_lead c e

        last : last_phase es ≡ last_of (leading.post_at c.stage)
        last = x.led.last_is ∙ ap (λ (y : Lead). last_of y.post) same

        on : last_of (leading.post_at c.stage) ≡ RunPhase.Mark ↔ leading.Marks c.stage
        on = cited.leads.marks_on c (sound_of (state setup es n) c e (x.all_sound n (omega arith))) (running c a p s e lt at awake)

        known : p.view.phase ≡ RunPhase.Mark ↔ (last_phase es ≡ RunPhase.Mark)
        known = reads (last_phase es) p.view.phase (x.views a p s lt at awake).phase_is

      marking : (c : coord.Coordinating) (a : ℕ) (w : worker.Working) → state setup es n ≡ Actor.Leads c → a < n → state setup es a ≡ Actor.Marks w → working.IsMarking w.stage → leading.Marks c.stage
      marking c a w e lt at m =
          let y = cited.places.marks w m in
          (marks_so c a (working.party_of w) (working.stage_of w) e lt (ap place at) (subst IsAwake (sym y.awake) tt)).0 (ap (λ (p : Party). p.view.phase) y.party_is ∙ i.marks a w at m)

      -- a stop is behind a phase that is not the last
      stop_goes_on : (c : coord.Coordinating) (phase : RunPhase) → state setup es n ≡ Actor.Leads c → leading.post_at c.stage ≡ Stopped phase → last_phase es ≡ RunPhase.Finished → ⊥
      stop_goes_on c phase e post f =
          let same = stopped_lead c e in
          let last : phase ≡ RunPhase.Finished = sym (ap last_of post) ∙ (ap (λ (y : Lead). last_of y.post) (sym same) ∙ (sym x.led.last_is ∙ f)) in
          cited.leads.stops_go_on c phase post last

      waiting : (c : coord.Coordinating) (phase : RunPhase) (a : ℕ) (w : worker.Working) → state setup es n ≡ Actor.Leads c → leading.post_at c.stage ≡ Stopped phase → a < n → state setup es a ≡ Actor.Marks w → WaitsWithNone (leading.lead_of c).stops w
      waiting c phase a w e post lt at =
          let sound_it = worker_sound (state setup es a) w at (x.all_sound a (omega arith)) in
          waits (leading.lead_of c).stops w w.stage refl sound_it (λ y. stop_goes_on c phase e post (i.leaves a w at y)) (parked c phase a (working.party_of w) (working.stage_of w) e post lt (ap place at))

      pub keeps_it : KeepsIt (it setup) es
      keeps_it = record {
        shakes = x;
        processors_know = exact;
        workers_know = λ a w lt e awake. x.views a (working.party_of w) (working.stage_of w) lt (ap place e) awake;
        processors_mark = λ c a m e lt at awake. marks_so c a (party_of m) (stage_of m) e lt (ap place at) awake;
        workers_mark = λ c a w e lt at awake. marks_so c a (working.party_of w) (working.stage_of w) e lt (ap place at) awake;
        marking = marking;
        processors_wait = λ c phase a m e post lt at. parked c phase a (party_of m) (stage_of m) e post lt (ap place at);
        workers_wait = waiting;
        workers_leave = λ a w lt e y. i.leaves a w e y;
        processors_left = left;
        processors_gone = λ c e last a lt. i.last c e last a lt;
      }
