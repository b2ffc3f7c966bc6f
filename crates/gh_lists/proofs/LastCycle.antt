-- The last cycle over every legal list: no worker leaves before it is swept, and every processor has left by then.
use Rattle.std.proofs.Common.{◌≡◌, ℕ, ◌<◌, ◌⊎◌, true, sym, ap, subst, ◌∙◌, inl, inr, arith, List, ◌∷◌, [], Some}
use Rattle.gh_lists.proofs.Vocabulary.{Actor, Ask, at, Cell, cell_of, Entry, FinishedStays, GONE, gone_to, GoneStay, is_stop, IsAwake, IsCurrent, IsFoundGone, IsLeaving, IsMarking, it, last_phase, LeadsHandshake, Legal, Load, Op, Party, phase_of, phase_word, place_of, ProcessorWritesItsOwn, RunPhase, Setup, Shakes, Sound, words, WorkersKeepHandshake}
use Rattle.gh_coord.specs.Listing as coord
use Rattle.gh_worker.specs.Handshake.{party_of, stage_of}
use Rattle.gh_worker.specs.Listing as worker
use Rattle.gh_worker.specs.Places.{IsAtWork, Polls, WorkersKeepPlaces}
use Rattle.gh_base.specs.declared.pack.PhaseWord.{PhaseWord}
use Rattle.gh_phase.specs.Views.{run_phase}
use Rattle.gh_phase.specs.declared.view.View.{View}
use Rattle.gh_lists.specs.Phase.{is_last}
use Rattle.gh_lists.specs.Steps as seats

-- what is cited of the words of phases, of the coordinator, of workers and of processors
pub record Cited : Type 0 where
  pub back : (p : PhaseWord) → phase_of (phase_word p) ≡ p
  pub leads : LeadsHandshake
  pub works : WorkersKeepHandshake
  pub places : WorkersKeepPlaces
  pub writes : ProcessorWritesItsOwn

module _ (setup : Setup) where
  abbrev n : ℕ
  n = seats.n setup

  pub record Ends (es : List (Entry Op)) : Type 0 where
    -- the processors that were found gone are so
    pub below : (c : coord.Coordinating) → at setup es n ≡ Actor.Leads c → (a : ℕ) → a < n → a < gone_to c.stage → words setup es (Cell.Ack a) ≡ GONE
    pub last : (c : coord.Coordinating) → at setup es n ≡ Actor.Leads c → c.is_last ≡ true → (a : ℕ) → a < setup.layout.procs → words setup es (Cell.Ack a) ≡ GONE
    pub leaves : (a : ℕ) (w : worker.Working) → at setup es a ≡ Actor.Marks w → IsLeaving w.stage → last_phase es ≡ RunPhase.Finished
    -- a worker that marks knows that marking is on
    pub marks : (a : ℕ) (w : worker.Working) → at setup es a ≡ Actor.Marks w → IsMarking w.stage → w.view.phase ≡ RunPhase.Mark

  pub opens : Ends []
  opens = grind arith

  -- One entry more: what held before it, and what it leaves.
  pub record OneMore (es : List (Entry Op)) (e : Entry Op) : Type 0 where
    pub legal : Legal (it setup) (e ∷ es)
    pub was : Ends es
    pub shakes : Shakes (it setup) n (Sound setup.layout) place_of es
    pub gone : GoneStay (it setup) n place_of e es
    pub stays : FinishedStays e es

  module _ (cited : Cited) (es : List (Entry Op)) (e : Entry Op) (more : OneMore es e) where
    step : seats.Step setup e es
    step = seats.step_by setup e es cited.writes more.legal more.shakes.all_sound

    -- a worker's load that finds the world running finds the last phase
    finds_last : (v : worker.Working) (phase : RunPhase) → seats.WorksIt setup e es v → worker.asks setup.layout v ≡ Load Cell.Phase → run_phase (phase_of e.found).phase ≡ Some phase → last_phase es ≡ phase
    finds_last v phase x asks finds =
        let led = more.shakes.led in
        is_last cited.back (is_stop more.shakes.lead.post) more.shakes.lead.stops (last_phase es) phase e.found (more.legal.1.found ∙ (ap (λ (q : Ask). words setup es (cell_of q)) (x.asked ∙ asks) ∙ led.phase_is)) finds

    leaves_next : (a : ℕ) (w : worker.Working) → at setup (e ∷ es) a ≡ Actor.Marks w → IsLeaving w.stage → last_phase (e ∷ es) ≡ RunPhase.Finished
    leaves_next a w is leaving = by (seats.worker_was setup e es step a w is) where
      by : seats.WorkerWas setup e es a w → last_phase (e ∷ es) ≡ RunPhase.Finished
      by (seats.worker_stayed was) = more.stays (more.was.leaves a w was leaving)
      by (seats.worker_stepped v x then) = more.stays (elim (cited.works.leaves setup.layout v e.found x.busy (subst (λ (y : worker.Working). IsLeaving y.stage) then leaving)) [
        | inl y ↦ more.was.leaves e.actor v x.is y
        | inr y ↦ finds_last v RunPhase.Finished x y.0 y.1
      ])

    -- where it finds that marking is on, it knows so
    marks_next : (a : ℕ) (w : worker.Working) → at setup (e ∷ es) a ≡ Actor.Marks w → IsMarking w.stage → w.view.phase ≡ RunPhase.Mark
    marks_next a w is marking = by (seats.worker_was setup e es step a w is) where
      known : (v : View) → IsCurrent (last_phase es) (words setup es) v → last_phase es ≡ RunPhase.Mark → v.phase ≡ RunPhase.Mark
      known v c y = elim c.phase_is [ inl z ↦ z ∙ y | inr z ↦ absurd (let differ : RunPhase.Mark ≡ RunPhase.Finished = sym y ∙ z.0 in cc) ]

      current : (v : worker.Working) → seats.WorksIt setup e es v → IsAtWork v → IsCurrent (last_phase es) (words setup es) v.view
      current v x works = subst (λ (p : Party). IsCurrent (last_phase es) (words setup es) p.view) works.party_is (more.shakes.views e.actor (party_of v) (stage_of v) x.seat (ap place_of x.is) (subst IsAwake (sym works.awake) tt))

      of : (v : worker.Working) → seats.WorksIt setup e es v → IsMarking v.stage ⊎ (Polls v × (run_phase (phase_of e.found).phase ≡ Some RunPhase.Mark)) → v.view.phase ≡ RunPhase.Mark
      of v x (inl y) = more.was.marks e.actor v x.is y
      of v x (inr y) = known v.view (current v x y.0.works) (finds_last v RunPhase.Mark x (y.0.asks_it setup.layout) y.1)

      by : seats.WorkerWas setup e es a w → w.view.phase ≡ RunPhase.Mark
      by (seats.worker_stayed was) = more.was.marks a w was marking
      by (seats.worker_stepped v x then) =
          let found = cited.places.finds_on setup.layout v e.found x.busy (subst (λ (y : worker.Working). IsMarking y.stage) then marking) in
          ap (λ (y : worker.Working). y.view.phase) then ∙ (ap (λ (y : View). y.phase) found.view_stays ∙ of v x found.finds)

    -- a processor that the coordinator finds gone is so
    found_gone : (c : coord.Coordinating) → seats.LeadsIt setup e es c → (a : ℕ) → a < n → IsFoundGone setup.layout e.found c c.stage a → words setup (e ∷ es) (Cell.Ack a) ≡ GONE
    found_gone c x a m h = grind arith

    below_next : (c : coord.Coordinating) → at setup (e ∷ es) n ≡ Actor.Leads c → (a : ℕ) → a < n → a < gone_to c.stage → words setup (e ∷ es) (Cell.Ack a) ≡ GONE
    below_next c is a m to = by (seats.lead_was setup e es step c is) where
      by : seats.LeadWas setup e es c → words setup (e ∷ es) (Cell.Ack a) ≡ GONE
      by (seats.lead_stayed was) = more.gone a m (more.was.below c was a m to)
      by (seats.lead_stepped b x then) = found_gone b x a m ((cited.leads.finds_gone setup.layout b e.found x.busy).below a (subst (λ (y : coord.Coordinating). a < gone_to y.stage) then to))

    last_next : (c : coord.Coordinating) → at setup (e ∷ es) n ≡ Actor.Leads c → c.is_last ≡ true → (a : ℕ) → a < setup.layout.procs → words setup (e ∷ es) (Cell.Ack a) ≡ GONE
    last_next c is last a m = by (seats.lead_was setup e es step c is) where
      among : a < n
      among = omega arith

      by : seats.LeadWas setup e es c → words setup (e ∷ es) (Cell.Ack a) ≡ GONE
      by (seats.lead_stayed was) = more.gone a among (more.was.last c was last a m)
      by (seats.lead_stepped b x then) = elim ((cited.leads.finds_gone setup.layout b e.found x.busy).last (subst (λ (y : coord.Coordinating). y.is_last ≡ true) then last)) [
        | inl y ↦ more.gone a among (more.was.last b x.is y a m)
        | inr y ↦ found_gone b x a among (y a m)
      ]

    pub follows : Ends (e ∷ es)
    follows = record { below = below_next; last = last_next; leaves = leaves_next; marks = marks_next }
