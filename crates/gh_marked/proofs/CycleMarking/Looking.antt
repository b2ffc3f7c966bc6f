-- While a cycle is marked no worker looks for a span to sweep, or sweeps one: it does so where it finds that marking is off, and knows so then.
use Rattle.std.proofs.Common.{◌≡◌, ℕ, ◌<◌, ◌⊎◌, inl, inr, Bool, cond, ltb, refl, sym, ap, subst, ◌∙◌, arith, List, [], ◌∷◌, Option, Some, None}
use Rattle.gh_marked.proofs.Vocabulary.{acks_of, Actor, actors, Ask, Cell, cell_of, Entry, Finds, is_stop, IsAtWork, IsAwake, IsCurrent, KeepsIt, last_phase, Legal, Looks, Op, opening_processor, PackedWordsAreReadBack, Party, phase_of, Polls, ProcessorWritesItsOwn, run_phase, RunPhase, Setup, state_of, Sweeping, those, Words, words_after, WorkersKeepPlaces, Working}
use Rattle.gh_coord.specs.Handshake as leading
use Rattle.gh_coord.specs.Listing as coord
use Rattle.gh_worker.specs.Handshake as working
use Rattle.gh_worker.specs.Listing as worker
use Rattle.gh_phase.specs.declared.view.View.{View}
use Rattle.gh_lists.specs.Steps as seats
use Rattle.gh_lists.specs.Phase.{is_last}

-- at its work it is awake
is_awake : (w : Working) → IsAtWork w → IsAwake (working.stage_of w)
is_awake w x = subst IsAwake (sym x.awake) tt

module _ (setup : Setup) (read : PackedWordsAreReadBack) (writes : ProcessorWritesItsOwn) (places : WorkersKeepPlaces)
    (keeps : (es : List (Entry Op)) → Legal (those setup) es → KeepsIt (those setup) es) where
  abbrev n : ℕ
  n = acks_of setup.layout

  abbrev at : List (Entry Op) → ℕ → Actor
  at es a = state_of (actors setup) a es

  abbrev told : List (Entry Op) → Words
  told es = words_after (those setup).opening es

  -- what looks for spans knows that marking is off
  abbrev KnowsOff : List (Entry Op) → Type 0
  KnowsOff es = (a : ℕ) (w : Working) → at es a ≡ Actor.Marks w → Looks w.stage → w.view.phase ≡ RunPhase.Off

  at_first : KnowsOff []
  at_first a w is looks = go (ltb a setup.layout.procs) (ltb a n) is where
    go : (b d : Bool) → cond b (Actor.Runs (opening_processor a)) (cond d (Actor.Marks (worker.opening a)) (Actor.Leads (coord.opening setup.layout a setup.pacing.gogc setup.pacing.minheap setup.pacing.room))) ≡ Actor.Marks w → w.view.phase ≡ RunPhase.Off
    go b d x = grind arith

  module _ (e : Entry Op) (es : List (Entry Op)) (legal : Legal (those setup) (e ∷ es)) (before : KnowsOff es) where
    known : KeepsIt (those setup) es
    known = keeps es legal.0

    -- the step of a worker
    by_worker : (v : Working) → seats.WorksIt setup e es v → Looks (worker.goes setup.layout v e.found).stage → (worker.goes setup.layout v e.found).view.phase ≡ RunPhase.Off
    by_worker v x looks = ap (λ (y : View). y.phase) step.view_stays ∙ by step.finds where
      step : Finds RunPhase.Off Looks e.found v (worker.goes setup.layout v e.found)
      step = places.finds_off setup.layout v e.found looks

      -- by the phase word
      off : Polls v → run_phase (phase_of e.found).phase ≡ Some RunPhase.Off → last_phase es ≡ RunPhase.Off
      off polls finds =
          let asks_phase : e.found ≡ told es Cell.Phase = legal.1.found ∙ ap (λ (q : Ask). told es (cell_of q)) (x.asked ∙ polls.asks_it setup.layout) in
          is_last read.phase (is_stop known.shakes.lead.post) known.shakes.lead.stops (last_phase es) RunPhase.Off e.found (asks_phase ∙ known.shakes.led.phase_is) finds

      current : IsAtWork v → IsCurrent (last_phase es) (told es) v.view
      current y = subst (λ (p : Party). IsCurrent (last_phase es) (told es) p.view) y.party_is (known.workers_know e.actor v x.seat x.is (is_awake v y))

      by : Looks v.stage ⊎ (Polls v × (run_phase (phase_of e.found).phase ≡ Some RunPhase.Off)) → v.view.phase ≡ RunPhase.Off
      by (inl y) = before e.actor v x.is y
      by (inr y) = elim (current y.0.works).phase_is [ inl same ↦ same ∙ off y.0 y.1 | inr late ↦ late.1 ]

    next : KnowsOff (e ∷ es)
    next a w is looks = go (seats.worker_was setup e es (seats.step setup e es writes legal known) a w is) where
      go : seats.WorkerWas setup e es a w → w.view.phase ≡ RunPhase.Off
      go (seats.worker_stepped v x then) = ap (λ (y : Working). y.view.phase) then ∙ by_worker v x (subst (λ (y : Working). Looks y.stage) then looks)
      go (seats.worker_stayed was) = before a w was looks

  knows_off : (es : List (Entry Op)) → Legal (those setup) es → KnowsOff es
  knows_off [] legal = at_first
  knows_off (e ∷ es) legal = next e es legal (knows_off es legal.0)

  pub none_sweeps : (es : List (Entry Op)) (c : coord.Coordinating) → Legal (those setup) es → at es n ≡ Actor.Leads c → leading.Marks c.stage → (a : ℕ) (w : Working) → a < n → at es a ≡ Actor.Marks w → worker.sweep_in w ≡ None
  none_sweeps es c legal led on a w lt is = go (worker.sweep_in w) refl where
    go : (x : Option Sweeping) → worker.sweep_in w ≡ x → x ≡ None
    go None sweeps = refl
    go (Some sw) sweeps = absurd (
        let looks : Looks w.stage = places.sweeps w sw sweeps in
        let work : IsAtWork w = places.looks w looks in
        let marks : (working.party_of w).view.phase ≡ RunPhase.Mark = ((keeps es legal).workers_mark c a w led lt is (is_awake w work)).1 on in
        let both : RunPhase.Off ≡ RunPhase.Mark = sym (knows_off es legal a w is looks) ∙ (sym (ap (λ (p : Party). p.view.phase) work.party_is) ∙ marks) in cc)
