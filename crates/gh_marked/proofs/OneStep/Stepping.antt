-- One entry more of a processor, whatever the coordinator's stage: the one state goes on.
use Rattle.std.proofs.Common.{◌≡◌, ◌≢◌, ℕ, ◌<◌, ◌==◌, Bool, true, false, refl, sym, ap, subst, ◌∙◌, arith, List, ◌∷◌}
use Rattle.std.proofs.lemmas.Bool.{eqb-true}
use Rattle.gh_marked.proofs.Vocabulary.{Actor, actors_after, Arena, arena, Entry, Given, HasState, IsInLimits, IsInSweep, Known, Legal, may_of, nat_tests, Op, other, Processor, processor_at, processor_kind, runs_are, seats_of, setup_for, ShapesAreGood, started, State, state_stays, sweep_in, sweep_of, TellsStacks, those, uncounted}
use Rattle.gh_state.specs.Moves as state
use Rattle.gh_marked.proofs.OneStep.Landing as landing
use Rattle.gh_marked.proofs.OneStep.OwnSide as own
use Rattle.gh_marked.proofs.OneStep.Sweepers as sweepers
use Rattle.gh_marked.proofs.OneStep.Wanted.{Wanted}

apart : (a b : ℕ) → (a == b) ≡ false → b ≢ a
apart a b x y = grind (arith, nat_tests)

module _ (given : Given) (good : ShapesAreGood given.shapes) (limits : IsInLimits given.layout) (known : Known) (wanted : Wanted) where
  abbrev may : ℕ → List (Entry Op) → Op → Bool
  may = may_of given.shapes given.layout given.counts

  abbrev z : Arena
  z = arena (setup_for given)

  module _ (e : Entry Op) (es : List (Entry Op)) (legal : Legal (those (setup_for given)) (e ∷ es)) (lt : e.actor < given.layout.procs) (has : HasState (setup_for given) es) (land : landing.Lands given good limits known wanted e es legal lt has)
      (tells : TellsStacks given.layout has.state.heap.words (started (processor_kind given.shapes given.layout) e.begun (processor_at (setup_for given) es e.actor))) where
    abbrev a : ℕ
    a = e.actor

    abbrev pub then : State
    then = state.moved z a has.state land.move

    pub placing : (b : ℕ) → b < given.layout.procs → then.pend b ≡ uncounted (processor_at (setup_for given) (e ∷ es) b).task
    placing b less = go (a == b) refl where
      go : (x : Bool) → (a == b) ≡ x → then.pend b ≡ uncounted (processor_at (setup_for given) (e ∷ es) b).task
      go true x = subst (λ (n : ℕ). then.pend n ≡ uncounted (processor_at (setup_for given) (e ∷ es) n).task) (eqb-true a b x) (land.own ∙ ap (λ (p : Processor). uncounted p.task) (sym (own.then_is given good limits known wanted e es legal lt has land tells)))
      go false x = land.others b (apart a b x) ∙ (has.placing b less ∙ ap (λ (p : Processor). uncounted p.task) (sym (state_stays (setup_for given) e es b x)))

    pub sweeps : (b : ℕ) → b < seats_of given.layout → IsInSweep b then (sweep_of (actors_after z given.pacing may (e ∷ es) b))
    sweeps b less = go (a == b) refl where
      own_is : IsInSweep a then (sweep_of (actors_after z given.pacing may (e ∷ es) a))
      own_is = subst (λ (x : Actor). IsInSweep a then (sweep_of x)) (sym (runs_are (setup_for given) (e ∷ es) a lt)) (subst (λ (p : Processor). IsInSweep a then (sweep_in p)) (sym (own.then_is given good limits known wanted e es legal lt has land tells)) land.sweeps)

      go : (x : Bool) → (a == b) ≡ x → IsInSweep b then (sweep_of (actors_after z given.pacing may (e ∷ es) b))
      go true x = subst (λ (n : ℕ). IsInSweep n then (sweep_of (actors_after z given.pacing may (e ∷ es) n))) (eqb-true a b x) own_is
      go false x = subst (λ (y : Actor). IsInSweep b then (sweep_of y)) (sym (other (setup_for given) e es b x)) (sweepers.lasts known z b has.state then (sweep_of (actors_after z given.pacing may es b)) (known.state_leaves z b a has.state land.move (apart a b x) has.good land.allowed) (has.sweeps b less))

    abbrev pub has_then : HasState (setup_for given) (e ∷ es)
    has_then = record {
      state = then;
      of_list = own.heap_then given good limits known wanted e es legal lt has land tells;
      good = known.keeps z a has.state land.move has.good land.allowed;
      placing = placing;
      others_place = λ b le. land.others b (λ x. omega (arith, x, le, lt)) ∙ has.others_place b le;
      sweeps = sweeps;
    }
