-- The step of a worker: where it runs a sweep the step is the sweep's; else it runs none behind it, or has begun one, whatever the coordinator's stage.
use Rattle.std.proofs.Common.{◌≡◌, ℕ, true, sym, ap, subst, ◌∙◌, List, ◌∷◌, Option, Some, None, arith}
use Rattle.gh_marked.proofs.Vocabulary.{Actor, actors, actors_after, Arena, arena, Ask, BeginsSweep, Cell, cell_of, effect, Entry, HasState, IsAtWork, IsAwake, IsInSweep, IsSeated, Legal, ListsKnown, Load, Op, Party, seated, SeatSweepsNothing, Setup, started, State, StateGood, sweep_of, Sweeping, SweepsOn, those, Words, words, worker_started, works}
use Rattle.gh_sweep.specs.Listing as sweep
use Rattle.gh_worker.specs.Listing as worker
use Rattle.gh_lists.specs.Handshake.{asks}
use Rattle.gh_marked.proofs.OneStep.Sweepers as sweepers

module _ (setup : Setup) (lists : ListsKnown setup)
    (e : Entry Op) (es : List (Entry Op)) (legal : Legal (those setup) (e ∷ es)) (w : worker.Working) (is : actors_after (arena setup) setup.pacing setup.may es e.actor ≡ Actor.Marks w) where
  abbrev z : Arena
  z = arena setup

  abbrev at : List (Entry Op) → ℕ → Actor
  at xs a = actors_after z setup.pacing setup.may xs a

  begun_is : started (actors setup) e.begun (at es e.actor) ≡ Actor.Marks w
  begun_is = ap (started (actors setup) e.begun) is ∙ worker_started setup e.begun w

  pub asked : e.ask ≡ worker.asks setup.layout w
  asked = legal.1.asks ∙ ap (asks setup.layout) begun_is

  its_seat : IsSeated setup.layout e.actor (Actor.Marks w)
  its_seat = subst (IsSeated setup.layout e.actor) is (seated setup es e.actor)

  pub sweeps_before : sweep_of (at es e.actor) ≡ worker.sweep_in w
  sweeps_before = ap sweep_of is

  pub sweeps_then : sweep_of (at (e ∷ es) e.actor) ≡ worker.sweep_in (worker.goes setup.layout w e.found)
  sweeps_then = ap sweep_of (works setup e es w is)

  -- It runs a sweep.
  module _ (sw : Sweeping) (runs : worker.sweep_in w ≡ Some sw) (its_busy : sweep.is_busy sw.stage ≡ true) where
    pub goes_on : SweepsOn setup.layout (worker.asks setup.layout) (worker.goes setup.layout) worker.sweep_in w sw
    goes_on = (lists.known.workers_sweep.runs setup.layout).on w sw runs its_busy

  -- It runs none. Of a state behind the step, with the words that it leaves.
  module _ (has : HasState setup es) (none : worker.sweep_in w ≡ None) (t : State) (good : StateGood z t) (rests : SeatSweepsNothing e.actor t) (words_are : t.heap.words ≡ effect has.state.heap.words e.ask) where
    then_by : (x : Option Sweeping) → worker.sweep_in (worker.goes setup.layout w e.found) ≡ x → IsInSweep e.actor t x
    then_by None then = rests
    then_by (Some m) then = sweepers.begins lists.known z e.actor t good rests w.view.generation (worker.asks setup.layout w) e.found m number loaded b where
      b : BeginsSweep w.view.generation (worker.asks setup.layout w) e.found m
      b = (lists.known.workers_sweep.runs setup.layout).begins w e.found m none then

      load_is : e.ask ≡ Load (Cell.Page b.page)
      load_is = asked ∙ b.step_is

      same_words : (c : _) → t.heap.words c ≡ words setup es c
      same_words c = ap (λ (v : Words). v c) words_are ∙ (ap (λ (q : Ask). effect has.state.heap.words q c) load_is ∙ ap (λ (v : Words). v c) has.of_list.words_are)

      -- it is awake there, and knows the sweep generation between two polls
      at_work : IsAtWork w
      at_work = lists.known.workers_places.looks w (lists.known.workers_places.begins setup.layout w e.found m then)

      number : w.view.generation ≡ t.heap.words Cell.Gen
      number = ap (λ (p : Party). p.view.generation) (sym at_work.party_is) ∙ (((lists.keeps es legal.0).workers_know e.actor w its_seat.1 is (subst IsAwake (sym at_work.awake) tt)).generation_is ∙ sym (same_words Cell.Gen))

      loaded : e.found ≡ t.heap.words (cell_of (worker.asks setup.layout w))
      loaded = legal.1.found ∙ (ap (λ (q : Ask). words setup es (cell_of q)) asked ∙ sym (same_words (cell_of (worker.asks setup.layout w))))

    pub begins_or_rests : IsInSweep e.actor t (sweep_of (at (e ∷ es) e.actor))
    begins_or_rests = grind (arith, sweeps_then, then_by)
