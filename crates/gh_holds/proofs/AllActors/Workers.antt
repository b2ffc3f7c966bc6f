-- One entry more of a worker, outside of marking: it is a step of the sweep that it runs, or its step is on no word of which anything is said of the heap.
use Rattle.std.proofs.Common.{◌≡◌, ℕ, ◌+◌, ◌<◌, ◌≤◌, true, refl, sym, ap, subst, ◌∙◌, arith, List, ◌∷◌, Option, Some, None}
use Rattle.gh_holds.proofs.Vocabulary.{acks_of, Actor, actors_after, Arena, arena, Cell, Close, CloseStage, Coordinating, CoordStage, Count, CountStage, CycleEnd, Done, effect, Entry, ever_stays, HasEnded, HasRead, HasState, Holds, HoldsAt, in_all, IsClosing, IsCounting, IsInSweep, IsLed, IsQuiet, IsSweeping, IsTold, Legal, ListsKnown, live_at, LoadAck, LoadWant, on_from, Op, Open, OpenStage, place_of, RunPhase, Setup, State, Stop, Stopped, Sweep, Sweeping, SweepingAll, Tell, TellStage, those, Words, words}
use Rattle.gh_coord.specs.Closing as closes_by
use Rattle.gh_coord.specs.Handshake as leading
use Rattle.gh_coord.specs.Opening as opens_by
use Rattle.gh_phase.specs.Listing as resume
use Rattle.gh_sweep.specs.Listing as sweep
use Rattle.gh_sweep.specs.Sweepers.{move_of}
use Rattle.gh_worker.specs.Listing as worker
use Rattle.gh_worker.specs.Writing.{IsCalm}
use Rattle.gh_holds.specs.ActorsHold.{IsTelling}
use Rattle.gh_lists.specs.Handshake as handshake
use Rattle.gh_holds.proofs.AllActors.Aside as aside
use Rattle.gh_holds.proofs.AllActors.Aside.{telling_rows, TellsNothing}
use Rattle.gh_holds.proofs.AllActors.Others.{no_full, was_by_others}
use Rattle.gh_holds.proofs.AllActors.SinceEnd.{as_it_ended, has_ended_on, KeepsEnd, LastStays, quiet_keeps_end, sweep_keeps_end}
use Rattle.gh_holds.proofs.AllActors.Starts.{counted_on}
use Rattle.gh_holds.proofs.AllActors.Stay.{changes_nothing, ChangesNothing, led_by_it, sweeping_stays, worker_sweeps_none}
use Rattle.gh_holds.proofs.AllActors.StillHolds.{holds_still}
use Rattle.gh_marked.proofs.OneStep.Sweepers as sweepers
use Rattle.gh_holds.proofs.AllActors.Walking.{walks_last}
use Rattle.gh_marked.proofs.OneStep.WorkersSweep as sweeping

-- while a cycle is opened the world is stopped
open_stopped : (p : OpenStage) → opens_by.is_busy p ≡ true → leading.open_post p ≡ Stopped RunPhase.Off
open_stopped p busy = grind arith

module _ (setup : Setup) (lists : ListsKnown setup)
    (e : Entry Op) (es : List (Entry Op)) (legal : Legal (those setup) (e ∷ es)) (c : Coordinating) (led : IsLed setup es c) (among : e.actor < acks_of setup.layout) where
  abbrev z : Arena
  z = arena setup

  abbrev told : List (Entry Op) → Words
  told xs = words setup xs

  -- where the world is stopped no word changes
  pub told_stays : (phase : RunPhase) → leading.post_at c.stage ≡ Stopped phase → told (e ∷ es) ≡ told es
  told_stays phase post = ap (effect (told es)) ((lists.steps e es legal).still (leading.lead_of c) phase (ap place_of led) post among).0

  post_is : (p : CoordStage) (phase : RunPhase) → c.stage ≡ p → leading.post_at p ≡ Stopped phase → leading.post_at c.stage ≡ Stopped phase
  post_is p phase is post = ap leading.post_at is ∙ post

  open_busy : (o : opens_by.CycleOpening) → c.stage ≡ Open o → opens_by.is_busy o.stage ≡ true
  open_busy o is = (subst (leading.SoundAt c) is (subst (handshake.Sound setup.layout) led ((lists.keeps es legal.0).shakes.all_sound (acks_of setup.layout) (omega arith))).1).1

  module _ (w : worker.Working) (ge : setup.layout.procs ≤ e.actor) (is : actors_after z setup.pacing setup.may es e.actor ≡ Actor.Marks w) where
    -- in a stopped world nothing changes
    nothing : (phase : RunPhase) → leading.post_at c.stage ≡ Stopped phase → ChangesNothing setup e es
    nothing phase post = changes_nothing setup e es lists.known legal ge among (told_stays phase post) (worker_sweeps_none setup e es lists legal c phase led post among w is)

    -- Outside of marking, the world running or not.
    module _ (off : leading.Marks c.stage → ⊥) (has : HasState setup es) where
      -- what its step is and leaves, and that it leaves buffers and what the state says of the end of the last cycle
      pub record WorkerLands : Type 0 where
        pub lands : aside.Lands setup lists.known e es legal ge has
        pub buffers : (b : ℕ) → (aside.then setup lists.known e es legal ge has lands).heap.words (Cell.Buffer b) ≡ has.state.heap.words (Cell.Buffer b)
        pub ends : KeepsEnd has.state (aside.then setup lists.known e es legal ge has lands)

      asked : e.ask ≡ worker.asks setup.layout w
      asked = sweeping.asked setup lists e es legal w is

      -- it runs a sweep
      module _ (sw : Sweeping) (runs : worker.sweep_in w ≡ Some sw) where
        swept : aside.swept_before setup lists.known e es legal ge has ≡ Some sw
        swept = sweeping.sweeps_before setup lists e es legal w is ∙ runs

        its_busy : sweep.is_busy sw.stage ≡ true
        its_busy = (subst (IsInSweep e.actor has.state) swept (has.sweeps e.actor (aside.seat setup lists.known e es legal ge has))).1

        asks_is : e.ask ≡ sweep.asks setup.layout sw
        asks_is = asked ∙ (sweeping.goes_on setup lists e es legal w is sw runs its_busy).asks_so

        then_is : aside.swept_then setup lists.known e es legal ge has ≡ on_from sw e.found
        then_is = sweeping.sweeps_then setup lists e es legal w is ∙ (sweeping.goes_on setup lists e es legal w is sw runs its_busy).goes_so e.found

        lands_sweeping : WorkerLands
        lands_sweeping = record {
          lands = aside.by_sweep setup lists.known e es legal ge has sw swept asks_is then_is;
          buffers = aside.sweep_buffers setup lists.known e es legal ge has sw swept asks_is then_is;
          ends = sweep_keeps_end z e.actor has.state (move_of sw e.found) (aside.sweep_goes setup lists.known e es legal ge has sw swept asks_is then_is).may.of_sweep;
        }

      -- it runs none
      module _ (none : worker.sweep_in w ≡ None) where
        unswept : aside.swept_before setup lists.known e es legal ge has ≡ None
        unswept = sweeping.sweeps_before setup lists e es legal w is ∙ none

        calm : IsCalm w
        calm = lists.rests es legal.0 c e.actor w led off is

        tells : TellsNothing e.ask
        tells = subst TellsNothing (sym asked) (lists.known.footprints.among resume.writes telling_rows (worker.asks setup.layout w) refl (lists.known.workers.rests_alone setup.layout w calm none).writes)

        abbrev beside : aside.IsBeside e.ask
        beside = aside.beside_of lists.known.footprints e.ask tells

        sweeps : IsInSweep e.actor (aside.quiet_state setup lists.known e es legal ge has unswept beside (λ over. tells)) (aside.swept_then setup lists.known e es legal ge has)
        sweeps = sweeping.begins_or_rests setup lists e es legal w is has none (aside.quiet_state setup lists.known e es legal ge has unswept beside (λ over. tells))
            (aside.quiet_good setup lists.known e es legal ge has unswept beside (λ over. tells)) (aside.quiet_rests setup lists.known e es legal ge has unswept beside (λ over. tells)) refl

        lands_quiet : WorkerLands
        lands_quiet = record {
          lands = aside.by_quiet setup lists.known e es legal ge has unswept beside (λ over. tells) sweeps;
          buffers = aside.keeps_buffers lists.known.footprints e.ask tells has.state.heap.words;
          ends = quiet_keeps_end z e.actor has.state e.ask;
        }

      pub worker_lands : WorkerLands
      worker_lands = go (worker.sweep_in w) refl where
        go : (x : Option Sweeping) → worker.sweep_in w ≡ x → WorkerLands
        go None none = lands_quiet none
        go (Some sw) runs = lands_sweeping sw runs

    -- What holds behind it.
    module _ (off : leading.Marks c.stage → ⊥) where
      abbrev lands_on : (has : HasState setup es) → aside.Lands setup lists.known e es legal ge has
      lands_on has = (worker_lands off has).lands

      abbrev then : HasState setup es → State
      then has = aside.then setup lists.known e es legal ge has (lands_on has)

      end_stays : (has : HasState setup es) → (then has).end ≡ has.state.end
      end_stays has = (sweepers.end_stays lists.known z e.actor has.state (lands_on has).move).0

      abbrev quiet_on : IsQuiet setup es c → IsQuiet setup (e ∷ es) c
      quiet_on q = aside.off_then setup lists.known e es legal ge (c.begun + 1) setup.layout.pages q (lands_on q.has) (worker_lands off q.has).buffers (c.begun + 1) refl

      last_stays : (has : HasState setup es) → LastStays setup e es has.state (then has)
      last_stays has d led_d last = ((d, led_by_it setup e es among d led_d, last), ever_stays setup lists.known.points e es legal ge, as_it_ended has.state (then has) (worker_lands off has).ends)

      behind_on : (has : HasState setup es) → HasEnded setup es c.begun has.state → HasEnded setup (e ∷ es) c.begun (then has)
      behind_on has h =
          let of = aside.of_list setup lists.known e es legal ge has (lands_on has) in
          has_ended_on setup e es lists.known z e.actor has.state (lands_on has).move (record { good = has.good; may = (lands_on has).allowed; words_were = has.of_list.words_are; words_are = of.words_are; ever_was = has.of_list.ever_is; ever_is = of.ever_is }) c.begun (last_stays has) h

      not_lead : acks_of setup.layout ≡ e.actor → ⊥
      not_lead same = omega (arith, same, among)

      sweeping_on : (v : SweepingAll) → IsSweeping setup es c v → IsSweeping setup (e ∷ es) c v
      sweeping_on v s = record {
        has = aside.has_then setup lists.known e es legal ge s.has (lands_on s.has);
        over = (sweepers.end_stays lists.known z e.actor s.has.state (lands_on s.has).move).1 ∙ s.over;
        walks = walks_last lists.known z e.actor (acks_of setup.layout) (λ same. absurd (not_lead same)) s.has.state (lands_on s.has).move s.has.good (lands_on s.has).allowed v s.walks;
        behind = behind_on s.has s.behind;
        nobody = aside.nobody_marks setup lists.known e es legal ge s.has (lands_on s.has) (worker_lands off s.has).buffers (c.begun + 1) (c.begun + 1) refl s.nobody;
      }

      counting_on : (p : CountStage) → IsCounting setup es c p → IsCounting setup (e ∷ es) c p
      counting_on p h = record {
        quiet = quiet_on h.quiet;
        behind = behind_on h.quiet.has h.behind;
        read = subst (λ (x : CycleEnd). HasRead setup x p) (sym (end_stays h.quiet.has)) h.read;
      }

      told_on : IsTold setup es c → IsTold setup (e ∷ es) c
      told_on h = record {
        quiet = quiet_on h.quiet;
        behind = behind_on h.quiet.has h.behind;
        live = h.live ∙ ap (λ (x : CycleEnd). in_all x (live_at x)) (sym (end_stays h.quiet.has));
      }

      telling_on : (p : TellStage) → IsTelling setup es c p → IsTelling setup (e ∷ es) c p
      telling_on TellStage.StoreTrigger h = told_on h
      telling_on TellStage.Ended h = h
      telling_on _ h = told_on h

    closing_on : (y : closes_by.Closing) → c.stage ≡ Close y → (p : CloseStage) → y.stage ≡ p → IsClosing setup es c p → IsClosing setup (e ∷ es) c p
    closing_on y x CloseStage.StorePhase at h = sweeping_stays setup e es (nothing RunPhase.Mark (post_is (Close y) RunPhase.Mark x (ap leading.close_post at))) c _ h
    closing_on y x CloseStage.Ended at h = h
    closing_on y x _ at h = h

    off_at : (p : CoordStage) → c.stage ≡ p → (leading.Marks p → ⊥) → leading.Marks c.stage → ⊥
    off_at p x off = subst (λ (q : CoordStage). leading.Marks q → ⊥) (sym x) off

    pub at_then : (p : CoordStage) → c.stage ≡ p → HoldsAt setup es c p → HoldsAt setup (e ∷ es) c p
    at_then (LoadAck i) x h = quiet_on (off_at (LoadAck i) x (λ y. y)) h
    at_then LoadWant x h = quiet_on (off_at LoadWant x (λ y. y)) h
    at_then (Stop st) x h = quiet_on (off_at (Stop st) x (λ y. y)) h
    at_then (Open o) x h = holds_still setup e es (nothing RunPhase.Off (post_is (Open o) RunPhase.Off x (open_stopped o.stage (open_busy o x)))) c (Open o) h
    at_then (Close y) x h = closing_on y x y.stage refl h
    at_then (Sweep v) x h = sweeping_on (off_at (Sweep v) x (λ y. y)) v h
    at_then (Count y) x h = counting_on (off_at (Count y) x (λ y. y)) y.stage h
    at_then (Tell t) x h = telling_on (off_at (Tell t) x (λ y. y)) t.stage h
    at_then Done x h = told_on (off_at Done x (λ y. y)) h
    at_then _ x h = tt

    pub holds_on : Holds setup es c → Holds setup (e ∷ es) c
    holds_on h = record {
      at = at_then c.stage refl h.at;
      was = was_by_others setup lists.known e es legal among (no_full setup lists.known e es legal ge) h.was;
      counted = counted_on setup e es c h.counted;
    }
