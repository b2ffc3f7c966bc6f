-- One entry more of a processor: what holds after every list holds then, whatever the coordinator's stage, but that of marking alone.
use Rattle.std.proofs.Common.{◌≡◌, ℕ, ◌+◌, ◌<◌, ◌==◌, Bool, true, false, refl, sym, ap, subst, ◌∙◌, arith, List, ◌∷◌, Some, None, eqb-true}
use Rattle.gh_holds.proofs.Vocabulary.{acks_of, Arena, arena, Check, Close, CloseStage, Coordinating, CoordStage, Count, CountStage, CycleEnd, Done, Entry, Given, HasEnded, HasRead, Holds, HoldsAt, in_all, IsClosing, IsCounting, IsLed, IsOff, IsQuiet, IsSweeping, IsTold, KeepsIt, last_of, last_phase, Lead, Leads, Legal, ListsKnown, live_at, LoadAck, LoadWant, MarkOn, may_of, Op, Open, OpenStage, other, page_at, place_of, RunPhase, setup_for, State, Stop, StopAgain, Stopped, Sweep, SweepingAll, Tell, TellStage, those, Wanted, WasMarked, Watch, whole}
use Rattle.gh_coord.specs.Closing as closes_by
use Rattle.gh_coord.specs.Handshake as leading
use Rattle.gh_coord.specs.Opening as opens_by
use Rattle.gh_coord.specs.Telling as tells_by
use Rattle.gh_holds.specs.ActorsHold.{IsTelling}
use Rattle.gh_lists.specs.Handshake as handshake
use Rattle.gh_holds.proofs.AllActors.Gone.{gone_rests}
use Rattle.gh_marked.proofs.OneStep.Landing as landing
use Rattle.gh_holds.proofs.AllActors.Others.{was_by_others}
use Rattle.gh_holds.proofs.AllActors.Quieting as quieting
use Rattle.gh_holds.proofs.AllActors.Quieting.{IsCalmStage}
use Rattle.gh_holds.proofs.AllActors.SinceEnd.{has_ended_on}
use Rattle.gh_holds.proofs.AllActors.Starts.{counted_on}
use Rattle.gh_holds.proofs.AllActors.Still.{IsStill, is_still}
use Rattle.gh_holds.proofs.AllActors.StillHolds.{holds_still}
use Rattle.gh_marked.proofs.OneStep.Sweepers as sweepers
use Rattle.gh_holds.proofs.AllActors.Walking.{walks_last}
use Rattle.gh_holds.proofs.AllActors.Was.{heap_refuses, RefusesRightly, still_refuses}

-- while a cycle is opened the world is stopped
open_stopped : (p : OpenStage) → opens_by.is_busy p ≡ true → leading.open_post p ≡ Stopped RunPhase.Off
open_stopped p busy = grind arith

module _ (given : Given) (wanted : Wanted) (lists : ListsKnown (setup_for given))
    (e : Entry Op) (es : List (Entry Op)) (legal : Legal (those (setup_for given)) (e ∷ es)) (was : WasMarked (arena (setup_for given)) given.pacing (may_of given.shapes given.layout given.counts) es) (c : Coordinating) (led : IsLed (setup_for given) es c) (lt : e.actor < given.layout.procs) where
  abbrev z : Arena
  z = arena (setup_for given)

  abbrev H : List (Entry Op) → Type 0
  H xs = Holds (setup_for given) xs c

  among : e.actor < acks_of given.layout
  among = omega (arith, lt)

  keeps : KeepsIt (those (setup_for given)) es
  keeps = lists.keeps es legal.0

  -- The last cycle is swept, and each processor is gone.

  phase_is : c.stage ≡ Done → last_phase es ≡ RunPhase.Finished
  phase_is done =
      let leads : Leads keeps.shakes.lead ≡ Leads (leading.lead_of c) = sym keeps.shakes.leads ∙ ap place_of led in
      let same : keeps.shakes.lead ≡ leading.lead_of c = cc in
      keeps.shakes.led.last_is ∙ (ap (λ (x : Lead). last_of x.post) same ∙ ap (λ (p : CoordStage). last_of (leading.post_at p)) done)

  not_done : c.stage ≡ Done → ⊥
  not_done done = gone_rests (setup_for given) lists e es legal lt (keeps.processors_left e.actor lt (phase_is done))

  other_seat : (e.actor == acks_of given.layout) ≡ false
  other_seat = go (e.actor == acks_of given.layout) refl where
    go : (b : Bool) → (e.actor == acks_of given.layout) ≡ b → (e.actor == acks_of given.layout) ≡ false
    go false is = is
    go true is = absurd (let same = eqb-true e.actor (acks_of given.layout) is in omega (arith, same, lt))

  -- in the last cycle each is gone, so that none steps
  not_last : (d : Coordinating) → IsLed (setup_for given) (e ∷ es) d → d.is_last ≡ true → ⊥
  not_last d led_d is = gone_rests (setup_for given) lists e es legal lt (keeps.processors_gone d (sym (other (setup_for given) e es (acks_of given.layout) other_seat) ∙ led_d) is e.actor lt)

  -- Where the world is stopped nothing changes.
  module _ (phase : RunPhase) (post : leading.post_at c.stage ≡ Stopped phase) where
    still : IsStill (setup_for given) e es
    still = is_still (setup_for given) wanted.read lists e es legal c phase led post among

    pub stopped_now : (p : CoordStage) → HoldsAt (setup_for given) es c p → HoldsAt (setup_for given) (e ∷ es) c p × RefusesRightly (setup_for given) e es
    stopped_now p h = (holds_still (setup_for given) e es still.changes c p h, still_refuses (setup_for given) e es still)

  stopped_at : (p : CoordStage) (phase : RunPhase) → c.stage ≡ p → leading.post_at p ≡ Stopped phase → leading.post_at c.stage ≡ Stopped phase
  stopped_at p phase is post = ap leading.post_at is ∙ post

  open_busy : (o : opens_by.CycleOpening) → c.stage ≡ Open o → opens_by.is_busy o.stage ≡ true
  open_busy o is = (subst (leading.SoundAt c) is (subst (handshake.Sound given.layout) led (keeps.shakes.all_sound (acks_of given.layout) (omega arith))).1).1

  abbrev Now : CoordStage → Type 0
  Now p = HoldsAt (setup_for given) (e ∷ es) c p × RefusesRightly (setup_for given) e es

  -- No cycle is under way, and the world runs.
  module _ (calm : IsCalmStage c.stage) (cycle page : ℕ) (q : IsOff (setup_for given) es cycle page) where
    abbrev land : landing.Lands given lists.good lists.limits lists.known wanted e es legal lt q.has
    land = quieting.land given wanted lists e es legal lt c led calm cycle page q

    abbrev s : State
    s = q.has.state

    abbrev off : IsOff (setup_for given) (e ∷ es) cycle page
    off = quieting.off_then given wanted lists e es legal lt c led calm cycle page q

    refuses : RefusesRightly (setup_for given) e es
    refuses = heap_refuses (setup_for given) e es legal lt lists.known q.has land.after.does.full

    end_is : off.has.state.end ≡ s.end
    end_is = (sweepers.end_stays lists.known z e.actor s land.move).0

    behind : (k : ℕ) → HasEnded (setup_for given) es k s → HasEnded (setup_for given) (e ∷ es) k off.has.state
    behind k h = has_ended_on (setup_for given) e es lists.known z e.actor s land.move (record { good = q.has.good; may = land.allowed; words_were = q.has.of_list.words_are; words_are = off.has.of_list.words_are; ever_was = q.has.of_list.ever_is; ever_is = off.has.of_list.ever_is }) k (λ d led_d is. absurd (not_last d led_d is)) h

  quiet_now : IsCalmStage c.stage → (q : IsQuiet (setup_for given) es c) → IsQuiet (setup_for given) (e ∷ es) c × RefusesRightly (setup_for given) e es
  quiet_now calm q = (off calm (c.begun + 1) given.layout.pages q, refuses calm (c.begun + 1) given.layout.pages q)

  told_then : IsCalmStage c.stage → IsTold (setup_for given) es c → IsTold (setup_for given) (e ∷ es) c × RefusesRightly (setup_for given) e es
  told_then calm h = (
    record {
      quiet = off calm (c.begun + 1) given.layout.pages h.quiet;
      behind = behind calm (c.begun + 1) given.layout.pages h.quiet c.begun h.behind;
      live = h.live ∙ ap (λ (x : CycleEnd). in_all x (live_at x)) (sym (end_is calm (c.begun + 1) given.layout.pages h.quiet));
    },
    refuses calm (c.begun + 1) given.layout.pages h.quiet,
  )

  counting_then : IsCalmStage c.stage → (p : CountStage) → IsCounting (setup_for given) es c p → IsCounting (setup_for given) (e ∷ es) c p × RefusesRightly (setup_for given) e es
  counting_then calm p h = (
    record {
      quiet = off calm (c.begun + 1) given.layout.pages h.quiet;
      behind = behind calm (c.begun + 1) given.layout.pages h.quiet c.begun h.behind;
      read = subst (λ (x : CycleEnd). HasRead (setup_for given) x p) (sym (end_is calm (c.begun + 1) given.layout.pages h.quiet)) h.read;
    },
    refuses calm (c.begun + 1) given.layout.pages h.quiet,
  )

  sweeping_then : IsCalmStage c.stage → (w : SweepingAll) → IsSweeping (setup_for given) es c w → IsSweeping (setup_for given) (e ∷ es) c w × RefusesRightly (setup_for given) e es
  sweeping_then calm w h = (
    record {
      has = (off calm (c.begun + 1) page q).has;
      over = (off calm (c.begun + 1) page q).over;
      walks = walks_last lists.known z e.actor (acks_of given.layout) (λ same. omega (arith, same, lt)) h.has.state (land calm (c.begun + 1) page q).move h.has.good (land calm (c.begun + 1) page q).allowed w h.walks;
      behind = behind calm (c.begun + 1) page q c.begun h.behind;
      nobody = (off calm (c.begun + 1) page q).nobody;
    },
    refuses calm (c.begun + 1) page q,
  ) where
    page : ℕ
    page = page_at h.has.state w.stage

    q : IsOff (setup_for given) es (c.begun + 1) page
    q = record { has = h.has; over = h.over; passed = h.walks.passed; nobody = h.nobody }

  marks_now : leading.Marks c.stage → RefusesRightly (setup_for given) e es
  marks_now on = let k = (was es c (whole es) led on).marking.known in
      heap_refuses (setup_for given) e es legal lt lists.known k.has (landing.lands given lists.good lists.limits lists.known wanted e es legal lt k.has (λ over. absurd (let no : None ≡ Some k.under_way.0 = sym over ∙ k.under_way.1 in cc))).after.does.full

  calm_at : (p : CoordStage) → c.stage ≡ p → IsCalmStage p → IsCalmStage c.stage
  calm_at p is calm = subst IsCalmStage (sym is) calm

  told_now : (t : tells_by.Telling) → c.stage ≡ Tell t → (p : TellStage) → IsTelling (setup_for given) es c p → IsTelling (setup_for given) (e ∷ es) c p × RefusesRightly (setup_for given) e es
  told_now t is TellStage.Ended h = absurd h
  told_now t is TellStage.StoreTrigger h = told_then (calm_at (Tell t) is tt) h
  told_now t is TellStage.StoreSwept h = told_then (calm_at (Tell t) is tt) h
  told_now t is TellStage.StorePhase h = told_then (calm_at (Tell t) is tt) h

  closing_now : (y : closes_by.Closing) → c.stage ≡ Close y → (p : CloseStage) → y.stage ≡ p → IsClosing (setup_for given) es c p → Now (Close y)
  closing_now y is CloseStage.Ended at h = absurd h
  closing_now y is CloseStage.LoadBank at h = stopped_now RunPhase.Mark (stopped_at (Close y) RunPhase.Mark is (ap leading.close_post at)) (Close y) (subst (IsClosing (setup_for given) es c) (sym at) h)
  closing_now y is _ at h = stopped_now RunPhase.Mark (stopped_at (Close y) RunPhase.Mark is (ap leading.close_post at)) (Close y) (subst (IsClosing (setup_for given) es c) (sym at) h)

  now_at : (p : CoordStage) → c.stage ≡ p → HoldsAt (setup_for given) es c p → Now p
  now_at (LoadAck i) is q = quiet_now (calm_at (LoadAck i) is tt) q
  now_at LoadWant is q = quiet_now (calm_at LoadWant is tt) q
  now_at (Stop st) is q = quiet_now (calm_at (Stop st) is tt) q
  now_at (Open o) is h = stopped_now RunPhase.Off (stopped_at (Open o) RunPhase.Off is (open_stopped o.stage (open_busy o is))) (Open o) h
  now_at (Watch w) is h = (tt, marks_now (subst leading.Marks (sym is) tt))
  now_at (StopAgain st) is h = (tt, marks_now (subst leading.Marks (sym is) tt))
  now_at (Check w) is h = stopped_now RunPhase.Mark (stopped_at (Check w) RunPhase.Mark is refl) (Check w) h
  now_at MarkOn is h = stopped_now RunPhase.Mark (stopped_at MarkOn RunPhase.Mark is refl) MarkOn h
  now_at (Close y) is h = closing_now y is y.stage refl h
  now_at (Sweep w) is h = sweeping_then (calm_at (Sweep w) is tt) w h
  now_at (Count y) is h = counting_then (calm_at (Count y) is tt) y.stage h
  now_at (Tell t) is h = told_now t is t.stage h
  now_at Done is h = absurd (not_done is)

  pub by_processor : H es → H (e ∷ es)
  by_processor h = let now = now_at c.stage refl h.at in record {
    at = now.0;
    was = was_by_others (setup_for given) lists.known e es legal among now.1 h.was;
    counted = counted_on (setup_for given) e es c h.counted;
  }
