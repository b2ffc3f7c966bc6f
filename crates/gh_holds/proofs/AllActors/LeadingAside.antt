-- One entry more of the coordinator outside of marking: it keeps whether the cycle is the last, and what is said of the cycle that ended last goes on; and where its step is on no word of spans and counts, so does all that is swept.
use Rattle.std.proofs.Common.{◌≡◌, ℕ, ◌+◌, ◌≤◌, true, refl, sym, ap, subst, ◌∙◌, arith, List, ◌∷◌, None}
use Rattle.gh_holds.proofs.Vocabulary.{actors_after, Arena, arena, by_event, Cell, Coordinating, CoordStage, Done, Entry, ever_stays, HasEnded, HasState, IsLed, IsOff, keeps_last, Layout, ListsKnown, NotAcks, Op, Setup, State, Sweep, sweep_of}
use Rattle.gh_coord.specs.Listing as coord
use Rattle.gh_holds.proofs.AllActors.Aside as aside
use Rattle.gh_holds.proofs.AllActors.Aside.{beside_of, keeps_buffers, Lands, TellsNothing}
use Rattle.gh_holds.proofs.AllActors.LeadingSeat.{ByLead, from, led_then, sweeps_before, sweeps_then}
use Rattle.gh_holds.proofs.AllActors.SinceEnd.{as_it_ended, has_ended_on, KeepsEnd, LastStays, MovesBy, quiet_keeps_end}

-- it runs no sweep, and begins none
abbrev pub NotSweeps : CoordStage → Type 0
NotSweeps (Sweep w) = ⊥
NotSweeps Done = ⊥
NotSweeps _ = Unit {0}

sweeps_none : (p : CoordStage) → NotSweeps p → coord.sweep_at p ≡ None
sweeps_none p other = grind arith

begins_none : (l : Layout) (u : Coordinating) (p : CoordStage) (found : ℕ) → NotSweeps p → coord.sweep_in (coord.goes_at l u p found) ≡ None
begins_none l u (Sweep w) found other = absurd other
begins_none l u Done found other = absurd other
begins_none l u p found other = by_event l u found (λ (to : Coordinating). coord.sweep_in to ≡ None) p (λ x may. grind arith)

module _ (setup : Setup) (lists : ListsKnown setup) where
  abbrev z : Arena
  z = arena setup

  -- no cycle is under way, spans below the page are swept, and of the cycle that ended last is known what has changed since
  pub record IsBehind (es : List (Entry Op)) (c : Coordinating) (page : ℕ) : Type 0 where
    pub off : IsOff setup es (c.begun + 1) page
    pub behind : HasEnded setup es c.begun off.has.state

  module _ (e : Entry Op) (es : List (Entry Op)) (by : ByLead setup e es) where
    abbrev u : Coordinating
    u = coord.counted by.lead

    abbrev pub ge : setup.layout.procs ≤ e.actor
    ge = from setup lists e es by

    abbrev Step : HasState setup es → Type 0
    Step has = Lands setup lists.known e es by.legal ge has

    abbrev pub then : (has : HasState setup es) → Step has → State
    then has x = aside.then setup lists.known e es by.legal ge has x

    -- it was the last before
    last_so : NotAcks by.lead.stage → (d : Coordinating) → IsLed setup (e ∷ es) d → d.is_last ≡ true → by.lead.is_last ≡ true
    last_so other d led_d is =
        let one : coord.goes setup.layout by.lead e.found ≡ d = (let both = sym (led_then setup lists e es by) ∙ led_d in cc) in
        sym (keeps_last setup.layout u by.lead.stage e.found other) ∙ (ap (λ (x : Coordinating). x.is_last) one ∙ is)

    pub last_stays : NotAcks by.lead.stage → (s t : State) → KeepsEnd s t → LastStays setup e es s t
    last_stays other s t keeps d led_d is = ((by.lead, by.led, last_so other d led_d is), ever_stays setup lists.known.points e es by.legal ge, as_it_ended s t keeps)

    pub behind_on : NotAcks by.lead.stage → (has : HasState setup es) (x : Step has) → KeepsEnd has.state (then has x) → (k : ℕ) → HasEnded setup es k has.state → HasEnded setup (e ∷ es) k (then has x)
    behind_on other has x keeps k b = has_ended_on setup e es lists.known z e.actor has.state x.move moves k (last_stays other has.state (then has x) keeps) b where
      moves : MovesBy setup e es z e.actor has.state x.move
      moves = record {
        good = has.good;
        may = x.allowed;
        words_were = has.of_list.words_are;
        words_are = (aside.of_list setup lists.known e es by.legal ge has x).words_are;
        ever_was = has.of_list.ever_is;
        ever_is = (aside.of_list setup lists.known e es by.legal ge has x).ever_is;
      }

    -- behind such a step
    abbrev pub goes_on : NotAcks by.lead.stage → (page : ℕ) (b : IsBehind es by.lead page) (x : Step b.off.has) → ((i : ℕ) → (then b.off.has x).heap.words (Cell.Buffer i) ≡ b.off.has.state.heap.words (Cell.Buffer i)) → KeepsEnd b.off.has.state (then b.off.has x) → (d : Coordinating) → d.begun ≡ by.lead.begun → IsBehind (e ∷ es) d page
    goes_on other page b x buffers keeps d same = record {
      off = aside.off_then setup lists.known e es by.legal ge (by.lead.begun + 1) page b.off x buffers (d.begun + 1) (ap (λ (n : ℕ). n + 1) same);
      behind = subst (λ (k : ℕ). HasEnded setup (e ∷ es) k (then b.off.has x)) (sym same) (behind_on other b.off.has x keeps by.lead.begun b.behind);
    }

    -- A step that runs no sweep, on no word of spans and counts.
    module _ (still : NotSweeps by.lead.stage) where
      pub none_before : sweep_of (actors_after z setup.pacing setup.may es e.actor) ≡ None
      none_before = sweeps_before setup lists e es by by.lead.stage refl ∙ sweeps_none by.lead.stage still

      pub none_then : sweep_of (actors_after z setup.pacing setup.may (e ∷ es) e.actor) ≡ None
      none_then = sweeps_then setup lists e es by by.lead.stage refl ∙ begins_none setup.layout u by.lead.stage e.found still

      module _ (tells : TellsNothing e.ask) where
        abbrev pub steps : (has : HasState setup es) → Step has
        steps has = aside.by_quiet_none setup lists.known e es by.legal ge has none_before (beside_of lists.known.footprints e.ask tells) (λ over. tells) none_then

        abbrev pub quiet_on : (cycle page : ℕ) → IsOff setup es cycle page → (later : ℕ) → later ≡ cycle → IsOff setup (e ∷ es) later page
        quiet_on cycle page q later same = aside.off_then setup lists.known e es by.legal ge cycle page q (steps q.has) (keeps_buffers lists.known.footprints e.ask tells q.has.state.heap.words) later same

        abbrev pub told_on : NotAcks by.lead.stage → (page : ℕ) → IsBehind es by.lead page → (d : Coordinating) → d.begun ≡ by.lead.begun → IsBehind (e ∷ es) d page
        told_on other page b d same = goes_on other page b (steps b.off.has) (keeps_buffers lists.known.footprints e.ask tells b.off.has.state.heap.words) (quiet_keeps_end z e.actor b.off.has.state e.ask) d same
