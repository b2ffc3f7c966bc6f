-- One entry more of the coordinator, at whatever stage: all that holds of lists holds then.
use Rattle.std.proofs.Common.{◌≡◌, true, refl, sym, ap, subst, List, ◌∷◌, arith}
use Rattle.gh_holds.proofs.Vocabulary.{by_event, Close, CloseStage, Coordinating, CoordStage, Count, Done, Entry, Holds, HoldsAt, IsClosing, ListsKnown, LoadAck, LoadWant, Op, Open, Setup, Stop, Sweep, Tell, WasSo, whole}
use Rattle.gh_coord.specs.Closing as close
use Rattle.gh_coord.specs.Handshake as leading
use Rattle.gh_coord.specs.Listing as coord
use Rattle.gh_holds.proofs.AllActors.LeadingCalm as calm
use Rattle.gh_holds.proofs.AllActors.LeadingCloses.{runs_on, sweeping}
use Rattle.gh_holds.proofs.AllActors.LeadingKept as kept
use Rattle.gh_holds.proofs.AllActors.LeadingSeat.{busy, ByLead}
use Rattle.gh_holds.proofs.AllActors.LeadingSwept.{sweeps}
use Rattle.gh_holds.proofs.AllActors.LeadingTold as told
use Rattle.gh_holds.proofs.AllActors.LeadingWas.{Was, was_on}

module _ (setup : Setup) (lists : ListsKnown setup) where
  module _ (e : Entry Op) (es : List (Entry Op)) (was : Was setup lists es) (by : ByLead setup e es) where
    abbrev u : Coordinating
    u = coord.counted by.lead

    abbrev To : Coordinating → Type 0
    To d = HoldsAt setup (e ∷ es) d d.stage

    closes : (x : close.Closing) → by.lead.stage ≡ Close x → (p : CloseStage) → x.stage ≡ p → close.is_busy p ≡ true → IsClosing setup es by.lead p → To (coord.after_close (coord.at_stage u (Close (close.goes_at x p e.found))) (close.given (close.goes_at x p e.found)))
    closes x is CloseStage.LoadBank at b h = tt
    closes x is CloseStage.ClearBank at b h = tt
    closes x is CloseStage.StoreGen at b h = sweeping setup lists e es by x is at (subst leading.Marks (sym is) (ap close.is_marking at)) (was es by.lead (whole es) by.led (subst leading.Marks (sym is) (ap close.is_marking at))) _ refl
    closes x is CloseStage.StorePhase at b h = runs_on setup lists e es by x is at h _ refl
    closes x is CloseStage.Ended at b h = absurd cc

    busy_at : (p : CoordStage) → by.lead.stage ≡ p → coord.is_busy p ≡ true
    busy_at p is = subst (λ (q : CoordStage). coord.is_busy q ≡ true) is (busy setup lists e es by)

    at_stage : (p : CoordStage) → by.lead.stage ≡ p → HoldsAt setup es by.lead p → To (coord.goes_at setup.layout u p e.found)
    at_stage (LoadAck i) is h = calm.acks setup lists e es by i is h
    at_stage LoadWant is h = calm.wants setup lists e es by is h
    at_stage (Stop st) is h = calm.stops setup lists e es by st is h
    at_stage (Open o) is h = calm.opens setup lists e es by o is h
    at_stage (Close x) is h = closes x is x.stage refl (busy_at (Close x) is) h
    at_stage (Sweep w) is h = sweeps setup lists e es by w is h
    at_stage (Count x) is h = told.counts setup lists e es by x is h
    at_stage (Tell t) is h = told.tells setup lists e es by t is (told.told_at setup lists es by.lead t.stage h)
    at_stage Done is h = absurd (let b = busy_at Done is in cc)
    -- while a cycle is marked nothing is said here
    at_stage p is h = by_event setup.layout u e.found To p (λ x may. grind arith)

    pub leads : Holds setup es by.lead → Holds setup (e ∷ es) (coord.goes setup.layout by.lead e.found)
    leads h = record {
      at = at_stage by.lead.stage refl h.at;
      was = was_then;
      counted = kept.counted setup lists e es by h.counted by.lead.stage refl h.at;
    } where
      was_then : WasSo setup (e ∷ es)
      was_then = was_on setup lists e es was by h.at h.was
