-- The cycles that the coordinator keeps behind its step are those that were counted.
use Rattle.std.proofs.Common.{◌≡◌, subst, List, ◌∷◌, slice_get, Some, arith}
use Rattle.gh_holds.proofs.Vocabulary.{AllWereCounted, by_event, Coordinating, CoordStage, Count, Entry, HoldsAt, ListsKnown, Op, Setup}
use Rattle.gh_coord.specs.Keeping.{Kept}
use Rattle.gh_coord.specs.Listing as coord
use Rattle.gh_holds.proofs.AllActors.LeadingSeat.{ByLead}
use Rattle.gh_holds.proofs.AllActors.LeadingTold as told
use Rattle.gh_holds.proofs.AllActors.Starts.{counted_on}

module _ (setup : Setup) (lists : ListsKnown setup) where
  module _ (e : Entry Op) (es : List (Entry Op)) (by : ByLead setup e es) where
    abbrev u : Coordinating
    u = coord.counted by.lead

    -- The list of cycles.
    module _ (before : AllWereCounted setup es by.lead) where
      same_list : (d : Coordinating) → d.cycles ≡ by.lead.cycles → AllWereCounted setup (e ∷ es) d
      same_list d same i y is = counted_on setup e es by.lead before i y (subst (λ (k : Kept). slice_get k.items i ≡ Some y) same is)

      same_at : (p : CoordStage) → (coord.goes_at setup.layout u p e.found).cycles ≡ by.lead.cycles → AllWereCounted setup (e ∷ es) (coord.goes_at setup.layout u p e.found)
      same_at p same = same_list (coord.goes_at setup.layout u p e.found) same

      pub counted : (p : CoordStage) → by.lead.stage ≡ p → HoldsAt setup es by.lead p → AllWereCounted setup (e ∷ es) (coord.goes_at setup.layout u p e.found)
      counted (Count x) is h = told.keeps setup lists e es by x is h before
      counted p is h = same_at p (by_event setup.layout u e.found (λ (to : Coordinating). to.cycles ≡ u.cycles) p (λ x may. grind arith))
