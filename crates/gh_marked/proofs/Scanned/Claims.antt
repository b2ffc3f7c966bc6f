-- Which steps move the cursor of globals: of workers those that claim one, and of the coordinator's the one that clears it.
use Rattle.std.proofs.Common.{◌≡◌, ◌⊎◌, inl, inr, ℕ, false, refl, sym, subst, arith, Option, Some, None}
use Rattle.gh_marked.proofs.Vocabulary.{acknowledges, Add, Ask, Cell, claimed_by, claims, Coordinating, CoordStage, effect, Footprint, hands_over, IsEnding, Layout, Open, OpenStage, OwnStep, shades, stores_cell, Words, WorkersAreRoutines, Working, Writes}
use Rattle.gh_base.specs.Footprints as row
use Rattle.gh_scan.specs.Listing as scan
use Rattle.gh_sweep.specs.Listing as sweep
use Rattle.gh_worker.specs.Handshake.{Sound}
use Rattle.gh_worker.specs.Listing as worker
use Rattle.gh_coord.specs.Listing.{asks_at}
use Rattle.gh_lists.specs.Frames.{LeavesNumbers}

-- The step leaves the cursor, and ends no cycle's marking.
pub record LeavesCursor (ask : Ask) : Type 0 where
  pub cursor : (words : Words) → effect words ask Cell.Gcur ≡ words Cell.Gcur
  pub ends : stores_cell Cell.Gen ask ≡ false

pub leaves_cursor : (ask : Ask) → LeavesNumbers ask → LeavesCursor ask
leaves_cursor ask h = grind arith

-- and of a worker: it claims no global
pub record ClaimsNone (l : Layout) (ask : Ask) : Type 0 where
  pub leaves : LeavesCursor ask
  pub none : (found : ℕ) → claimed_by l ask found ≡ 0

-- what writes neither of the two rows
spares : (l : Layout) (f : Footprint) (ask : Ask) → f row.Gcur ≡ false → f row.Gen ≡ false → Writes f ask → ClaimsNone l ask
spares l f ask cursor gen writes = record { leaves = record { cursor = grind arith; ends = grind arith }; none = grind arith }

-- or it moves the cursor
pub works_at : WorkersAreRoutines → (l : Layout) (w : Working) → Sound w → ClaimsNone l (worker.asks l w) ⊎ (worker.asks l w ≡ Add Cell.Gcur 1)
works_at k l w sound = go (worker.sweep_in w) refl where
  by : OwnStep w.seat (worker.asks l w) → ClaimsNone l (worker.asks l w) ⊎ (worker.asks l w ≡ Add Cell.Gcur 1)
  by (shades writes) = inl (spares l scan.writes (worker.asks l w) refl refl writes)
  by (claims is) = inr is
  by (hands_over words is) = inl (subst (ClaimsNone l) (sym is) (record { leaves = record { cursor = λ v. refl; ends = refl }; none = λ found. refl }))
  by (acknowledges stops is) = inl (subst (ClaimsNone l) (sym is) (record { leaves = record { cursor = λ v. refl; ends = refl }; none = λ found. refl }))

  go : (x : Option sweep.Sweeping) → worker.sweep_in w ≡ x → ClaimsNone l (worker.asks l w) ⊎ (worker.asks l w ≡ Add Cell.Gcur 1)
  go None none = by (k.own_step l w sound none)
  go (Some sw) is = inl (spares l sweep.writes (worker.asks l w) refl refl (k.sweeps_alone l w sw is).writes)

-- of the coordinator's: it clears the cursor, or ends a cycle's marking
abbrev pub IsClearing : CoordStage → Type 0
IsClearing (Open o) = o.stage ≡ OpenStage.ClearGcur
IsClearing _ = ⊥

pub leads_at : (l : Layout) (c : Coordinating) (p : CoordStage) → LeavesCursor (asks_at l c p) ⊎ (IsClearing p ⊎ IsEnding p)
leads_at l c p = grind arith
