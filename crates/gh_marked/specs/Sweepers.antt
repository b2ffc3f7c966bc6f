-- Who sweeps: each actor may, a processor where it searches for a slot, a worker while no cycle is marked, and the coordinator behind each cycle.
use Rattle.std.specs.Prelude.{◌≡◌, ℕ, true, Option, Some, None}
use Rattle.gh_marked.specs.Vocabulary.{Actor, SeatSweepsNothing, State, Sweeping, SweepRuns}
use Rattle.gh_coord.specs.Listing as coord
use Rattle.gh_mutator.specs.Sweeping as mutator
use Rattle.gh_sweep.specs.Listing.{is_busy}
use Rattle.gh_worker.specs.Listing as worker

-- the sweep of a span that an actor runs, if it runs one
abbrev pub sweep_of : Actor → Option Sweeping
sweep_of (Actor.Runs m) = mutator.sweep_in m
sweep_of (Actor.Marks w) = worker.sweep_in w
sweep_of (Actor.Leads c) = coord.sweep_in c

-- The sweep that the actor at this seat runs: the span is its own from the swap on until it has told what it counted; or it runs none, and has told all.
abbrev pub IsInSweep : (a : ℕ) → State → Option Sweeping → Type 0
IsInSweep a s None = SeatSweepsNothing a s
IsInSweep a s (Some m) = SweepRuns a s m × (is_busy m.stage ≡ true)
