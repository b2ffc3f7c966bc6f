-- A load of the phase gives nothing.
use Rattle.std.proofs.Common.{arith, ◌≡◌, ℕ, Option, None}
use Rattle.gh_phase.specs.Vocabulary.{RunPhase}
use Rattle.gh_phase.specs.Listing.{after_phase, given, Resuming}

pub phase_on : (r : Resuming) (number : ℕ) (phase : Option RunPhase) → given (after_phase r number phase) ≡ None
phase_on r number phase = grind arith
