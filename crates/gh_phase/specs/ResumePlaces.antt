-- Where going on after a stop stands in the handshake.
use Rattle.std.specs.Prelude.{◌≡◌, ℕ, Some}
use Rattle.gh_phase.specs.Vocabulary.{Acknowledge, Ended, Layout, LoadBegun, LoadGeneration, LoadPhase, Resumed, ResumeStage, View}
use Rattle.gh_phase.specs.Handshake.{Awake, KeepsHandshake, Party, Resumes, Stage}
use Rattle.gh_phase.specs.Listing.{gives, goes, opening, Resuming, transitions}

abbrev pub party_of : Resuming → Party
party_of r = record { seat = r.seat; view = r.view }

-- once it has ended the actor is awake
abbrev pub stands_at : (stops : ℕ) → ResumeStage → Stage
stands_at stops Acknowledge = Resumes stops Acknowledge
stands_at stops LoadPhase = Resumes stops LoadPhase
stands_at stops LoadGeneration = Resumes stops LoadGeneration
stands_at stops LoadBegun = Resumes stops LoadBegun
stands_at stops (Ended another_cycle) = Awake

abbrev pub stage_of : Resuming → Stage
stage_of r = stands_at r.stops r.stage

-- its steps are those of the handshake, and what it ends with is what is known then
pub record ResumesInHandshake : Type 0 where
  -- it begins where that stop is to be acknowledged, with what is known before
  pub begins : (seat stops : ℕ) (view : View) → (party_of (opening seat stops view) ≡ record { seat = seat; view = view }) × (stage_of (opening seat stops view) ≡ Resumes stops Acknowledge)
  pub keeps : (l : Layout) → KeepsHandshake (transitions l) (λ r. Unit {0}) party_of stage_of
  pub seat_stays : (r : Resuming) (found : ℕ) → (goes r found).seat ≡ r.seat
  pub ends : (r : Resuming) (found : ℕ) (out : Resumed) → gives r found ≡ Some out → ((goes r found).view ≡ out.view) × (stage_of (goes r found) ≡ Awake)
