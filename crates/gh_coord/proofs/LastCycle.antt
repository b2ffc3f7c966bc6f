-- The last cycle is begun once each processor was found gone: by the coordinator's stages.
use Rattle.std.proofs.Common.{◌≡◌, ◌≢◌, ℕ, true, arith, ◌↔◌}
use Rattle.gh_coord.proofs.Vocabulary.{Coordinating, CoordStage, FindsGone, goes, is_busy, last_of, Layout, Marks, Post, post_at, RunPhase, SoundAt, Stopped}

pub finds_gone : (l : Layout) (s : Coordinating) (found : ℕ) → is_busy s.stage ≡ true → FindsGone l found s s.stage (goes l s found)
finds_gone l s found busy = record { below = grind arith; last = grind arith }

pub finishes_at : (s : Coordinating) (stage : CoordStage) → SoundAt s stage → last_of (post_at stage) ≡ RunPhase.Finished → s.is_last ≡ true
finishes_at s stage f e = grind arith

pub stops_go_on : (s : Coordinating) (phase : RunPhase) → post_at s.stage ≡ Stopped phase → phase ≢ RunPhase.Finished
stops_go_on s phase e = grind arith

-- where the world is not stopped, marking is on while a cycle is marked
abbrev Runs : Post → Type 0
Runs post = (phase : RunPhase) → post ≡ Stopped phase → ⊥

pub marks_at : (s : Coordinating) (stage : CoordStage) → SoundAt s stage → Runs (post_at stage) → last_of (post_at stage) ≡ RunPhase.Mark ↔ Marks stage
marks_at s stage f r = grind arith
