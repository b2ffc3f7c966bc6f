-- One step of a processor or a worker in the handshake.
use Rattle.std.proofs.Common.{◌≡◌, ℕ, ◌⊎◌, inl, inr, refl, ◌∙◌, ap, arith}
use Rattle.gh_phase.proofs.Vocabulary.{Ack, Acknowledge, Ask, Awake, Begun, cell_of, effect, FromAwake, Gen, Gives, GONE, Gone, IsQuietInHandshake, Leaves, Party, Phase, phase_of, phase_stored, phase_word, PhaseWord, put, resume_asks, Resumes, ResumeStage, RunPhase, Stage, StageGoes, Store, Words}
use Rattle.gh_phase.proofs.Shaking.Standing.{Announced, Finds, Fits, Moves, owed_on, resume_ack, resumes, Stands, word_of}

-- the words are as announced
pub record Shown (v : Announced) (w : Words) : Type 0 where
  pub phase : w Phase ≡ word_of v
  pub generation : w Gen ≡ v.generation
  pub begun : w Begun ≡ v.begun

-- a step of seat a that leaves the coordinator's words, and changes no acknowledgement but its own
pub record OwnStep (v : Announced) (a : ℕ) (w u : Words) (ask : Ask) : Type 0 where
  pub own : Moves v (w (Ack a)) (u (Ack a))
  pub others : (b : ℕ) → (b ≡ a → ⊥) → u (Ack b) ≡ w (Ack b)
  pub phase : u Phase ≡ w Phase
  pub generation : u Gen ≡ w Gen
  pub begun : u Begun ≡ w Begun
  pub last : (p : RunPhase) → phase_stored ask p ≡ p

-- a step that writes no word of the handshake
pub record IsStill (w u : Words) (ask : Ask) : Type 0 where
  pub acks : (b : ℕ) → u (Ack b) ≡ w (Ack b)
  pub phase : u Phase ≡ w Phase
  pub generation : u Gen ≡ w Gen
  pub begun : u Begun ≡ w Begun
  pub last : (p : RunPhase) → phase_stored ask p ≡ p

pub still : (w : Words) (ask : Ask) → IsQuietInHandshake ask → IsStill w (effect w ask) ask
still w ask q = record { acks = grind arith; phase = grind arith; generation = grind arith; begun = grind arith; last = grind arith }

still_own : (v : Announced) (a : ℕ) (w u : Words) (ask : Ask) → IsStill w u ask → OwnStep v a w u ask
still_own v a w u ask s = grind arith

put_own : (seat a x : ℕ) (w : Words) → seat ≡ a → put w (Ack seat) x (Ack a) ≡ x
put_own seat a x w e = grind arith

ack_own : (v : Announced) (seat a x : ℕ) (w : Words) → seat ≡ a → (x ≡ GONE) ⊎ (x ≡ v.stops) → OwnStep v a w (put w (Ack seat) x) (Store (Ack seat) x)
ack_own v seat a x w e m = grind arith

-- what the step of a processor or a worker leaves
pub record Owned (v : Announced) (a : ℕ) (w : Words) (ask : Ask) (to : Party) (stage : Stage) : Type 0 where
  pub step : OwnStep v a w (effect w ask) ask
  pub seat : to.seat ≡ a
  pub stands : Stands v (effect w ask (Ack a)) to.view stage

module _ (back : (p : PhaseWord) → phase_of (phase_word p) ≡ p) (v : Announced) (fits : Fits v) (a : ℕ) (w : Words) (shown : Shown v w) where
  calm : (ask : Ask) (from to : Party) (stage : Stage) → IsQuietInHandshake ask → to ≡ from → from.seat ≡ a → Stands v (w (Ack a)) from.view stage → Owned v a w ask to stage
  calm ask from to stage free same seat f =
      let s = still w ask free in
      record { step = still_own v a w (effect w ask) ask s; seat = rw same seat; stands = rw (same, s.acks a) f }

  from_awake : (found : ℕ) (ask : Ask) (from : Party) (stage : Stage) → found ≡ w (cell_of ask) → FromAwake found ask stage → Stands v (w (Ack a)) from.view Awake → Stands v (w (Ack a)) from.view stage
  from_awake found ask from stage e g f = grind arith

  finds : (seat stops : ℕ) (stage : ResumeStage) (found : ℕ) → found ≡ w (cell_of (resume_asks seat stops stage)) → Finds v stage found
  finds seat stops stage found e = grind arith

  resume_step : (from : Party) (stops : ℕ) (stage : ResumeStage) → from.seat ≡ a → Stands v (w (Ack a)) from.view (Resumes stops stage) →
      OwnStep v a w (effect w (resume_asks from.seat stops stage)) (resume_asks from.seat stops stage) × (effect w (resume_asks from.seat stops stage) (Ack a) ≡ resume_ack (w (Ack a)) stops stage)
  resume_step from stops stage seat f = grind arith

  pub own : (found : ℕ) (from to : Party) (stage next : Stage) (ask : Ask) → found ≡ w (cell_of ask) → from.seat ≡ a → StageGoes found from stage ask to next → Stands v (w (Ack a)) from.view stage → Owned v a w ask to next
  own found from to Awake next ask e seat g f = calm ask from to next g.1 g.0 seat (from_awake found ask from next e g.2 f)
  own found from to (Gives stops) next ask e seat g f = calm ask from to next g.1 g.0 seat (given next g.2) where
    given : (next : Stage) → (next ≡ Gives stops) ⊎ (next ≡ Resumes stops Acknowledge) → Stands v (w (Ack a)) from.view next
    given next (inl x) = rw x f
    given next (inr x) = rw x (f.0, f.1, f.2 ∙ owed_on v f.0)
  own found from to (Resumes stops stage) next ask e seat g f =
      let s = resume_step from stops stage seat f in
      let at : found ≡ w (cell_of (resume_asks from.seat stops stage)) = e ∙ ap (λ (x : Ask). w (cell_of x)) g.1 in
      let after = resumes back v (w (Ack a)) from.view stops stage found fits (finds from.seat stops stage found at) f in
      record { step = rw g.1 s.0; seat = rw g.0 seat; stands = rw (g.0, g.1, g.2, s.1) after }
  own found from to Leaves next ask e seat g f =
      record { step = rw g.1 (ack_own v from.seat a GONE w seat (inl refl)); seat = rw g.0 seat; stands = rw (g.1, g.2) (put_own from.seat a GONE w seat) }
  own found from to Gone next ask e seat g f = absurd g
