-- At each stage of the coordinator there is the one state of the heap and its sweep.
use Rattle.std.proofs.Common.{◌≡◌, true, refl, List}
use Rattle.gh_holds.specs.Vocabulary.{Check, Close, CloseStage, Coordinating, CoordStage, Count, Done, Entry, HasState, IsMarking, MarkOn, Op, Open, Setup, StopAgain, Sweep, Tell, TellStage, Watch}
use Rattle.gh_coord.specs.Closing as close
use Rattle.gh_coord.specs.Handshake as leading
use Rattle.gh_holds.specs.ActorsHold.{HoldsAt, IsClosing, IsTelling}
use Rattle.gh_lists.specs.Going.{ClosingIsBusy}

module _ (setup : Setup) (es : List (Entry Op)) (c : Coordinating) where
  told_has : (p : TellStage) → IsTelling setup es c p → HasState setup es
  told_has TellStage.StoreTrigger h = h.quiet.has
  told_has TellStage.Ended h = absurd h
  told_has _ h = h.quiet.has

  closing_has : (p : CloseStage) → close.is_busy p ≡ true → (close.is_marking p ≡ true → IsMarking setup es) → IsClosing setup es c p → HasState setup es
  closing_has CloseStage.StorePhase going marked h = h.has
  closing_has CloseStage.Ended going marked h = absurd h
  closing_has CloseStage.LoadBank going marked h = (marked refl).known.has
  closing_has _ going marked h = (marked refl).known.has

  pub has_at : (p : CoordStage) → ClosingIsBusy p → (leading.Marks p → IsMarking setup es) → HoldsAt setup es c p → HasState setup es
  has_at (Open o) going marked h = h.0.has
  has_at (Watch w) going marked h = (marked tt).known.has
  has_at (StopAgain st) going marked h = (marked tt).known.has
  has_at (Check w) going marked h = (marked tt).known.has
  has_at MarkOn going marked h = (marked tt).known.has
  has_at (Close y) going marked h = closing_has y.stage going marked h
  has_at (Sweep w) going marked s = s.has
  has_at (Count y) going marked h = h.quiet.has
  has_at (Tell t) going marked h = told_has t.stage h
  has_at Done going marked h = h.quiet.has
  has_at _ going marked q = q.has
