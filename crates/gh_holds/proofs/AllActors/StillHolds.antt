-- Where an entry leaves everything as it was, what holds after the list holds still.
use Rattle.std.proofs.Common.{sym, subst, List, ◌∷◌}
use Rattle.gh_holds.proofs.Vocabulary.{Cell, Close, CloseStage, Coordinating, CoordStage, Count, Done, Entry, HasCleared, HasCursor, HoldsAt, IsClosing, LoadAck, LoadWant, Op, Open, OpenStage, Setup, Stop, Sweep, Tell, TellStage, Words, words}
use Rattle.gh_coord.specs.SweepingAll.{opening}
use Rattle.gh_holds.specs.ActorsHold.{IsTelling}
use Rattle.gh_holds.proofs.AllActors.Stay.{ChangesNothing, counting_stays, quiet_stays, ready_stays, sweeping_stays, told_stays}

module _ (setup : Setup) (e : Entry Op) (es : List (Entry Op)) (still : ChangesNothing setup e es) (c : Coordinating) where
  cursor_still : (stage : OpenStage) → HasCursor (words setup es Cell.Gcur) stage → HasCursor (words setup (e ∷ es) Cell.Gcur) stage
  cursor_still stage x = subst (λ (w : Words). HasCursor (w Cell.Gcur) stage) (sym still.words_are) x

  cleared_still : (stage : OpenStage) → HasCleared (words setup es Cell.Tally) (words setup es Cell.Live) stage → HasCleared (words setup (e ∷ es) Cell.Tally) (words setup (e ∷ es) Cell.Live) stage
  cleared_still stage x = subst (λ (w : Words). HasCleared (w Cell.Tally) (w Cell.Live) stage) (sym still.words_are) x

  closing_still : (stage : CloseStage) → IsClosing setup es c stage → IsClosing setup (e ∷ es) c stage
  closing_still CloseStage.StorePhase x = sweeping_stays setup e es still c (opening c.generation) x
  closing_still CloseStage.Ended x = x
  closing_still _ x = x

  telling_still : (stage : TellStage) → IsTelling setup es c stage → IsTelling setup (e ∷ es) c stage
  telling_still TellStage.StoreTrigger x = told_stays setup e es still c x
  telling_still TellStage.Ended x = x
  telling_still _ x = told_stays setup e es still c x

  -- at each stage of the coordinator
  pub holds_still : (p : CoordStage) → HoldsAt setup es c p → HoldsAt setup (e ∷ es) c p
  holds_still (LoadAck i) q = quiet_stays setup e es still c q
  holds_still LoadWant q = quiet_stays setup e es still c q
  holds_still (Stop st) q = quiet_stays setup e es still c q
  holds_still (Open o) x = (ready_stays setup e es still c x.0, cursor_still o.stage x.1, cleared_still o.stage x.2)
  holds_still (Close y) x = closing_still y.stage x
  holds_still (Sweep w) s = sweeping_stays setup e es still c w s
  holds_still (Count y) x = counting_stays setup e es still c y.stage x
  holds_still (Tell t) x = telling_still t.stage x
  holds_still Done x = told_stays setup e es still c x
  holds_still _ u = tt
