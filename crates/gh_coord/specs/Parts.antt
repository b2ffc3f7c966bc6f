-- Where the coordinator is in a cycle, by its stage.
use Rattle.gh_coord.specs.Vocabulary.{Check, Close, CloseStage, CoordStage, Count, Done, LoadAck, LoadWant, MarkOn, Open, OpenStage, Stop, StopAgain, Sweep, Tell, TellStage, Watch}

pub data Part : Type 0 where
  -- the last cycle is told, and the next has no number yet
  Outside : Part
  -- the next has its number, and is still asked for
  Numbered : Part
  -- the request is cleared
  Opened : Part
  -- its number stands as begun
  Begun : Part
  -- it is checked that nothing is left to be marked, and the next sweep generation has its number
  Checked : Part
  -- which stands
  Ended : Part
  -- what the sweep has counted is read
  Counted : Part

abbrev pub open_part : OpenStage → Part
open_part OpenStage.ClearWant = Numbered
open_part OpenStage.StorePhase = Begun
open_part OpenStage.Ended = Begun
open_part _ = Opened

abbrev pub close_part : CloseStage → Part
close_part CloseStage.StorePhase = Ended
close_part CloseStage.Ended = Ended
close_part _ = Checked

abbrev pub tell_part : TellStage → Part
tell_part TellStage.StoreTrigger = Counted
tell_part TellStage.StoreSwept = Counted
tell_part _ = Outside

abbrev pub part_of : CoordStage → Part
part_of (LoadAck i) = Outside
part_of LoadWant = Outside
part_of (Stop st) = Outside
part_of (Open o) = open_part o.stage
part_of (Watch w) = Begun
part_of (StopAgain st) = Begun
part_of (Check w) = Begun
part_of MarkOn = Begun
part_of (Close c) = close_part c.stage
part_of (Sweep w) = Ended
part_of (Count c) = Ended
part_of (Tell t) = tell_part t.stage
part_of Done = Outside
