-- A calm processor marks nothing, and stays calm as long as it does not find that marking is on.
use Rattle.std.proofs.Common.{◌≡◌, ◌≢◌, ℕ, false, List, refl, arith}
use Rattle.gh_mutator_writes.proofs.Vocabulary.{AnObjectIsMarkedBeforeItIsMade, Ask, asks, CalmProcessorsMarkNothing, CellsAreTold, FindsNoMarking, HoldsNoBuffer, is_busy_at, IsCalm, IsWrittenCalmly, KnowsNoMarking, Layout, Op, party_of, Polling, Processor, processor_kind, ProcessorInHandshake, RunPhase, RunsWithNone, Shape, stage_at, stage_of, Task}
use Rattle.gh_phase.specs.Handshake.{Party, Stage, Acts, PlaceBegins, StageGoes}
use Rattle.gh_phase.specs.Shakes.{IsParked}
use Rattle.gh_mutator.specs.ProcessorMarks.{MarksByMoves}
use Rattle.gh_mutator_writes.proofs.Calm.Holding.{holds_at}
use Rattle.gh_mutator_writes.proofs.Calm.Writes.{writes_calmly}
use Rattle.gh_mutator_writes.proofs.Writing.Rows.{leaves_others}

knows : (party : Party) (stage : Stage) → party.view.phase ≢ RunPhase.Mark → KnowsNoMarking party stage
knows party stage off = grind arith

goes_on : (found : ℕ) (from : Party) (stage : Stage) (step : Ask) (to : Party) (next : Stage) → StageGoes found from stage step to next → KnowsNoMarking from stage → FindsNoMarking step found → KnowsNoMarking to next
goes_on found from stage step to next g k off = grind arith

-- what is begun
begins_on : (from : Party) (stage : Stage) (to : Party) (next : Stage) → PlaceBegins (Acts from stage) (Acts to next) → KnowsNoMarking from stage → KnowsNoMarking to next
begins_on from stage to next h k = grind arith

begun : (shapes : List Shape) (l : Layout) (m : Processor) (o : Op) → is_busy_at m.task ≡ false → IsCalm m → HoldsNoBuffer ((processor_kind shapes l).begins m o)
begun shapes l m o rests c = grind arith

-- One that stands still at a stop, or is gone.
still_knows : (party : Party) (stage : Stage) (stops : ℕ) → IsParked stops stage → KnowsNoMarking party stage
still_knows party stage stops still = grind arith

module _ (stops : ℕ) (p : Polling) where
  runs_still : (t : Task) → IsParked stops (stage_at p t) → RunsWithNone p t
  runs_still t still = grind arith

pub calm_marks_nothing : CellsAreTold → AnObjectIsMarkedBeforeItIsMade → ProcessorInHandshake → MarksByMoves → CalmProcessorsMarkNothing
calm_marks_nothing told marks h k = record {
  first = λ seat. record { holds = record { none = refl; runs = tt }; knows = λ e. cc };
  begins = λ shapes l m o sound rests c. record { holds = begun shapes l m o rests c; knows = begins_on (party_of m) (stage_of m) _ _ (h.begins_so shapes l m o sound rests) c.knows };
  lasts = λ l shapes m found sound busy c off. record { holds = holds_at l marks shapes m found c.holds.none m.task c.holds.runs c.knows refl; knows = goes_on found (party_of m) (stage_of m) (asks l m) _ _ (h.takes_so l shapes m found sound busy) c.knows off };
  holds = λ l shapes m found c. holds_at l marks shapes m found c.holds.none m.task c.holds.runs c.knows refl;
  writes = λ l m c. writes_calmly l m.poll m.made m.task c.holds.runs;
  leaves = λ l m words c calm off. leaves_others told (IsWrittenCalmly l m) (asks l m) words c (writes_calmly l m.poll m.made m.task calm.holds.runs) off;
  behind = λ z a s m stops still f. record { holds = record { none = (k.waits z a s m stops still f).no_buffer; runs = runs_still stops m.poll m.task still }; knows = still_knows (party_of m) (stage_of m) stops still };
}
