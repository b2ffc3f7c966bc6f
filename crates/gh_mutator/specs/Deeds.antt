-- The processor as a kind of actor, and its deeds: which operations have a point, which step is it, and what it means in the heap that never frees.
use Rattle.std.specs.Prelude.{◌≡◌, Bool, true, false, if◌then◌else◌, List, ◌∷◌, Option, Some, None}
use Rattle.gh_mutator.specs.Vocabulary.{Answer, Layout, Op, Shape, Task}
use Rattle.gh_mutator.specs.Processing.{Processor}
use Rattle.gh_base.specs.declared.machine.Entry.{Entry}
use Rattle.gh_base.specs.Lists.{Kind}
use Rattle.gh_base.specs.Orders.{Deeds, DeedsFit, Meaning, before_step, model_after}
use Rattle.gh_model.specs.Ever.{Ever, answer_of, ever_after, opening_ever}
use Rattle.gh_mutator.specs.Listing.{Act, acts, asks, begins, gives, is_busy_at, op_at, takes}
use Rattle.gh_mutator.specs.Processor.{opening_processor}
use Rattle.gh_mutator.specs.Serving.{has_left_at}

-- the processor as a kind of actor; one that has left begins nothing
abbrev pub processor_kind : List Shape → Layout → Kind Processor Op
processor_kind shapes l = record {
  start = λ seat. opening_processor seat;
  begins = λ m o. if has_left_at m.task then m else begins shapes m o;
  asks = asks l;
  takes = takes l shapes;
  busy = λ m. is_busy_at m.task;
}

-- Statements and the ends of goroutines have points. A poll and a leave have none.
abbrev pub has_point : Op → Bool
has_point Op.Poll = false
has_point Op.Leave = false
has_point _ = true

-- the operation, if it has a point
abbrev pub pointed : Option Op → Option Op
pointed None = None
pointed (Some o) = if has_point o then Some o else None

-- the act, if it is a point
abbrev pub point_of : Option Act → Option Act
point_of None = None
point_of (Some x) = if has_point x.op then Some x else None

-- what an operation with a point is answered
abbrev pub given_at : Task → Option Answer → Option Answer
given_at Task.Poll given = None
given_at (Task.Leave x) given = None
given_at _ given = given

abbrev pub deeds : Layout → List Shape → Deeds Processor Op Act Answer
deeds l shapes = record {
  has_point = has_point;
  unacted = λ m. pointed (op_at m.task);
  acts = λ m found. point_of (acts l m found);
  of = λ x. x.op;
  gives = λ m found. given_at m.task (gives l m found);
}

-- what an operation is answered where it acts
abbrev pub answer_at : List Shape → Ever → Act → Answer
answer_at shapes e x = if x.full then Answer.Full else answer_of shapes e x.op

abbrev pub acted : List Shape → Ever → Option Act → Ever
acted shapes e None = e
acted shapes e (Some x) = ever_after shapes e x.op (answer_at shapes e x)

-- what a point means in the heap that never frees
abbrev pub meaning : List Shape → Meaning Ever Act Answer
meaning shapes = record {
  opening = opening_ever;
  answer = answer_at shapes;
  after = λ e x a. ever_after shapes e x.op a;
}

-- Whatever the processor finds, each operation that has a point acts once, before it ends.
abbrev pub ProcessorsDeedsFit : Type 0
ProcessorsDeedsFit = (shapes : List Shape) (l : Layout) → DeedsFit (processor_kind shapes l) (deeds l shapes)

-- The heap that never frees is changed by points alone.
pub record IsChangedByPoints (shapes : List Shape) (l : Layout) : Type 0 where
  -- an act that is no point leaves it as it is
  pub alone : (e : Ever) (x : Option Act) → acted shapes e (point_of x) ≡ acted shapes e x
  -- so a list leaves in it what all acts leave
  pub follows : (es : List (Entry Op)) (e : Entry Op) → model_after (processor_kind shapes l) (deeds l shapes) (meaning shapes) (e ∷ es)
      ≡ acted shapes (model_after (processor_kind shapes l) (deeds l shapes) (meaning shapes) es) (acts l (before_step (processor_kind shapes l) (deeds l shapes) es e) e.found)

abbrev pub OnlyPointsChange : Type 0
OnlyPointsChange = (shapes : List Shape) (l : Layout) → IsChangedByPoints shapes l
