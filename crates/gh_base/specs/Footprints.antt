-- Footprints: which rows of the words a routine writes. What is written is among the rows of a table, so every word of another row stays as it is.
use Rattle.std.specs.Prelude.{◌≡◌, ℕ, Bool, true, false, not, ◌&&◌, ◌||◌, List, [], ◌∷◌}
use Rattle.gh_base.specs.Vocabulary.{Ask, Cell}
use Rattle.gh_base.specs.Cells.{Words}
use Rattle.gh_base.specs.Steps.{effect}

-- the name of a row: a cell without its place
pub data RowName : Type 0 where
  Touch : RowName
  Phase : RowName
  Gen : RowName
  Begun : RowName
  Swept : RowName
  Lock : RowName
  Want : RowName
  Bank : RowName
  Gcur : RowName
  Heap : RowName
  Trigger : RowName
  Work : RowName
  Slack : RowName
  Tally : RowName
  Live : RowName
  Page : RowName
  Alloc : RowName
  Mark : RowName
  Bitmap : RowName
  Birth : RowName
  Field : RowName
  Global : RowName
  Buffer : RowName
  Entry : RowName
  Ack : RowName
  Scanned : RowName

abbrev pub row_of : Cell → RowName
row_of Cell.Touch = Touch
row_of Cell.Phase = Phase
row_of Cell.Gen = Gen
row_of Cell.Begun = Begun
row_of Cell.Swept = Swept
row_of Cell.Lock = Lock
row_of Cell.Want = Want
row_of Cell.Bank = Bank
row_of Cell.Gcur = Gcur
row_of Cell.Heap = Heap
row_of Cell.Trigger = Trigger
row_of Cell.Work = Work
row_of Cell.Slack = Slack
row_of Cell.Tally = Tally
row_of Cell.Live = Live
row_of (Cell.Page i) = Page
row_of (Cell.Alloc i) = Alloc
row_of (Cell.Mark i) = Mark
row_of (Cell.Bitmap i) = Bitmap
row_of (Cell.Birth i) = Birth
row_of (Cell.Field i) = Field
row_of (Cell.Global i) = Global
row_of (Cell.Buffer i) = Buffer
row_of (Cell.Entry i j) = Entry
row_of (Cell.Ack i) = Ack
row_of (Cell.Scanned i) = Scanned

-- some rows
abbrev pub Footprint : Type 0
Footprint = RowName → Bool

-- the step loads, or is on one of these rows: it is computed, so that a proof of it is `refl` at each stage
abbrev pub writes_in : Footprint → Ask → Bool
writes_in f (Ask.Load c) = true
writes_in f (Ask.Store c value) = f (row_of c)
writes_in f (Ask.Or c bits) = f (row_of c)
writes_in f (Ask.And c bits) = f (row_of c)
writes_in f (Ask.Add c more) = f (row_of c)
writes_in f (Ask.Swap c old new) = f (row_of c)

abbrev pub Writes : Footprint → Ask → Type 0
Writes f step = writes_in f step ≡ true

-- each of these rows is one of those: it is computed too
abbrev pub holds_at : Footprint → Footprint → RowName → Bool
holds_at f g r = not (f r) || g r

abbrev pub all_rows : (RowName → Bool) → List RowName → Bool
all_rows p [] = true
all_rows p (r ∷ rs) = p r && all_rows p rs

abbrev pub each_row : List RowName
each_row =
    Touch ∷ Phase ∷ Gen ∷ Begun ∷ Swept ∷ Lock ∷ Want ∷ Bank ∷ Gcur ∷ Heap ∷ Trigger ∷ Work ∷ Slack ∷ Tally ∷ Live
    ∷ Page ∷ Alloc ∷ Mark ∷ Bitmap ∷ Birth ∷ Field ∷ Global ∷ Buffer ∷ Entry ∷ Ack ∷ Scanned ∷ []

abbrev pub are_among : Footprint → Footprint → Bool
are_among f g = all_rows (holds_at f g) each_row

-- Of every footprint: what is written is among more rows, and each word of another row is as it was.
pub record FootprintsHold : Type 0 where
  pub among : (f g : Footprint) (step : Ask) → are_among f g ≡ true → Writes f step → Writes g step
  pub leaves : (f : Footprint) (step : Ask) (words : Words) (c : Cell) → Writes f step → f (row_of c) ≡ false → effect words step c ≡ words c
