-- Cells, where they lie among the words of a layout, and what they hold.
use Rattle.std.specs.Prelude.{◌≡◌, ℕ, ◌+◌, ◌*◌, ◌/◌, ◌<◌, Bool, true, false, ◌==◌, ◌&&◌, if◌then◌else◌, List, length, slice_index}
use Rattle.gh_base.specs.Vocabulary.{Ack, Alloc, Bank, Begun, Birth, Bitmap, Buffer, Cell, Entry, Field, Gcur, Gen, Global, Heap, Live, Lock, Mark, Page, Phase, Scanned, Slack, Swept, Tally, Touch, Trigger, Want, Work}
use Rattle.gh_base.specs.declared.layout.Layout.{Layout}
use Rattle.gh_base.specs.declared.plan.LayoutPlan.{LayoutPlan}

-- the plan that it is of
abbrev pub plan_for : Layout → LayoutPlan
plan_for l = record { opened = l.opened; pages = l.pages; globals = l.globals; procs = l.procs; workers = l.workers; goroutines = l.goroutines }

-- the layout has the plan's numbers
pub record IsLayoutOf (plan : LayoutPlan) (l : Layout) : Type 0 where
  pub opened_are : l.opened ≡ plan.opened
  pub pages_are : l.pages ≡ plan.pages
  pub globals_are : l.globals ≡ plan.globals
  pub procs_are : l.procs ≡ plan.procs
  pub workers_are : l.workers ≡ plan.workers
  pub goroutines_are : l.goroutines ≡ plan.goroutines

-- a seat an actor: the processors, the workers, the coordinator
abbrev pub seats_of : Layout → ℕ
seats_of l = l.procs + l.workers + 1

abbrev pub buffers_of : Layout → ℕ
buffers_of l = seats_of l + 1024 * l.pages / 252 + 1

-- where each row begins, behind the one before it; 15 control words and the page words are first
abbrev pub alloc_row : Layout → ℕ
alloc_row l = 15 + l.pages

abbrev pub mark_row : Layout → ℕ
mark_row l = alloc_row l + 16 * l.pages

abbrev pub bitmap_row : Layout → ℕ
bitmap_row l = mark_row l + 16 * l.pages

abbrev pub birth_row : Layout → ℕ
birth_row l = bitmap_row l + 16 * l.pages

abbrev pub field_row : Layout → ℕ
field_row l = birth_row l + 1024 * l.pages

abbrev pub global_row : Layout → ℕ
global_row l = field_row l + 1024 * l.pages

abbrev pub buffer_row : Layout → ℕ
buffer_row l = global_row l + l.globals

abbrev pub entry_row : Layout → ℕ
entry_row l = buffer_row l + buffers_of l

abbrev pub ack_row : Layout → ℕ
ack_row l = entry_row l + 253 * buffers_of l

abbrev pub scanned_row : Layout → ℕ
scanned_row l = ack_row l + l.procs + l.workers

-- how many words there are
abbrev pub length_of : Layout → ℕ
length_of l = scanned_row l + l.goroutines

-- the number of the cell's word
abbrev pub word_of : Layout → Cell → ℕ
word_of l Touch = 0
word_of l Phase = 1
word_of l Gen = 2
word_of l Begun = 3
word_of l Swept = 4
word_of l Lock = 5
word_of l Want = 6
word_of l Bank = 7
word_of l Gcur = 8
word_of l Heap = 9
word_of l Trigger = 10
word_of l Work = 11
word_of l Slack = 12
word_of l Tally = 13
word_of l Live = 14
word_of l (Page i) = 15 + i
word_of l (Alloc i) = alloc_row l + i
word_of l (Mark i) = mark_row l + i
word_of l (Bitmap i) = bitmap_row l + i
word_of l (Birth i) = birth_row l + i
word_of l (Field i) = field_row l + i
word_of l (Global i) = global_row l + i
word_of l (Buffer i) = buffer_row l + i
word_of l (Entry i j) = entry_row l + 253 * i + j
word_of l (Ack i) = ack_row l + i
word_of l (Scanned i) = scanned_row l + i

-- the layout has the cell
abbrev pub InRange : Layout → Cell → Type 0
InRange l (Page i) = i < l.pages
InRange l (Alloc i) = i < 16 * l.pages
InRange l (Mark i) = i < 16 * l.pages
InRange l (Bitmap i) = i < 16 * l.pages
InRange l (Birth i) = i < 1024 * l.pages
InRange l (Field i) = i < 1024 * l.pages
InRange l (Global i) = i < l.globals
InRange l (Buffer i) = i < buffers_of l
InRange l (Entry i j) = (i < buffers_of l) × (j < 253)
InRange l (Ack i) = i < l.procs + l.workers
InRange l (Scanned i) = i < l.goroutines
InRange l _ = Unit {0}

abbrev pub same_cell : Cell → Cell → Bool
same_cell Touch Touch = true
same_cell Phase Phase = true
same_cell Gen Gen = true
same_cell Begun Begun = true
same_cell Swept Swept = true
same_cell Lock Lock = true
same_cell Want Want = true
same_cell Bank Bank = true
same_cell Gcur Gcur = true
same_cell Heap Heap = true
same_cell Trigger Trigger = true
same_cell Work Work = true
same_cell Slack Slack = true
same_cell Tally Tally = true
same_cell Live Live = true
same_cell (Page i) (Page j) = i == j
same_cell (Alloc i) (Alloc j) = i == j
same_cell (Mark i) (Mark j) = i == j
same_cell (Bitmap i) (Bitmap j) = i == j
same_cell (Birth i) (Birth j) = i == j
same_cell (Field i) (Field j) = i == j
same_cell (Global i) (Global j) = i == j
same_cell (Buffer i) (Buffer j) = i == j
same_cell (Entry i j) (Entry k m) = (i == k) && (j == m)
same_cell (Ack i) (Ack j) = i == j
same_cell (Scanned i) (Scanned j) = i == j
same_cell _ _ = false

-- what each cell holds
abbrev pub Words : Type 0
Words = Cell → ℕ

abbrev pub put : Words → Cell → ℕ → Words
put words cell value at = if same_cell cell at then value else words at

-- what a heap of this layout opens with: 0 everywhere, save the sweep generation, the slack and the trigger
abbrev pub opening_words : Layout → (trigger : ℕ) → Words
opening_words l trigger Gen = 2
opening_words l trigger Slack = 1
opening_words l trigger Trigger = trigger
opening_words l trigger _ = 0

-- this list of words is these cells
pub record ShowsCells (l : Layout) (list : List ℕ) (words : Words) : Type 0 where
  pub long : length list ≡ length_of l
  pub each : (cell : Cell) → InRange l cell → slice_index list (word_of l cell) ≡ words cell

-- a word is of one cell
abbrev pub WordsAreApart : Layout → Type 0
WordsAreApart l = (c d : Cell) → InRange l c → InRange l d → word_of l c ≡ word_of l d → c ≡ d

abbrev pub WordsAreBelow : Layout → Type 0
WordsAreBelow l = (c : Cell) → InRange l c → word_of l c < length_of l
