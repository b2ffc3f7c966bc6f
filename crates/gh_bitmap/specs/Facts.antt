-- What is known while the pointer bits of a claimed slot are set and any number of processors change the heap; what each step of its own is, that it is on a word that there is, and that what is known lasts whatever others do.
use Rattle.std.specs.Prelude.{◌≡◌, ℕ, ◌+◌, ◌*◌, ◌/◌, ◌<◌, Bool, Option, Some, None}
use Rattle.gh_bitmap.specs.Vocabulary.{bit, cell_of, Clear, Ended, InRange, is_pointer, Row, row_bit, Set, SetStage}
use Rattle.gh_heap.specs.Moves.{Others, Steps}
use Rattle.gh_heap.specs.Rights.{Arena, Claims, Good, Right, Shared, View, view}
use Rattle.gh_heap.specs.Spans.{Laying}
use Rattle.gh_bitmap.specs.SetPointers.{PointerSetting, asks, given, goes}
use Rattle.gh_bitmap.specs.Sound.{Touches}
use Rattle.gh_bitmap.specs.Stepping.{FitsSlot}

-- the bits of the slot's words below heap word x are those of the shape's pointer fields
abbrev pub ToldBelow : PointerSetting → (bitmap : Row) → (x : ℕ) → Type 0
ToldBelow s bitmap x = (k : ℕ) → k < s.slot → s.at + k < x → row_bit bitmap (s.at + k) ≡ bit (is_pointer s.shape k)

-- those in word i are clear
abbrev pub ClearIn : PointerSetting → (bitmap : Row) → (i : ℕ) → Type 0
ClearIn s bitmap i = (k : ℕ) → k < s.slot → (s.at + k) / 64 ≡ i → row_bit bitmap (s.at + k) ≡ 0

abbrev pub FactsAt : PointerSetting → Row → SetStage → Type 0
FactsAt s bitmap (Clear i) = Touches s.at s.slot i × ToldBelow s bitmap (64 * i)
FactsAt s bitmap (Set i) = Touches s.at s.slot i × ToldBelow s bitmap (64 * i) × ClearIn s bitmap i
FactsAt s bitmap Ended = ⊥

pub record Facts (z : Arena) (a : ℕ) (v : View) (s : PointerSetting) : Type 0 where
  pub shape : FitsSlot s.shape s.slot
  pub some : 0 < s.slot
  pub claim : Claims z v a s.at s.slot
  pub stage : FactsAt s v.bitmap s.stage

-- What a step comes to in w: the facts of the next stage; or all the slot's bits are told.
abbrev pub Comes : Arena → (a : ℕ) → (w : View) → Option (Unit {0}) → PointerSetting → Type 0
Comes z a w None s = Facts z a w s
Comes z a w (Some _) s = Claims z w a s.at s.slot × ToldBelow s w.bitmap (s.at + s.slot)

abbrev pub Opens : Type 0
Opens = (z : Arena) (a : ℕ) (v : View) (s : PointerSetting) → FitsSlot s.shape s.slot → Claims z v a s.at s.slot → 0 < s.slot → s.stage ≡ Clear (s.at / 64) → Facts z a v s

-- A step of its own; it needs no lock, and of the rows it writes the bitmap alone.
abbrev pub OwnStep : Type 0
OwnStep = (z : Arena) (a : ℕ) (s : Shared) (l : Bool) (held : ℕ → Bool) (y : Option Laying) (m : PointerSetting) → Good z (view s) → Right a (view s) l held y → Facts z a (view s) m →
    Steps z a s (asks z.layout m) (λ t. (view t ≡ record (view s) { bitmap = (view t).bitmap }) × Right a (view t) l held y × Comes z a (view t) (given (goes m (s.words (cell_of (asks z.layout m))))) (goes m (s.words (cell_of (asks z.layout m)))))

-- it is on a word that there is
abbrev pub Within : Type 0
Within = (z : Arena) (a : ℕ) (v : View) (m : PointerSetting) → Facts z a v m → InRange z.layout (cell_of (asks z.layout m))

-- the steps of others
abbrev pub Lasts : Type 0
Lasts = (z : Arena) (a : ℕ) (v w : View) (m : PointerSetting) → Others z a v w → Facts z a v m → Facts z a w m

pub record SetsByItsRights : Type 0 where
  pub opens : Opens
  pub own_step : OwnStep
  pub within : Within
  pub lasts : Lasts
