-- What the making of an object knows of its own numbers, whatever it is told.
use Rattle.std.specs.Prelude.{ℕ, ◌+◌, ◌*◌, ◌^◌, ◌<◌, ◌≤◌, Bool, Option, Some, None}
use Rattle.gh_alloc.specs.Vocabulary.{Bits, Clear, FitsHead, Layout, Name, PlaceStage, Runs, Shape, SpanHead}
use Rattle.gh_bitmap.specs.SetPointers as bits
use Rattle.gh_central.specs.GiveBack as give
use Rattle.gh_alloc.specs.declared.place.PlaceStage.TheVariants.{Give}

-- the making of an object: of which shape and name, in the slot at which heap word and of how many words, a large one's span, whether marking is on, and its stage
pub record Placing : Type 0 where
  pub shape : Shape
  pub at : ℕ
  pub slot : ℕ
  pub name : Name
  pub span : Option SpanHead
  pub marking : Bool
  pub stage : PlaceStage

-- what a large object's span's head word says fits that word
abbrev pub FitsSpanHead : Option SpanHead → Type 0
FitsSpanHead None = Unit {0}
FitsSpanHead (Some head) = FitsHead head

-- the field is one of the slot's, and the routine that it runs is sound, and asks for a step
abbrev pub IsStage : Layout → (slot : ℕ) → PlaceStage → Type 0
IsStage l slot (Clear k) = k < slot
IsStage l slot (Bits s) = Runs (bits.listing l) s
IsStage l slot (Give g) = Runs (give.listing l) g
IsStage l slot _ = Unit {0}

pub record Sound (l : Layout) (p : Placing) : Type 0 where
  pub some : 1 ≤ p.slot
  pub within : p.at + p.slot ≤ 1024 * l.pages
  pub name : p.name.g + 1 < 2 ^ 32
  pub span : FitsSpanHead p.span
  pub stage : IsStage l p.slot p.stage
