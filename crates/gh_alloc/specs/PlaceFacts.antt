-- What is known at each stage of the making of an object while any number of processors change the heap, under which rights, and the laws: what each step of its own is, that it is on a word that there is, and that what is known lasts whatever others do.
use Rattle.std.specs.Prelude.{◌≡◌, ℕ, ◌+◌, ◌/◌, ◌<◌, Bool, true, false, length, Option, Some, None}
use Rattle.gh_alloc.specs.Vocabulary.{Alloc, Arena, Birth, birth_word, Bits, cell_of, Claims, Clear, Count, Good, GoroutineRuns, InRange, IsFull, LoadTrigger, Mark, MOST_STATEMENTS, Others, owned_by, placed_at, PlaceStage, REGISTERS, Right, Shared, size_class_of, SizeClass, SpanHead, Steps, update, View, view}
use Rattle.gh_base.specs.Rows.{Row}
use Rattle.gh_base.specs.Shapes.{shape_at}
use Rattle.gh_model.specs.declared.EverValue.{EverValue}
use Rattle.gh_model.specs.Ever.{field_count, next_name, with_object, with_register}
use Rattle.gh_heap.specs.Objects.{IsMade}
use Rattle.gh_bitmap.specs.declared.set_pointers.SetStage.{SetStage}
use Rattle.gh_bitmap.specs.Facts as bits
use Rattle.gh_bitmap.specs.SetPointers.{PointerSetting, at_stage as bits_at, opening as begin_bits}
use Rattle.gh_bitmap.specs.Stepping.{FitsSlot}
use Rattle.gh_central.specs.GiveBack.{SpanGiving}
use Rattle.gh_central.specs.GiveFacts.{CanGiveBack}
use Rattle.gh_alloc.specs.declared.place.PlaceStage.TheVariants.{Give, Ended}
use Rattle.gh_alloc.specs.Place.{Placing, makes_its_object, asks, at_stage, gives, goes}

-- The routine before its first step. What is known is said of it and of the stage.
abbrev pub base : Placing → Placing
base p = at_stage p (Clear 0)

-- for whom: register d of goroutine g takes an object of type t
pub record For : Type 0 where
  pub g : ℕ
  pub d : ℕ
  pub t : ℕ

-- The span of a large object, in which it has the one slot; it is given back once the object is made.
abbrev pub IsItsSpan : Option SpanHead → (p : ℕ) → (h : SpanHead) → (at : ℕ) → Type 0
IsItsSpan None p h at = Unit {0}
IsItsSpan (Some head) p h at = (p ≡ at / 1024) × (owned_by 0 h ≡ owned_by 0 head) × (h.class ≡ SizeClass.Large)

-- what is to be made, and for whom: it does not change
pub record Places (z : Arena) (f : For) (p : Placing) : Type 0 where
  pub shape : p.shape ≡ shape_at z.shapes f.t
  pub slot : p.slot ≡ field_count (shape_at z.shapes f.t)
  pub fits : FitsSlot p.shape p.slot
  pub some : 0 < p.slot
  pub register : f.d < REGISTERS
  pub type : f.t < length z.shapes

-- until the object is made: the seat claims its slot, and the name is the next of its goroutine
pub record Unmade (z : Arena) (a : ℕ) (v : View) (f : For) (p : Placing) : Type 0 where
  pub places : Places z f p
  pub runs : GoroutineRuns z v a f.g
  pub few : v.ever.made f.g < MOST_STATEMENTS
  pub name : p.name ≡ next_name v.ever f.g
  pub claim : Claims z v a p.at p.slot
  pub class : claim.h.class ≡ size_class_of p.shape.words
  pub noscan : claim.h.noscan ≡ p.shape.noscan
  pub own : IsItsSpan p.span claim.p claim.h p.at

-- the slot's fields below field k are clear
abbrev pub FieldsClear : (field : Row) → (at k : ℕ) → Type 0
FieldsClear field at k = (j : ℕ) → j < k → field (at + j) ≡ 0

-- the fields are clear, and the birth word says the name
pub record Born (v : View) (p : Placing) : Type 0 where
  pub fields : FieldsClear v.field p.at p.slot
  pub birth : v.birth p.at ≡ birth_word p.name

-- the object is made
pub record Made (v : View) (p : Placing) : Type 0 where
  pub made : IsMade v.ever.made p.name
  pub at : v.place p.name ≡ p.at

-- the routine that sets the bits of the slot, at this stage
abbrev pub setting_at_stage : Placing → SetStage → PointerSetting
setting_at_stage p q = bits_at (begin_bits p.shape p.at p.slot) q

-- the slot is as the object's is to be: its fields, its birth word and its pointer bits
abbrev pub Filled : Arena → (a : ℕ) → View → For → Placing → Type 0
Filled z a v f p = Unmade z a v f p × Born v p × bits.ToldBelow (setting_at_stage p SetStage.Ended) v.bitmap (p.at + p.slot)

-- a large object's span is given back next
pub record GivesUp (z : Arena) (a : ℕ) (v : View) (p : Placing) (g : SpanGiving) : Type 0 where
  pub head : SpanHead
  pub span : p.span ≡ Some head
  pub back : CanGiveBack z a v g
  pub large : back.h.class ≡ SizeClass.Large
  pub full : IsFull v.alloc g.page back.h
  pub page : g.page ≡ p.at / 1024

abbrev pub FactsAt : Arena → (a : ℕ) → View → For → Placing → PlaceStage → Type 0
FactsAt z a v f p (Clear k) = Unmade z a v f p × (k < p.slot) × FieldsClear v.field p.at k
FactsAt z a v f p Birth = Unmade z a v f p × FieldsClear v.field p.at p.slot
FactsAt z a v f p (Bits s) = Unmade z a v f p × Born v p × (s ≡ setting_at_stage p s.stage) × bits.Facts z a v s
FactsAt z a v f p Mark = Filled z a v f p
FactsAt z a v f p Alloc = Filled z a v f p
FactsAt z a v f p (Give g) = Made v p × GivesUp z a v p g
FactsAt z a v f p Count = Made v p
FactsAt z a v f p (LoadTrigger bytes) = Made v p
FactsAt z a v f p (Ended wants) = ⊥

abbrev pub Facts : Arena → (a : ℕ) → View → For → Placing → Type 0
Facts z a v f p = FactsAt z a v f (base p) p.stage

-- The spans that the seat holds at a stage, where it held those before: a large object's is given back before its bytes are counted.
abbrev pub held_by : PlaceStage → Option SpanHead → (page : ℕ) → (ℕ → Bool) → ℕ → Bool
held_by Count (Some h) page held = update held page false
held_by (LoadTrigger bytes) (Some h) page held = update held page false
held_by (Ended wants) (Some h) page held = update held page false
held_by _ _ page held = held

abbrev pub held_in : Placing → (ℕ → Bool) → ℕ → Bool
held_in p held = held_by p.stage p.span (p.at / 1024) held

-- the heap that never frees changes exactly by the step that makes the object
abbrev pub Changes : Arena → For → Placing → (acted : Bool) → (v w : View) → Type 0
Changes z f p true v w = (w.ever ≡ with_register (with_object z.shapes v.ever f.g f.t) f.g f.d (EverValue.Ref (next_name v.ever f.g))) × (w.place ≡ placed_at v.place (next_name v.ever f.g) p.at) × (p.name ≡ next_name v.ever f.g)
Changes z f p false v w = (w.ever ≡ v.ever) × (w.place ≡ v.place)

-- What a step comes to in w: the right that its seat has then; and the facts of the next stage, or that the object is made.
abbrev pub Comes : Arena → (a : ℕ) → (w : View) → For → (ℕ → Bool) → Option Bool → Placing → Type 0
Comes z a w f held None p = Right a w false (held_in p held) None × Facts z a w f p
Comes z a w f held (Some _) p = Right a w false (held_in p held) None × Made w p

-- the step that counts the bytes changes words alone
abbrev pub CountsAlone : PlaceStage → (s t : Shared) → Type 0
CountsAlone Count s t = t ≡ record s { words = t.words }
CountsAlone _ s t = Unit {0}

abbrev pub Opens : Type 0
Opens = (z : Arena) (a : ℕ) (v : View) (f : For) (p : Placing) → Unmade z a v f p → p.stage ≡ Clear 0 → Facts z a v f p

-- a step of its own; it needs no lock
abbrev pub OwnStep : Type 0
OwnStep = (z : Arena) (a : ℕ) (s : Shared) (f : For) (held : ℕ → Bool) (p : Placing) → Good z (view s) → Right a (view s) false (held_in p held) None → Facts z a (view s) f p →
    Steps z a s (asks z.layout p) (λ t. Changes z f p (makes_its_object p) (view s) (view t) × Comes z a (view t) f held (gives p (s.words (cell_of (asks z.layout p)))) (goes p (s.words (cell_of (asks z.layout p)))) × CountsAlone p.stage s t)

-- it is on a word that there is
abbrev pub Within : Type 0
Within = (z : Arena) (a : ℕ) (v : View) (f : For) (p : Placing) → Good z v → Facts z a v f p → InRange z.layout (cell_of (asks z.layout p))

-- the steps of others
abbrev pub Lasts : Type 0
Lasts = (z : Arena) (a : ℕ) (v w : View) (f : For) (p : Placing) → Good z v → Others z a v w → Facts z a v f p → Facts z a w f p

pub record PlacesByItsRights : Type 0 where
  pub opens : Opens
  pub own_step : OwnStep
  pub within : Within
  pub lasts : Lasts
