-- Which rows the routines of allocation and of marking write: by their stages.
use Rattle.std.proofs.Common.{◌≡◌, ℕ, ◌/◌, Bool, true, false, cond, eqb, refl, subst, arith}
use Rattle.gh_mutator_writes.proofs.Vocabulary.{Ask, Cell, CellsAreTold, Layout, WritesOf, WritesSo}
use Rattle.gh_base.specs.Cells.{put, Words}
use Rattle.gh_alloc.specs.declared.place.PlaceStage.{PlaceStage}
use Rattle.gh_alloc.specs.Place as place
use Rattle.gh_shade.specs.Listing as shade
use Rattle.gh_wbuf.specs.BufferGiving as buffer
use Rattle.gh_wbuf.specs.RoomFinding as room
use Rattle.gh_wbuf.specs.declared.give_buffer.GiveStage.{GiveStage as BufferStage}
use Rattle.gh_mutator.specs.MarkVocabulary.{effect}

-- these rows may be written
pub record OfHeap (P : Cell → Type 0) : Type 0 where
  pub lock : P Cell.Lock
  pub page : (i : ℕ) → P (Cell.Page i)
  pub alloc : (i : ℕ) → P (Cell.Alloc i)
  pub bitmap : (i : ℕ) → P (Cell.Bitmap i)
  pub birth : (i : ℕ) → P (Cell.Birth i)
  pub field : (i : ℕ) → P (Cell.Field i)
  pub global : (i : ℕ) → P (Cell.Global i)

pub record OfMarking (P : Cell → Type 0) : Type 0 where
  pub mark : (i : ℕ) → P (Cell.Mark i)
  pub buffer : (i : ℕ) → P (Cell.Buffer i)
  pub entry : (i j : ℕ) → P (Cell.Entry i j)

-- Allocation.
module _ (P : Cell → Type 0) (r : OfHeap P) where
  pub place_writes : (l : Layout) (p : place.Placing) → (p.stage ≡ PlaceStage.Mark → P (Cell.Mark (p.at / 64))) → (p.stage ≡ PlaceStage.Count → P Cell.Heap) → WritesOf P (place.asks l p)
  place_writes l p mark count = grind arith

-- Marking.
module _ (P : Cell → Type 0) (r : OfMarking P) where
  pub buffer_writes : (b : buffer.BufferGiving) (q : BufferStage) → WritesOf P (buffer.asks_at q)
  buffer_writes b q = grind arith

  pub room_writes : (m : room.RoomFinding) → WritesOf P (room.asks m)
  room_writes m = grind arith

  pub shade_writes : (s : shade.Shading) → WritesOf P (shade.asks s)
  shade_writes s = grind arith

  pub assist_writes : (step : Ask) → ((old new : ℕ) → step ≡ Ask.Swap Cell.Bank old new → P Cell.Bank) → WritesSo step → WritesOf P step
  assist_writes step swaps x = grind arith

-- A step leaves each word that it does not write.
pub leaves_others : CellsAreTold → (P : Cell → Type 0) (step : Ask) (words : Words) (c : Cell) → WritesOf P step → (P c → ⊥) → effect words step c ≡ words c
leaves_others k P (Ask.Load d) words c w spared = refl
leaves_others k P (Ask.Store d value) words c w spared = k.put_elsewhere words d c value (λ e. spared (subst P e w))
leaves_others k P (Ask.Or d bits) words c w spared = k.put_elsewhere words d c _ (λ e. spared (subst P e w))
leaves_others k P (Ask.And d bits) words c w spared = k.put_elsewhere words d c _ (λ e. spared (subst P e w))
leaves_others k P (Ask.Add d more) words c w spared = k.put_elsewhere words d c _ (λ e. spared (subst P e w))
leaves_others k P (Ask.Swap d old new) words c w spared = by (eqb (words d) old) where
  by : (swaps : Bool) → (cond swaps (put words d new) words) c ≡ words c
  by true = k.put_elsewhere words d c new (λ e. spared (subst P e w))
  by false = refl
