-- While marking is on, an object is marked before it is made; while it is off, nothing is marked.
use Rattle.std.specs.Prelude.{◌≡◌, ◌≢◌, ℕ, ◌<◌, true, false, Option}
use Rattle.gh_alloc.specs.Vocabulary.{cell_of, Layout, Name, Or, PlaceStage, Shape, SpanHead, steps_of, told}
use Rattle.gh_base.specs.declared.cell.Cell.TheVariants.{Alloc, Mark}
use Rattle.gh_alloc.specs.Place.{Placing, asks, goes, listing, opening}

-- before this step one has set the same bits of the mark word
pub record IsMarkedBefore (l : Layout) (p : Placing) (found : ℕ → ℕ) (step i bits : ℕ) : Type 0 where
  pub earlier : ℕ
  pub before : earlier < step
  pub marks : asks l (told (steps_of l (listing l)) p found earlier) ≡ Or (Mark i) bits

-- the object is made while marking is off
pub record IsMadeUnmarked (p : Placing) : Type 0 where
  pub off : p.marking ≡ false
  pub stage : p.stage ≢ PlaceStage.Mark

-- whatever it is told
pub record AnObjectIsMarkedBeforeItIsMade : Type 0 where
  -- a step that sets bits of an alloc word, while marking is on
  pub marked : (l : Layout) (shape : Shape) (at slot : ℕ) (name : Name) (span : Option SpanHead) (found : ℕ → ℕ) (step i bits : ℕ) →
      let p = opening shape at slot name span true in
      asks l (told (steps_of l (listing l)) p found step) ≡ Or (Alloc i) bits → IsMarkedBefore l p found step i bits
  -- while it is off, at its first step and behind each, no step is on a mark word
  pub opens_off : (shape : Shape) (at slot : ℕ) (name : Name) (span : Option SpanHead) → IsMadeUnmarked (opening shape at slot name span false)
  pub stays_off : (p : Placing) (found : ℕ) → IsMadeUnmarked p → IsMadeUnmarked (goes p found)
  pub unmarked : (l : Layout) (p : Placing) (i : ℕ) → IsMadeUnmarked p → cell_of (asks l p) ≢ Mark i
