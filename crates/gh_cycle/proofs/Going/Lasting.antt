-- What a step leaves that makes no object: the two states still belong together.
use Rattle.std.proofs.Common.{arith, ap, refl, ◌∙◌, ◌≡◌, ◌≢◌, ℕ, ◌<◌, true, false}
use Rattle.gh_cycle.proofs.Vocabulary.{Arena, Cell, ClaimsSlot, END, Heap, IsBeside, IsKnownObject, Marking, Name, Placing, Reach, RegistersFit, view, Cycle}
use Rattle.gh_marks.specs.Moves as marks
use Rattle.gh_marks.specs.Moves.{SameExtent}

pub record MakesNone (z : Arena) (h k : Heap) (s t : Marking) : Type 0 where
  pub words : t.words ≡ k.words
  pub place : k.place ≡ h.place
  pub types : k.ever.type_of ≡ h.ever.type_of
  pub reach : (n : Name) → Reach k.ever n → Reach h.ever n
  pub since : (o : ℕ) → s.since o ≡ true → t.since o ≡ true
  pub known : (o : ℕ) → s.known o ≡ true → t.known o ≡ true
  pub known_before : (n : Name) → IsKnownObject k t n → IsKnownObject h s n
  pub bases : t.extents.base ≡ s.extents.base
  pub extents : (o : ℕ) → s.known o ≡ true → SameExtent s.extents t.extents o
  pub filling : (o a : ℕ) → t.colour o ≡ Placing a → ClaimsSlot z (view k) a o
  pub registers : RegistersFit z k t
  pub goes_on : (g : ℕ) → g < z.layout.goroutines → k.ever.ended g ≡ false → t.words (Cell.Scanned g) ≢ END

pub beside-lasts : (z : Arena) (h k : Heap) (s t : Marking) → IsBeside z h s → MakesNone z h k s t → IsBeside z k t
beside-lasts z h k s t c m = grind (arith, base) where
  base : (x : ℕ) → t.extents.base x ≡ x
  base x = ap (λ (f : ℕ → ℕ). f x) m.bases ∙ c.base x

-- the moves of marking leave what heap words name
base-moved : (z : Cycle) (a : ℕ) (s : Marking) (m : marks.Move) → (marks.moved z a s m).extents.base ≡ s.extents.base
base-moved z a s (marks.Place o size pointer noscan g d) = refl
base-moved z a s _ = refl

pub bases-stay : (z : Cycle) (a : ℕ) (s t : Marking) → marks.Went z a s t → t.extents.base ≡ s.extents.base
bases-stay z a s t marks.stays = refl
bases-stay z a s t (marks.goes u m went may) = base-moved z a u m ∙ bases-stay z a s u went
