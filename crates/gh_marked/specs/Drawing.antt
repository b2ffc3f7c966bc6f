-- A cycle goes on to be drawn: each entry leads from a picture of the one state to a picture of the other. So its picture has the invariants, and marking has what they say.
use Rattle.std.proofs.Common.{◌≡◌, ℕ, ◌+◌, List, ◌∷◌}
use Rattle.gh_marked.specs.Vocabulary.{arena, BeginsDrawn, Coordinating, Cycle, CyclesBeginDrawn, EachStepIsDrawn, EachStepKeepsTheInvariants, EndsClean, Entry, Invariants, IsChecked, IsDrawn, IsStateOf, many, Marking, MarkingEndsDrawn, MarkingGood, Op, OpeningsHold, Opens, Setup, Tricolour, Went, WhatThePictureSays, words}
use Rattle.gh_marked.specs.Drawn.{begins, CycleIsDrawn, Drawing, steps}
use Rattle.gh_marked.specs.Tied.{IsOfHeap, IsTied}
use Rattle.gh_marked.specs.LemmaVocabulary.{IsDrawnSo, IsToBegin}

-- what is known of the picture
pub record DrawnKnown : Type 0 where
  pub opens : OpeningsHold
  pub keeps : EachStepKeepsTheInvariants
  pub begins : CyclesBeginDrawn
  pub steps : EachStepIsDrawn
  pub says : WhatThePictureSays
  pub ends : MarkingEndsDrawn

module _ (setup : Setup) (known : DrawnKnown) (z : Cycle) where
  -- where it begins
  pub drawn_first : (es : List (Entry Op)) (s : Marking) → IsToBegin setup es z.number → s.words ≡ words setup es → IsOfHeap setup es z s → Opens z s → (room : ℕ) → IsDrawnSo setup z s es room
  drawn_first es s starts same of_heap opens room =
      let first : BeginsDrawn z s room = known.begins z s room opens in
      let d : IsDrawn z s first.first room = first.drawn in
      record { picture = d.picture; at = d.at; drawing = begins es s first.first d.picture d.at starts same of_heap first.opens d.goes d.shows; shows = d.shows; room_left = d.room_left }

  -- and behind each entry; for that there was room for as many objects more as the entry has moves
  pub drawn_then : (e : Entry Op) (es : List (Entry Op)) (s t : Marking) → MarkingGood z s → Went z e.actor s t → t.words ≡ words setup (e ∷ es) → IsOfHeap setup (e ∷ es) z t → ((room : ℕ) → IsDrawnSo setup z s es room) → (room : ℕ) → IsDrawnSo setup z t (e ∷ es) room
  drawn_then e es s t good went same of_heap was room =
      let b : IsDrawnSo setup z s es (room + many z e.actor s t went) = was (room + many z e.actor s t went) in
      let d : IsDrawn z t b.picture room = known.steps z e.actor s t went b.at b.picture room good b.shows b.room_left in
      record { picture = d.picture; at = d.at; drawing = steps e es s t b.picture d.picture d.at b.drawing went same of_heap d.goes d.shows; shows = d.shows; room_left = d.room_left }

  keeps : (es : List (Entry Op)) (s : Marking) (p : Tricolour) → Drawing setup z es s p → Invariants p
  keeps es s p (begins _ _ first _ at starts same of_heap opens goes shows) = known.keeps first p goes (known.opens first opens)
  keeps es t p (steps e before s _ q _ at drawing went same of_heap goes shows) = known.keeps q p goes (keeps before s q drawing)

  pub is_drawn : (es : List (Entry Op)) (c : Coordinating) (s : Marking) → IsStateOf (arena setup) setup.pacing setup.may es c z s → IsTied setup es z s → (IsChecked c.stage → EndsClean z s) → IsDrawnSo setup z s es 0 → CycleIsDrawn setup es c
  is_drawn es c s is tied ends d =
      let fine : Invariants d.picture = keeps es s d.picture d.drawing in
      record {
        cycle = z;
        shared = s;
        is = is;
        tied = tied;
        picture = d.picture;
        drawing = d.drawing;
        invariants = fine;
        says = known.says z s tied.of_heap.good;
        done = λ checked. known.ends z s d.at d.picture (ends checked).done d.shows fine;
      }
