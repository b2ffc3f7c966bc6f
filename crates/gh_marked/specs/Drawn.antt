-- A cycle in the picture of the argument for the write barrier (`gh_tri`): from where it begins on, each step of the list, of whichever actor, is a list of moves of the picture, each of which may be made, and of changes of registers.
use Rattle.std.specs.Prelude.{◌≡◌, ℕ, ◌+◌, ◌≤◌, List, ◌∷◌}
use Rattle.gh_marked.specs.Vocabulary.{arena_of, Coordinating, Cycle, Entry, first_words, Goes, Invariants, IsBeginning, IsChecked, IsLedBy, IsMarkingDone, IsOpeningPicture, IsStateOf, Marking, Op, Row, Setup, ThePictureSays, Tricolour, Went, Words, words_after}
use Rattle.gh_marks.specs.Shows.{Shows}
use Rattle.gh_marked.specs.Tied.{IsOfHeap, IsTied}

module _ (setup : Setup) where
  -- the words after the list
  abbrev told : List (Entry Op) → Words
  told es = words_after (first_words setup) es

  -- with the next entry cycle k begins
  pub record IsToBegin (es : List (Entry Op)) (k : ℕ) : Type 0 where
    pub lead : Coordinating
    pub led : IsLedBy (arena_of setup.shapes setup.layout) setup.pacing setup.may es lead
    pub stage : IsBeginning lead.stage
    pub cycle : lead.begun ≡ k

  -- Behind the list the picture shows this state of marking, which is one of its heap. Where the cycle begins it comes of one as at a cycle's begin; and each entry since is moves of marking of its actor, which are moves of the picture.
  pub data Drawing (z : Cycle) : List (Entry Op) → Marking → Tricolour → Type 0 where
    begins : (es : List (Entry Op)) (s : Marking) (first picture : Tricolour) (at : Row) → IsToBegin es z.number → s.words ≡ told es → IsOfHeap setup es z s → IsOpeningPicture first → Goes first picture → Shows z s at picture → Drawing z es s picture
    steps : (e : Entry Op) (es : List (Entry Op)) (s t : Marking) (before picture : Tricolour) (at : Row) → Drawing z es s before → Went z e.actor s t → t.words ≡ told (e ∷ es) → IsOfHeap setup (e ∷ es) z t → Goes before picture → Shows z t at picture → Drawing z (e ∷ es) t picture

  -- there is such a picture, with room for so many objects more
  pub record IsDrawnSo (z : Cycle) (s : Marking) (es : List (Entry Op)) (room : ℕ) : Type 0 where
    pub picture : Tricolour
    pub at : Row
    pub drawing : Drawing z es s picture
    pub shows : Shows z s at picture
    pub room_left : picture.objects + room ≤ picture.limit

  -- So the cycle that is marked is drawn: its state of marking is that of the list, the picture has its invariants, and marking has what they say. Where the coordinator has checked that nothing is left to be marked, nothing is in the picture.
  pub record CycleIsDrawn (es : List (Entry Op)) (c : Coordinating) : Type 0 where
    pub cycle : Cycle
    pub shared : Marking
    pub is : IsStateOf (arena_of setup.shapes setup.layout) setup.pacing setup.may es c cycle shared
    pub tied : IsTied setup es cycle shared
    pub picture : Tricolour
    pub drawing : Drawing cycle es shared picture
    pub invariants : Invariants picture
    pub says : ThePictureSays cycle shared
    pub done : IsChecked c.stage → IsMarkingDone picture
