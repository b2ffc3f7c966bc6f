-- What has become of a heap since a cycle began in it: what a script lost then, and what is of the cycle.
use Rattle.std.specs.Prelude.{◌≡◌, ◌≢◌, ℕ}
use Rattle.gh_cycle.specs.Vocabulary.{alloc_words, birth_words, Cycle, Ever, Good, Heap, IsMade, HasMark, mark_words, Marking, MarkingGood, Name, Placed, Placing, Reach, view}
use Rattle.gh_heap.specs.Moves as heap
use Rattle.gh_marks.specs.Moves as marks
use Rattle.gh_cycle.specs.Beside.{IsOfCycle}
use Rattle.gh_cycle.specs.Opening.{IsCycleOf}
use Rattle.gh_cycle.specs.Reached.{IsBounded}

-- The heap and marking now, and the heap that never frees as it was where the cycle began. What was made by then is made still, and what no script reached of it then none reaches now. Of what is of the cycle now, a script reached then whatever had been made by then: so all else of the cycle was made since.
pub record HasGoneOn (began : Ever) (h : Heap) (s : Marking) : Type 0 where
  pub made : (n : Name) → IsMade began.made n → IsMade h.ever.made n
  pub lost : (n : Name) → IsMade began.made n → (Reach began n → ⊥) → Reach h.ever n → ⊥
  pub of_cycle : (n : Name) → IsOfCycle h s n → IsMade began.made n → Reach began n

-- so it is where the cycle begins
abbrev pub CyclesBeginSo : Type 0
CyclesBeginSo = (z : Cycle) (h : Heap) (s : Marking) → Good z.arena (view h) → IsBounded z.arena h.ever → IsCycleOf z.arena h s → HasGoneOn h.ever h s

-- It lasts behind each step that is a move over the heap, with the moves of marking that it is made of. A step of marking alone is one that no right guards.
abbrev pub WhatHasGoneOnLasts : Type 0
WhatHasGoneOnLasts = (z : Cycle) (a : ℕ) (h : Heap) (s t : Marking) (m : heap.Move) (began : Ever) → Good z.arena (view h) → MarkingGood z s → heap.May z.arena a (view h) m → marks.Went z a s t →
    t.words ≡ (heap.moved z.arena a h m).words → s.words ≡ h.words → HasGoneOn began h s → HasGoneOn began (heap.moved z.arena a h m) t

-- Where no slot is being filled, as at the end of marking: what stands and is marked, and had been made where the cycle began, a script reached then.
abbrev pub TheMarkedWereReached : Type 0
TheMarkedWereReached = (z : Cycle) (h : Heap) (s : Marking) (began : Ever) → MarkingGood z s → s.words ≡ h.words → ((o a : ℕ) → s.colour o ≢ Placing a) → HasGoneOn began h s →
    (n : Name) → Placed (alloc_words h.words) (birth_words h.words) h.place n → HasMark (mark_words s.words) (h.place n) → IsMade began.made n → Reach began n
