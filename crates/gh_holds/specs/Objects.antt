-- What becomes of objects in lists of steps of all actors: which are marked where a cycle's marking ends, which stand until then, which are freed, and which are counted and left.
use Rattle.std.specs.Prelude.{◌≡◌, ◌↔◌, ℕ, ◌+◌, ◌*◌, ◌<◌, ◌≤◌, true, List, ◌∷◌, slice_get, Some, ◌⊎◌}
use Rattle.gh_holds.specs.Vocabulary.{alloc_words, Arena, arena_of, at_seat, Cell, Coordinating, CoordStage, Done, END, EndsClean, Entry, Ever, first_words, IsEnding, IsMade, IsPlacedAt, IsStartOf, IsStateOf, mark_words, Name, Op, page_words, placed, Reach, row_bit, Setup, StandsForThese, Tell, Words}
use Rattle.gh_coord.specs.declared.cycles.Cycle.{Cycle as CycleNumbers}
use Rattle.gh_coord.specs.Handshake as leading
use Rattle.gh_marks.specs.Colours.{Cycle, Shared}
use Rattle.gh_marks.specs.Seats.{Hands, nothing}
use Rattle.gh_sweep.specs.Counts.{AreWords, count_below, is_set, marked_objects, unmarked_objects}
use Rattle.gh_state.specs.Slots.{slot_row}
use Rattle.gh_marked.specs.Tied.{IsTied}
use Rattle.gh_lists.specs.Lists as lists

-- all objects that stand
abbrev pub standing_objects : Words → (pages : ℕ) → ℕ
standing_objects words pages = count_below (is_set (alloc_words words)) (1024 * pages)

-- each alloc bit that is set is that of an object that was made, which its birth word names
pub record AreNamed (made : ℕ → ℕ) (words : Words) : Type 0 where
  pub named : (x : ℕ) → row_bit (alloc_words words) x ≡ 1 → (n : Name) × IsMade made n × IsPlacedAt words n x
  pub fits : AreWords (alloc_words words)

-- A heap that is set up so.
module _ (setup : Setup) where
  abbrev arena : Arena
  arena = arena_of setup.shapes setup.layout

  abbrev words : List (Entry Op) → Words
  words es = lists.words setup es

  abbrev ever : List (Entry Op) → Ever
  ever es = lists.ever setup es

  abbrev IsStepIn : (at : CoordStage → Type 0) (k : ℕ) (e : Entry Op) (es : List (Entry Op)) → Type 0
  IsStepIn at k e es = lists.IsStepIn setup at k e es

  abbrev BeginsCycle : (k : ℕ) → List (Entry Op) → Type 0
  BeginsCycle k es = lists.BeginsCycle setup k es

  abbrev EndsCycle : (k : ℕ) → List (Entry Op) → Type 0
  EndsCycle k es = lists.EndsCycle setup k es

  abbrev SweepsCycle : (k : ℕ) → List (Entry Op) → Type 0
  SweepsCycle k es = lists.SweepsCycle setup k es

  -- an object that was made by when a cycle began, and was not reached then, is placed nowhere once the cycle is swept
  abbrev pub FreesTheUnreached : List (Entry Op) → Type 0
  FreesTheUnreached es = (k : ℕ) (begun swept : List (Entry Op)) → IsStartOf begun es → IsStartOf swept es → BeginsCycle k begun → SweepsCycle k swept →
      (n : Name) → IsMade (ever begun).made n → (Reach (ever begun) n → ⊥) → (a : ℕ) → IsPlacedAt (words swept) n a → ⊥

  -- So what is lost is freed within two cycles. Where an object was made by a start of the list, and was not reached then, and the marking of cycle j ends behind that start: it is placed nowhere once a cycle after j is swept.
  abbrev pub FreesWithinTwo : List (Entry Op) → Type 0
  FreesWithinTwo es = (j k : ℕ) (lost ended swept : List (Entry Op)) → IsStartOf lost ended → IsStartOf ended es → IsStartOf swept es → EndsCycle j ended → SweepsCycle k swept → j < k →
      (n : Name) → IsMade (ever lost).made n → (Reach (ever lost) n → ⊥) → (a : ℕ) → IsPlacedAt (words swept) n a → ⊥

  -- an object of this name is placed somewhere, and marked
  abbrev pub IsMarkedObject : Words → Name → Type 0
  IsMarkedObject words n = (a : ℕ) × IsPlacedAt words n a × (row_bit (mark_words words) a ≡ 1)

  -- Where marking ends nothing is grey, each global and each stack that has not ended is scanned; and each object that a script reaches is marked. One that is marked was reached where the cycle began, or was made since: a script may have lost it meanwhile.
  pub record EndsMarked (es : List (Entry Op)) (c : Coordinating) : Type 0 where
    pub cycle : Cycle
    pub shared : Shared
    pub is : IsStateOf arena setup.pacing setup.may es c cycle shared
    pub tied : IsTied setup es cycle shared
    pub clean : EndsClean cycle shared
    -- the cursor is past the globals, the word of each stack is the cycle's or END, no buffer has an entry, and no actor has anything in hand
    pub cursor : setup.layout.globals ≤ words es Cell.Gcur
    pub stacks : (g : ℕ) → g < setup.layout.goroutines → (words es (Cell.Scanned g) ≡ c.begun) ⊎ (words es (Cell.Scanned g) ≡ END)
    pub buffers : (b : ℕ) → words es (Cell.Buffer b) ≡ 0
    pub hands : (a : ℕ) → Hands a shared nothing
    pub reached : (n : Name) → Reach (ever es) n → IsMarkedObject (words es) n
    -- so no script reaches an object that is placed and not marked
    pub unmarked : (n : Name) (a : ℕ) → IsMade (ever es).made n → IsPlacedAt (words es) n a → row_bit (mark_words (words es)) a ≡ 0 → Reach (ever es) n → ⊥
    pub begun : List (Entry Op)
    pub start : IsStartOf begun es
    pub begins : BeginsCycle c.begun begun
    pub marked : (n : Name) → IsMade (ever begun).made n → IsMarkedObject (words es) n → Reach (ever begun) n
    -- what was placed where it began is placed there still
    pub stood : (n : Name) (a : ℕ) → IsPlacedAt (words begun) n a → IsPlacedAt (words es) n a

  abbrev pub EndsAllMarked : List (Entry Op) → Type 0
  EndsAllMarked es = (e : Entry Op) (before : List (Entry Op)) (k : ℕ) → IsStartOf (e ∷ before) es → (step : IsStepIn IsEnding k e before) → EndsMarked before step.lead

  -- What was placed where a cycle began is placed there still where its marking ends; so is what a script reached where it began, even if it has lost it meanwhile.
  pub record StandsThrough (begun ended : List (Entry Op)) : Type 0 where
    pub placed : (n : Name) (a : ℕ) → IsPlacedAt (words begun) n a → IsPlacedAt (words ended) n a
    pub reached : (n : Name) → Reach (ever begun) n → (a : ℕ) × IsPlacedAt (words begun) n a × IsPlacedAt (words ended) n a

  abbrev pub StandsUntilItsEnd : List (Entry Op) → Type 0
  StandsUntilItsEnd es = (k : ℕ) (begun ended : List (Entry Op)) → IsStartOf begun es → IsStartOf ended es → BeginsCycle k begun → EndsCycle k ended → StandsThrough begun ended

  -- while a cycle is marked what was placed where it began is placed there still
  pub record StandsSoFar (es : List (Entry Op)) (c : Coordinating) : Type 0 where
    pub begun : List (Entry Op)
    pub start : IsStartOf begun es
    pub begins : BeginsCycle c.begun begun
    pub through : StandsThrough begun es

  -- the object was made, and is placed somewhere
  abbrev pub IsStanding : List (Entry Op) → Name → Type 0
  IsStanding es n = IsMade (ever es).made n × ((a : ℕ) × IsPlacedAt (words es) n a)

  -- each has one address, its slot and its values, and shares no word with another; and no two are placed at one address
  pub record StandApart (es : List (Entry Op)) : Type 0 where
    pub stand : StandsForThese arena (IsStanding es) (words es) (ever es) (at_seat arena (first_words setup) es)
    pub one_name : (n m : Name) (a : ℕ) → IsMade (ever es).made n → IsMade (ever es).made m → IsPlacedAt (words es) n a → IsPlacedAt (words es) m a → n ≡ m

  -- the numbers of a cycle are those of the objects that were placed and marked where it ended, and of those placed and not marked
  pub record WasCounted (es : List (Entry Op)) (y : CycleNumbers) : Type 0 where
    pub ended : List (Entry Op)
    pub start : IsStartOf ended es
    pub ends : EndsCycle y.k ended
    pub marked : y.marked ≡ marked_objects (alloc_words (words ended)) (mark_words (words ended)) 0 setup.layout.pages
    pub freed : y.freed ≡ unmarked_objects (alloc_words (words ended)) (mark_words (words ended)) 0 setup.layout.pages
    pub all : y.marked + y.freed ≡ standing_objects (words ended) setup.layout.pages

  abbrev pub AllWereCounted : List (Entry Op) → Coordinating → Type 0
  AllWereCounted es c = (i : ℕ) (y : CycleNumbers) → slice_get c.cycles.items i ≡ Some y → WasCounted es y

  -- the coordinator tells that a cycle is swept, or all is over
  abbrev pub IsTold : CoordStage → Type 0
  IsTold (Tell t) = Unit {0}
  IsTold Done = Unit {0}
  IsTold _ = ⊥

  -- What the words of the counts say: while a cycle is marked nothing, and where one is told the bytes that the coordinator keeps.
  pub record CountsAreSaid (es : List (Entry Op)) (c : Coordinating) : Type 0 where
    pub cleared : leading.Marks c.stage → (words es Cell.Tally ≡ 0) × (words es Cell.Live ≡ 0)
    pub live : IsTold c.stage → words es Cell.Live ≡ c.live

  -- Once all is over every goroutine has ended, so a script reaches what the globals reach. The objects that stand are those, and so were those that the last cycle marked; and the bytes that the coordinator keeps are theirs.
  pub record LeavesTheReached (es : List (Entry Op)) (c : Coordinating) : Type 0 where
    pub over : (g : ℕ) → g < setup.layout.goroutines → (ever es).ended g ≡ true
    pub left : (n : Name) → IsMade (ever es).made n → ((a : ℕ) × IsPlacedAt (words es) n a) ↔ Reach (ever es) n
    -- where the last cycle's marking ended no value was another than now
    pub unchanged : (ended : List (Entry Op)) → IsStartOf ended es → EndsCycle c.begun ended → ever es ≡ ever ended
    pub marked : (ended : List (Entry Op)) → IsStartOf ended es → EndsCycle c.begun ended → (n : Name) → IsMade (ever es).made n → IsMarkedObject (words ended) n ↔ Reach (ever es) n
    pub live : c.live ≡ placed (alloc_words (words es)) (slot_row (page_words (words es))) (16 * setup.layout.pages)
