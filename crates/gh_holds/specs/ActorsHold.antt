-- What holds after every list of all actors, by the coordinator's stage: while no cycle is under way, spans being swept or not, nobody marks; while a cycle is opened the world is stopped; and while it is marked it is known to marking.
use Rattle.std.specs.Prelude.{◌≡◌, ℕ, ◌+◌, ◌^◌, ◌<◌, ◌⊎◌, true, List, None}
use Rattle.gh_holds.specs.Vocabulary.{alloc_at, alloc_words, Arena, arena, Cell, Check, Close, CloseStage, Coordinating, CoordStage, Count, CycleEnd, Done, END, EndsCycle, Entry, ever, first_words, freed_at, FullOnlyThere, generation_of, in_all, IsLed, IsMade, IsPlacedAt, IsStartOf, IsUnderWay, kept_at, live_at, LoadAck, LoadWant, mark_words, MarkOn, marks_at, Name, Op, Open, Processor, row_bit, Setup, Stop, StopAgain, Sweep, Tell, TellStage, Watch, Words, words}
use Rattle.gh_coord.specs.declared.count.CountStage.{CountStage}
use Rattle.gh_coord.specs.declared.open.OpenStage.{OpenStage}
use Rattle.gh_coord.specs.declared.sweep_all.SweepAllStage.{SweepAllStage}
use Rattle.gh_coord.specs.SweepingAll as over
use Rattle.gh_sweep.specs.Facts.{HasNotNumber}
use Rattle.gh_marked.specs.HoldVocabulary.{IsAsItEnded, MarksNothing, PassedBefore, State, SweepingAll, TallyWord}
use Rattle.gh_marked.specs.State as state
use Rattle.gh_holds.specs.Objects.{AllWereCounted, EndsAllMarked, FreesTheUnreached}

-- The coordinator goes over all pages, and sweeps each span that nobody sweeps yet.

module _ (s : State) where
  -- the span that begins there is not unswept: its head has another number, or none begins there any more
  abbrev pub IsBegun : (page : ℕ) → Type 0
  IsBegun page = (number : ℕ) → number + 2 ≡ generation_of s.end → HasNotNumber number (s.heap.words (Cell.Page page))

  -- of a span whose sweep another has begun it waits for the end
  abbrev pub WalksAt : SweepAllStage → Type 0
  WalksAt (SweepAllStage.LoadPage page) = page < s.end.layout.pages
  WalksAt (SweepAllStage.Sweep page m) = (page < s.end.layout.pages) × (m.page ≡ page)
  WalksAt (SweepAllStage.Await page) = (page < s.end.layout.pages) × IsBegun page
  WalksAt SweepAllStage.Ended = Unit {0}

  abbrev pub page_at : SweepAllStage → ℕ
  page_at (SweepAllStage.LoadPage page) = page
  page_at (SweepAllStage.Sweep page m) = page
  page_at (SweepAllStage.Await page) = page
  page_at SweepAllStage.Ended = s.end.layout.pages

  -- the spans that begin before its page are swept, whoever swept them
  pub record Walks (w : SweepingAll) : Type 0 where
    pub generation_is : w.generation ≡ generation_of s.end
    pub passed : PassedBefore s (page_at w.stage)
    pub stage_is : WalksAt w.stage

-- how far the words are prepared for marking while a cycle is opened
abbrev pub HasCursor : (cursor : ℕ) → OpenStage → Type 0
HasCursor cursor OpenStage.ClearWant = Unit {0}
HasCursor cursor OpenStage.ClearGcur = Unit {0}
HasCursor cursor _ = cursor ≡ 0

-- and the counts of the last sweep are cleared
abbrev pub HasCleared : (tally live : ℕ) → OpenStage → Type 0
HasCleared tally live OpenStage.ClearWant = Unit {0}
HasCleared tally live OpenStage.ClearGcur = Unit {0}
HasCleared tally live OpenStage.ClearTally = Unit {0}
HasCleared tally live OpenStage.ClearLive = tally ≡ 0
HasCleared tally live _ = (tally ≡ 0) × (live ≡ 0)

module _ (setup : Setup) where
  abbrev z : Arena
  z = arena setup

  abbrev processor_at : List (Entry Op) → (a : ℕ) → Processor
  processor_at es a = state.processor_at setup es a

  abbrev IsInCycle : (es : List (Entry Op)) (k : ℕ) → Type 0
  IsInCycle es k = state.IsInCycle setup es k

  abbrev HasState : (es : List (Entry Op)) → Type 0
  HasState es = state.HasState setup es

  -- what was said before of the list's starts
  pub record WasSo (es : List (Entry Op)) : Type 0 where
    pub full : FullOnlyThere z (first_words setup) es
    pub frees : FreesTheUnreached setup es
    pub ends : EndsAllMarked setup es

  -- an object stands there that was made since the list
  pub record IsNewThere (ended es : List (Entry Op)) (x : ℕ) : Type 0 where
    pub name : Name
    pub not_yet : IsMade (ever setup ended).made name → ⊥
    -- its birth word tells it apart
    pub few : name.k < 2 ^ 32
    pub placed : IsPlacedAt (words setup es) name x

  -- What has changed since it ended, where the bits were these.
  pub record EndedSo (es : List (Entry Op)) (k : ℕ) (s : State) : Type 0 where
    pub ended : List (Entry Op)
    pub start : IsStartOf ended es
    pub ends : EndsCycle setup k ended
    pub alloc : alloc_at s.end ≡ alloc_words (words setup ended)
    pub marks : marks_at s.end ≡ mark_words (words setup ended)
    -- an object that was made by then, and is placed, was placed there
    pub stood : (n : Name) (x : ℕ) → IsMade (ever setup ended).made n → IsPlacedAt (words setup es) n x → IsPlacedAt (words setup ended) n x
    -- one of since that stands was marked then, or was made later
    pub since : (x : ℕ) → s.since x ≡ true → row_bit (alloc_words (words setup es)) x ≡ 1 → (row_bit (marks_at s.end) x ≡ 1) ⊎ IsNewThere ended es x
    -- what was made by then is made
    pub made : (n : Name) → IsMade (ever setup ended).made n → IsMade (ever setup es).made n
    -- behind the last cycle no value changes, and nothing is made
    pub last : (c : Coordinating) → IsLed setup es c → c.is_last ≡ true → (ever setup es ≡ ever setup ended) × IsAsItEnded s

  -- the cycle that ended last, and has not begun anew
  pub record HasEnded (es : List (Entry Op)) (k : ℕ) (s : State) : Type 0 where
    pub cycle : IsInCycle es k
    pub ended : EndedSo es k s

  -- Nobody marks: no buffer has an entry, each stack was scanned in a cycle before this one, if at all, and each processor knows of no marking.
  pub record NobodyMarks (es : List (Entry Op)) (cycle : ℕ) (words : Words) : Type 0 where
    pub buffers : (b : ℕ) → words (Cell.Buffer b) ≡ 0
    pub stacks : (g : ℕ) → (words (Cell.Scanned g) < cycle) ⊎ (words (Cell.Scanned g) ≡ END)
    pub processors : (a : ℕ) → a < setup.layout.procs → MarksNothing (processor_at es a)

  -- No cycle is under way. The spans that begin before this page are swept.
  pub record IsOff (es : List (Entry Op)) (cycle page : ℕ) : Type 0 where
    pub has : HasState es
    pub over : has.state.told ≡ None
    pub passed : PassedBefore has.state page
    pub nobody : NobodyMarks es cycle has.state.heap.words

  -- While it is swept.
  pub record IsSweeping (es : List (Entry Op)) (c : Coordinating) (w : SweepingAll) : Type 0 where
    pub has : HasState es
    pub over : has.state.told ≡ None
    pub walks : Walks has.state w
    pub behind : HasEnded es c.begun has.state
    pub nobody : NobodyMarks es (c.begun + 1) has.state.heap.words

  -- Between two cycles each span is swept.
  abbrev pub IsQuiet : (es : List (Entry Op)) (c : Coordinating) → Type 0
  IsQuiet es c = IsOff es (c.begun + 1) setup.layout.pages

  -- The world is stopped, and a cycle is opened: no mark is set, no buffer has an entry, and each stack was scanned in a cycle before, if at all.
  pub record IsReady (es : List (Entry Op)) (c : Coordinating) : Type 0 where
    pub has : HasState es
    pub under_way : IsUnderWay has.state
    pub marks : (i : ℕ) → has.state.heap.words (Cell.Mark i) ≡ 0
    pub nobody : NobodyMarks es c.begun has.state.heap.words

  -- what it has read is what was counted: the objects that were marked where the cycle ended, and the others
  pub record IsRead (e : CycleEnd) (t : TallyWord) : Type 0 where
    pub marked : t.marked ≡ in_all e (kept_at e)
    pub freed : t.freed ≡ in_all e (freed_at e)

  abbrev pub HasRead : CycleEnd → CountStage → Type 0
  HasRead e CountStage.LoadTally = Unit {0}
  HasRead e (CountStage.LoadLive t) = IsRead e t
  HasRead e (CountStage.Ended t) = Unit {0}

  -- the cycle is swept, and the bytes that the coordinator keeps are those of the objects marked
  pub record IsTold (es : List (Entry Op)) (c : Coordinating) : Type 0 where
    pub quiet : IsQuiet es c
    pub behind : HasEnded es c.begun quiet.has.state
    pub live : c.live ≡ in_all quiet.has.state.end (live_at quiet.has.state.end)

  -- By the coordinator's stage.

  abbrev pub IsOpening : List (Entry Op) → Coordinating → OpenStage → Type 0
  IsOpening es c stage = IsReady es c × HasCursor (words setup es Cell.Gcur) stage × HasCleared (words setup es Cell.Tally) (words setup es Cell.Live) stage

  pub record IsCounting (es : List (Entry Op)) (c : Coordinating) (stage : CountStage) : Type 0 where
    pub quiet : IsQuiet es c
    pub behind : HasEnded es c.begun quiet.has.state
    pub read : HasRead quiet.has.state.end stage

  -- It has stored the next sweep generation: each span is unswept, or begun to be swept, until the walk begins.
  abbrev pub IsClosing : List (Entry Op) → Coordinating → CloseStage → Type 0
  IsClosing es c CloseStage.StorePhase = IsSweeping es c (over.opening c.generation)
  IsClosing es c CloseStage.Ended = ⊥
  IsClosing es c _ = Unit {0}

  abbrev pub IsTelling : List (Entry Op) → Coordinating → TellStage → Type 0
  IsTelling es c TellStage.Ended = ⊥
  IsTelling es c _ = IsTold es c

  module _ (es : List (Entry Op)) (c : Coordinating) where
    abbrev pub HoldsAt : CoordStage → Type 0
    HoldsAt (LoadAck i) = IsQuiet es c
    HoldsAt LoadWant = IsQuiet es c
    HoldsAt (Stop st) = IsQuiet es c
    HoldsAt (Open o) = IsOpening es c o.stage
    -- of these says IsKnown
    HoldsAt (Watch w) = Unit {0}
    HoldsAt (StopAgain st) = Unit {0}
    HoldsAt (Check w) = Unit {0}
    HoldsAt MarkOn = Unit {0}
    HoldsAt (Close x) = IsClosing es c x.stage
    HoldsAt (Sweep w) = IsSweeping es c w
    HoldsAt (Count x) = IsCounting es c x.stage
    HoldsAt (Tell t) = IsTelling es c t.stage
    HoldsAt Done = IsTold es c

    pub record Holds : Type 0 where
      pub at : HoldsAt c.stage
      pub was : WasSo es
      pub counted : AllWereCounted setup es c
