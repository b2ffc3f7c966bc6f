-- What the routine knows of its own numbers, whatever it is told.
use Rattle.std.specs.Prelude.{ℕ, ◌+◌, ◌*◌, ◌^◌, ◌<◌, ◌≤◌}
use Rattle.gh_sweep.specs.Vocabulary.{AddHeap, AddLive, AddTally, Begin, ClearBits, ClearMarks, Ended, Finish, FitsHead, Layout, LoadMarks, SpanHead, Sweep, SweepStage}

-- the span's words of alloc bits, and as many of mark bits
abbrev pub bit_words : SpanHead → ℕ
bit_words h = 16 * h.pages

-- a head that fits its word, and so do those of the next two sweep generations
pub record FitsSweep (h : SpanHead) : Type 0 where
  pub head : FitsHead h
  pub number : h.number + 2 < 2 ^ 34

-- the word of the span's bits is one that there is
abbrev pub IsStage : SpanHead → SweepStage → Type 0
IsStage h Begin = Unit {0}
IsStage h (LoadMarks i) = i < bit_words h
IsStage h (ClearBits i marks) = i < bit_words h
IsStage h (ClearMarks i) = i < bit_words h
IsStage h AddTally = Unit {0}
IsStage h AddLive = Unit {0}
IsStage h AddHeap = Unit {0}
IsStage h Finish = Unit {0}
IsStage h (Ended end) = Unit {0}

-- how many words of the span's alloc bits it has counted
abbrev pub reached : SpanHead → SweepStage → ℕ
reached h Begin = 0
reached h (LoadMarks i) = i
reached h (ClearBits i marks) = i
reached h (ClearMarks i) = i + 1
reached h AddTally = bit_words h
reached h AddLive = bit_words h
reached h AddHeap = bit_words h
reached h Finish = bit_words h
reached h (Ended end) = bit_words h

pub record Sound (l : Layout) (s : Sweep) : Type 0 where
  pub page : s.page < l.pages
  pub head : FitsSweep s.head
  pub kept : s.kept ≤ 64 * reached s.head s.stage
  pub freed : s.freed ≤ 64 * reached s.head s.stage
  pub stage : IsStage s.head s.stage
