-- What is known of a stream in memory, and what a write that failed in the middle has done.
use Rattle.std.specs.Prelude.{ℕ, ◌-◌, ◌<◌, ◌≤◌, ◌⊎◌, min, List, [], ◌++◌, length, take, drop, Option, None, Some, Contains}
use Rattle.std.specs.Io.KnownBytes.{Appends, append_known}
use Rattle.gh_io.specs.Counts.{one_more}

-- the sink has taken the first bytes of the piece, from none to all of them, and nothing else
pub record TookPart (before after : Option (List ℕ)) (piece : List ℕ) : Type 0 where
  pub count : ℕ
  pub within : count ≤ length piece
  pub taken : Appends before after (take count piece)

-- a part of the first of two pieces is a part of both
abbrev pub PartOfFirstIsOfBoth : Type 0
PartOfFirstIsOfBoth = (before after : Option (List ℕ)) (first second : List ℕ) → TookPart before after first → TookPart before after (first ++ second)

-- the first of two pieces, and then a part of the second, are a part of both
abbrev pub PartOfSecondIsOfBoth : Type 0
PartOfSecondIsOfBoth =
    (before between after : Option (List ℕ)) (first second : List ℕ) → Appends before between first → TookPart between after second →
    TookPart before after (first ++ second)

-- so many of n bytes go over in one call: all of them or, in pieces, no more than a piece has
abbrev pub of_piece : Option ℕ → ℕ → ℕ
of_piece None n = n
of_piece (Some piece) n = min piece n

-- a source over bytes in memory
pub record SourceState : Type 0 where
  -- the bytes that no read has given yet
  pub left : List ℕ
  -- the most bytes that a call gives, where it gives pieces
  pub piece : Option ℕ
  -- the numbers of the calls that fail, from 1
  pub failing : List ℕ
  pub calls : ℕ
  pub faults : ℕ

-- a source that no call was made of yet, and that is not in pieces
abbrev pub fresh_source : List ℕ → List ℕ → SourceState
fresh_source bytes failing = record { left = bytes; piece = None; failing = failing; calls = 0; faults = 0 }

-- the source, from now on in pieces of n bytes
abbrev pub source_in_pieces : SourceState → ℕ → SourceState
source_in_pieces source n = record source { piece = Some n }

-- how many bytes a call gives that is asked for so many
abbrev pub given : SourceState → ℕ → ℕ
given source asked = of_piece source.piece (min asked (length source.left))

-- the source after a call that gave n bytes
abbrev pub source_after : SourceState → ℕ → SourceState
source_after source n = record source { left = drop n source.left; calls = one_more source.calls }

-- the source after a call that failed
abbrev pub source_after_fault : SourceState → SourceState
source_after_fault source = record source { calls = one_more source.calls; faults = one_more source.faults }

-- a sink that keeps its bytes in memory
pub record SinkState : Type 0 where
  pub taken : List ℕ
  -- how many bytes it can hold
  pub room : ℕ
  -- the most bytes that a call takes, where it takes pieces
  pub piece : Option ℕ
  -- the numbers of the calls that fail, from 1
  pub failing : List ℕ
  pub calls : ℕ
  pub faults : ℕ

-- an empty sink that no call was made of yet, and that is not in pieces
abbrev pub fresh_sink : ℕ → List ℕ → SinkState
fresh_sink room failing = record { taken = []; room = room; piece = None; failing = failing; calls = 0; faults = 0 }

-- the sink, from now on in pieces of n bytes
abbrev pub sink_in_pieces : SinkState → ℕ → SinkState
sink_in_pieces sink n = record sink { piece = Some n }

-- the sink after a call that took these bytes
abbrev pub sink_after : SinkState → List ℕ → SinkState
sink_after sink bytes = record sink { taken = sink.taken ++ bytes; calls = one_more sink.calls }

-- the sink after a call that failed
abbrev pub sink_after_fault : SinkState → SinkState
sink_after_fault sink = record sink { calls = one_more sink.calls; faults = one_more sink.faults }

-- how many of these bytes a call takes
abbrev pub fitting : SinkState → List ℕ → ℕ
fitting sink bytes = of_piece sink.piece (min (length bytes) (sink.room - length sink.taken))

-- the sink's next call fails at these bytes: by its number, or for want of room
abbrev pub SinkRefuses : SinkState → List ℕ → Type 0
SinkRefuses sink bytes =
    Contains sink.failing (one_more sink.calls) ⊎ ((0 < length bytes) × (sink.room ≤ length sink.taken))

-- a sink that gathers what it takes before it hands that on to its writer
pub record Gathering (W : Type 0) : Type 0 where
  pub writer : W
  -- the bytes that are taken and that the writer has not
  pub held : List ℕ
  pub faults : ℕ

-- a sink over this writer that has gathered nothing
abbrev pub nothing_gathered : {W : Type 0} → W → Gathering W
nothing_gathered writer = record { writer = writer; held = []; faults = 0 }

-- what the writer has, where it tells that, and then what is gathered
abbrev pub gathered : {W : Type 0} → (W → Option (List ℕ)) → Gathering W → Option (List ℕ)
gathered contents sink = append_known (contents sink.writer) sink.held
