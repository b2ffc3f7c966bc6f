-- Giving a buffer back: what is asked for at each stage, where that leads, and what it has given.
use Rattle.std.specs.Prelude.{ℕ, Option, Some, None}
use Rattle.gh_wbuf.specs.Vocabulary.{Ask, GiveBuffer, GiveStage, Held, Layout, Listing, Load, steps_of, Touch}
use Rattle.gh_base.specs.Routines as routine
use Rattle.gh_wbuf.specs.Sound.{SoundBufferGiving}
use Rattle.gh_wbuf.specs.declared.give_buffer.GiveStage.TheVariants.{Give, Ended}
use Rattle.gh_wbuf.specs.Trying.{gives_back, writes}

abbrev pub BufferGiving : Type 0
BufferGiving = GiveBuffer

abbrev pub opening : Held → BufferGiving
opening h = record { stage = Give h }

-- what is held at each stage
abbrev pub held_at : GiveStage → Option Held
held_at (Give h) = Some h
held_at Ended = None

abbrev pub asks_at : GiveStage → Ask
asks_at (Give h) = gives_back h
asks_at Ended = Load Touch

-- it has ended once the buffer is given back
abbrev pub given_at : GiveStage → Option (Unit {0})
given_at Ended = Some tt
given_at _ = None

abbrev pub asks : BufferGiving → Ask
asks g = asks_at g.stage

abbrev pub goes : BufferGiving → ℕ → BufferGiving
goes g found = record g { stage = Ended }

abbrev pub given : BufferGiving → Option (Unit {0})
given g = given_at g.stage

abbrev pub gives : BufferGiving → ℕ → Option (Unit {0})
gives g found = given (goes g found)

abbrev pub listing : Layout → Listing BufferGiving (Unit {0})
listing l = record { asks = asks; goes = goes; given = given; sound = SoundBufferGiving l; writes = writes }

abbrev pub transitions : Layout → routine.Listing BufferGiving (Unit {0})
transitions l = steps_of l (listing l)
