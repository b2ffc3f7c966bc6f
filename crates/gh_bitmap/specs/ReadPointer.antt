-- A pointer bit is read: what is asked for at each stage, where that leads, what it has given, and that it writes nothing.
use Rattle.std.specs.Prelude.{ℕ, ◌*◌, ◌/◌, ◌%◌, Bool, false, ◌==◌, Option, Some, None}
use Rattle.std.specs.Int.{bit_at}
use Rattle.gh_bitmap.specs.Vocabulary.{Ask, Bitmap, Layout, Listing, Touch}
use Rattle.gh_bitmap.specs.declared.read_pointer.ReadPointer.{ReadPointer}
use Rattle.gh_bitmap.specs.declared.read_pointer.ReadStage.{ReadStage}
use Rattle.gh_bitmap.specs.declared.read_pointer.ReadStage.TheVariants.{Load, Ended}

-- a routine that reads the bit of a heap word, and its stage
abbrev pub PointerReading : Type 0
PointerReading = ReadPointer

abbrev pub at_stage : PointerReading → ReadStage → PointerReading
at_stage r p = record r { stage = p }

abbrev pub opening : ℕ → PointerReading
opening at = record { at = at; stage = Load }

abbrev pub asks_at : Layout → PointerReading → ReadStage → Ask
asks_at l r Load = Ask.Load (Bitmap (r.at / 64 % (16 * l.pages)))
asks_at l r (Ended pointer) = Ask.Load Touch

-- the bit of the heap word in the word that was found
abbrev pub goes_at : PointerReading → ReadStage → ℕ → ReadStage
goes_at r Load found = Ended (bit_at found (r.at % 64) == 1)
goes_at r (Ended pointer) found = Ended pointer

-- what it has given at a stage
abbrev pub given_at : ReadStage → Option Bool
given_at (Ended pointer) = Some pointer
given_at _ = None

-- the step that it asks for, what it is after the step found this, and what it has given
abbrev pub asks : Layout → PointerReading → Ask
asks l r = asks_at l r r.stage

abbrev pub goes : PointerReading → ℕ → PointerReading
goes r found = at_stage r (goes_at r r.stage found)

abbrev pub given : PointerReading → Option Bool
given r = given_at r.stage

abbrev pub listing : Layout → Listing PointerReading Bool
listing l = record { asks = asks l; goes = goes; given = given; sound = λ _. Unit {0}; writes = λ _. false }
