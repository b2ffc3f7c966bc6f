-- What every cycle's marking comes to, over lists of all actors, by what processors and the heap keep; and that workers count each global once.
use Rattle.std.specs.Prelude.{◌≡◌, ℕ, ◌+◌, ◌^◌, ◌<◌, ◌≤◌, Bool, List, ◌∷◌}
use Rattle.gh_marked.specs.Vocabulary.{acks_of, Arena, Cell, Coordinating, Entry, IsBeginning, IsEnding, IsFew, IsInLimits, IsLed, IsLedBy, Legal, Op, Pacing, setting, Setup, those, words}
use Rattle.gh_coord.specs.Handshake as leading
use Rattle.gh_marked.specs.Marked.{KnowsHeap, MarksToTheEnd, StepsByMoves}
use Rattle.gh_marked.specs.Scanned.{GlobalsAreCounted}

-- Where each step of a processor is made of moves of marking, and the heap keeps what it has to: while a cycle is marked there is a state of marking, in which each actor has in hand what its stage says; and where the coordinator has checked it, all that is reached is marked.
abbrev pub EveryCycleIsMarked : Type 0
EveryCycleIsMarked = (arena : Arena) (pacing : Pacing) (may : ℕ → List (Entry Op) → Op → Bool) → IsInLimits arena.layout → StepsByMoves arena pacing may → KnowsHeap arena pacing may →
    (es : List (Entry Op)) (c : Coordinating) → Legal (setting arena pacing may) es → IsLedBy arena pacing may es c → leading.Marks c.stage → MarksToTheEnd arena pacing may es c

-- Of the cursor of globals: its word does not begin anew while a cycle is marked; it is 0 where one begins, and past the globals where its marking ends.
pub record CursorGoes (setup : Setup) : Type 0 where
  pub small : (es : List (Entry Op)) (c : Coordinating) → Legal (those setup) es → IsLed setup es c → leading.Marks c.stage → words setup es Cell.Gcur + 1 < 2 ^ 64
  pub clear : (es : List (Entry Op)) (c : Coordinating) → Legal (those setup) es → IsLed setup es c → IsBeginning c.stage → words setup es Cell.Gcur ≡ 0
  pub passed : (e : Entry Op) (es : List (Entry Op)) (c : Coordinating) → Legal (those setup) (e ∷ es) → IsLed setup es c → e.actor ≡ acks_of setup.layout → IsEnding c.stage → setup.layout.globals ≤ words setup es Cell.Gcur

abbrev pub EveryGlobalIsCounted : Type 0
EveryGlobalIsCounted = (setup : Setup) → ((es : List (Entry Op)) → Legal (those setup) es → IsFew es) → CursorGoes setup →
    (es : List (Entry Op)) (c : Coordinating) → Legal (those setup) es → IsLed setup es c → GlobalsAreCounted setup es c
