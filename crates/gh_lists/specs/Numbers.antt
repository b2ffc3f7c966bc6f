-- The numbers of cycles over every legal list of all actors: in the words, with the coordinator, and in its list of cycles.
use Rattle.std.specs.Prelude.{◌≡◌, ℕ, suc, ◌+◌, ◌*◌, ◌^◌, ◌≤◌, ◌⊎◌, ◌↔◌, Bool, true, false, if◌then◌else◌, min, List, [], ◌∷◌, length, slice_get, Some}
use Rattle.gh_lists.specs.Vocabulary.{acks_of, Actor, Ask, Begun, Cell, Checked, Coordinating, Counted, Cycle, Ended, Entry, Kept, Legal, Numbered, Op, Opened, Or, Outside, Part, part_of, Setting, state_of, Store, Words, words_after}
use Rattle.gh_coord.specs.Handshake as leading
use Rattle.gh_lists.specs.Handshake.{those, Setup}
use Rattle.gh_lists.specs.Marking.{IsBeginning}

-- How many cycles more than are swept have a number, are opened, have begun, have a sweep generation, have ended, and are kept.
pub record Ahead : Type 0 where
  pub numbered : ℕ
  pub opened : ℕ
  pub begun : ℕ
  pub generation : ℕ
  pub ended : ℕ
  pub kept : ℕ

abbrev pub ahead_at : Part → Ahead
ahead_at Outside = record { numbered = 0; opened = 0; begun = 0; generation = 0; ended = 0; kept = 0 }
ahead_at Numbered = record { numbered = 1; opened = 0; begun = 0; generation = 0; ended = 0; kept = 0 }
ahead_at Opened = record { numbered = 1; opened = 1; begun = 0; generation = 0; ended = 0; kept = 0 }
ahead_at Begun = record { numbered = 1; opened = 1; begun = 1; generation = 0; ended = 0; kept = 0 }
ahead_at Checked = record { numbered = 1; opened = 1; begun = 1; generation = 1; ended = 0; kept = 0 }
ahead_at Ended = record { numbered = 1; opened = 1; begun = 1; generation = 1; ended = 1; kept = 0 }
ahead_at Counted = record { numbered = 1; opened = 1; begun = 1; generation = 1; ended = 1; kept = 1 }

-- the generation of the heap once so many cycles have ended
abbrev pub generation_after : (ended : ℕ) → ℕ
generation_after ended = 2 + 2 * ended

-- So many cycles are kept: in their order, by their numbers from 1 on, and none is left out as long as there is room.
pub record KeepsCycles (room many : ℕ) (c : Kept) : Type 0 where
  pub room_is : c.room ≡ room
  pub many_are : length c.items ≡ min many room
  pub numbered : (i : ℕ) (x : Cycle) → slice_get c.items i ≡ Some x → x.k ≡ suc i

-- How often a cycle was opened, and how often one was asked for.

abbrev pub opens_one : Ask → Bool
opens_one (Store Cell.Want value) = true
opens_one _ = false

abbrev pub asks_for_one : Ask → Bool
asks_for_one (Or Cell.Want bits) = true
asks_for_one _ = false

abbrev pub opened_after : Ask → (before : ℕ) → ℕ
opened_after ask before = if opens_one ask then suc before else before

abbrev pub asked_after : Ask → (before : ℕ) → ℕ
asked_after ask before = if asks_for_one ask then suc before else before

abbrev pub opened_in : List (Entry Op) → ℕ
opened_in [] = 0
opened_in (e ∷ es) = opened_after e.ask (opened_in es)

abbrev pub asked_in : List (Entry Op) → ℕ
asked_in [] = 0
asked_in (e ∷ es) = asked_after e.ask (asked_in es)

-- so few that no number begins anew
abbrev pub IsFew : List (Entry Op) → Type 0
IsFew es = opened_in es + 2 ≤ 2 ^ 33

-- What every legal list keeps, as long as the cycles are so few.
module _ (s : Setting Actor Op) (room : ℕ) (es : List (Entry Op)) (c : Coordinating) where
  abbrev words : Words
  words = words_after s.opening es

  abbrev ahead : Ahead
  ahead = ahead_at (part_of c.stage)

  pub record CountsCycles : Type 0 where
    pub opened : opened_in es ≡ words Cell.Swept + ahead.opened
    -- the words, and the coordinator's own numbers
    pub begun : words Cell.Begun ≡ words Cell.Swept + ahead.begun
    pub gen : words Cell.Gen ≡ generation_after (words Cell.Swept + ahead.ended)
    pub number : c.begun ≡ words Cell.Swept + ahead.numbered
    pub generation : c.generation ≡ generation_after (words Cell.Swept + ahead.generation)
    -- one cycle more has begun than has ended exactly while it is marked, and where the store of that phase is next
    pub marks : words Cell.Gen ≡ 2 * words Cell.Begun ↔ (leading.Marks c.stage ⊎ IsBeginning c.stage)
    pub cycles : KeepsCycles room (words Cell.Swept + ahead.kept) c.cycles

abbrev pub EveryListCountsCycles : Type 0
EveryListCountsCycles = (setup : Setup) (es : List (Entry Op)) (c : Coordinating) →
    Legal (those setup) es → IsFew es → state_of (those setup).kind (acks_of setup.layout) es ≡ Actor.Leads c → CountsCycles (those setup) setup.pacing.room es c
