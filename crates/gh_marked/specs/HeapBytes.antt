-- The heap's count of bytes, in every legal list of steps of all actors: it is the bytes of the slots of the objects that stand, less those that are placed and not counted yet, and with those that are cleared and not taken off yet.
use Rattle.std.specs.Prelude.{◌≡◌, ℕ, ◌+◌, ◌*◌, List, Option, Some, None}
use Rattle.gh_marked.specs.Vocabulary.{Actor, actors_after, alloc_words, arena_of, Cell, Entry, first_words, NewStage, Op, page_words, seats_of, Setup, Sweeping, Task, total, Words, words_after}
use Rattle.gh_alloc.specs.declared.place.PlaceStage.{PlaceStage}
use Rattle.gh_state.specs.Slots.{slot_row}
use Rattle.gh_sweep.specs.Shared.{placed}
use Rattle.gh_sweep.specs.Sweepers.{owes}
use Rattle.gh_marked.specs.Sweepers.{sweep_of}

-- The bytes that a processor has placed and not counted yet: those of the slot in which it has made an object, from the step that sets the alloc bit to the one that adds to the heap's word.

abbrev pub uncounted_place : (slot : ℕ) → PlaceStage → ℕ
uncounted_place slot (PlaceStage.Give g) = 8 * slot
uncounted_place slot PlaceStage.Count = 8 * slot
uncounted_place slot _ = 0

abbrev pub uncounted_new : NewStage → ℕ
uncounted_new (NewStage.Place p) = uncounted_place p.slot p.stage
uncounted_new _ = 0

abbrev pub uncounted : Task → ℕ
uncounted (Task.New x) = uncounted_new x.stage
uncounted _ = 0

abbrev pub uncounted_at : Actor → ℕ
uncounted_at (Actor.Runs m) = uncounted m.task
uncounted_at _ = 0

-- The bytes of the slots that the sweep which an actor runs has cleared so far, up to its step that takes them off the heap's word.

abbrev pub untaken : Option Sweeping → ℕ
untaken None = 0
untaken (Some m) = (owes m).cleared

abbrev pub untaken_at : Actor → ℕ
untaken_at x = untaken (sweep_of x)

module _ (setup : Setup) where
  -- the words, and the actor at a seat, after the list
  abbrev told : List (Entry Op) → Words
  told es = words_after (first_words setup) es

  abbrev at : List (Entry Op) → ℕ → Actor
  at es a = actors_after (arena_of setup.shapes setup.layout) setup.pacing setup.may es a

  -- The heap's word with what is placed and not counted is what stands with what is cleared and not taken off. How many bytes a slot has the page words say.
  abbrev pub HeapIsCounted : List (Entry Op) → Type 0
  HeapIsCounted es =
      told es Cell.Heap + total (λ a. uncounted_at (at es a)) (seats_of setup.layout)
      ≡ placed (alloc_words (told es)) (slot_row (page_words (told es))) (16 * setup.layout.pages) + total (λ a. untaken_at (at es a)) (seats_of setup.layout)
