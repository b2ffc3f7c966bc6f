-- How many words workers scan, in every legal list of steps of all actors: each global is counted once in a cycle of marking, and of objects there is a most.
use Rattle.std.specs.Prelude.{◌≡◌, ℕ, ◌+◌, ◌*◌, ◌≤◌, min, List, [], ◌∷◌}
use Rattle.gh_marked.specs.Vocabulary.{Actor, actors, Cell, Coordinating, Entry, first_words, global_held, Layout, Marks, Op, seats_of, Setup, state_of, stored_in, total, words_after}
use Rattle.gh_coord.specs.Handshake as leading
use Rattle.gh_worker.specs.Globals.{global_done, object_done}
use Rattle.gh_worker.specs.Works.{words_done}

-- the words that are done with a step of this actor: a worker's
abbrev pub done_by : Layout → Actor → (found : ℕ) → ℕ
done_by l (Marks w) found = words_done l w.stage found
done_by l _ found = 0

-- of these, one where the step is done with a global
abbrev pub global_by : Actor → (found : ℕ) → ℕ
global_by (Marks w) found = global_done w.stage found
global_by _ found = 0

-- and the words of the object whose scan ends with it
abbrev pub objects_by : Layout → Actor → (found : ℕ) → ℕ
objects_by l (Marks w) found = object_done l w.stage found
objects_by l _ found = 0

-- a worker has a global in hand from where it has moved the cursor past it until it is done with it: 1, or 0
abbrev pub global_in_hand : Actor → ℕ
global_in_hand (Marks w) = global_held w.stage
global_in_hand _ = 0

-- the most that are scanned in a cycle: one for each global; the words of the objects, which share none; and one for each object that a global names
abbrev pub most_scanned : Layout → ℕ
most_scanned l = l.globals + 2 * (1024 * l.pages)

module _ (setup : Setup) where
  -- what the entry behind the list is done with
  abbrev pub scanned_by : Entry Op → List (Entry Op) → ℕ
  scanned_by e es = done_by setup.layout (state_of (actors setup) e.actor es) e.found

  abbrev pub scanned_in : List (Entry Op) → ℕ
  scanned_in [] = 0
  scanned_in (e ∷ es) = scanned_in es + scanned_by e es

  -- of it, the globals, and the words of objects
  abbrev pub globals_in : List (Entry Op) → ℕ
  globals_in [] = 0
  globals_in (e ∷ es) = globals_in es + global_by (state_of (actors setup) e.actor es) e.found

  abbrev pub objects_in : List (Entry Op) → ℕ
  objects_in [] = 0
  objects_in (e ∷ es) = objects_in es + objects_by setup.layout (state_of (actors setup) e.actor es) e.found

  -- how many globals workers have in hand
  abbrev pub globals_held : List (Entry Op) → ℕ
  globals_held es = total (λ a. global_in_hand (state_of (actors setup) a es)) (seats_of setup.layout)

  -- no more in the list than in as many cycles as have begun
  abbrev pub FewAreScanned : List (Entry Op) → Type 0
  FewAreScanned es = scanned_in es ≤ words_after (first_words setup) es Cell.Begun * most_scanned setup.layout

  -- In each cycle each global is counted exactly once.
  pub record GlobalsAreCounted (es : List (Entry Op)) (c : Coordinating) : Type 0 where
    -- what is scanned are the words of objects, and one for each global
    pub parts : scanned_in es ≡ globals_in es + objects_in es
    -- while no cycle is marked each global was counted as often as the marking of a cycle has ended
    pub once : (leading.Marks c.stage → ⊥) → globals_in es ≡ stored_in Cell.Gen es * setup.layout.globals
    -- while one is marked so is, besides, each that the cursor has passed in it, but for those that workers have in hand
    pub so_far : leading.Marks c.stage → globals_in es + globals_held es ≡ stored_in Cell.Gen es * setup.layout.globals + min (words_after (first_words setup) es Cell.Gcur) setup.layout.globals
    -- so at all times as often as marking has ended at the least, and at the most as often as a cycle has begun
    pub least : stored_in Cell.Gen es * setup.layout.globals ≤ globals_in es
    pub most : globals_in es ≤ stored_in Cell.Begun es * setup.layout.globals
