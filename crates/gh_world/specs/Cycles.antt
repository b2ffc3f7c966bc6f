-- What a list says of its cycles, and what is live at its end: by the words where each cycle ended, and by the heap that never frees.
use Rattle.std.specs.Prelude.{◌≡◌, ◌≢◌, ◌↔◌, ℕ, ◌*◌, List, [], ◌∷◌, ◌++◌, length, sum_by, AllPairs, Some}
use Rattle.gh_world.specs.Vocabulary.{Ask, Entry, Ever, field_count, Layout, Name, Op, Shape, shape_of, SweptCycle, Words, words_after}
use Rattle.gh_base.specs.declared.cell.Ask.TheVariants.{Store}
use Rattle.gh_base.specs.declared.cell.Cell.{Cell}
use Rattle.gh_base.specs.Rows.{alloc_words, mark_words}
use Rattle.gh_model.specs.Ever.{names}
use Rattle.gh_sweep.specs.Counts.{marked_objects, unmarked_objects}
use Rattle.gh_law.specs.Names.{IsAmong}

-- A cycle ends with the step that stores the next sweep generation: its number, and how many objects are placed and marked, and placed and white, there.
abbrev pub ended_by : Layout → Words → Ask → List SweptCycle
ended_by l words (Store Cell.Gen h) = record {
  number = words Cell.Begun;
  marked = marked_objects (alloc_words words) (mark_words words) 0 l.pages;
  freed = unmarked_objects (alloc_words words) (mark_words words) 0 l.pages;
} ∷ []
ended_by l words _ = []

-- the cycles that have ended in the list, in their order
abbrev pub cycles_in : Layout → Words → List (Entry Op) → List SweptCycle
cycles_in l opening [] = []
cycles_in l opening (e ∷ es) = cycles_in l opening es ++ ended_by l (words_after opening es) e.ask

-- a path of pointer fields leads to the object from a global
pub data IsHeldByGlobals (e : Ever) : Name → Type 0 where
  by_global : (k : ℕ) (n : Name) → names (e.global k) ≡ Some n → IsHeldByGlobals e n
  by_field : (m : Name) (k : ℕ) (n : Name) → IsHeldByGlobals e m → names (e.field m k) ≡ Some n → IsHeldByGlobals e n

-- the bytes of the object's slot
abbrev pub bytes_of : List Shape → Ever → Name → ℕ
bytes_of shapes e n = 8 * field_count (shape_of shapes e n)

-- So many objects are held by the globals, and so many bytes are those of their slots.
pub record AreLive (shapes : List Shape) (e : Ever) (objects bytes : ℕ) : Type 0 where
  pub names : List Name
  -- each of them once
  pub all : (n : Name) → IsHeldByGlobals e n ↔ IsAmong n names
  pub once : AllPairs (λ n m. n ≢ m) names
  pub objects_are : objects ≡ length names
  pub bytes_are : bytes ≡ sum_by (bytes_of shapes e) names
