-- Where a search for a slot ends without room, in every legal list of steps of all actors: the first search of a `new`, and the one after its wait.
use Rattle.std.specs.Prelude.{◌≡◌, Bool, List, ◌∷◌, Some}
use Rattle.gh_law.specs.Vocabulary.{arena_of, before_step, Cell, Entry, IsStartOf, Op, Setup, Store, words}
use Rattle.gh_alloc.specs.declared.sought.Found.TheVariants.{NoRoom}
use Rattle.gh_alloc.specs.Search as search
use Rattle.gh_lists.specs.Processors.{IsFullFor}
use Rattle.gh_mutator.specs.declared.new.Wanted.{Wanted}
use Rattle.gh_mutator.specs.New.{op_of, searches}

module _ (setup : Setup) where
  -- With this entry behind the list the search for this object's slot ends without room: it is the first, or the one after the wait.
  pub record EndsWithoutRoom (e : Entry Op) (es : List (Entry Op)) (w : Wanted) : Type 0 where
    pub waited : Bool
    pub seeking : search.Seeking
    pub searches_then : (before_step setup.shapes setup.layout es e).task ≡ searches w waited seeking
    pub none : search.gives setup.layout seeking e.found ≡ Some NoRoom

  -- So there is none for the object in the words before it, with which the lock is freed.
  pub record HasNoRoom (e : Entry Op) (es : List (Entry Op)) (w : Wanted) : Type 0 where
    pub unlocks : e.ask ≡ Store Cell.Lock 0
    pub no_room : IsFullFor (arena_of setup.shapes setup.layout) e.actor (words setup es) (op_of w)

  -- of every entry of the list
  abbrev pub NoneMeansNoRoom : List (Entry Op) → Type 0
  NoneMeansNoRoom es = (e : Entry Op) (before : List (Entry Op)) (w : Wanted) → IsStartOf (e ∷ before) es → EndsWithoutRoom e before w → HasNoRoom e before w
