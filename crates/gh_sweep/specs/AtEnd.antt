-- The state where a cycle has ended, which sweeps begin with; and its words of bits as objects.
use Rattle.std.specs.Prelude.{◌≡◌, ℕ, suc, zero, ◌+◌, ◌*◌, ◌/◌, Bool, false, ◌||◌, not, nat_lt}
use Rattle.gh_sweep.specs.Vocabulary.{Body, Cell, Free, Head, page_of, page_words, PageWord, Row}
use Rattle.gh_sweep.specs.Counts.{count_below, is_set, marked_objects, unmarked_objects}
use Rattle.gh_sweep.specs.Shared.{alloc_at, CycleEnd, Done, Far, freed_at, Good, HasEnded, in_all, kept_at, marks_at, nothing_due, Shared, Unswept, view}
use Rattle.gh_sweep.specs.Sweepers.{IsAtRest}

-- Each span is unswept, nobody sweeps, and nothing is cut, cleared or owed.

abbrev pub far_in : PageWord → Far
far_in Free = Done
far_in (Head h) = Unswept
far_in (Body b) = Done

-- word i of the bits lies in the span at page p, if one begins there
abbrev pub reaches : (i p : ℕ) → PageWord → Bool
reaches i p Free = false
reaches i p (Head h) = nat_lt i (16 * (p + h.pages))
reaches i p (Body b) = false

-- one of the numbers below n passes the test
abbrev pub some_below : (ℕ → Bool) → ℕ → Bool
some_below test zero = false
some_below test (suc n) = test n || some_below test n

-- it lies in no span, so it needs no sweep
abbrev pub in_no_span : Row → ℕ → Bool
in_no_span page i = not (some_below (λ p. reaches i p (page_of (page p))) (i / 16 + 1))

abbrev pub at_end : CycleEnd → Shared
at_end e = record {
  words = e.words;
  far = λ p. far_in (page_of (e.words (Cell.Page p)));
  cut = in_no_span (page_words e.words);
  clear = in_no_span (page_words e.words);
  slot = e.slot;
  since = e.since;
  due = λ a. nothing_due;
  pend = λ a. 0;
}

-- where a cycle has ended what holds at every moment holds, and each actor is at rest
pub record EndsWell : Type 0 where
  pub good : (e : CycleEnd) → HasEnded e → Good e (view (at_end e))
  pub rests : (e : CycleEnd) (a : ℕ) → HasEnded e → IsAtRest a (at_end e)

-- the words of bits, where the cycle ended, as objects: how many were marked, how many were not, and that these are all
pub record BitsAreObjects (e : CycleEnd) : Type 0 where
  pub marked : in_all e (kept_at e) ≡ marked_objects (alloc_at e) (marks_at e) 0 e.layout.pages
  pub freed : in_all e (freed_at e) ≡ unmarked_objects (alloc_at e) (marks_at e) 0 e.layout.pages
  pub all : marked_objects (alloc_at e) (marks_at e) 0 e.layout.pages + unmarked_objects (alloc_at e) (marks_at e) 0 e.layout.pages ≡ count_below (is_set (alloc_at e)) (1024 * e.layout.pages)

abbrev pub TheBitsAreObjects : Type 0
TheBitsAreObjects = (e : CycleEnd) → HasEnded e → BitsAreObjects e
