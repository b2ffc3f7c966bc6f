-- What one step leaves of the word of a page, whoever makes it. A move of a processor leaves it, frees the page, or gives the span another owner; or it lays a page that was free. A sweep gives the span another number. So the page stays one of a span for objects of one of the types, as long as what is laid is.
use Rattle.std.proofs.Common.{◌≡◌, inl, inr, ℕ, ◌+◌, ◌^◌, ◌<◌, Bool, true, false, cond, eqb, refl, sym, ap, subst, ◌∙◌, arith, List, None}
use Rattle.std.proofs.lemmas.Bool.{eqb-true}
use Rattle.gh_marked.proofs.Vocabulary.{Add, And, Arena, Ask, Cell, cell_of, ChangesOneCell, Check, Close, Coordinating, CoordStage, Count, effect, eqb_tells, FitsHead, Footprint, FootprintsHold, Free, Head, head_word, Heap, IsForTypes, IsHeadFor, IsPageFor, Layout, left, Load, Open, Or, owned_by, PackedWordsAreReadBack, page_of, same_cell, Shape, shape_at, SpanHead, Stop, StopAgain, Store, Swap, Sweep, SweepAllStage, SweepStage, Tell, view, Watch, Words, WorkersAreRoutines, Working, Writes}
use Rattle.gh_base.specs.Footprints as row
use Rattle.gh_heap.specs.Moves as heap
use Rattle.gh_sweep.specs.Listing as sweep
use Rattle.gh_coord.specs.Closing as close
use Rattle.gh_coord.specs.Counting as count
use Rattle.gh_coord.specs.Listing.{asks_at, sweep_at}
use Rattle.gh_coord.specs.Opening as open_
use Rattle.gh_coord.specs.PartsRoutines.{PartsAreRoutines}
use Rattle.gh_coord.specs.Stopping as stop
use Rattle.gh_coord.specs.SweepingAll as all
use Rattle.gh_coord.specs.Telling as tell
use Rattle.gh_coord.specs.Watching as watch
use Rattle.gh_worker.specs.Listing as worker
use Rattle.gh_worker.specs.Listing.{sweep_in}

-- the two are heads of one span class, with as many pages
record AreAlike (h g : SpanHead) : Type 0 where
  class : g.class ≡ h.class
  noscan : g.noscan ≡ h.noscan
  pages : g.pages ≡ h.pages

module _ (read : PackedWordsAreReadBack) (shapes : List Shape) where
  abbrev ForPage : ℕ → Type 0
  ForPage word = IsForTypes shapes (page_of word)

  for_alike : (s : Shape) (h g : SpanHead) → AreAlike h g → IsHeadFor s h → IsHeadFor s g
  for_alike s h g a f = record { class = a.class ∙ f.class; noscan = a.noscan ∙ f.noscan; pages = a.pages ∙ f.pages }

  passes : (word : ℕ) (h g : SpanHead) → FitsHead g → AreAlike h g → page_of word ≡ Head h → ForPage word → ForPage (head_word g)
  passes word h g fits alike is (inl free) = absurd (let no : Head h ≡ Free = sym is ∙ free in cc)
  passes word h g fits alike is (inr for) = inr (for.0, for.1, subst (IsPageFor (shape_at shapes for.0)) (sym (read.page (Head g) fits)) (for_alike (shape_at shapes for.0) h g alike (subst (IsPageFor (shape_at shapes for.0)) is for.2)))

  none : ForPage 0
  none = inl refl

  module _ (w : Words) (q : ℕ) (was : ForPage (w (Cell.Page q))) where
    -- the word of page p is written
    onto : (p value : ℕ) → (p ≡ q → ForPage value) → ForPage (cond (eqb p q) value (w (Cell.Page q)))
    onto p value is = go (eqb p q) refl where
      go : (b : Bool) → eqb p q ≡ b → ForPage (cond b value (w (Cell.Page q)))
      go true e = is (eqb-true _ _ e)
      go false e = was

    -- its span passes to a head like its own
    onto_head : (p : ℕ) (h g : SpanHead) → FitsHead g → AreAlike h g → page_of (w (Cell.Page p)) ≡ Head h → ForPage (cond (eqb p q) (head_word g) (w (Cell.Page q)))
    onto_head p h g fits alike is = onto p (head_word g) (λ here. passes (w (Cell.Page q)) h g fits alike (sym (ap (λ (n : ℕ). page_of (w (Cell.Page n))) here) ∙ is) was)

    -- A step on another row.
    module _ (one : ChangesOneCell) where
      not_page : (c : Cell) → heap.IsAside c → same_cell c (Cell.Page q) ≡ false
      not_page (Cell.Page i) is = absurd is
      not_page _ is = refl

      leaves : (ask : Ask) → same_cell (cell_of ask) (Cell.Page q) ≡ false → ForPage (effect w ask (Cell.Page q))
      leaves ask apart = subst ForPage (sym (one w ask (Cell.Page q) ∙ ap (λ (b : Bool). cond b (left ask (w (cell_of ask))) (w (Cell.Page q))) apart)) was

      quiet : (ask : Ask) → heap.IsQuiet ask → ForPage (effect w ask (Cell.Page q))
      quiet (Load c) is = was
      quiet (Store c v) is = leaves (Store c v) (not_page c is)
      quiet (Or c v) is = leaves (Or c v) (not_page c is)
      quiet (And c v) is = leaves (And c v) (not_page c is)
      quiet (Add c v) is = leaves (Add c v) (not_page c is)
      quiet (Swap c v u) is = leaves (Swap c v u) (not_page c is)

    -- A step of a worker that runs no sweep.
    pub worked : (k : WorkersAreRoutines) (l : Layout) (m : Working) → sweep_in m ≡ None → ForPage (effect w (worker.asks l m) (Cell.Page q))
    worked k l m none = subst ForPage (sym ((k.marks_alone l m none).leaves w (Cell.Page q) refl)) was

    -- A step of the coordinator.

    swap : (p old : ℕ) (h g : SpanHead) → FitsHead g → AreAlike h g → page_of old ≡ Head h → ForPage (effect w (Swap (Cell.Page p) old (head_word g)) (Cell.Page q))
    swap p old h g fits alike is = go (eqb (w (Cell.Page p)) old) refl where
      go : (b : Bool) → eqb (w (Cell.Page p)) old ≡ b → ForPage (cond b (λ (c : Cell). cond (same_cell (Cell.Page p) c) (head_word g) (w c)) w (Cell.Page q))
      go true e = onto_head p h g fits alike (ap page_of (eqb-true _ _ e) ∙ is)
      go false e = was

    -- the sweep is of a span with this head, which stands there once it has begun
    pub record IsSwept (m : sweep.Sweeping) : Type 0 where
      pub fits : FitsHead m.head
      pub few : m.head.number + 2 < 2 ^ 34
      pub begun : m.stage ≡ SweepStage.Finish → w (Cell.Page m.page) ≡ head_word (sweep.in_sweep m.head)

    fits_in_sweep : (m : sweep.Sweeping) → IsSwept m → FitsHead (sweep.in_sweep m.head)
    fits_in_sweep m s = let few = s.few in record { class = s.fits.class; some = s.fits.some; pages = s.fits.pages; owner = s.fits.owner; number = omega (arith, few) }

    fits_once_swept : (m : sweep.Sweeping) → IsSwept m → FitsHead (sweep.once_swept m.head)
    fits_once_swept m s = record { class = s.fits.class; some = s.fits.some; pages = s.fits.pages; owner = omega arith; number = s.few }

    pub sweeps : (l : Layout) (m : sweep.Sweeping) (p : SweepStage) → m.stage ≡ p → IsSwept m → ForPage (effect w (sweep.asks_at l m p) (Cell.Page q))
    sweeps l m SweepStage.Begin at s = swap m.page (head_word m.head) m.head (sweep.in_sweep m.head) (fits_in_sweep m s) (record { class = refl; noscan = refl; pages = refl }) (read.page (Head m.head) s.fits)
    sweeps l m SweepStage.Finish at s =
        onto_head m.page (sweep.in_sweep m.head) (sweep.once_swept m.head) (fits_once_swept m s) (record { class = refl; noscan = refl; pages = refl }) (ap page_of (s.begun at) ∙ read.page (Head (sweep.in_sweep m.head)) (fits_in_sweep m s))
    sweeps l m _ at s = was

    -- between two sweeps of spans it loads
    rests : (l : Layout) (p : SweepAllStage) → all.sweep_at p ≡ None → ForPage (effect w (all.asks_at l p) (Cell.Page q))
    rests l (SweepAllStage.Sweep page m) none = absurd (cc)
    rests l _ none = was

    -- and of the other parts none writes a page
    module _ (k : FootprintsHold) (l : Layout) (c : Coordinating) (is : PartsAreRoutines l) where
      spares : (f : Footprint) (step : Ask) → Writes f step → f row.Page ≡ false → ForPage (effect w step (Cell.Page q))
      spares f step writes none = subst ForPage (sym (k.leaves f step w (Cell.Page q) writes none)) was

      pub led : (p : CoordStage) → sweep_at p ≡ None → ForPage (effect w (asks_at l c p) (Cell.Page q))
      led (Stop st) s = spares stop.writes _ (is.stop.writes st) refl
      led (Open o) s = spares open_.writes _ (is.opens.writes o) refl
      led (Watch v) s = spares watch.writes _ (is.watch.writes v) refl
      led (StopAgain st) s = spares stop.writes _ (is.stop.writes st) refl
      led (Check v) s = spares watch.writes _ (is.watch.writes v) refl
      led (Close x) s = spares close.writes _ (is.close.writes x) refl
      led (Sweep v) s = rests l v.stage s
      led (Count x) s = spares count.writes _ (is.count.writes x) refl
      led (Tell t) s = spares tell.writes _ (is.tell.writes t) refl
      led _ s = was

  -- A move of a processor.
  module _ (one : ChangesOneCell) (z : Arena) (a : ℕ) (s : Heap) (few : a + 1 < 2 ^ 8) (heads : (p : ℕ) (h : SpanHead) → page_of (s.words (Cell.Page p)) ≡ Head h → FitsHead h) (q : ℕ) (was : ForPage (s.words (Cell.Page q))) where
    abbrev Then : heap.Move → Type 0
    Then m = ForPage ((heap.moved z a s m).words (Cell.Page q))

    fits_owned : (h : SpanHead) (owner : ℕ) → FitsHead h → owner < 2 ^ 8 → FitsHead (owned_by owner h)
    fits_owned h owner fits lt = record { class = fits.class; some = fits.some; pages = fits.pages; owner = lt; number = fits.number }

    owned : (p owner : ℕ) (h : SpanHead) → owner < 2 ^ 8 → page_of (s.words (Cell.Page p)) ≡ Head h → ForPage (cond (eqb p q) (head_word (owned_by owner h)) (s.words (Cell.Page q)))
    owned p owner h lt is = onto_head s.words q was p h (owned_by owner h) (fits_owned h owner (heads p h is) lt) (record { class = refl; noscan = refl; pages = refl }) is

    -- a page is laid only where it was free, with the lock
    laid : (p value : ℕ) → page_of (s.words (Cell.Page p)) ≡ Free → (page_of (s.words (Cell.Page q)) ≡ Free → ForPage (cond (eqb p q) value (s.words (Cell.Page q)))) → ForPage (cond (eqb p q) value (s.words (Cell.Page q)))
    laid p value free fresh = elim (eqb_tells p q) [
      | inl is ↦ fresh (sym (ap (λ (n : ℕ). page_of (s.words (Cell.Page n))) is.1) ∙ free)
      | inr other ↦ subst (λ (b : Bool). ForPage (cond b value (s.words (Cell.Page q)))) (sym other.0) was
    ]

    pub moved : (m : heap.Move) → heap.May z a (view s) m → (s.locked a ≡ true → page_of (s.words (Cell.Page q)) ≡ Free → Then m) → Then m
    moved (heap.Quiet step) may fresh = quiet s.words q was one step may
    moved (heap.Takes step g d value) may fresh = quiet s.words q was one step may.0
    moved (heap.Ends step g) may fresh = quiet s.words q was one step may.0
    moved (heap.LayBody y) may fresh = laid (y.first + y.next) _ (may.0.laid.free y.next (omega arith) may.1) (fresh may.0.locked)
    moved (heap.LayHead y) may fresh = laid y.first _ may.0.laid.head (fresh may.0.locked)
    moved (heap.FreeBody y) may fresh = onto s.words q was (y.first + y.next) 0 (λ here. none)
    moved (heap.FreeHead y) may fresh = onto s.words q was y.first 0 (λ here. none)
    moved (heap.Own p h) may fresh = owned p (a + 1) h few may.0.head
    moved (heap.Disown p h) may fresh = owned p 0 h (omega arith) may.0.head
    moved (heap.Publish p h) may fresh = owned p 0 h (omega arith) may.1
    moved _ may fresh = was
