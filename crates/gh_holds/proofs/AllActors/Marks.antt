-- While a cycle is marked: what is known of the heap says what is known of its objects, and lasts while workers and the coordinator step.
use Rattle.std.proofs.Common.{◌≢◌, ℕ, false, refl, sym, subst, List, arith}
use Rattle.gh_holds.proofs.Vocabulary.{Arena, arena, AreWords, Ask, Check, Close, CloseStage, Coordinating, CoordStage, Cycle, Entry, Footprint, goes, GoesTogether, Good, IsBeginning, IsKnown, Known, Layout, mark_words, Marking, MarkingGood, MarkOn, Op, Open, OpenStage, Setup, stays, StopAgain, StopStage, view, Watch, Went, Writes}
use Rattle.gh_base.specs.Footprints as row
use Rattle.gh_marks.specs.Knows.{KnowsObjects}
use Rattle.gh_marks.specs.Laws.{MarksStayWords}
use Rattle.gh_coord.specs.Closing as close
use Rattle.gh_coord.specs.Handshake as leading
use Rattle.gh_coord.specs.Listing as coord
use Rattle.gh_coord.specs.Opening as opens_by
use Rattle.gh_coord.specs.Stopping as stop
use Rattle.gh_coord.specs.Watching as watch
use Rattle.gh_marked.proofs.Vocabulary.{WatchStage}
use Rattle.gh_holds.proofs.AllActors.Aside.{beside_rows}

-- mark words are words behind moves
pub words_stay : MarksStayWords → (z : Cycle) (a : ℕ) (s t : Marking) → Went z a s t → AreWords (mark_words s.words) → AreWords (mark_words t.words)
words_stay known z a s t stays h = h
words_stay known z a s t (goes v m w may) h = known.moves z a v m may (words_stay known z a s v w h)

module _ (setup : Setup) (known : Known) where
  abbrev z : Arena
  z = arena setup

  pub objects : (c : Cycle) (s : Marking) (es : List (Entry Op)) → MarkingGood c s → IsKnown setup c s es → KnowsObjects c s
  objects c s es good k = known.objects c k.has.state.heap s (subst (λ (x : Arena). Good x (view k.has.state.heap)) (sym k.arena_is) k.has.good.heap) good (subst (λ (x : Arena). GoesTogether x k.has.state.heap s) (sym k.arena_is) k.beside)

-- Steps while a cycle is marked: they are beside the heap, and leave what a sweep counts.

abbrev pub marking_rows : Footprint
marking_rows row.Tally = false
marking_rows row.Live = false
marking_rows r = beside_rows r

abbrev pub IsOfMarking : Ask → Type 0
IsOfMarking ask = Writes marking_rows ask

-- the entries of the coordinator that leave the cycle marked
module _ (l : Layout) (s : Coordinating) where
  watches : (p : WatchStage) → IsOfMarking (watch.asks_at l p)
  watches p = grind arith

  stops : (st : stop.Stopping) (p : StopStage) → IsOfMarking (stop.asks_at st p)
  stops st p = grind arith

  -- it ends no cycle
  abbrev StaysMarked : CoordStage → Type 0
  StaysMarked (Close c) = c.stage ≢ CloseStage.StoreGen
  StaysMarked _ = Unit {0}

  closes : (c : close.Closing) (p : CloseStage) → p ≢ CloseStage.StoreGen → IsOfMarking (close.asks_at c p)
  closes c p other = grind arith

  pub goes_on_marked : (p : CoordStage) → leading.Marks p → StaysMarked p → IsOfMarking (coord.asks_at l s p)
  goes_on_marked (Watch w) on still = watches w.stage
  goes_on_marked (StopAgain st) on still = stops st st.stage
  goes_on_marked (Check w) on still = watches w.stage
  goes_on_marked MarkOn on still = refl
  goes_on_marked (Close c) on still = closes c c.stage still
  goes_on_marked _ on still = absurd on

  pub begins_marked : (p : CoordStage) → IsBeginning p → IsOfMarking (coord.asks_at l s p)
  begins_marked (Open o) b = subst (λ (q : OpenStage). IsOfMarking (opens_by.asks_at o q)) (sym b) refl
  begins_marked _ b = absurd b

  pub stays_marked : (p : CoordStage) (found : ℕ) → leading.Marks (coord.goes_at l s p found).stage → StaysMarked p
  stays_marked p found on = grind arith
