-- A step of a processor that is none of a sweep is a move of the one state, whatever the coordinator's stage: the step that makes an object leaves the bytes of its slot uncounted, and the one that counts them leaves none.
use Rattle.std.proofs.Common.{◌≡◌, ◌≢◌, ℕ, ◌+◌, ◌*◌, ◌/◌, ◌%◌, ◌^◌, ◌<◌, ◌==◌, Bool, true, false, cond, refl, sym, ap, subst, ◌∙◌, arith, ◌⊎◌, inl, inr, Option, Some, None, eq-eqb, is_some}
use Rattle.gh_marked.proofs.Vocabulary.{acted, acts, acts_at, Answer, Arena, asks, Cell, Claims, CountsObject, CountsStay, Deed, Does, effect, Ever, FactsAt, for_whom, Heap, InSpan, is_busy_at, is_own_class, IsSound, IsSweeping, Known, made_task, Make, MarksNothing, May, Move, moved, Name, nat_tests, next_name, number_of_class, page_words, pend_then, Place, placed_at, PlaceStage, Processor, ProcessorFacts, put, Row, seats_of, SeatSweepsNothing, SizeClass, slot_bytes_of, SpanHead, State, StateGood, sweep_in, Sweeping, takes, takes_at, Task, uncounted, View, view, Wanted, with_word, Words}
use Rattle.gh_class.specs.Classes.{IsSizeClass, slot_of}
use Rattle.gh_state.specs.Moves as state
use Rattle.gh_state.specs.Moves.{Count}
use Rattle.gh_alloc.specs.Place as place
use Rattle.gh_alloc.specs.PlaceFacts as facts_of
use Rattle.gh_alloc.specs.Place.{Placing}
use Rattle.gh_marked.proofs.OneStep.Placing.{Counts, Keeps, kind, Makes}
use Rattle.gh_marked.proofs.OneStep.Sweepers.{rests_counted, rests_on}

-- The moves.

pub record ByMaking (m : Move) : Type 0 where
  pub at : ℕ
  pub g : ℕ
  pub d : ℕ
  pub t : ℕ
  pub is : m ≡ Make at g d t

-- nothing is made, and so nothing is to be counted
pub record MakesNothing (z : Arena) (a : ℕ) (h : Heap) (m : Move) : Type 0 where
  pub pends : (slot pend : Row) → pend_then a m slot pend ≡ pend
  pub made : (g : ℕ) → (moved z a h m).ever.made g ≡ h.ever.made g

moves_by : (z : Arena) (a : ℕ) (h : Heap) (m : Move) → ByMaking m ⊎ MakesNothing z a h m
moves_by z a h (Make at g d t) = inl (record { at = at; g = g; d = d; t = t; is = refl })
moves_by z a h _ = inr (record { pends = λ slot pend. refl; made = λ g. refl })

-- The bytes of a slot are those of its words.

abbrev pub WholeWords : Type 0
WholeWords = (c : ℕ) → c < 25 → slot_of c % 8 ≡ 0

bytes_of_words : WholeWords → (c : SizeClass) (pages : ℕ) → IsSizeClass c → slot_bytes_of c pages ≡ 8 * cond (is_own_class c) (1024 * pages) (slot_of (number_of_class c) / 8)
bytes_of_words whole c pages is = grind arith

slot_bytes_are : Known → WholeWords → (z : Arena) (s : State) → StateGood z s → (a at size : ℕ) → 0 < size → Claims z (view s.heap) a at size → s.slot (at / 64) ≡ 8 * size
slot_bytes_are known whole z s good a at size some c =
    let inside = (known.apart z (view s.heap) good.heap).inside c.p c.i at size 0 c.h c.slot some in
    let low = inside.0 in
    let high = inside.1 in
    let span : InSpan (page_words s.heap.words) (at / 64) = record { p = c.p; h = c.h; head = c.slot.span.head; from = omega (arith, low); below = omega (arith, high) } in
    good.sweep.slots (at / 64) span ∙ bytes_of_words whole c.h.class c.h.pages c.slot.span.fits.class ∙ ap (λ (m : ℕ). 8 * m) (sym c.slot.size_is)

-- What a step of a processor is that moves the heap so: between two cycles it marks nothing.
pub record Stepped (z : Arena) (a : ℕ) (s : State) (m : Processor) (found : ℕ) (pending : Option Answer) (move : Move) : Type 0 where
  pub good : StateGood z s
  pub seat : a < seats_of z.layout
  pub busy : is_busy_at m.task ≡ true
  pub sound : IsSound z.layout m
  pub fine : ProcessorFacts z a (view s.heap) m pending
  pub pends : s.pend a ≡ uncounted m.task
  pub calm : s.told ≡ None → MarksNothing m
  pub none : sweep_in m ≡ None
  pub may : May z a (view s.heap) move
  pub words : (moved z a s.heap move).words ≡ effect s.heap.words (asks z.layout m)
  pub does : Does z a s.heap (moved z a s.heap move) m pending found

module _ (known : Known) (whole : WholeWords) (z : Arena) (a : ℕ) (s : State) (m : Processor) (found : ℕ) (pending : Option Answer) (move : Move) (stepped : Stepped z a s m found pending move) where
  abbrev h : Heap
  h = s.heap

  abbrev t : Heap
  t = moved z a s.heap move

  abbrev to : Processor
  to = takes z.layout z.shapes m found

  -- It is a move of the one state, which moves the heap as this does.
  pub record Counted : Type 0 where
    pub to_move : state.Move
    pub may_move : state.May z a s to_move
    pub heap_is : (state.moved z a s to_move).heap ≡ moved z a s.heap move
    -- what is not counted then, and how far spans are
    pub own : (state.moved z a s to_move).pend a ≡ uncounted to.task
    pub others : (b : ℕ) → b ≢ a → (state.moved z a s to_move).pend b ≡ s.pend b
    pub rests : SeatSweepsNothing a s → SeatSweepsNothing a (state.moved z a s to_move)

  no_sweep : IsSweeping m → ⊥
  no_sweep is = absurd (let no : false ≡ true = sym (ap (λ (x : Option Sweeping). is_some x) stepped.none) ∙ is in cc)

  -- what the step leaves
  left_by : (c : Cell) → effect h.words (asks z.layout m) c ≡ h.words c → t.words c ≡ h.words c
  left_by c same = ap (λ (w : Words). w c) stepped.words ∙ same

  counts_stay : (CountsObject (asks z.layout m) m.task → ⊥) → CountsStay s.told s.heap.words t.words
  counts_stay silent = record {
    heap = left_by Cell.Heap (known.writes.leaves z.layout m h.words Cell.Heap stepped.sound unheaped);
    tally = λ over. left_by Cell.Tally (known.writes.leaves z.layout m h.words Cell.Tally stepped.sound no_sweep);
    live = λ over. left_by Cell.Live (known.writes.leaves z.layout m h.words Cell.Live stepped.sound no_sweep);
    marks = λ over i. left_by (Cell.Mark i) (known.calm.leaves z.layout m h.words (Cell.Mark i) (stepped.calm over) no_sweep);
  } where
    unheaped : CountsObject (asks z.layout m) m.task ⊎ IsSweeping m → ⊥
    unheaped (inl x) = silent x
    unheaped (inr x) = no_sweep x

  may_deed : (CountsObject (asks z.layout m) m.task → ⊥) → state.May z a s (Deed move)
  may_deed silent = record { seat = stepped.seat; may = stepped.may; counts = counts_stay silent }

  keeps : MakesNothing z a s.heap move → Keeps z.layout z.shapes m found m.task → Counted
  keeps x k = record {
    to_move = Deed move;
    may_move = may_deed k.silent;
    heap_is = refl;
    own = ap (λ (r : Row). r a) (x.pends s.slot s.pend) ∙ (stepped.pends ∙ sym k.same);
    others = λ b differs. ap (λ (r : Row). r b) (x.pends s.slot s.pend);
    rests = rests_on known z a s move;
  }

  -- The bytes are counted.

  not_a : (b : ℕ) → b ≢ a → (a == b) ≡ false
  not_a b differs = grind (arith, nat_tests)

  word_there : (row : Row) (v : ℕ) → with_word row a v a ≡ v
  word_there row v = rw (eq-eqb a a refl) refl

  others_left : (row : Row) (v b : ℕ) → b ≢ a → with_word row a v b ≡ row b
  others_left row v b differs = rw (not_a b differs) refl

  counts : Counts z.layout z.shapes m found m.task → Counted
  counts c = record {
    to_move = Count;
    may_move = stepped.seat;
    heap_is = sym t_is;
    own = word_there s.pend 0 ∙ sym c.then;
    others = others_left s.pend 0;
    rests = rests_counted known z a s;
  } where
    t_is : t ≡ record (s.heap) { words = put s.heap.words Cell.Heap ((s.heap.words Cell.Heap + s.pend a) % 2 ^ 64) }
    t_is = grind arith

  made_more : (x : ByMaking move) → t.ever.made x.g ≡ h.ever.made x.g + 1
  made_more x = ap (λ (y : Move). (moved z a h y).ever.made x.g) x.is ∙ rw (eq-eqb x.g x.g refl) refl

  -- where it makes nothing the move is no making
  made_none : ((e : Ever) (g : ℕ) → (acted z.shapes e (acts z.layout m found)).made g ≡ e.made g) → ByMaking move → ⊥
  made_none nothing x =
      let more : t.ever.made x.g ≡ h.ever.made x.g + 1 = made_more x in
      let none : t.ever.made x.g ≡ h.ever.made x.g = ap (λ (e : Ever). e.made x.g) stepped.does.ever ∙ nothing h.ever x.g in
      omega (arith, more, none)

  -- An object is made.
  module _ (x : Makes z.layout z.shapes m found m.task) where
    abbrev w : Wanted
    w = x.wanted

    abbrev p : Placing
    p = x.placing

    abbrev at_place : Placing → Task
    at_place q = Task.New (record { wanted = w; stage = Place q })

    abbrev PlaceFacts : View → Placing → Type 0
    PlaceFacts u q = facts_of.Facts z a u (for_whom w) q

    unmade : facts_of.Unmade z a (view h) (for_whom w) (facts_of.base p)
    unmade = (subst (λ (s : PlaceStage). facts_of.FactsAt z a (view h) (for_whom w) (facts_of.base p) s) x.stage (subst (λ (y : Task). FactsAt z a (view h) m pending y) x.is stepped.fine.task).facts).0

    none_before : uncounted m.task ≡ 0
    none_before = ap uncounted x.is ∙ ap (λ (s : PlaceStage). uncounted (at_place (place.at_stage p s))) x.stage

    -- the task then
    pub record MadeNow : Type 0 where
      pub placing : Placing
      pub task_is : to.task ≡ at_place placing
      pub bytes : uncounted (at_place placing) ≡ 8 * p.slot
      pub made : (u : View) → PlaceFacts u placing → u.place p.name ≡ p.at

    abbrev task_then : PlaceStage → Task
    task_then s = (takes_at z.layout z.shapes m (at_place (place.at_stage p s)) found).task

    to_is : to.task ≡ task_then PlaceStage.Alloc
    to_is = ap (λ (y : Task). (takes_at z.layout z.shapes m y found).task) x.is ∙ ap task_then x.stage

    abbrev task_behind : Option SpanHead → Task
    task_behind s = made_task m.poll w (place.at_stage p (place.made p s)) (place.given_at (place.made p s))

    made_now : MadeNow
    made_now = go p.span refl where
      go : (s : Option SpanHead) → p.span ≡ s → MadeNow
      go None is = record { placing = place.at_stage p PlaceStage.Count; task_is = to_is ∙ ap task_behind is; bytes = refl; made = λ u f. f.at }
      go (Some head) is = record { placing = place.at_stage p (place.made p (Some head)); task_is = to_is ∙ ap task_behind is; bytes = refl; made = λ u f. f.0.at }

    at_its_place : (n : Name) (at : ℕ) → placed_at h.place n at n ≡ at
    at_its_place n at = rw (eq-eqb n.g n.g refl) (rw (eq-eqb n.k n.k refl) refl)

    abbrev act_ever : Ever
    act_ever = acted z.shapes h.ever (acts_at z.layout m (at_place (place.at_stage p PlaceStage.Alloc)) found)

    ever_is : t.ever ≡ act_ever
    ever_is = stepped.does.ever ∙ (ap (λ (y : Task). acted z.shapes h.ever (acts_at z.layout m y found)) x.is ∙ ap (λ (s : PlaceStage). acted z.shapes h.ever (acts_at z.layout m (at_place (place.at_stage p s)) found)) x.stage)

    made_one : t.ever.made w.g ≡ h.ever.made w.g + 1
    made_one = ap (λ (e : Ever). e.made w.g) ever_is ∙ rw (eq-eqb w.g w.g refl) refl

    moves_none : ((g : ℕ) → t.ever.made g ≡ h.ever.made g) → ⊥
    moves_none same = let none = same w.g in let one = made_one in omega (arith, none, one)

    same_goroutine : (y : ByMaking move) → w.g ≡ y.g
    same_goroutine y = go (y.g == w.g) refl where
      by : t.ever.made y.g ≡ cond (y.g == w.g) (h.ever.made w.g + 1) (h.ever.made y.g)
      by = ap (λ (e : Ever). e.made y.g) ever_is

      go : (b : Bool) → (y.g == w.g) ≡ b → w.g ≡ y.g
      go true is = grind (arith, nat_tests)
      go false is = absurd (let none : t.ever.made y.g ≡ h.ever.made y.g = by ∙ rw is refl in let more = made_more y in omega (arith, none, more))

    -- its name's place is the slot that is claimed
    there : (y : ByMaking move) → y.at ≡ p.at
    there y =
        let name : p.name ≡ next_name h.ever y.g = unmade.name ∙ ap (next_name h.ever) (same_goroutine y) in
        let by : t.place p.name ≡ y.at = ap (λ (k : Move). (moved z a h k).place p.name) y.is ∙ (ap (placed_at h.place (next_name h.ever y.g) y.at) name ∙ at_its_place (next_name h.ever y.g) y.at) in
        let made : t.place p.name ≡ p.at = made_now.made (view t) (subst (λ (k : Task). FactsAt z a (view t) to stepped.does.after k) made_now.task_is stepped.does.fine.task).facts in
        sym by ∙ made

    by_making : ByMaking move → Counted
    by_making y = record {
      to_move = Deed move;
      may_move = may_deed x.silent;
      heap_is = refl;
      own = owed ∙ (word_there s.pend (s.pend a + s.slot (y.at / 64)) ∙ omega (arith, bytes, before, after));
      others = λ b differs. ap (λ (k : Move). pend_then a k s.slot s.pend b) y.is ∙ others_left s.pend (s.pend a + s.slot (y.at / 64)) b differs;
      rests = rests_on known z a s move;
    } where
      owed : pend_then a move s.slot s.pend a ≡ with_word s.pend a (s.pend a + s.slot (y.at / 64)) a
      owed = ap (λ (k : Move). pend_then a k s.slot s.pend a) y.is

      bytes : s.slot (y.at / 64) ≡ 8 * p.slot
      bytes = ap (λ (n : ℕ). s.slot (n / 64)) (there y) ∙ slot_bytes_are known whole z s stepped.good a p.at p.slot unmade.places.some unmade.claim

      before : s.pend a ≡ 0
      before = stepped.pends ∙ none_before

      after : uncounted to.task ≡ 8 * p.slot
      after = ap uncounted made_now.task_is ∙ made_now.bytes

    makes : Counted
    makes = elim (moves_by z a h move) [ inl y ↦ by_making y | inr y ↦ absurd (moves_none y.made) ]

  pub counted : Counted
  counted = elim (kind z.layout z.shapes m found m.task stepped.busy) [
    | inl c ↦ counts c
    | inr k ↦ elim k [ inl x ↦ makes x | inr k ↦ elim (moves_by z a h move) [ inl x ↦ absurd (made_none k.nothing x) | inr x ↦ keeps x k ] ]
  ]
