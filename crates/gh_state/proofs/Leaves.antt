-- What another's move leaves to a seat.
use Rattle.std.proofs.Common.{◌≡◌, ◌≢◌, ℕ, ◌+◌, ◌*◌, ◌<◌, Bool, refl, sym, ap, subst, ◌∙◌, arith, inl, inr, Option, Some, None}
use Rattle.gh_state.proofs.Vocabulary.{Arena, Ask, body_at, body_word, Cell, Count, CountsStay, CycleEnd, Deed, EachMoveLeaves, effect, Far, Good, IsOfSweep, marks_in, MayDeed, MaySweep, moved, Others, OthersLeave, Row, seats_of, seen_by_sweep, Shared, Sweep, Sweeps, Told}
use Rattle.gh_heap.specs.Laws as laws
use Rattle.gh_heap.specs.Moves as heap
use Rattle.gh_heap.specs.Rights as rights
use Rattle.gh_sweep.specs.Facts.{HasNotNumber}
use Rattle.gh_sweep.specs.Moves as sweep
use Rattle.gh_state.proofs.Beside as beside
use Rattle.gh_state.proofs.Keeps as keeps
use Rattle.gh_state.proofs.Known.{Known}
use Rattle.gh_state.proofs.Quiet.{quiet_stays}

-- what the laws of lower crates say of the moves of others
pub record Lasting : Type 0 where
  pub heap : laws.EachMoveLeaves
  pub sweep : sweep.EachMoveLeaves

-- Two states whose rows read the same.
record Same (a : ℕ) (t u : Sweeps) : Type 0 where
  pages : (p : ℕ) → u.words (Cell.Page p) ≡ t.words (Cell.Page p)
  alloc : (i : ℕ) → u.words (Cell.Alloc i) ≡ t.words (Cell.Alloc i)
  marks : (i : ℕ) → u.words (Cell.Mark i) ≡ t.words (Cell.Mark i)
  far : u.far ≡ t.far
  cut : u.cut ≡ t.cut
  clear : u.clear ≡ t.clear
  due : u.due ≡ t.due
  pend : u.pend a ≡ t.pend a

as_rows : (e : CycleEnd) (a : ℕ) (s t u : Sweeps) → OthersLeave e a s t → Same a t u → OthersLeave e a s u
as_rows e a s t u o r = record {
  mine = λ p h by head. let m = o.mine p h by head in record {
    by = ap (λ (f : ℕ → Far). f p) r.far ∙ m.by;
    head = r.pages p ∙ m.head;
    cut = λ i l. ap (λ (f : ℕ → Bool). f (16 * p + i)) r.cut ∙ m.cut i l;
    clear = λ i l. ap (λ (f : ℕ → Bool). f (16 * p + i)) r.clear ∙ m.clear i l;
    alloc = λ i l. r.alloc (16 * p + i) ∙ m.alloc i l;
    marks = λ i l. r.marks (16 * p + i) ∙ m.marks i l;
  };
  back = λ p is. o.back p (sym (ap (λ (f : ℕ → Far). f p) r.far) ∙ is);
  done = λ p is. ap (λ (f : ℕ → Far). f p) r.far ∙ o.done p is;
  heads = λ p number n. elim (o.heads p number n) [ inl same ↦ inl (r.pages p ∙ same) | inr not ↦ inr (subst (λ (w : ℕ). HasNotNumber number w) (sym (r.pages p)) not) ];
  due = ap (λ f. f a) r.due ∙ o.due;
  pend = r.pend ∙ o.pend;
}

stays : (e : CycleEnd) (a : ℕ) (s : Sweeps) → OthersLeave e a s s
stays e a s = grind arith

module _ (k : Known) (l : Lasting) (z : Arena) (a b : ℕ) (s : Shared) (ne : a ≢ b) (g : Good z s) where
  abbrev v : rights.View
  v = rights.view s.heap

  abbrev Left : heap.Move → Type 0
  Left m = OthersLeave s.end a (seen_by_sweep s) (seen_by_sweep (moved z b s (Deed m)))

  by : (m : sweep.Move) → sweep.May s.end b (seen_by_sweep s) m → OthersLeave s.end a (seen_by_sweep s) (sweep.moved b (seen_by_sweep s) m)
  by m may = l.sweep s.end a b (seen_by_sweep s) m ne g.ended g.sweep may

  -- the move changes none of the rows
  none : (m : heap.Move) → Same a (seen_by_sweep s) (seen_by_sweep (moved z b s (Deed m))) → Left m
  none m r = as_rows s.end a (seen_by_sweep s) (seen_by_sweep s) _ (stays s.end a (seen_by_sweep s)) r

  quiet_step : (step : Ask) → heap.IsQuiet step → CountsStay s.told s.heap.words (effect s.heap.words step) → Left (heap.Quiet step)
  quiet_step step q c = let r = quiet_stays s.heap.words step q in none (heap.Quiet step) (record {
    pages = λ p. ap (λ (f : Row). f p) r.pages;
    alloc = λ i. ap (λ (f : Row). f i) r.alloc;
    marks = λ i. marks i s.told refl;
    far = refl;
    cut = refl;
    clear = refl;
    due = refl;
    pend = refl;
  }) where
    marks : (i : ℕ) (x : Option Told) → s.told ≡ x → marks_in x (effect s.heap.words step (Cell.Mark i)) ≡ marks_in x (s.heap.words (Cell.Mark i))
    marks i (Some t) e = refl
    marks i None e = c.marks e i

  -- it is this move of the sweep's rows
  as_move : (m : heap.Move) (n : sweep.Move) → sweep.May s.end b (seen_by_sweep s) n → Same a (sweep.moved b (seen_by_sweep s) n) (seen_by_sweep (moved z b s (Deed m))) → Left m
  as_move m n may r = as_rows s.end a (seen_by_sweep s) (sweep.moved b (seen_by_sweep s) n) _ (by n may) r

  others : (m : heap.Move) → MayDeed z b s m → Left m → Others z a s (moved z b s (Deed m))
  others m may left = record { end = refl; told = refl; heap = l.heap z a b s.heap m ne g.heap may.may; sweep = left }

  same : {t u : Sweeps} → ((p : ℕ) → u.words (Cell.Page p) ≡ t.words (Cell.Page p)) → ((i : ℕ) → u.words (Cell.Alloc i) ≡ t.words (Cell.Alloc i)) → ((i : ℕ) → u.words (Cell.Mark i) ≡ t.words (Cell.Mark i)) → u.far ≡ t.far → u.cut ≡ t.cut → u.clear ≡ t.clear → u.due ≡ t.due → u.pend a ≡ t.pend a → Same a t u
  same pages alloc marks far cut clear due pend = grind arith

  pub deeds : (m : heap.Move) → MayDeed z b s m → Others z a s (moved z b s (Deed m))
  deeds (heap.Quiet step) may = others (heap.Quiet step) may (quiet_step step may.may may.counts)
  deeds (heap.Takes step c d value) may = others (heap.Takes step c d value) may (quiet_step step may.may.0 may.counts)
  deeds (heap.Ends step c) may = others (heap.Ends step c) may (quiet_step step may.may.0 may.counts)
  deeds heap.TakeLock may = others heap.TakeLock may (none heap.TakeLock (same (λ p. refl) (λ i. refl) (λ i. refl) refl refl refl refl refl))
  deeds heap.LeaveLock may = others heap.LeaveLock may (none heap.LeaveLock (same (λ p. refl) (λ i. refl) (λ i. refl) refl refl refl refl refl))
  deeds (heap.Refuse c d) may = others (heap.Refuse c d) may (none (heap.Refuse c d) (same (λ p. refl) (λ i. refl) (λ i. refl) refl refl refl refl refl))
  deeds (heap.LayBody y) may = others (heap.LayBody y) may (as_move (heap.LayBody y) (sweep.Turns (y.first + y.next) (body_word (body_at y.head y.next))) (beside.body_may k z b s g y may.may) (same (λ p. refl) (λ i. refl) (λ i. refl) refl refl refl refl refl))
  deeds (heap.LayHead y) may = others (heap.LayHead y) may (as_move (heap.LayHead y) (sweep.Lays y.first y.head) (beside.head_may k z b s g y may.may) (same (λ p. refl) (λ i. refl) (λ i. refl) refl refl refl refl refl))
  deeds (heap.FreeBody y) may = others (heap.FreeBody y) may (as_move (heap.FreeBody y) (sweep.Turns (y.first + y.next) 0) (beside.body_freed_may k z b s g y may.may) (same (λ p. refl) (λ i. refl) (λ i. refl) refl refl refl refl refl))
  deeds (heap.FreeHead y) may = others (heap.FreeHead y) may (as_move (heap.FreeHead y) (sweep.Frees y.first may.may.0.being.h) (beside.head_freed_may k z b s g y may.may) (same (λ p. refl) (λ i. refl) (λ i. refl) refl refl refl refl refl))
  deeds (heap.Own p h) may = others (heap.Own p h) may (as_move (heap.Own p h) (sweep.Passes p h (b + 1)) (beside.passes_may k z b s g p h (b + 1) may.may.0.head may.may.3 may.may.2) (same (λ p. refl) (λ i. refl) (λ i. refl) refl refl refl refl refl))
  deeds (heap.Disown p h) may = others (heap.Disown p h) may (as_move (heap.Disown p h) (sweep.Passes p h 0) (beside.passes_may k z b s g p h 0 may.may.0.head (beside.held_number k z b s g b p h may.may.1 may.may.0.head) (omega arith)) (same (λ p. refl) (λ i. refl) (λ i. refl) refl refl refl refl refl))
  deeds (heap.Publish p h) may = others (heap.Publish p h) may (as_move (heap.Publish p h) (sweep.Passes p h 0) (beside.passes_may k z b s g p h 0 may.may.1 (beside.held_number k z b s g b p h may.may.0 may.may.1) (omega arith)) (same (λ p. refl) (λ i. refl) (λ i. refl) refl refl refl refl refl))
  deeds (heap.ClearField at size i) may = others (heap.ClearField at size i) may (none (heap.ClearField at size i) (same (λ p. refl) (λ i. refl) (λ i. refl) refl refl refl refl refl))
  deeds (heap.SetBirth at size n) may = others (heap.SetBirth at size n) may (none (heap.SetBirth at size n) (same (λ p. refl) (λ i. refl) (λ i. refl) refl refl refl refl refl))
  deeds (heap.SetBits at size i word) may = others (heap.SetBits at size i word) may (none (heap.SetBits at size i word) (same (λ p. refl) (λ i. refl) (λ i. refl) refl refl refl refl refl))
  deeds (heap.Make at c d t) may = others (heap.Make at c d t) may (as_move (heap.Make at c d t) (sweep.Places at) (beside.places_may k z b s g at c d t may.may may.seat) (same (λ p. refl) (λ i. refl) (λ i. refl) refl refl refl refl refl))
  deeds (heap.Write n i value word) may = others (heap.Write n i value word) may (none (heap.Write n i value word) (same (λ p. refl) (λ i. refl) (λ i. refl) refl refl refl refl refl))
  deeds (heap.WriteGlobal i value word) may = others (heap.WriteGlobal i value word) may (none (heap.WriteGlobal i value word) (same (λ p. refl) (λ i. refl) (λ i. refl) refl refl refl refl refl))

  -- what the heap leaves where nothing of it changes
  heap_rests : heap.Others z a v v
  heap_rests = l.heap z a b s.heap (heap.Quiet (Ask.Load Cell.Touch)) ne g.heap tt

  pub counts : b < seats_of z.layout → Others z a s (moved z b s Count)
  counts may = grind arith

-- A move of a sweep.
module _ (k : Known) (l : Lasting) (z : Arena) (a b : ℕ) (was : Shared) (ne : a ≢ b) (g : Good z (record was { told = None })) where
  abbrev q : Shared
  q = record was { told = None }

  moves : (m : sweep.Move) → sweep.May q.end b (seen_by_sweep q) m → heap.Others z a (rights.view q.heap) (rights.view (moved z b q (Sweep m)).heap) → Same a (sweep.moved b (seen_by_sweep q) m) (seen_by_sweep (moved z b q (Sweep m))) → Others z a q (moved z b q (Sweep m))
  moves m may heap r = record { end = refl; told = refl; heap = heap; sweep = as_rows q.end a (seen_by_sweep q) (sweep.moved b (seen_by_sweep q) m) _ (l.sweep q.end a b (seen_by_sweep q) m ne g.ended g.sweep may) r }

  rows : {t u : Sweeps} → ((p : ℕ) → u.words (Cell.Page p) ≡ t.words (Cell.Page p)) → ((i : ℕ) → u.words (Cell.Alloc i) ≡ t.words (Cell.Alloc i)) → ((i : ℕ) → u.words (Cell.Mark i) ≡ t.words (Cell.Mark i)) → u.far ≡ t.far → u.cut ≡ t.cut → u.clear ≡ t.clear → u.due ≡ t.due → u.pend a ≡ t.pend a → Same a t u
  rows pages alloc marks far cut clear due pend = grind arith

  pub sweeps : (m : sweep.Move) → IsOfSweep m → sweep.May q.end b (seen_by_sweep q) m → Others z a q (moved z b q (Sweep m))
  sweeps (sweep.Quiet (Ask.Load c)) of may = moves (sweep.Quiet (Ask.Load c)) may (heap_rests k l z a b q ne g) (rows (λ p. refl) (λ i. refl) (λ i. refl) refl refl refl refl refl)
  sweeps (sweep.Starts p h) of may = moves (sweep.Starts p h) may ((k.besides z q.heap (heap.Renumber p h (h.number + 1)) g.heap (keeps.starts_may k z b was g p h may)).others a) (rows (λ p. refl) (λ i. refl) (λ i. refl) refl refl refl refl refl)
  sweeps (sweep.Cuts p h i) of may = moves (sweep.Cuts p h i) may ((k.besides z q.heap (heap.Thin (16 * p + i) (q.heap.words (Cell.Mark (16 * p + i)))) g.heap (keeps.cuts_may k z b was g p h i may)).others a) (rows (λ p. refl) (λ i. refl) (λ i. refl) refl refl refl refl refl)
  sweeps (sweep.Clears p h i) of may = moves (sweep.Clears p h i) may (heap_rests k l z a b q ne g) (rows (λ p. refl) (λ i. refl) (λ i. refl) refl refl refl refl refl)
  sweeps sweep.TellsTally of may = moves sweep.TellsTally may (heap_rests k l z a b q ne g) (rows (λ p. refl) (λ i. refl) (λ i. refl) refl refl refl refl refl)
  sweeps sweep.TellsLive of may = moves sweep.TellsLive may (heap_rests k l z a b q ne g) (rows (λ p. refl) (λ i. refl) (λ i. refl) refl refl refl refl refl)
  sweeps sweep.TellsHeap of may = moves sweep.TellsHeap may (heap_rests k l z a b q ne g) (rows (λ p. refl) (λ i. refl) (λ i. refl) refl refl refl refl refl)
  sweeps (sweep.Ends p h) of may = moves (sweep.Ends p h) may ((k.besides z q.heap (heap.Renumber p (keeps.swept_head k z b was g h) (h.number + 2)) g.heap (keeps.ends_may k z b was g p h may)).others a) (rows (λ p. refl) (λ i. refl) (λ i. refl) refl refl refl refl refl)
  sweeps _ of may = absurd of

pub leaves : Known → Lasting → EachMoveLeaves
leaves k l z a b s (Deed m) ne g may = deeds k l z a b s ne g m may
leaves k l z a b s (Sweep m) ne g may =
    subst (λ (x : Option Told). Good z (record s { told = x }) → MaySweep z b (record s { told = x }) m → Others z a (record s { told = x }) (moved z b (record s { told = x }) (Sweep m))) (sym may.quiet)
    (λ good allowed. sweeps k l z a b s ne good m allowed.of_sweep allowed.may) g may
leaves k l z a b s Count ne g may = counts k l z a b s ne g may
