-- A sweep that a routine runs: that it stays at its span, where it gives what, on which words its steps are, and what they leave to who runs it.
use Rattle.std.proofs.Common.{◌≡◌, ℕ, ◌+◌, ◌^◌, ◌<◌, Bool, true, cond, Option, Some, None, is_none, refl, sym, ap, subst, ◌∙◌, arith, eq-eqb}
use Rattle.gh_central.proofs.Vocabulary.{Arena, Ask, cell_of, effect, FactsLast, FitsHead, Freeing, gives, Good, Head, head_word, InRange, is_busy, KeepsObjects, Laying, Layout, numbered_by, once_swept, PackedWordsAreReadBack, Page, page_of, Rights, SpanHead, Store, Sweeping, SweepLeaves, Swept, View, Words}
use Rattle.gh_central.specs.ReclaimFacts.{IsUnowned}
use Rattle.gh_sweep.specs.declared.sweep.SweepStage.{SweepStage}
use Rattle.gh_sweep.specs.declared.sweep.SweptSpan.{SweptSpan}
use Rattle.gh_sweep.specs.Listing.{asks, asks_at, given, goes, goes_at}

-- Where it goes.

-- it asks for a further step where it has given nothing
pub goes_on : (sw : Sweeping) → given sw ≡ None → is_busy sw.stage ≡ true
goes_on sw e = ap is_none e

pub same_page : (sw : Sweeping) (found : ℕ) → (goes sw found).page ≡ sw.page
same_page sw found = grind arith

pub same_head : (sw : Sweeping) (found : ℕ) → (goes sw found).head ≡ sw.head
same_head sw found = grind arith

-- a span is swept by its last step, which writes the head
writes_at : (l : Layout) (sw : Sweeping) (q : SweepStage) (found : ℕ) (span : SweptSpan) → is_busy q ≡ true → given (goes_at sw q found) ≡ Some (Swept span) → asks_at l sw q ≡ Store (Page sw.page) (head_word (once_swept sw.head))
writes_at l sw q found span b e = grind arith

-- so its head says that it is
head_then : PackedWordsAreReadBack → (l : Layout) (sw : Sweeping) (words : Words) (found : ℕ) (span : SweptSpan) → is_busy sw.stage ≡ true → FitsHead (once_swept sw.head) → gives sw found ≡ Some (Swept span) → page_of (effect words (asks l sw) (Page sw.page)) ≡ Head (once_swept sw.head)
head_then packed l sw words found span b fits e =
    let written : effect words (Store (Page sw.page) (head_word (once_swept sw.head))) (Page sw.page) ≡ head_word (once_swept sw.head) = ap (λ (c : Bool). cond c (head_word (once_swept sw.head)) (words (Page sw.page))) (eq-eqb sw.page sw.page refl) in
    ap (λ (step : Ask). page_of (effect words step (Page sw.page))) (writes_at l sw sw.stage found span b e) ∙ ap page_of written ∙ packed.page (Head (once_swept sw.head)) fits

-- the head of a swept span fits its word
pub fits_then : (h : SpanHead) → FitsHead h → h.number + 2 < 2 ^ 34 → FitsHead (once_swept h)
fits_then h f few = record { class = f.class; some = f.some; pages = f.pages; owner = omega arith; number = few }

-- so does the head of a span that nobody owns, as it stands
pub fits_now : (z : Arena) (v : View) → Good z v → (p : ℕ) (h : SpanHead) → page_of (v.page p) ≡ Head h → h.owner ≡ 0 → FitsHead h
fits_now z v g p h head owner =
    let span = g.spans p h head in
    record { class = span.fits.class; some = span.fits.some; pages = omega (arith, span.within, z.layout.limits.pages_fit.1); owner = omega (arith, owner); number = omega (arith, (g.numbers p h head).few, g.generation) }

-- the page of a span that it has swept says so
pub swept_then : PackedWordsAreReadBack → (l : Layout) (words then : Words) (sw : Sweeping) (p : ℕ) (h : SpanHead) (span : SweptSpan) → then ≡ effect words (asks l sw) → sw.page ≡ p → sw.head ≡ h → is_busy sw.stage ≡ true → FitsHead h → h.number + 2 < 2 ^ 34 →
    gives sw (words (cell_of (asks l sw))) ≡ Some (Swept span) → page_of (then (Page p)) ≡ Head (once_swept h)
swept_then packed l words then sw p h span are at head b fits few e =
    let fit : FitsHead (once_swept sw.head) = subst (λ (x : SpanHead). FitsHead (once_swept x)) (sym head) (fits_then h fits few) in
    ap (λ (w : Words). page_of (w (Page p))) are ∙ ap (λ (q : ℕ). page_of (effect words (asks l sw) (Page q))) (sym at) ∙ head_then packed l sw words (words (cell_of (asks l sw))) span b fit e ∙ ap (λ (x : SpanHead). Head (once_swept x)) head

-- Its words.

pub within : (l : Layout) (sw : Sweeping) → sw.page < l.pages → InRange l (cell_of (asks l sw))
within l sw there = grind arith

-- What its step leaves.

module _ (a : ℕ) (v w : View) (o : SweepLeaves v w) where
  pub rights_then : (l : Bool) (h : ℕ → Bool) (y : Option Laying) (f : Option Freeing) → Rights a v l h y f → Rights a w l h y f
  rights_then l h y f r = record {
    locked = ap (λ x. x a) o.locked ∙ r.locked;
    holds = λ p. ap (λ x. x a p) o.holds ∙ r.holds p;
    laying = ap (λ x. x a) o.laying ∙ r.laying;
    freeing = ap (λ x. x a) o.freeing ∙ r.freeing;
  }

pub objects_then : (v w : View) → SweepLeaves v w → KeepsObjects v w
objects_then v w o = (o.ever, o.place)

-- The span that nobody owned stands, up to its number: behind such a step, and behind the steps of others.
pub unowned_then : (v w : View) → SweepLeaves v w → (p : ℕ) → IsUnowned v.page p → IsUnowned w.page p
unowned_then v w o p u = let n = o.stands p u.h u.owner u.head in record { h = numbered_by n.0 u.h; head = n.1; owner = u.owner }

pub unowned_lasts : (z : Arena) (a : ℕ) (v w : View) → FactsLast z a v w → v.locked a ≡ true → (p : ℕ) → IsUnowned v.page p → IsUnowned w.page p
unowned_lasts z a v w last l p u = let n = last.stands p u.h l u.owner u.head in record { h = numbered_by n.0 u.h; head = n.1; owner = u.owner }
