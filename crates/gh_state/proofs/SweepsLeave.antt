-- What a step of a sweep leaves to who runs it.
use Rattle.std.proofs.Common.{◌≡◌, ◌≢◌, ℕ, ◌+◌, ◌*◌, refl, sym, ap, subst, ◌∙◌, arith, inl, inr, Option, None}
use Rattle.gh_state.proofs.Vocabulary.{Arena, Ask, Cell, eqb_tells, Good, Head, head_word, IsOfSweep, Leaves, MaySweep, moved, numbered_by, page_of, seen_by_sweep, Shared, SpanHead, Sweep, SweepKeeps, SweepsLeave, Told}
use Rattle.gh_heap.specs.Laws as laws
use Rattle.gh_heap.specs.Moves as heap
use Rattle.gh_heap.specs.Rights as rights
use Rattle.gh_heap.specs.Rights.{View}
use Rattle.gh_sweep.specs.Moves as sweep
use Rattle.gh_state.proofs.Keeps as keeps
use Rattle.gh_state.proofs.Known.{Known}

abbrev heap_of : Shared → View
heap_of s = rights.view s.heap

module _ (k : Known) (own : laws.EachOwnMoveLeaves) (z : Arena) (a : ℕ) (was : Shared) (g : Good z (record was { told = None })) where
  abbrev q : Shared
  q = record was { told = None }

  abbrev left : laws.OwnMovesLeave z a q.heap
  left = own z a q.heap g.heap

  same : (m : sweep.Move) → heap_of (moved z a q (Sweep m)) ≡ heap_of q → (moved z a q (Sweep m)).heap.place ≡ q.heap.place → SweepKeeps q (moved z a q (Sweep m))
  same m is place = record {
    locked = ap (λ (v : View). v.locked) is;
    holds = ap (λ (v : View). v.holds) is;
    laying = ap (λ (v : View). v.laying) is;
    freeing = ap (λ (v : View). v.freeing) is;
    place = place;
    ever = ap (λ (v : View). v.ever) is;
    leaves = subst (Leaves (heap_of q)) (sym is) left.stays;
    owned = λ p h some e. ap (λ (v : View). page_of (v.page p)) is ∙ e;
    stands = λ p h none e. (h.number, ap (λ (v : View). page_of (v.page p)) is ∙ e);
  }

  -- a head is written
  renumbered : (p : ℕ) (h : SpanHead) (number : ℕ) → heap.MayRenumber (heap_of q) p h number → (t : Shared) → heap_of t ≡ rights.view (heap.swept q.heap (heap.Renumber p h number)) → t.heap.place ≡ q.heap.place → SweepKeeps q t
  renumbered p h number may t is place = record {
    locked = ap (λ (v : View). v.locked) is;
    holds = ap (λ (v : View). v.holds) is;
    laying = ap (λ (v : View). v.laying) is;
    freeing = ap (λ (v : View). v.freeing) is;
    place = place;
    ever = ap (λ (v : View). v.ever) is;
    leaves = subst (Leaves (heap_of q)) (sym is) ((k.besides z q.heap (heap.Renumber p h number) g.heap may).leaves);
    owned = owned;
    stands = λ x f none e. stays x f none e ((k.besides z q.heap (heap.Renumber p h number) g.heap may).leaves);
  } where
    owned : (x : ℕ) (f : SpanHead) → f.owner ≢ 0 → page_of ((heap_of q).page x) ≡ Head f → page_of ((heap_of t).page x) ≡ Head f
    owned x f some e = elim (eqb_tells p x) [
      | inl y ↦
          let one : h ≡ f = cc (may.head, e, ap (λ (n : ℕ). page_of ((heap_of q).page n)) y.1) in
          absurd (some (ap (λ (k : SpanHead). k.owner) (sym one) ∙ may.owner))
      | inr n ↦ ap (λ (v : View). page_of (v.page x)) is ∙ rw (n.0) e
    ]

    stays : (x : ℕ) (f : SpanHead) → f.owner ≡ 0 → page_of ((heap_of q).page x) ≡ Head f → Leaves (heap_of q) (rights.view (heap.swept q.heap (heap.Renumber p h number))) → (n : ℕ) × (page_of ((heap_of t).page x) ≡ Head (numbered_by n f))
    stays x f none e leaves = elim (eqb_tells p x) [
      | inl y ↦
          let one : h ≡ f = cc (may.head, e, ap (λ (n : ℕ). page_of ((heap_of q).page n)) y.1) in
          let reads : page_of (head_word (numbered_by number h)) ≡ Head (numbered_by number h) = says in
          (number, ap (λ (v : View). page_of (v.page x)) is ∙ rw (y.0) (reads ∙ ap (λ (k : SpanHead). Head (numbered_by number k)) one))
      | inr n ↦ (f.number, ap (λ (v : View). page_of (v.page x)) is ∙ rw (n.0) e)
    ] where
      says : page_of (head_word (numbered_by number h)) ≡ Head (numbered_by number h)
      says =
          let f = g.heap.spans p h may.head in
          let within = f.within in
          let most = z.layout.limits.pages_fit in
          let few = g.heap.generation in
          let low = may.few in
          k.packed.page (Head (numbered_by number h)) (record { class = f.fits.class; some = f.fits.some; pages = omega (arith, most.1); owner = omega (arith, may.owner); number = omega arith })

  leaves_here : (m : sweep.Move) → IsOfSweep m → sweep.May q.end a (seen_by_sweep q) m → SweepKeeps q (moved z a q (Sweep m))
  leaves_here (sweep.Quiet (Ask.Load c)) of may = same (sweep.Quiet (Ask.Load c)) refl refl
  leaves_here (sweep.Starts p h) of may = renumbered p h (h.number + 1) (keeps.starts_may k z a was g p h may) _ refl refl
  leaves_here (sweep.Cuts p h i) of may = record {
    locked = refl;
    holds = refl;
    laying = refl;
    freeing = refl;
    place = refl;
    ever = refl;
    leaves = (k.besides z q.heap (heap.Thin (16 * p + i) (q.heap.words (Cell.Mark (16 * p + i)))) g.heap (keeps.cuts_may k z a was g p h i may)).leaves;
    owned = λ x f some e. e;
    stands = λ x f none e. (f.number, e);
  }
  leaves_here (sweep.Clears p h i) of may = same (sweep.Clears p h i) refl refl
  leaves_here sweep.TellsTally of may = same sweep.TellsTally refl refl
  leaves_here sweep.TellsLive of may = same sweep.TellsLive refl refl
  leaves_here sweep.TellsHeap of may = same sweep.TellsHeap refl refl
  leaves_here (sweep.Ends p h) of may = renumbered p (keeps.swept_head k z a was g h) (h.number + 2) (keeps.ends_may k z a was g p h may) _ refl refl
  leaves_here _ of may = absurd of

pub leave : Known → laws.EachOwnMoveLeaves → SweepsLeave
leave k own z a s m g may =
    subst (λ (b : Option Told). Good z (record s { told = b }) → MaySweep z a (record s { told = b }) m → SweepKeeps (record s { told = b }) (moved z a (record s { told = b }) (Sweep m))) (sym may.quiet)
    (λ good allowed. leaves_here k own z a s good m allowed.of_sweep allowed.may) g may
