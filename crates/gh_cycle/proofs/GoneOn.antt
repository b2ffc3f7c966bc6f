-- What has become of a heap since a cycle began in it: how it begins, that it lasts, and what is marked at the end.
use Rattle.std.proofs.Common.{◌≡◌, ℕ, suc, true, cond, Bool, sym, ap, subst, ◌∙◌, inl, inr, arith, Some}
use Rattle.gh_cycle.proofs.Vocabulary.{alloc_words, birth_word, birth_words, cases_Bool, Cycle, eqb_tells, Ever, Good, Heap, IsMade, IsOfCycle, Marking, MarkingGood, Name, name_made, next_name, Placed, Reach, row_bit, RowsAreWritten, TheHeapIsApart, TheReachedWereMade, View, view, Words}
use Rattle.gh_heap.specs.Laws as heap_laws
use Rattle.gh_heap.specs.Moves as heap
use Rattle.gh_marks.specs.Laws as marks_laws
use Rattle.gh_marks.specs.Moves as marks
use Rattle.gh_cycle.specs.Since.{CyclesBeginSo, HasGoneOn, TheMarkedWereReached, WhatHasGoneOnLasts}
use Rattle.gh_cycle.proofs.Bits.{zero_one}
use Rattle.gh_cycle.proofs.Marked.{marked-since}
use Rattle.gh_cycle.proofs.Quiet.{quiet_view}

pub cycles-begin-so : TheHeapIsApart → TheReachedWereMade → CyclesBeginSo
cycles-begin-so apart were_made z h s good bounds c = record {
  made = λ n made. made;
  lost = λ n made none reached. none reached;
  of_cycle = λ n o made.
      let w = (c.known (h.place n)).0 (sym (c.since (h.place n)) ∙ o.since) in
      subst (λ (m : Name). Reach h.ever m) ((apart z.arena (view h) good).once w.0 n (were_made z.arena h.ever bounds w.0 w.1) made (good.reached w.0 w.1) o.placed w.2) w.1;
}

pub record Known : Type 0 where
  pub rows : RowsAreWritten
  pub apart : TheHeapIsApart
  pub keeps : heap_laws.EachMoveKeeps
  pub leaves : heap_laws.EachMoveLeaves
  pub reaches : heap_laws.EachMoveReachesNoMore
  pub steps : marks_laws.EachStepGoesByMoves

-- the name that a move makes was not made before
not-new : (e : Ever) (m : heap.Move) (n : Name) → IsMade e.made n → name_made e m ≡ Some n → ⊥
not-new e m n made is = grind arith

module _ (k : Known) (z : Cycle) (a : ℕ) (h : Heap) (good : Good z.arena (view h)) where
  abbrev after : heap.Move → Heap
  after m = heap.moved z.arena a h m

  -- what a move leaves to any other seat it leaves of objects
  left : (m : heap.Move) → heap.May z.arena a (view h) m → heap.Others z.arena (suc a) (view h) (view (after m))
  left m may = k.leaves z.arena (suc a) a h m (λ e. omega (arith, e)) good may

  -- an object that was made before stands behind a move only where it stood before
  abbrev StoodBefore : heap.Move → Type 0
  StoodBefore m = (n : Name) → IsMade h.ever.made n → Placed (alloc_words (after m).words) (birth_words (after m).words) h.place n → Placed (alloc_words h.words) (birth_words h.words) h.place n

  module _ (at g d t : ℕ) (may : heap.May z.arena a (view h) (heap.Make at g d t)) where
    abbrev move : heap.Move
    move = heap.Make at g d t

    abbrev new : Name
    new = next_name h.ever g

    -- what stands at the new object's place is the new object
    same : (n : Name) → IsMade h.ever.made n → Placed (alloc_words (after move).words) (birth_words h.words) h.place n → at ≡ h.place n → n ≡ new
    same n made p is = grind arith

    by-making : StoodBefore move
    by-making n made p = elim (eqb_tells at (h.place n)) [
      | inr ne ↦ record { set = sym (k.rows.sets_no_other (alloc_words h.words) at (h.place n) ne.1) ∙ p.set; says = p.says }
      | inl y ↦ absurd (not-new h.ever move n made (ap (λ (x : Name). Some x) (sym (same n made p y.1))))
    ]

  stood-before : (m : heap.Move) → heap.May z.arena a (view h) m → StoodBefore m
  stood-before (heap.Quiet step) may n made p = subst (λ (v : View). Placed v.alloc v.birth h.place n) (quiet_view h step may) p
  stood-before (heap.Takes step g d value) may n made p = subst (λ (v : View). Placed v.alloc v.birth h.place n) (quiet_view h step may.0) p
  stood-before (heap.Ends step g) may n made p = subst (λ (v : View). Placed v.alloc v.birth h.place n) (quiet_view h step may.0) p
  stood-before (heap.SetBirth at size name) may n made p = elim (eqb_tells at (h.place n)) [
    | inl y ↦ absurd (zero_one (row_bit (alloc_words h.words) at) may.clear (ap (λ (x : ℕ). row_bit (alloc_words h.words) x) y.1 ∙ p.set))
    | inr ne ↦ record { set = p.set; says = subst (λ (b : Bool). cond b (birth_word name) (birth_words h.words (h.place n)) ≡ birth_word n) ne.0 p.says }
  ]
  stood-before (heap.Make at g d t) may n made p = by-making at g d t may n made p
  stood-before _ may n made p = p

  module _ (s t : Marking) (m : heap.Move) (began : Ever) (marking : MarkingGood z s) (may : heap.May z.arena a (view h) m) (went : marks.Went z a s t) (same : s.words ≡ h.words) (gone : HasGoneOn began h s) where
    -- what stood is of the cycle only if it was before
    since-before : (x : ℕ) → row_bit (alloc_words s.words) x ≡ 1 → t.since x ≡ true → s.since x ≡ true
    since-before x set is = elim (cases_Bool (s.since x)) [
      | inl y ↦ y
      | inr dead ↦ absurd (let still = ((k.steps z a s t marking went).dead x (record { placed = set; dead = dead })).dead in cc)
    ]

    of-cycle-before : (n : Name) → IsMade h.ever.made n → IsOfCycle (after m) t n → IsOfCycle h s n
    of-cycle-before n made o = record { made = made; placed = stood; since = since-before (h.place n) (ap (λ (w : Words). row_bit (alloc_words w) (h.place n)) same ∙ stood.set) (ap t.since (sym place-old) ∙ o.since) } where
      place-old : (after m).place n ≡ h.place n
      place-old = (left m may).places n made

      stood : Placed (alloc_words h.words) (birth_words h.words) h.place n
      stood = stood-before m may n made (record {
        set = ap (λ (x : ℕ). row_bit (alloc_words (after m).words) x) (sym place-old) ∙ o.placed.set;
        says = ap (birth_words (after m).words) (sym place-old) ∙ o.placed.says;
      })

    pub lasts : HasGoneOn began (after m) t
    lasts = record {
      made = λ n was. (left m may).made n (gone.made n was);
      lost = λ n was none r. elim (k.reaches z.arena a h m may n r) [ inl before ↦ gone.lost n was none before | inr new ↦ not-new h.ever m n (gone.made n was) new ];
      of_cycle = λ n o was. gone.of_cycle n (of-cycle-before n (gone.made n was) o) was;
    }

pub has-gone-on : Known → WhatHasGoneOnLasts
has-gone-on k z a h s t m began good marking may went words same gone = lasts k z a h good s t m began marking may went same gone

pub marked-were-reached : TheMarkedWereReached
marked-were-reached z h s began good same none gone n placed marked made = gone.of_cycle n (record { made = gone.made n made; placed = placed; since = marked-since z s good none (h.place n) marked }) made
