-- The search where a collector runs says that there is no room only where it has found none twice, and freed empty spans between.
use Rattle.std.proofs.Common.{◌≡◌, ℕ, zero, suc, ◌+◌, ◌<◌, ◌≤◌, ◌⊎◌, inl, inr, Bool, true, false, cond, nat_eq, Option, Some, None, is_none, refl, sym, ap, subst, ◌∙◌, arith, eqb-true}
use Rattle.gh_alloc.proofs.Vocabulary.{after_carve, after_first, after_free, after_pass, after_unswept, Again, again, Ask, asks_at, At, at_stage, Base, base, behind_for, CachedSpan, Carve, carving, cases_order, Cell, End, Ended, EndsWith, Finding, finds_none_at, FindsNoneFirst, FindStage, First, FollowsLock, Free, frees_at, FreesSpans, Give, given_head, GivesBack, goes_at, goes_base, GoesOn, HasFoundNoneTwice, head_word, holds, Large, Layout, listing, Lock, locked_for, NoRoom, Pass, Passed, Reclaiming, reclaiming, refuses_at, Runs, search_base, searched, SearchStage, Second, Seeking, Slots, Small, Sought, span_for, SpanClass, spans_for, steps_of, Store, Swap, Swept, taken_for, told, Unlock, unlocked, Unswept}
use Rattle.gh_cache.specs.Listing as slots
use Rattle.gh_central.specs.GiveBack as give
use Rattle.gh_central.specs.declared.give.GiveStage.TheVariants.{Write}
use Rattle.gh_central.specs.Reclaim as reclaim
use Rattle.gh_central.specs.SweptPass as pass
use Rattle.gh_central.specs.UnsweptPass as unswept
use Rattle.gh_pages.specs.Listing as carve
use Rattle.gh_alloc.specs.Find as find
use Rattle.gh_alloc.specs.Rounds.{FindsNone}
use Rattle.gh_alloc.specs.Search.{asks, opening}
use Rattle.gh_alloc.proofs.Finding.Locking.{has_lock}
use Rattle.gh_alloc.proofs.Finding.Locking as finding
use Rattle.gh_alloc.specs.Search as search
use Rattle.gh_alloc.proofs.Seeking.Firsts.{looks_for_unswept, sweeps_at}
use Rattle.gh_alloc.proofs.Seeking.Locking.{has_lock_at, held_is}
use Rattle.gh_alloc.proofs.Seeking.Parts.{Running, begins, ends_with, goes_on}
use Rattle.gh_alloc.proofs.Seeking.Refusing.{search_refuses}

without_none : (p : FindStage) → has_lock p ≡ false → finds_none_at p ≡ false
without_none p h = grind arith

-- it is about to free the lock, where it has not ended
refuses_yet : (p : FindStage) → refuses_at p ≡ true → find.is_busy p ≡ true → finds_none_at p ≡ true
refuses_yet p h busy = grind arith

refusing_asks : (layout : Layout) (f : Finding) (p : FindStage) → finds_none_at p ≡ true → find.asks_at layout f p ≡ Store Cell.Lock 0
refusing_asks layout f p h = grind arith

module _ (layout : Layout) (s : Seeking) (found : ℕ → ℕ) where
  abbrev now : ℕ → Seeking
  now n = told (steps_of layout (listing layout)) s found n

  abbrev asked : ℕ → Ask
  asked n = asks layout (now n)

  base_is : (n : ℕ) → base (now n).find ≡ base s.find
  base_is zero = refl
  base_is (suc n) = search_base layout (now n).find (now n).stage (found n) ∙ base_is n

  wanted_is : (g : Finding) → base g ≡ base s.find → g.wanted ≡ s.find.wanted
  wanted_is g e = ap (λ (b : Base). b.wanted) e

  -- a pass over the spans comes first, and ends with none
  abbrev HasPassed : (first from : ℕ) → Type 0
  HasPassed first from = Passed asked found layout s.find.seat s.find.generation s.find.wanted first from

  -- in a round that looks for unswept spans one over those comes behind it
  record HasSwept (first from : ℕ) : Type 0 where
    behind : ℕ
    passed : HasPassed first behind
    swept : Swept asked found layout s.find.seat s.find.generation s.find.wanted behind from

  abbrev Behind : (sweeps : Bool) → (first from : ℕ) → Type 0
  Behind true first from = HasSwept first from
  Behind false first from = HasPassed first from

  -- a large object needs neither
  at_once : (sweeps : Bool) (n : ℕ) (pages : ℕ) (noscan : Bool) → s.find.wanted ≡ Large pages noscan → Behind sweeps n n
  at_once true n pages noscan e = record {
    behind = n;
    passed = subst (λ (w : Sought). Passed asked found layout s.find.seat s.find.generation w n n) (sym e) refl;
    swept = subst (λ (w : Sought). Swept asked found layout s.find.seat s.find.generation w n n) (sym e) refl;
  }
  at_once false n pages noscan e = subst (λ (w : Sought). Passed asked found layout s.find.seat s.find.generation w n n) (sym e) refl

  -- One round, before whose first step this is known, and which looks for unswept spans or does not.
  module _ (Before : ℕ → Type 0) (sweeps : Bool) where
    record PassRuns (n : ℕ) (x : pass.Pass) : Type 0 where
      class : SpanClass
      small : s.find.wanted ≡ Small class
      first : ℕ
      before : Before first
      runs : Running asked found (steps_of layout (pass.listing layout)) (pass.opening s.find.seat s.find.generation class) first n x

    record UnsweptRuns (n : ℕ) (x : unswept.Unswept) : Type 0 where
      class : SpanClass
      small : s.find.wanted ≡ Small class
      on : sweeps ≡ true
      first : ℕ
      before : Before first
      behind : ℕ
      passed : HasPassed first behind
      runs : Running asked found (steps_of layout (unswept.listing layout)) (unswept.opening s.find.seat s.find.generation class) behind n x

    record CarveRuns (n : ℕ) (x : carve.Carving) : Type 0 where
      first : ℕ
      before : Before first
      from : ℕ
      passed : Behind sweeps first from
      runs : Running asked found (steps_of layout (carve.listing layout)) (carve.opening s.find.seat s.find.generation (span_for s.find.wanted)) from n x

    -- the search for fresh pages ends with none
    abbrev RunsOut : (from last : ℕ) → Type 0
    RunsOut from last = Runs asked found (steps_of layout (carve.listing layout)) (carve.opening s.find.seat s.find.generation (span_for s.find.wanted)) from last None

    record RoundEnds (n : ℕ) : Type 0 where
      first : ℕ
      before : Before first
      from : ℕ
      passed : Behind sweeps first from
      last : ℕ
      none : RunsOut from last
      next : last + 1 ≡ n

    abbrev Round : ℕ → FindStage → Type 0
    Round n (Pass x) = PassRuns n x
    Round n (Unswept x) = UnsweptRuns n x
    Round n (Carve x) = CarveRuns n x
    Round n (Unlock (End NoRoom)) = RoundEnds n
    Round n (Unlock (End (At x))) = Unit {0}
    Round n (Unlock Again) = Unit {0}
    Round n _ = ⊥

    taken_round : (n : ℕ) (g : Finding) (w : Sought) (page : ℕ) → Round n (taken_for layout g w page).stage
    taken_round n g w page = grind arith

    carve_opens : (g : Finding) → base g ≡ base s.find → carve.opening g.seat g.generation (span_for g.wanted) ≡ carve.opening s.find.seat s.find.generation (span_for s.find.wanted)
    carve_opens g e = ap (λ (b : Base). carve.opening b.seat b.generation (span_for b.wanted)) e

    carve_round_begins : (n : ℕ) (g : Finding) → base g ≡ base s.find → (first : ℕ) → Before first → Behind sweeps first n → Round n (carving g)
    carve_round_begins n g e first before passed = record { first = first; before = before; from = n; passed = passed; runs = begins asked found (steps_of layout (carve.listing layout)) _ n (carve.opening g.seat g.generation (span_for g.wanted)) (carve_opens g e) refl }

    round_begins : (n : ℕ) (g : Finding) (w : Sought) → base g ≡ base s.find → g.wanted ≡ w → Before n → Round n (spans_for g w)
    round_begins n g (Small c) e is before = record {
      class = c;
      small = sym (wanted_is g e) ∙ is;
      first = n;
      before = before;
      runs = begins asked found (steps_of layout (pass.listing layout)) _ n (pass.opening g.seat g.generation c) (ap (λ (b : Base). pass.opening b.seat b.generation c) e) refl;
    }
    round_begins n g (Large pages noscan) e is before =
        carve_round_begins n g e n before (at_once sweeps n pages noscan (sym (wanted_is g e) ∙ is))

    abbrev pass_on : (n : ℕ) (f : Finding) (x : pass.Pass) → Finding
    pass_on n f x = at_stage f (Pass (pass.goes layout x (found n)))

    abbrev carve_on : (n : ℕ) (f : Finding) (x : carve.Carving) → Finding
    carve_on n f x = at_stage f (Carve (carve.goes layout x (found n)))

    abbrev unswept_on : (n : ℕ) (f : Finding) (x : unswept.Unswept) → Finding
    unswept_on n f x = at_stage f (Unswept (unswept.goes layout x (found n)))

    -- behind the swept spans
    behind_begins : (n : ℕ) (g : Finding) → base g ≡ base s.find → g.sweeps ≡ sweeps → (c : SpanClass) → s.find.wanted ≡ Small c → (first : ℕ) → Before first → HasPassed first n → Round n (behind_for g g.wanted)
    behind_begins n g e on c small first before passed = subst (λ (w : Sought). Round n (behind_for g w)) (sym (wanted_is g e ∙ small)) (subst (λ (b : Bool). Round n (To b)) (sym on) (by sweeps refl)) where
      To : Bool → FindStage
      To b = cond b (Unswept (unswept.opening g.seat g.generation c)) (carving g)

      by : (b : Bool) → sweeps ≡ b → Round n (To b)
      by true is = record {
        class = c;
        small = small;
        on = is;
        first = first;
        before = before;
        behind = n;
        passed = passed;
        runs = begins asked found (steps_of layout (unswept.listing layout)) _ n (unswept.opening g.seat g.generation c) (ap (λ (b : Base). unswept.opening b.seat b.generation c) e) refl;
      }
      by false is = carve_round_begins n g e first before (subst (λ (b : Bool). Behind b first n) (sym is) passed)

    passes_on : (n : ℕ) (f : Finding) → base f ≡ base s.find → f.sweeps ≡ sweeps → (x : pass.Pass) → PassRuns n x → asked n ≡ pass.asks layout x → Round (suc n) (find.goes_at layout f (Pass x) (found n)).stage
    passes_on n f e on x k a = by (pass.given (pass.goes layout x (found n))) refl where
      by : (out : Option (Option ℕ)) → pass.given (pass.goes layout x (found n)) ≡ out → Round (suc n) (after_pass layout (pass_on n f x) out).stage
      by None g = record { class = k.class; small = k.small; first = k.first; before = k.before; runs = goes_on asked found (steps_of layout (pass.listing layout)) _ k.first n x k.runs a (ap is_none g) }
      by (Some None) g = behind_begins (suc n) (pass_on n f x) e on k.class k.small k.first k.before
          (subst (λ (w : Sought). Passed asked found layout s.find.seat s.find.generation w k.first (suc n)) (sym k.small) (n, ends_with asked found (steps_of layout (pass.listing layout)) _ k.first n x k.runs a None g, omega arith))
      by (Some (Some page)) g = taken_round (suc n) (pass_on n f x) f.wanted page

    unswepts_on : (n : ℕ) (f : Finding) → base f ≡ base s.find → (x : unswept.Unswept) → UnsweptRuns n x → asked n ≡ unswept.asks layout x → Round (suc n) (find.goes_at layout f (Unswept x) (found n)).stage
    unswepts_on n f e x k a = by (unswept.given (unswept.goes layout x (found n))) refl where
      by : (out : Option (Option ℕ)) → unswept.given (unswept.goes layout x (found n)) ≡ out → Round (suc n) (after_unswept layout (unswept_on n f x) out).stage
      by None g = record { class = k.class; small = k.small; on = k.on; first = k.first; before = k.before; behind = k.behind; passed = k.passed; runs = goes_on asked found (steps_of layout (unswept.listing layout)) _ k.behind n x k.runs a (ap is_none g) }
      by (Some None) g = carve_round_begins (suc n) (unswept_on n f x) e k.first k.before (subst (λ (b : Bool). Behind b k.first (suc n)) (sym k.on) (record {
        behind = k.behind;
        passed = k.passed;
        swept = subst (λ (w : Sought). Swept asked found layout s.find.seat s.find.generation w k.behind (suc n)) (sym k.small) (n, ends_with asked found (steps_of layout (unswept.listing layout)) _ k.behind n x k.runs a None g, omega arith);
      }))
      by (Some (Some page)) g = taken_round (suc n) (unswept_on n f x) f.wanted page

    carves_on : (n : ℕ) (f : Finding) (x : carve.Carving) → CarveRuns n x → asked n ≡ carve.asks x → Round (suc n) (find.goes_at layout f (Carve x) (found n)).stage
    carves_on n f x k a = by (carve.given (carve.goes layout x (found n))) refl where
      by : (out : Option (Option ℕ)) → carve.given (carve.goes layout x (found n)) ≡ out → Round (suc n) (after_carve layout (carve_on n f x) out).stage
      by None g = record { first = k.first; before = k.before; from = k.from; passed = k.passed; runs = goes_on asked found (steps_of layout (carve.listing layout)) _ k.from n x k.runs a (ap is_none g) }
      by (Some None) g = record { first = k.first; before = k.before; from = k.from; passed = k.passed; last = n; none = ends_with asked found (steps_of layout (carve.listing layout)) _ k.from n x k.runs a None g; next = omega arith }
      by (Some (Some page)) g = taken_round (suc n) (carve_on n f x) f.wanted page

    refused : (n : ℕ) (p : FindStage) → finds_none_at p ≡ true → Round n p → RoundEnds n
    refused n p h k = grind arith

  -- What is known at each stage, since the lock was taken at this step.

  abbrev Follows : (lock first : ℕ) → Type 0
  Follows lock first = FollowsLock asked found layout s.find.seat s.find.generation s.find.wanted lock first

  record GiveRuns (lock n : ℕ) (x : give.SpanGiving) : Type 0 where
    follows : lock + 1 ≡ n
    writes : x.stage ≡ Write
    class : SpanClass
    small : s.find.wanted ≡ Small class
    page : ℕ
    store : give.asks x ≡ Store (Cell.Page page) (head_word (given_head s.find.generation class))

  -- the first round has ended
  record FoundNone (lock : ℕ) : Type 0 where
    first : ℕ
    follows : Follows lock first
    last : ℕ
    none : FindsNoneFirst asked found layout s.find.seat s.find.generation s.find.wanted first last

  record FreeRuns (lock n : ℕ) (r : Reclaiming) : Type 0 where
    past : FoundNone lock
    runs : Running asked found (steps_of layout (reclaim.listing layout)) (reclaim.opening s.find.generation) (past.last + 1) n r

  record HasFreed (lock first : ℕ) : Type 0 where
    past : FoundNone lock
    freed : ℕ
    frees : FreesSpans asked found layout s.find.seat s.find.generation (past.last + 1) freed
    next : freed + 1 ≡ first

  abbrev WithFirst : (lock n : ℕ) → FindStage → Type 0
  WithFirst lock n (Give x) = GiveRuns lock n x
  WithFirst lock n (Pass x) = PassRuns (Follows lock) true n x
  WithFirst lock n (Unswept x) = UnsweptRuns (Follows lock) true n x
  WithFirst lock n (Carve x) = CarveRuns (Follows lock) true n x
  WithFirst lock n (Unlock (End NoRoom)) = ⊥
  WithFirst lock n (Unlock (End (At x))) = Unit {0}
  WithFirst lock n (Unlock Again) = Unit {0}
  WithFirst lock n _ = ⊥

  abbrev WithLock : (lock n : ℕ) → FindStage → SearchStage → Type 0
  WithLock lock n p First = WithFirst lock n p
  WithLock lock n p (Free r) = FreeRuns lock n r
  WithLock lock n p Second = Round (HasFreed lock) false n p

  has_with : (lock n : ℕ) (p : FindStage) (q : SearchStage) → WithLock lock n p q → has_lock_at p q ≡ true
  has_with lock n p q k = grind arith

  record Locked (n : ℕ) : Type 0 where
    lock : ℕ
    takes : asked lock ≡ Swap Cell.Lock 0 (s.find.seat + 1)
    free : found lock ≡ 0
    held : (k : ℕ) → lock < k → k ≤ n → holds (steps_of layout (listing layout)) s found k ≡ true
    known : WithLock lock n (now n).find.stage (now n).stage

  abbrev Unlocked : ℕ → Type 0
  Unlocked n = ((now n).stage ≡ First) × (has_lock (now n).find.stage ≡ false)

  abbrev Tracks : ℕ → Type 0
  Tracks n = Unlocked n ⊎ Locked n

  -- a round that was the first leads to the freeing
  leads_on : (lock n : ℕ) (g : Finding) → base g ≡ base s.find → (p : FindStage) → Round (Follows lock) true n p → WithLock lock n p (cond (finds_none_at p) (Free (reclaiming g)) First)
  leads_on lock n g e (Pass x) k = k
  leads_on lock n g e (Unswept x) k = k
  leads_on lock n g e (Carve x) k = k
  leads_on lock n g e (Unlock Again) k = tt
  leads_on lock n g e (Unlock (End (At x))) k = tt
  leads_on lock n g e (Unlock (End NoRoom)) k = record {
    past = record { first = k.first; follows = k.before; last = k.last; none = record { behind = k.passed.behind; passed = k.passed.passed; from = k.from; swept = k.passed.swept; none = k.none } };
    runs = subst (λ (j : ℕ). Running asked found (steps_of layout (reclaim.listing layout)) (reclaim.opening s.find.generation) j n (reclaiming g)) (sym k.next) (begins asked found (steps_of layout (reclaim.listing layout)) _ n (reclaiming g) (ap (λ (b : Base). reclaim.opening b.generation) e) refl);
  }
  leads_on lock n g e _ k = absurd k

  -- where a step of the search leads, by the stage that it is at
  abbrev first_to : ℕ → FindStage → Seeking
  first_to n p = record { find = find.goes_at layout (now n).find p (found n); stage = after_first (find.goes_at layout (now n).find p (found n)) }

  first_is : (n : ℕ) (p : FindStage) → (now n).stage ≡ First → (now n).find.stage ≡ p → now (suc n) ≡ first_to n p
  first_is n p e at = ap (λ (q : SearchStage). goes_at layout (now n).find q (found n)) e ∙ ap (first_to n) at

  abbrev second_to : ℕ → FindStage → Seeking
  second_to n p = record { find = find.goes_at layout (now n).find p (found n); stage = cond (frees_at p) First Second }

  second_is : (n : ℕ) (p : FindStage) → (now n).stage ≡ Second → (now n).find.stage ≡ p → now (suc n) ≡ second_to n p
  second_is n p e at = ap (λ (q : SearchStage). goes_at layout (now n).find q (found n)) e ∙ ap (second_to n) at

  first_asks : (n : ℕ) (p : FindStage) → (now n).stage ≡ First → (now n).find.stage ≡ p → asked n ≡ find.asks_at layout (now n).find p
  first_asks n p e at = ap (asks_at layout (now n).find) e ∙ ap (find.asks_at layout (now n).find) at

  second_asks : (n : ℕ) (p : FindStage) → (now n).stage ≡ Second → (now n).find.stage ≡ p → asked n ≡ find.asks_at layout (now n).find p
  second_asks n p e at = ap (asks_at layout (now n).find) e ∙ ap (find.asks_at layout (now n).find) at

  abbrev freed_to : ℕ → FindStage → Finding
  freed_to n p = record (now n).find { sweeps = true; stage = p }

  -- it does not have the lock then
  unlocks : (n : ℕ) (g : Finding) → now (suc n) ≡ record { find = g; stage = First } → has_lock g.stage ≡ false → Tracks (suc n)
  unlocks n g e h = inl (ap (λ (z : Seeking). z.stage) e, ap (λ (z : Seeking). has_lock z.find.stage) e ∙ h)

  unlocks_first : (n : ℕ) (g : Finding) → now (suc n) ≡ record { find = g; stage = after_first g } → has_lock g.stage ≡ false → Tracks (suc n)
  unlocks_first n g e h = grind arith

  module _ (start : has_lock_at s.find.stage s.stage ≡ false) (anew : s.find.sweeps ≡ looks_for_unswept s.stage) where
    -- it has the lock then, and had it since
    locks : (n lock : ℕ) → asked lock ≡ Swap Cell.Lock 0 (s.find.seat + 1) → found lock ≡ 0 → ((k : ℕ) → lock < k → k ≤ n → holds (steps_of layout (listing layout)) s found k ≡ true) → (z : Seeking) → now (suc n) ≡ z → WithLock lock (suc n) z.find.stage z.stage → Tracks (suc n)
    locks n lock takes free held z e k = inr (record { lock = lock; takes = takes; free = free; held = still; known = known }) where
      known : WithLock lock (suc n) (now (suc n)).find.stage (now (suc n)).stage
      known = subst (λ (y : Seeking). WithLock lock (suc n) y.find.stage y.stage) (sym e) k

      still : (j : ℕ) → lock < j → j ≤ suc n → holds (steps_of layout (listing layout)) s found j ≡ true
      still j low le = elim (cases_order j (suc n)) [
        | inl is ↦ subst (λ (i : ℕ). holds (steps_of layout (listing layout)) s found i ≡ true) (sym is) (held_is layout s found start (suc n) ∙ has_with lock (suc n) (now (suc n)).find.stage (now (suc n)).stage known)
        | inr (inl under) ↦ held j low (omega arith)
        | inr (inr above) ↦ absurd (omega arith)
      ]

    -- the lock was taken, or it was not
    abbrev lock_to : ℕ → FindStage → Seeking
    lock_to n p = record { find = at_stage (now n).find p; stage = after_first (at_stage (now n).find p) }

    lock_step : (n : ℕ) → (now n).stage ≡ First → (now n).find.stage ≡ Lock → Tracks (suc n)
    lock_step n e at = by (nat_eq (found n) 0) refl where
      next : (b : Bool) → nat_eq (found n) 0 ≡ b → now (suc n) ≡ lock_to n (cond b (locked_for (now n).find (now n).find.wanted (now n).find.cached) Lock)
      next b is = first_is n Lock e at ∙ ap (λ (c : Bool). lock_to n (cond c (locked_for (now n).find (now n).find.wanted (now n).find.cached) Lock)) is

      begins_round : (w : Sought) → (now n).find.wanted ≡ w → WithLock n (suc n) (spans_for (now n).find w) (after_first (at_stage (now n).find (spans_for (now n).find w)))
      begins_round w is = leads_on n (suc n) (at_stage (now n).find (spans_for (now n).find w)) (base_is n) (spans_for (now n).find w) (round_begins (Follows n) true (suc n) (now n).find w (base_is n) is (inl (omega arith)))

      locked : (w : Sought) (c : Option CachedSpan) → (now n).find.wanted ≡ w → WithLock n (suc n) (locked_for (now n).find w c) (after_first (at_stage (now n).find (locked_for (now n).find w c)))
      locked (Small c) (Some x) is = record {
        follows = omega arith;
        writes = refl;
        class = c;
        small = sym (wanted_is (now n).find (base_is n)) ∙ is;
        page = x.head;
        store = ap (λ (b : Base). Store (Cell.Page x.head) (head_word (given_head b.generation c))) (base_is n);
      }
      locked (Small c) None is = begins_round (Small c) is
      locked (Large pages noscan) x is = begins_round (Large pages noscan) is

      by : (b : Bool) → nat_eq (found n) 0 ≡ b → Tracks (suc n)
      by true is = locks n n (first_asks n Lock e at ∙ ap (λ (b : Base). Swap Cell.Lock 0 (b.seat + 1)) (base_is n)) (eqb-true (found n) 0 is) (λ k low le. absurd (omega arith)) (lock_to n (locked_for (now n).find (now n).find.wanted (now n).find.cached)) (next true is) (locked (now n).find.wanted (now n).find.cached refl)
      by false is = unlocks_first n (at_stage (now n).find Lock) (next false is) refl

    without_step : (n : ℕ) (p : FindStage) → (now n).stage ≡ First → (now n).find.stage ≡ p → has_lock p ≡ false → Tracks (suc n)
    without_step n (Slots x) e at h = unlocks_first n (find.goes_at layout (now n).find (Slots x) (found n)) (first_is n (Slots x) e at) (finding.slots_without (searched (now n).find (slots.goes x (found n))) (slots.given (slots.goes x (found n))) refl)
    without_step n Lock e at h = lock_step n e at
    without_step n (Ended out) e at h = unlocks_first n (at_stage (now n).find (Ended out)) (first_is n (Ended out) e at) refl
    without_step n _ e at h = absurd (cc)

    module _ (n : ℕ) (t : Locked n) where
      abbrev goes_to : (z : Seeking) → now (suc n) ≡ z → WithLock t.lock (suc n) z.find.stage z.stage → Tracks (suc n)
      goes_to z e k = locks n t.lock t.takes t.free t.held z e k

      abbrev give_on : give.SpanGiving → Finding
      give_on x = at_stage (now n).find (Give (give.goes x (found n)))

      abbrev given_on : give.SpanGiving → Finding
      given_on x = record (give_on x) { cached = None; stage = spans_for (give_on x) (give_on x).wanted }

      give_step : (x : give.SpanGiving) → (now n).stage ≡ First → (now n).find.stage ≡ Give x → GiveRuns t.lock n x → Tracks (suc n)
      give_step x e at k = goes_to (first_to n (Give x)) (first_is n (Give x) e at) begun where
        given_back : GivesBack asked found layout s.find.seat s.find.generation s.find.wanted (t.lock + 1)
        given_back = record { class = k.class; small = k.small; page = k.page; store = ap asked k.follows ∙ first_asks n (Give x) e at ∙ k.store }

        begun : WithLock t.lock (suc n) (given_on x).stage (after_first (given_on x))
        begun = leads_on t.lock (suc n) (given_on x) (base_is n) (spans_for (give_on x) (give_on x).wanted) (round_begins (Follows t.lock) true (suc n) (give_on x) (give_on x).wanted (base_is n) refl (inr (given_back, let at = k.follows in omega arith)))

      first_step : (p : FindStage) → (now n).stage ≡ First → (now n).find.stage ≡ p → WithFirst t.lock n p → Tracks (suc n)
      first_step (Give x) e at k = give_step x e at k
      first_step (Pass x) e at k = goes_to (first_to n (Pass x)) (first_is n (Pass x) e at)
          (leads_on t.lock (suc n) (find.goes_at layout (now n).find (Pass x) (found n)) (goes_base layout (now n).find (Pass x) (found n) ∙ base_is n) (find.goes_at layout (now n).find (Pass x) (found n)).stage (passes_on (Follows t.lock) true n (now n).find (base_is n) (sweeps_at layout s found anew n First e) x k (first_asks n (Pass x) e at)))
      first_step (Unswept x) e at k = goes_to (first_to n (Unswept x)) (first_is n (Unswept x) e at)
          (leads_on t.lock (suc n) (find.goes_at layout (now n).find (Unswept x) (found n)) (goes_base layout (now n).find (Unswept x) (found n) ∙ base_is n) (find.goes_at layout (now n).find (Unswept x) (found n)).stage (unswepts_on (Follows t.lock) true n (now n).find (base_is n) x k (first_asks n (Unswept x) e at)))
      first_step (Carve x) e at k = goes_to (first_to n (Carve x)) (first_is n (Carve x) e at)
          (leads_on t.lock (suc n) (find.goes_at layout (now n).find (Carve x) (found n)) (goes_base layout (now n).find (Carve x) (found n) ∙ base_is n) (find.goes_at layout (now n).find (Carve x) (found n)).stage (carves_on (Follows t.lock) true n (now n).find x k (first_asks n (Carve x) e at)))
      first_step (Unlock Again) e at k = unlocks_first n (freed_to n (unlocked (now n).find Again)) (first_is n (Unlock Again) e at) (finding.unlocked_without (now n).find Again)
      first_step (Unlock (End (At x))) e at k = unlocks_first n (freed_to n (Ended (At x))) (first_is n (Unlock (End (At x))) e at) refl
      first_step _ e at k = absurd k

      free_step : (r : Reclaiming) → (now n).stage ≡ Free r → FreeRuns t.lock n r → Tracks (suc n)
      free_step r e k = by (reclaim.given (reclaim.goes layout r (found n))) refl where
        next : now (suc n) ≡ after_free (now n).find (reclaim.goes layout r (found n)) (reclaim.given (reclaim.goes layout r (found n)))
        next = ap (λ (q : SearchStage). goes_at layout (now n).find q (found n)) e

        a : asked n ≡ reclaim.asks layout r
        a = ap (asks_at layout (now n).find) e

        has_freed : reclaim.given (reclaim.goes layout r (found n)) ≡ Some tt → HasFreed t.lock (suc n)
        has_freed g = record { past = k.past; freed = n; frees = ends_with asked found (steps_of layout (reclaim.listing layout)) _ (k.past.last + 1) n r k.runs a tt g; next = omega arith }

        by : (out : Option (Unit {0})) → reclaim.given (reclaim.goes layout r (found n)) ≡ out → Tracks (suc n)
        by None g = goes_to (record { find = (now n).find; stage = Free (reclaim.goes layout r (found n)) }) (next ∙ ap (after_free (now n).find (reclaim.goes layout r (found n))) g)
            (record { past = k.past; runs = goes_on asked found (steps_of layout (reclaim.listing layout)) _ (k.past.last + 1) n r k.runs a (ap is_none g) })
        by (Some x) g = goes_to (record { find = again (now n).find; stage = Second }) (next ∙ ap (after_free (now n).find (reclaim.goes layout r (found n))) g)
            (round_begins (HasFreed t.lock) false (suc n) (now n).find (now n).find.wanted (base_is n) refl (has_freed g))

      second_step : (p : FindStage) → (now n).stage ≡ Second → (now n).find.stage ≡ p → Round (HasFreed t.lock) false n p → Tracks (suc n)
      second_step (Pass x) e at k = goes_to (second_to n (Pass x)) (second_is n (Pass x) e at) (passes_on (HasFreed t.lock) false n (now n).find (base_is n) (sweeps_at layout s found anew n Second e) x k (second_asks n (Pass x) e at))
      second_step (Unswept x) e at k = absurd (cc (k.on))
      second_step (Carve x) e at k = goes_to (second_to n (Carve x)) (second_is n (Carve x) e at) (carves_on (HasFreed t.lock) false n (now n).find x k (second_asks n (Carve x) e at))
      second_step (Unlock after) e at k = unlocks n (freed_to n (unlocked (now n).find after)) (second_is n (Unlock after) e at) (finding.unlocked_without (now n).find after)
      second_step _ e at k = absurd k

      with_step : (q : SearchStage) → (now n).stage ≡ q → WithLock t.lock n (now n).find.stage q → Tracks (suc n)
      with_step First e k = first_step (now n).find.stage e refl k
      with_step (Free r) e k = free_step r e k
      with_step Second e k = second_step (now n).find.stage e refl k

    tracks : s.stage ≡ First → (n : ℕ) → Tracks n
    tracks opens zero = inl (opens, sym (ap (has_lock_at s.find.stage) opens) ∙ start)
    tracks opens (suc n) = elim (tracks opens n) [
      | inl u ↦ without_step n (now n).find.stage u.0 refl u.1
      | inr t ↦ with_step n t (now n).stage refl t.known
    ]

    never_first : (lock n : ℕ) (p : FindStage) → finds_none_at p ≡ true → WithFirst lock n p → ⊥
    never_first lock n p h k = grind arith

    abbrev Refuses : ℕ → Type 0
    Refuses n = HasFoundNoneTwice s found layout s.find.seat s.find.generation s.find.wanted n

    ended_twice : (n : ℕ) (t : Locked n) → asked n ≡ Store Cell.Lock 0 → RoundEnds (HasFreed t.lock) false n → Refuses n
    ended_twice n t a k = record {
      lock = t.lock;
      takes = t.takes;
      free = t.free;
      first = k.before.past.first;
      follows = k.before.past.follows;
      last = k.before.past.last;
      none = k.before.past.none;
      freed = k.before.freed;
      frees = k.before.frees;
      last_again = k.last;
      none_again = subst (λ (j : ℕ). FindsNone asked found layout s.find.seat s.find.generation s.find.wanted j k.last) (sym k.before.next) (record { from = k.from; passed = k.passed; none = k.none });
      next = k.next;
      frees_lock = a;
      held = t.held;
    }

    with_no_room : (n : ℕ) (t : Locked n) (q : SearchStage) → (now n).stage ≡ q → WithLock t.lock n (now n).find.stage q → search.refuses_at (now n).find q ≡ true → search.is_busy (now n).find q ≡ true → Refuses n
    with_no_room n t First e k h busy = absurd (never_first t.lock n (now n).find.stage (refuses_yet (now n).find.stage h busy) k)
    with_no_room n t (Free r) e k h busy = absurd (cc)
    with_no_room n t Second e k h busy =
        let none : finds_none_at (now n).find.stage ≡ true = refuses_yet (now n).find.stage h busy in
        ended_twice n t (second_asks n (now n).find.stage e refl ∙ refusing_asks layout (now n).find (now n).find.stage none) (refused (HasFreed t.lock) false n (now n).find.stage none k)

    no_room : s.stage ≡ First → (n : ℕ) → GoesOn (steps_of layout (listing layout)) s found n → EndsWith (steps_of layout (listing layout)) s found n NoRoom → Refuses n
    no_room opens n busy g =
        let h : search.refuses_at (now n).find (now n).stage ≡ true = search_refuses layout (now n).find (now n).stage (found n) g in
        elim (tracks opens n) [
          | inl u ↦
              let yet : find.is_busy (now n).find.stage ≡ true = sym (ap (search.is_busy (now n).find) u.0) ∙ busy in
              let refuses : refuses_at (now n).find.stage ≡ true = sym (ap (search.refuses_at (now n).find) u.0) ∙ h in
              let none : finds_none_at (now n).find.stage ≡ true = refuses_yet (now n).find.stage refuses yet in
              let some : finds_none_at (now n).find.stage ≡ false = without_none (now n).find.stage u.1 in absurd (cc)
          | inr t ↦ with_no_room n t (now n).stage refl t.known h busy
        ]

pub no_room_is_true : (l : Layout) (seat generation : ℕ) (wanted : Sought) (cached : Option CachedSpan) (found : ℕ → ℕ) (n : ℕ) →
    GoesOn (steps_of l (listing l)) (opening seat generation wanted cached) found n → EndsWith (steps_of l (listing l)) (opening seat generation wanted cached) found n NoRoom → HasFoundNoneTwice (opening seat generation wanted cached) found l seat generation wanted n
no_room_is_true l seat generation wanted cached found n busy g = no_room l (opening seat generation wanted cached) found (finding.begin_without wanted cached) refl refl n busy g
