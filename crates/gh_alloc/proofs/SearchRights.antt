-- The steps of the search where a collector runs are moves that its rights allow, what it knows lasts, and where it finds no room there is none. Of the heap and of its routines it is known what their laws say.
use Rattle.std.proofs.Common.{◌≡◌, ℕ, Bool, true, false, cond, Option, Some, None, refl, sym, ap, subst, ◌∙◌, arith}
use Rattle.gh_alloc.proofs.Vocabulary.{after_first, after_free, Arena, asks_at, begin, CachedSpan, cell_of, EachFactLasts, EachMoveKeeps, EachMoveKeepsItsOwn, effect, Finding, FindStage, First, Free, frees_at, given_at, goes_at, Good, InRange, IsSpan, IsVacant, KeepsObjects, moved, Others, Reclaiming, refuses, SearchStage, Second, Seeking, Shared, Sought, SpanHead, Steps, Sweeping, SweepLeaves, TidyBefore, View, view, WalksGoOn}
use Rattle.gh_central.specs.Reclaim as reclaim
use Rattle.gh_central.specs.ReclaimFacts as reclaiming
use Rattle.gh_alloc.specs.Find as find
use Rattle.gh_alloc.specs.FindFacts as finding
use Rattle.gh_alloc.specs.SearchFacts.{Comes, FactsAt, FindsNone, FreesEmptySpans, Has, Lasts, LooksAgain, LooksFirst, NoneIsTrue, Opens, OwnStep, Refuses, SeeksByItsRights, SweepStep, SweepsHere, Within, reclaim_at}
use Rattle.gh_alloc.specs.Vocabulary.{Found}
use Rattle.gh_alloc.specs.Search.{given, sweep_at, sweep_generation_at}
use Rattle.gh_alloc.proofs.FindLasts.{seeks-last}
use Rattle.gh_alloc.proofs.Seeking.Refusing.{second_gives}

pub record Known : Type 0 where
  pub last : EachFactLasts
  pub walks : WalksGoOn
  pub own : EachMoveKeepsItsOwn
  pub keep : EachMoveKeeps
  pub find : finding.FindsByItsRights
  pub free : reclaiming.ReclaimsByItsRights

-- Its stages.

-- a search that begins refuses nothing
begins-on : (w : Sought) (c : Option CachedSpan) → find.refuses_at (begin w c) ≡ false
begins-on w c = grind arith

-- one that looks for a span has the lock
looks-locked : (q : FindStage) → finding.looks q ≡ true → finding.is_locked q ≡ true
looks-locked q e = grind arith

opens : Known → Opens
opens k z a v rest q seeks caches apart right e =
    let x = k.find.opens z a v rest q.find seeks caches apart right (ap (λ (p : Seeking). p.find) e) in
    let on : find.refuses q.find ≡ false = ap (λ (p : Seeking). find.refuses p.find) e ∙ begins-on q.find.wanted q.find.cached in
    subst (λ (p : SearchStage). Has a v rest (record { find = q.find; stage = p }) × FactsAt z a v rest q.find p) (sym (ap (λ (p : Seeking). p.stage) e)) (x.0, record { facts = x.1; on = on })

-- What is known lasts.

stage-lasts : Known → (z : Arena) (a : ℕ) (v w : View) (rest : ℕ → Bool) (f : Finding) (p : SearchStage) → Good z v → Others z a v w → Has a v rest (record { find = f; stage = p }) → FactsAt z a v rest f p → FactsAt z a w rest f p
stage-lasts k z a v w rest f First g o right x = record { facts = k.find.lasts z a false v w rest f g o right.locked x.facts; on = x.on }
stage-lasts k z a v w rest f (Free r) g o right x = record { seeks = seeks-last z a v w f o x.seeks; cached = x.cached; is = x.is; facts = k.free.lasts z a v w rest r g o right x.facts }
stage-lasts k z a v w rest f Second g o right x = record { facts = k.find.lasts z a true v w rest f g o right.locked x.facts; tidy = (k.last z a v w o).tidy_before z.layout.pages (right.locked ∙ looks-locked f.stage (x.facts.round refl).0) x.tidy }

lasts : Known → Lasts
lasts k z a v w rest q g o right x = stage-lasts k z a v w rest q.find q.stage g o right x

-- Where it finds none.

module _ (z : Arena) (v : View) (tidy : TidyBefore v.page v.alloc v.generation z.layout.pages) where
  -- no span without an owner is vacant
  used : (p : ℕ) (h : SpanHead) → IsSpan z.layout.pages v.page p h → h.owner ≡ 0 → ¬ IsVacant v.alloc p h
  used p h span none vacant = let x = (tidy p h (omega (arith, span.within, span.fits.some)) span.head none).1 in omega (arith, x.2, vacant x.0 x.1)

  no-room : (f : Finding) → finding.FindsNone z true v f → FindsNone z v f
  no-room f x = record { none = x; tidy = tidy; run = λ first le. let d = x.no_run first le in (d.0, d.1, record { taken = d.2; used = λ p h span low high none. used p h span none }) }

refuses-at : Known → (z : Arena) (a : ℕ) (v : View) (rest : ℕ → Bool) (f : Finding) (p : SearchStage) → FactsAt z a v rest f p → refuses (record { find = f; stage = p }) ≡ true → Refuses z v (record { find = f; stage = p })
refuses-at k z a v rest f First x e = absurd (cc (e, x.on))
refuses-at k z a v rest f (Free r) x e = absurd (cc)
refuses-at k z a v rest f Second x e = let no = k.find.none z a true v rest f x.facts e in record { none = no-room z v x.tidy f no.none; stage = refl; unlocks = no.stage }

finds-none : Known → NoneIsTrue
finds-none k z a v rest q x e = refuses-at k z a v rest q.find q.stage x e

-- The own steps.

module _ (k : Known) (z : Arena) (a : ℕ) (s : Shared) (rest : ℕ → Bool) where
  abbrev now : View
  now = view s

  abbrev Kept : Shared → Type 0
  Kept t = (view t).generation ≡ now.generation

  abbrev Step : Finding → SearchStage → Type 0
  Step f p = Steps z a s (asks_at z.layout f p) (λ t. KeepsObjects now (view t) × Comes z a (view t) rest (given (goes_at z.layout f p (s.words (cell_of (asks_at z.layout f p))))) (goes_at z.layout f p (s.words (cell_of (asks_at z.layout f p)))))

  first-then : (t : Shared) (f : Finding) → finding.Comes z a false (view t) rest (find.given f) f → Comes z a (view t) rest (given_at f (after_first f)) (record { find = f; stage = after_first f })
  first-then t f = grind arith

  -- in the first round, by every step
  still-false : (q : FindStage) → finding.still false q ≡ false
  still-false q = grind arith

  first-own : (f : Finding) → Good z now → Has a now rest (record { find = f; stage = First }) → LooksFirst z a now rest f → find.sweep_in f ≡ None → Step f First
  first-own f g right x idle =
      let found : ℕ = s.words (cell_of (find.asks z.layout f)) in
      let l = k.find.own_step z a false s rest f g (λ is. absurd (cc is)) right x.facts x.on idle in
      record { move = l.move; may = l.may; words_are = l.words_are; after = (l.after.0, first-then (moved z a s l.move) (find.goes z.layout f found) (subst (λ (b : Bool). finding.Comes z a b (view (moved z a s l.move)) rest (find.gives z.layout f found) (find.goes z.layout f found)) (still-false f.stage) l.after.2)) }

  free-then : (t : Shared) (f : Finding) (r : Reclaiming) (out : Option (Unit {0})) → Good z (view t) → Kept t → finding.Seeks z a now f → f.cached ≡ None → r ≡ reclaim_at f r.stage → reclaiming.Comes z a now (view t) rest out r → Comes z a (view t) rest (given (after_free f r out)) (after_free f r out)
  free-then t f r out g same seeks cached is c = grind arith

  free-own : (f : Finding) (r : Reclaiming) → Good z now → Has a now rest (record { find = f; stage = Free r }) → FreesEmptySpans z a now f r → reclaim.sweep_in r ≡ None → Step f (Free r)
  free-own f r g right x idle =
      let found : ℕ = s.words (cell_of (reclaim.asks z.layout r)) in
      let l = k.free.own_step z a s rest r g right x.facts idle in
      record {
        move = l.move;
        may = l.may;
        words_are = l.words_are;
        after = (l.after.0, free-then (moved z a s l.move) f (reclaim.goes z.layout r found) (reclaim.given (reclaim.goes z.layout r found)) (k.keep z a s l.move g l.may) (k.own z a s l.move g l.may).generation x.seeks x.cached (ap (λ (y : Reclaiming). reclaim.at_stage y (reclaim.goes z.layout r found).stage) x.is) l.after.1);
      }

  -- the last round ends where the lock is freed
  still-true : (q : FindStage) → finding.still true q ≡ cond (frees_at q) false true
  still-true q = grind arith

  second-then : (t : Shared) (f : Finding) (found : ℕ) (out : Option Found) → find.gives z.layout f found ≡ out → TidyBefore (view t).page (view t).alloc (view t).generation z.layout.pages →
      (b : Bool) → frees_at f.stage ≡ b → finding.Comes z a (cond b false true) (view t) rest out (find.goes z.layout f found) → Comes z a (view t) rest out (record { find = find.goes z.layout f found; stage = cond b First Second })
  second-then t f found out none tidy b e c = grind arith

  second-own : (f : Finding) → Good z now → Has a now rest (record { find = f; stage = Second }) → LooksAgain z a now rest f → find.refuses f ≡ false → find.sweep_in f ≡ None → Step f Second
  second-own f g right x on idle =
      let found : ℕ = s.words (cell_of (find.asks z.layout f)) in
      let l = k.find.own_step z a true s rest f g (λ is. x.tidy) right x.facts on idle in
      record {
        move = l.move;
        may = l.may;
        words_are = l.words_are;
        after = (
          l.after.0,
          subst (λ (out : Option Found). Comes z a (view (moved z a s l.move)) rest out (goes_at z.layout f Second found)) (sym (second_gives (find.goes z.layout f found) (frees_at f.stage)))
              (second-then (moved z a s l.move) f found (find.gives z.layout f found) refl (k.walks.tidy now (view (moved z a s l.move)) z.layout.pages (l.after.1 (x.facts.round refl).0) x.tidy) (frees_at f.stage) refl
              (subst (λ (b : Bool). finding.Comes z a b (view (moved z a s l.move)) rest (find.gives z.layout f found) (find.goes z.layout f found)) (still-true f.stage) l.after.2)),
        );
      }

  own-at : (f : Finding) (p : SearchStage) → Good z now → Has a now rest (record { find = f; stage = p }) → FactsAt z a now rest f p → refuses (record { find = f; stage = p }) ≡ false → sweep_at f p ≡ None → Step f p
  own-at f First g right x on idle = first-own f g right x idle
  own-at f (Free r) g right x on idle = free-own f r g right x idle
  own-at f Second g right x on idle = second-own f g right x on idle

  -- The steps of a sweep that it runs.

  -- the second search runs none
  idle-at : (v : View) (f : Finding) (q : FindStage) (sw : Sweeping) → f.sweeps ≡ false → finding.FactsAt z a true v f q → find.sweep_at q ≡ Some sw → ⊥
  idle-at v f q sw none x runs = grind arith

  abbrev Sweeps : Shared → Finding → SearchStage → Type 0
  Sweeps t f p = KeepsObjects now (view t) × Comes z a (view t) rest (given (goes_at z.layout f p (s.words (cell_of (asks_at z.layout f p))))) (goes_at z.layout f p (s.words (cell_of (asks_at z.layout f p))))

  sweep-stage : (t : Shared) (f : Finding) (p : SearchStage) (sw : Sweeping) → Good z now → Good z (view t) → Has a now rest (record { find = f; stage = p }) → FactsAt z a now rest f p → sweep_at f p ≡ Some sw → SweepLeaves now (view t) → t.words ≡ effect s.words (asks_at z.layout f p) → Sweeps t f p
  sweep-stage t f First sw g then right x runs leaves words =
      let r = k.find.sweep_step z a false s t rest f sw g then right x.facts runs leaves words in
      (r.0, first-then t (find.goes z.layout f (s.words (cell_of (find.asks z.layout f)))) r.1)
  sweep-stage t f (Free r) sw g then right x runs leaves words =
      let found : ℕ = s.words (cell_of (reclaim.asks z.layout r)) in
      let y = k.free.sweep_step z a s t rest r sw g right x.facts runs leaves words in
      (y.0, free-then t f (reclaim.goes z.layout r found) (reclaim.given (reclaim.goes z.layout r found)) then leaves.leaves.generation x.seeks x.cached (ap (λ (m : Reclaiming). reclaim.at_stage m (reclaim.goes z.layout r found).stage) x.is) y.1)
  sweep-stage t f Second sw g then right x runs leaves words = absurd (idle-at now f f.stage sw (x.facts.round refl).1 x.facts.stage runs)

own : Known → OwnStep
own k z a s rest q g right x on idle = own-at k z a s rest q.find q.stage g right x on idle

sweep : Known → SweepStep
sweep k z a s t rest q sw g then right x runs leaves words = sweep-stage k z a s rest t q.find q.stage sw g then right x runs leaves words

-- Whose routine sweeps.

here-at : Known → (z : Arena) (a : ℕ) (v : View) (rest : ℕ → Bool) (f : Finding) (p : SearchStage) → FactsAt z a v rest f p → sweep_generation_at f p ≡ v.generation
here-at k z a v rest f p x = grind arith

sweeps-here : Known → SweepsHere
sweeps-here k z a v rest q x = here-at k z a v rest q.find q.stage x

-- Its words.

within-at : Known → (z : Arena) (a : ℕ) (v : View) (rest : ℕ → Bool) (f : Finding) (p : SearchStage) → Good z v → FactsAt z a v rest f p → InRange z.layout (cell_of (asks_at z.layout f p))
within-at k z a v rest f First g x = k.find.within z a false v rest f g x.facts
within-at k z a v rest f (Free r) g x = k.free.within z v r g x.facts
within-at k z a v rest f Second g x = k.find.within z a true v rest f g x.facts

within : Known → Within
within k z a v rest q g x = within-at k z a v rest q.find q.stage g x

pub seeks_by_its_rights : Known → SeeksByItsRights
seeks_by_its_rights k = record { opens = opens k; own_step = own k; sweep_step = sweep k; here = sweeps-here k; within = within k; none = finds-none k; lasts = lasts k }
