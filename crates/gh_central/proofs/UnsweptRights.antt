-- The steps of the pass for an unswept span are moves that its rights allow, or those of a sweep, and what it knows lasts. Of the heap it is known what the laws of gh_heap say.
use Rattle.std.proofs.Common.{◌≡◌, ℕ, ◌+◌, ◌^◌, ◌<◌, Bool, true, false, cond, ltb, Option, Some, None, refl, sym, subst, ◌∙◌, arith, eqb, eqb-true}
use Rattle.gh_central.proofs.Vocabulary.{Arena, cell_of, EachFactLasts, effect, eqb-false, Good, InRange, is_unswept, KeepsObjects, Leaves, Lost, once_swept, Others, page_of, PageWord, Quiet, Right, Shared, SpanHead, Steps, SweepEnd, Sweeping, SweepLeaves, Swept, Unswept, UnsweptStage, View, view, WritesHead}
use Rattle.gh_central.specs.declared.unswept.UnsweptStage.TheVariants.{Look, Sweep, Take, Ended}
use Rattle.gh_central.specs.UnsweptFacts.{Comes, Facts, FactsAt, Lasts, Opens, OwnStep, Passes, SweepsByItsRights, SweepsIt, SweepStep}
use Rattle.gh_central.specs.UnsweptPass.{after_page, after_sweep, asks, asks_at, at_stage, given, given_at, goes, goes_at, look_from, sweep_at}
use Rattle.gh_central.proofs.HeadTests.{unswept-is}
use Rattle.gh_central.proofs.Sweeping.Steps as steps
use Rattle.gh_central.proofs.Taking as taking
use Rattle.gh_sweep.specs.Listing as sweep

pub record Known : Type 0 where
  pub taking : taking.Known
  pub last : EachFactLasts

-- it is the same routine at another stage
whose-at : (z : Arena) (a : ℕ) (v : View) (m : Unswept) (q : UnsweptStage) → Passes z a v m → Passes z a v (at_stage m q)
whose-at z a v m q h = record { seat = h.seat; few = h.few; number = h.number; class = h.class }

whose-of : (z : Arena) (a : ℕ) (v : View) (m : Unswept) (q : UnsweptStage) → Passes z a v (at_stage m q) → Passes z a v m
whose-of z a v m q h = record { seat = h.seat; few = h.few; number = h.number; class = h.class }

-- and in the same sweep generation
whose-in : (z : Arena) (a : ℕ) (v w : View) (m : Unswept) → w.generation ≡ v.generation → Passes z a v m → Passes z a w m
whose-in z a v w m e h = record { seat = h.seat; few = h.few; number = h.number ∙ sym e; class = h.class }

opens : Opens
opens z a v m whose stage = record { whose = whose; stage = subst (λ (q : UnsweptStage). FactsAt z m v q) (sym stage) (omega (arith, z.layout.limits.pages_fit.0)) }

-- What is known lasts.

stage-lasts : Known → (z : Arena) (a : ℕ) (v w : View) (m : Unswept) (q : UnsweptStage) → Others z a v w → v.locked a ≡ true → FactsAt z m v q → FactsAt z m w q
stage-lasts k z a v w m (Look p) o l x = x
stage-lasts k z a v w m (Sweep p h sw) o l x = record { there = x.there; unowned = steps.unowned_lasts z a v w (k.last z a v w o) l p x.unowned; class = x.class; noscan = x.noscan; page_is = x.page_is; head_is = x.head_is; fits = x.fits; number = x.number ∙ sym o.generation; busy = x.busy }
stage-lasts k z a v w m (Take p h) o l x = taking.unowned-lasts k.last z a v w m.wanted p h o l x
stage-lasts k z a v w m (Ended taken) o l x = x

lasts : Known → Lasts
lasts k z a v w m o l x = record { whose = whose-in z a v w m o.generation x.whose; stage = stage-lasts k z a v w m m.stage o l x.stage }

-- It looks from this page on, or has ended.
looks : (z : Arena) (a : ℕ) (v w : View) (held : ℕ → Bool) (m : Unswept) (p : ℕ) → Leaves v w → Right a w true held None → Passes z a w m → (b : Bool) → ltb p z.layout.pages ≡ b → Comes z a v w held (given_at (cond b (Look p) (Ended None))) (at_stage m (cond b (Look p) (Ended None)))
looks z a v w held m p leaves right whose b t = grind arith

-- The own steps.

module _ (k : Known) (z : Arena) (a : ℕ) (s : Shared) (held : ℕ → Bool) (m : Unswept) where
  abbrev now : View
  now = view s

  -- what the next stage has, with nothing that was changed
  abbrev Goes : UnsweptStage → Type 0
  Goes q = Comes z a now now held (given_at q) (at_stage m q)

  stays : Good z now → Leaves now now
  stays g = (k.taking.leave z a s g).stays

  -- a span that is not swept nobody owns
  unowned : Good z now → (p : ℕ) (h : SpanHead) → page_of (now.page p) ≡ PageWord.Head h → h.number + 2 ≡ now.generation → h.owner ≡ 0
  unowned g p h head number = go (eqb h.owner 0) refl where
    go : (b : Bool) → eqb h.owner 0 ≡ b → h.owner ≡ 0
    go true t = eqb-true h.owner 0 t
    go false t = absurd (omega (arith, number, (g.numbers p h head).owned (eqb-false h.owner 0 t)))

  look : (p : ℕ) → Good z now → Right a now true held None → Passes z a now m → p < z.layout.pages → Goes (goes_at z.layout m (Look p) (now.page p))
  look p g right whose there = go (page_of (now.page p)) refl where
    on-head : (h : SpanHead) → page_of (now.page p) ≡ PageWord.Head h → (b : Bool) → is_unswept m h ≡ b → Goes (cond b (Sweep p h (sweep.opening p h)) (look_from z.layout (p + h.pages)))
    on-head h head true t =
        let u = unswept-is m h t in
        let number : h.number + 2 ≡ now.generation = u.2 ∙ whose.number in
        let owner = unowned g p h head number in (
          stays g,
          right,
          record {
            whose = whose-at z a now m (Sweep p h (sweep.opening p h)) whose;
            stage = record { there = there; unowned = record { h = h; head = head; owner = owner }; class = u.0; noscan = u.1; page_is = refl; head_is = refl; fits = steps.fits_now z now g p h head owner; number = number; busy = refl };
          },
        )
    on-head h head false t = looks z a now now held m (p + h.pages) (stays g) right whose (ltb (p + h.pages) z.layout.pages) refl

    go : (w : PageWord) → page_of (now.page p) ≡ w → Goes (after_page z.layout m p w)
    go PageWord.Free e = looks z a now now held m (p + 1) (stays g) right whose (ltb (p + 1) z.layout.pages) refl
    go (PageWord.Body b) e = looks z a now now held m (p + 1) (stays g) right whose (ltb (p + 1) z.layout.pages) refl
    go (PageWord.Head h) e = on-head h e (is_unswept m h) refl

  own-at : (q : UnsweptStage) → Good z now → Right a now true held None → Facts z a now (at_stage m q) → sweep_at q ≡ None →
      Steps z a s (asks z.layout (at_stage m q)) (λ t. KeepsObjects now (view t) × Comes z a now (view t) held (given (goes z.layout (at_stage m q) (s.words (cell_of (asks z.layout (at_stage m q)))))) (goes z.layout (at_stage m q) (s.words (cell_of (asks z.layout (at_stage m q))))))
  own-at (Look p) g right x none = record { move = Quiet (asks z.layout (at_stage m (Look p))); may = tt; words_are = refl; after = ((refl, refl), look p g right (whose-of z a now m (Look p) x.whose) x.stage) }
  own-at (Sweep p h sw) g right x none = absurd (cc)
  own-at (Take p h) g right x none = taking.takes k.taking z a s held m.wanted m.seat x.whose.seat p h g right x.whose.few x.stage
  own-at (Ended taken) g right x none = absurd x.stage

own : Known → OwnStep
own k z a s held m g right x none = own-at k z a s held m m.stage g right x none

-- The steps of a sweep.

module _ (k : Known) (z : Arena) (a : ℕ) (s t : Shared) (held : ℕ → Bool) (m : Unswept) (g : Good z (view s)) (o : SweepLeaves (view s) (view t)) (right : Right a (view t) true held None) (whose : Passes z a (view t) m) where
  abbrev before : View
  before = view s

  abbrev then : View
  then = view t

  abbrev Comes-to : UnsweptStage → Type 0
  Comes-to q = Comes z a before then held (given_at q) (at_stage m q)

  past : (p : ℕ) → Comes-to (look_from z.layout p)
  past p = grind arith

  -- the sweep goes on, is lost, or has swept the span, which it then takes if it has room
  ran : (p : ℕ) (h : SpanHead) (sw : Sweeping) → SweepsIt z m.wanted before p h sw → t.words ≡ effect s.words (sweep.asks z.layout sw) → (end : Option SweepEnd) → sweep.gives sw (s.words (cell_of (sweep.asks z.layout sw))) ≡ end →
      Comes-to (after_sweep z.layout p h (sweep.goes sw (s.words (cell_of (sweep.asks z.layout sw)))) end)
  ran p h sw x words None e =
      let found = s.words (cell_of (sweep.asks z.layout sw)) in (
        o.leaves,
        right,
        record {
          whose = whose-at z a then m (Sweep p h (sweep.goes sw found)) whose;
          stage = record { there = x.there; unowned = steps.unowned_then before then o p x.unowned; class = x.class; noscan = x.noscan; page_is = steps.same_page sw found ∙ x.page_is; head_is = steps.same_head sw found ∙ x.head_is; fits = x.fits; number = x.number ∙ sym o.leaves.generation; busy = steps.goes_on (sweep.goes sw found) e };
        },
      )
  ran p h sw x words (Some Lost) e = past (p + h.pages)
  ran p h sw x words (Some (Swept span)) e = go span.clear where
    few : h.number + 2 < 2 ^ 34
    few = omega (arith, x.number, g.generation)

    head : page_of (then.page p) ≡ PageWord.Head (once_swept h)
    head = steps.swept_then k.taking.packed z.layout s.words t.words sw p h span words x.page_is x.head_is x.busy x.fits few e

    go : (b : Bool) → Comes-to (cond b (Take p (once_swept h)) (look_from z.layout (p + h.pages)))
    go true = (o.leaves, right, record { whose = whose-at z a then m (Take p (once_swept h)) whose; stage = record { head = head; class = x.class; noscan = x.noscan; owner = refl; number = x.number ∙ sym o.leaves.generation } })
    go false = past (p + h.pages)

sweep-at : Known → (z : Arena) (a : ℕ) (s t : Shared) (held : ℕ → Bool) (m : Unswept) (q : UnsweptStage) (sw : Sweeping) → Good z (view s) → Right a (view s) true held None → Facts z a (view s) (at_stage m q) → sweep_at q ≡ Some sw → SweepLeaves (view s) (view t) → t.words ≡ effect s.words (asks z.layout (at_stage m q)) →
    Comes z a (view s) (view t) held (given (goes z.layout (at_stage m q) (s.words (cell_of (asks z.layout (at_stage m q)))))) (goes z.layout (at_stage m q) (s.words (cell_of (asks z.layout (at_stage m q)))))
sweep-at k z a s t held m (Sweep p h sw) on g right x is o words = ran k z a s t held m g o (steps.rights_then a (view s) (view t) o true held None None right) (whose-in z a (view s) (view t) m o.leaves.generation (whose-of z a (view s) m (Sweep p h sw) x.whose)) p h sw x.stage words (sweep.gives sw (s.words (cell_of (sweep.asks z.layout sw)))) refl
sweep-at k z a s t held m _ on g right x is o words = absurd (cc)

sweep-step : Known → SweepStep
sweep-step k z a s t held m sw g right x is o words = (steps.objects_then (view s) (view t) o, sweep-at k z a s t held m m.stage sw g right x is o words)

-- Its words.

within-at : (z : Arena) (v : View) (m : Unswept) (q : UnsweptStage) → Good z v → FactsAt z m v q → InRange z.layout (cell_of (asks z.layout (at_stage m q)))
within-at z v m (Sweep p h sw) g x = steps.within z.layout sw (subst (λ (n : ℕ). n < z.layout.pages) (sym x.page_is) x.there)
within-at z v m (Take p h) g x = let span = g.spans p h x.head in omega (arith, span.within, span.fits.some)
within-at z v m q g x = grind arith

heads-at : (z : Arena) (v : View) (m : Unswept) (q : UnsweptStage) → sweep_at q ≡ None → FactsAt z m v q → WritesHead v.page (asks_at z.layout m q)
heads-at z v m q none x = grind arith

pub sweeps_by_its_rights : Known → SweepsByItsRights
sweeps_by_its_rights k = record {
  opens = opens;
  own_step = own k;
  sweep_step = sweep-step k;
  within = λ z a v m g x. within-at z v m m.stage g x.stage;
  heads = λ z a v m x none. heads-at z v m m.stage none x.stage;
  lasts = lasts k;
}
