-- What is known at each stage of the pass for an unswept span while any number of processors change the heap and sweep spans, under which rights, and the laws: what each step of its own is, that it is on a word that there is, and that what is known lasts whatever others do.
use Rattle.std.specs.Prelude.{◌≡◌, ℕ, ◌+◌, ◌^◌, ◌<◌, Bool, true, false, Option, Some, None}
use Rattle.gh_central.specs.Vocabulary.{Arena, cell_of, effect, FitsHead, Good, InRange, is_busy, KeepsObjects, Leaves, Others, Right, Shared, Small, SpanClass, SpanHead, Steps, Sweeping, Take, UnsweptStage, update, View, view}
use Rattle.gh_central.specs.declared.unswept.UnsweptStage.TheVariants.{Look, Sweep, Ended}
use Rattle.gh_central.specs.Owning.{WritesHead}
use Rattle.gh_central.specs.PassFacts as swept
use Rattle.gh_central.specs.PassFacts.{SpanIsTaken}
use Rattle.gh_central.specs.ReclaimFacts as reclaiming
use Rattle.gh_central.specs.Sweeping.{SweepLeaves}
use Rattle.gh_central.specs.UnsweptPass.{Unswept, asks, given, goes, sweep_in}

-- the routine is this seat's, in this arena, and looks for spans of a class there is
pub record Passes (z : Arena) (a : ℕ) (v : View) (m : Unswept) : Type 0 where
  pub seat : m.seat ≡ a
  pub few : a + 1 < 2 ^ 8
  pub number : m.generation ≡ v.generation
  pub class : m.wanted.class < 25

-- the span at page p is swept, which is of the span class and nobody owns
pub record SweepsIt (z : Arena) (wanted : SpanClass) (v : View) (p : ℕ) (h : SpanHead) (sw : Sweeping) : Type 0 where
  pub there : p < z.layout.pages
  pub unowned : reclaiming.IsUnowned v.page p
  pub class : h.class ≡ Small wanted.class
  pub noscan : h.noscan ≡ wanted.noscan
  pub page_is : sw.page ≡ p
  pub head_is : sw.head ≡ h
  pub fits : FitsHead h
  pub number : h.number + 2 ≡ v.generation
  pub busy : is_busy sw.stage ≡ true

abbrev pub FactsAt : Arena → Unswept → View → UnsweptStage → Type 0
FactsAt z m v (Look p) = p < z.layout.pages
FactsAt z m v (Sweep p h sw) = SweepsIt z m.wanted v p h sw
FactsAt z m v (Take p h) = swept.IsUnowned m.wanted v.page v.generation p h
FactsAt z m v (Ended taken) = ⊥

pub record Facts (z : Arena) (a : ℕ) (v : View) (m : Unswept) : Type 0 where
  pub whose : Passes z a v m
  pub stage : FactsAt z m v m.stage

-- What a step from v comes to in w, where the seat held those spans: what it leaves to who runs the routine; the right that its seat has then; and the facts of the next stage, or of the end. The span that is taken is not one that it held.
abbrev pub Comes : Arena → (a : ℕ) → (v w : View) → (ℕ → Bool) → Option (Option ℕ) → Unswept → Type 0
Comes z a v w held None m = Leaves v w × Right a w true held None × Facts z a w m
Comes z a v w held (Some None) m = Leaves v w × Right a w true held None
Comes z a v w held (Some (Some p)) m = Leaves v w × Right a w true (update held p true) None × SpanIsTaken z a m.wanted w.page p × (held p ≡ false)

abbrev pub Opens : Type 0
Opens = (z : Arena) (a : ℕ) (v : View) (m : Unswept) → Passes z a v m → m.stage ≡ Look 0 → Facts z a v m

-- a step of its own, where it runs no sweep
abbrev pub OwnStep : Type 0
OwnStep = (z : Arena) (a : ℕ) (s : Shared) (held : ℕ → Bool) (m : Unswept) → Good z (view s) → Right a (view s) true held None → Facts z a (view s) m → sweep_in m ≡ None →
    Steps z a s (asks z.layout m) (λ t. KeepsObjects (view s) (view t) × Comes z a (view s) (view t) held (given (goes z.layout m (s.words (cell_of (asks z.layout m))))) (goes z.layout m (s.words (cell_of (asks z.layout m)))))

-- a step of the sweep that it runs
abbrev pub SweepStep : Type 0
SweepStep = (z : Arena) (a : ℕ) (s t : Shared) (held : ℕ → Bool) (m : Unswept) (sw : Sweeping) → Good z (view s) → Right a (view s) true held None → Facts z a (view s) m → sweep_in m ≡ Some sw → SweepLeaves (view s) (view t) → t.words ≡ effect s.words (asks z.layout m) →
    KeepsObjects (view s) (view t) × Comes z a (view s) (view t) held (given (goes z.layout m (s.words (cell_of (asks z.layout m))))) (goes z.layout m (s.words (cell_of (asks z.layout m))))

-- it is on a word that there is
abbrev pub Within : Type 0
Within = (z : Arena) (a : ℕ) (v : View) (m : Unswept) → Good z v → Facts z a v m → InRange z.layout (cell_of (asks z.layout m))

-- where it runs no sweep, what it writes is the word of a page at which a span begins
abbrev pub WritesHeads : Type 0
WritesHeads = (z : Arena) (a : ℕ) (v : View) (m : Unswept) → Facts z a v m → sweep_in m ≡ None → WritesHead v.page (asks z.layout m)

-- the steps of others
abbrev pub Lasts : Type 0
Lasts = (z : Arena) (a : ℕ) (v w : View) (m : Unswept) → Others z a v w → v.locked a ≡ true → Facts z a v m → Facts z a w m

pub record SweepsByItsRights : Type 0 where
  pub opens : Opens
  pub own_step : OwnStep
  pub sweep_step : SweepStep
  pub within : Within
  pub heads : WritesHeads
  pub lasts : Lasts
