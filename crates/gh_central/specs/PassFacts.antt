-- What is known at each stage of the pass for a swept span while any number of processors change the heap, under which rights, and the laws: what each step of its own is, that it is on a word that there is, and that what is known lasts whatever others do.
use Rattle.std.specs.Prelude.{◌≡◌, ℕ, ◌+◌, ◌*◌, ◌/◌, ◌^◌, ◌<◌, Bool, true, false, Option, Some, None}
use Rattle.gh_central.specs.Vocabulary.{Arena, cell_of, FullBefore, Good, InRange, IsSpan, KeepsObjects, Leaves, Others, page_of, pages_of, PageWord, PassStage, Right, Row, row_bit, Shared, slot_words_of, slots_of, Small, SpanClass, SpanHead, Steps, TidyBefore, update, View, view}
use Rattle.gh_central.specs.declared.pass.PassStage.TheVariants.{Look, Bits, Take, Ended}
use Rattle.gh_central.specs.Owning.{WritesHead}
use Rattle.gh_central.specs.SweptPass.{Pass, asks, given, goes}

-- the routine is this seat's, in this arena, and looks for spans of a class there is
pub record Passes (z : Arena) (a : ℕ) (v : View) (m : Pass) : Type 0 where
  pub seat : m.seat ≡ a
  pub few : a + 1 < 2 ^ 8
  pub number : m.generation ≡ v.generation
  pub class : m.wanted.class < 25

-- the head of a span that it looks for
abbrev pub sought : Pass → SpanHead
sought m = record { class = Small m.wanted.class; noscan = m.wanted.noscan; pages = pages_of m.wanted.class; owner = 0; number = m.generation }

-- a swept span of the span class that nobody owns begins at page p
pub record IsUnowned (wanted : SpanClass) (page_words : Row) (generation p : ℕ) (h : SpanHead) : Type 0 where
  pub head : page_of (page_words p) ≡ PageWord.Head h
  pub class : h.class ≡ Small wanted.class
  pub noscan : h.noscan ≡ wanted.noscan
  pub owner : h.owner ≡ 0
  pub number : h.number ≡ generation

-- each slot of the span at page p is taken whose bit stands before alloc word i of the span
abbrev pub SlotsTakenBelow : SpanClass → (alloc : Row) → (p i : ℕ) → Type 0
SlotsTakenBelow wanted alloc p i = (j : ℕ) → j < slots_of wanted.class → (1024 * p + j * slot_words_of wanted.class) / 64 < 16 * p + i → row_bit alloc (1024 * p + j * slot_words_of wanted.class) ≡ 1

-- Of the spans that the pass has gone past it claims something only in the last round: then each that nobody owns is swept, and stays so.
abbrev pub HasPassed : (sure : Bool) → (span : SpanHead) → View → (p : ℕ) → Type 0
HasPassed sure span v p = sure ≡ true → FullBefore v.page v.alloc v.generation span p

pub record LooksAt (z : Arena) (sure : Bool) (span : SpanHead) (v : View) (p : ℕ) : Type 0 where
  pub there : p < z.layout.pages
  pub full : HasPassed sure span v p

pub record LooksInto (sure : Bool) (wanted : SpanClass) (span : SpanHead) (v : View) (p : ℕ) (h : SpanHead) (i : ℕ) : Type 0 where
  pub unowned : IsUnowned wanted v.page v.generation p h
  pub full : HasPassed sure span v p
  pub within : i < 16 * h.pages
  pub taken : SlotsTakenBelow wanted v.alloc p i

abbrev pub FactsAt : Arena → (sure : Bool) → Pass → View → PassStage → Type 0
FactsAt z sure m v (Look p) = LooksAt z sure (sought m) v p
FactsAt z sure m v (Bits p h i) = LooksInto sure m.wanted (sought m) v p h i
FactsAt z sure m v (Take p h) = IsUnowned m.wanted v.page v.generation p h
FactsAt z sure m v (Ended taken) = ⊥

pub record Facts (z : Arena) (a : ℕ) (sure : Bool) (v : View) (m : Pass) : Type 0 where
  pub whose : Passes z a v m
  pub stage : FactsAt z sure m v m.stage

-- a span of the span class begins at page p, and this seat owns it
pub record SpanIsTaken (z : Arena) (a : ℕ) (wanted : SpanClass) (page_words : Row) (p : ℕ) : Type 0 where
  pub h : SpanHead
  pub span : IsSpan z.layout.pages page_words p h
  pub class : h.class ≡ Small wanted.class
  pub noscan : h.noscan ≡ wanted.noscan
  pub owner : h.owner ≡ a + 1

-- What a step from v comes to in w, where the seat held those spans: what it leaves to who runs the routine; the right that its seat has then; and the facts of the next stage, or of the end. The span that is taken is not one that it held.
abbrev pub Comes : Arena → (a : ℕ) → (sure : Bool) → (v w : View) → (ℕ → Bool) → Option (Option ℕ) → Pass → Type 0
Comes z a sure v w held None m = Leaves v w × Right a w true held None × Facts z a sure w m
Comes z a sure v w held (Some None) m = Leaves v w × Right a w true held None × HasPassed sure (sought m) w z.layout.pages
Comes z a sure v w held (Some (Some p)) m = Leaves v w × Right a w true (update held p true) None × SpanIsTaken z a m.wanted w.page p × (held p ≡ false)

abbrev pub Opens : Type 0
Opens = (z : Arena) (a : ℕ) (sure : Bool) (v : View) (m : Pass) → Passes z a v m → m.stage ≡ Look 0 → Facts z a sure v m

-- in the last round each span that nobody owns is swept
abbrev pub IsSure : Arena → (sure : Bool) → View → Type 0
IsSure z sure v = sure ≡ true → TidyBefore v.page v.alloc v.generation z.layout.pages

-- a step of its own
abbrev pub OwnStep : Type 0
OwnStep = (z : Arena) (a : ℕ) (sure : Bool) (s : Shared) (held : ℕ → Bool) (m : Pass) → Good z (view s) → Right a (view s) true held None → IsSure z sure (view s) → Facts z a sure (view s) m →
    Steps z a s (asks z.layout m) (λ t. KeepsObjects (view s) (view t) × Comes z a sure (view s) (view t) held (given (goes z.layout m (s.words (cell_of (asks z.layout m))))) (goes z.layout m (s.words (cell_of (asks z.layout m)))))

-- it is on a word that there is
abbrev pub Within : Type 0
Within = (z : Arena) (a : ℕ) (sure : Bool) (v : View) (m : Pass) → Good z v → Facts z a sure v m → InRange z.layout (cell_of (asks z.layout m))

-- what it writes is the word of a page at which a span begins
abbrev pub WritesHeads : Type 0
WritesHeads = (z : Arena) (a : ℕ) (sure : Bool) (v : View) (m : Pass) → Facts z a sure v m → WritesHead v.page (asks z.layout m)

-- the steps of others
abbrev pub Lasts : Type 0
Lasts = (z : Arena) (a : ℕ) (sure : Bool) (v w : View) (m : Pass) → Others z a v w → v.locked a ≡ true → Facts z a sure v m → Facts z a sure w m

pub record PassesByItsRights : Type 0 where
  pub opens : Opens
  pub own_step : OwnStep
  pub within : Within
  pub heads : WritesHeads
  pub lasts : Lasts
