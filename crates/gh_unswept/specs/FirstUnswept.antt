-- What the pass for an unswept span was told, and what its answer says of that.
use Rattle.std.specs.Prelude.{◌≡◌, ℕ, suc, ◌+◌, ◌<◌, ◌≤◌, ◌⊎◌, true, false, Some, None}
use Rattle.gh_unswept.specs.Vocabulary.{Ask, gives, Head, head_word, Layout, Load, Lost, once_swept, owned_by, Page, page_of, pages_gone, SpanHead, steps_of, Store, SweepEnd, Sweeping, Swept, SweptSpan}
use Rattle.gh_base.specs.Routines as routine
use Rattle.gh_class.specs.declared.class.SizeClass.TheVariants.{Small}
use Rattle.gh_class.specs.declared.class.SpanClass.{SpanClass}
use Rattle.gh_central.specs.UnsweptPass.{asks, listing, opening, sweep_in, Unswept}

-- the head of a span of the wanted span class that is not swept, and that nobody sweeps
pub record IsWantedUnswept (m : Unswept) (h : SpanHead) : Type 0 where
  pub class : h.class ≡ Small m.wanted.class
  pub noscan : h.noscan ≡ m.wanted.noscan
  pub unswept : h.number + 2 ≡ m.generation

-- by its first n steps
module _ (l : Layout) (m : Unswept) (found : ℕ → ℕ) (n : ℕ) where
  abbrev pub told : ℕ → Unswept
  told = routine.told (steps_of l (listing l)) m found

  -- one of them is this, and was told this word
  abbrev pub IsTold : Ask → ℕ → Type 0
  IsTold ask word = (i : ℕ) × (i < n) × (asks l (told i) ≡ ask) × (found i ≡ word)

  -- the page was told to be this head
  abbrev pub IsHead : ℕ → SpanHead → Type 0
  IsHead page h = (word : ℕ) × IsTold (Load (Page page)) word × (page_of word ≡ Head h)

  -- the page was told, or it lies in the span of a head that was told
  abbrev pub IsMet : ℕ → Type 0
  IsMet page = (first word : ℕ) × IsTold (Load (Page first)) word × (first ≤ page) × (page < first + pages_gone (page_of word))

  -- with one of them its own sweep of the span of this head has ended so
  pub record EndsSweep (page : ℕ) (h : SpanHead) (end : SweepEnd) : Type 0 where
    pub by : ℕ
    pub before : by < n
    pub sw : Sweeping
    pub runs : sweep_in (told by) ≡ Some sw
    pub page_is : sw.page ≡ page
    pub head_is : sw.head ≡ h
    pub ends : gives sw (found by) ≡ Some end

  -- it has swept the span itself, and by what it counted a slot is clear then, or none is
  abbrev pub HasClear : ℕ → SpanHead → Type 0
  HasClear page h = (span : SweptSpan) × EndsSweep page h (Swept span) × (span.clear ≡ true)

  abbrev pub HasNoneClear : ℕ → SpanHead → Type 0
  HasNoneClear page h = (span : SweptSpan) × EndsSweep page h (Swept span) × (span.clear ≡ false)

  -- The pages before this one were met. Each wanted span that was told of there it has swept, and no slot is clear in it; or another was first to sweep it.
  pub record Passes (end : ℕ) : Type 0 where
    pub met : (page : ℕ) → page < end → IsMet page
    pub none : (page : ℕ) → page < end → (h : SpanHead) → IsHead page h → IsWantedUnswept m h → HasNoneClear page h ⊎ EndsSweep page h Lost

  -- at this page stands a wanted span that has a clear slot once it is swept, and it is the first; its head word gets the seat as owner
  pub record Takes (page : ℕ) : Type 0 where
    pub head : SpanHead
    pub stands : IsHead page head
    pub wanted : IsWantedUnswept m head
    pub clear : HasClear page head
    pub first : Passes page
    pub last : (other word : ℕ) → IsTold (Load (Page other)) word → other ≤ page
    pub store : asks l (told n) ≡ Store (Page page) (head_word (owned_by (m.seat + 1) (once_swept head)))

-- what it gives if step n is its last
pub record TakesFirstUnswept (l : Layout) (m : Unswept) (found : ℕ → ℕ) (n : ℕ) : Type 0 where
  pub some : (page : ℕ) → routine.GoesOn (steps_of l (listing l)) m found n → routine.EndsWith (steps_of l (listing l)) m found n (Some page) → Takes l m found n page
  pub none : routine.GoesOn (steps_of l (listing l)) m found n → routine.EndsWith (steps_of l (listing l)) m found n None → Passes l m found (suc n) l.pages

abbrev pub TheUnsweptPassTakesTheFirst : Type 0
TheUnsweptPassTakesTheFirst = (l : Layout) (seat generation : ℕ) (wanted : SpanClass) (found : ℕ → ℕ) (n : ℕ) → TakesFirstUnswept l (opening seat generation wanted) found n
