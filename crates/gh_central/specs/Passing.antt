-- What the pass was told, and what its answer says of that.
use Rattle.std.specs.Prelude.{◌≡◌, ℕ, suc, ◌+◌, ◌*◌, ◌<◌, ◌≤◌, Some, None}
use Rattle.gh_central.specs.Vocabulary.{Alloc, Ask, Head, head_word, Layout, Load, Page, page_of, slot_words_of, slots_of, Small, SpanClass, SpanHead, steps_of, Store}
use Rattle.gh_base.specs.Routines as routine
use Rattle.gh_central.specs.Slots.{LacksSlot}
use Rattle.gh_central.specs.SweptPass.{Pass, alloc_word, asks, listing, opening, owned_by, pages_gone}

module _ (l : Layout) (m : Pass) (found : ℕ → ℕ) where
  -- after n steps
  abbrev pub told : (n : ℕ) → Pass
  told = routine.told (steps_of l (listing l)) m found

  -- one of its first n steps is this, and was told this word
  abbrev pub StepWasTold : (n : ℕ) → Ask → ℕ → Type 0
  StepWasTold n ask word = (i : ℕ) × (i < n) × (asks l (told i) ≡ ask) × (found i ≡ word)

-- the head of a span of the wanted span class that nobody owns, and that is swept
pub record IsWanted (m : Pass) (h : SpanHead) : Type 0 where
  pub class : h.class ≡ Small m.wanted.class
  pub noscan : h.noscan ≡ m.wanted.noscan
  pub nobody : h.owner ≡ 0
  pub swept : h.number ≡ m.generation

-- alloc word i of the span at this page, found to be this, lacks a slot's bit
abbrev pub LacksAt : Pass → (page i word : ℕ) → Type 0
LacksAt m page i word = LacksSlot (slot_words_of m.wanted.class) (slots_of m.wanted.class) (1024 * page) (16 * page + i) word

-- by its first n steps
module _ (l : Layout) (m : Pass) (found : ℕ → ℕ) (n : ℕ) where
  -- the page was told to be this head
  abbrev pub IsHead : ℕ → SpanHead → Type 0
  IsHead page h = (word : ℕ) × StepWasTold l m found n (Load (Page page)) word × (page_of word ≡ Head h)

  -- alloc word i of the span at this page was told to be this
  abbrev pub IsBits : (page i word : ℕ) → Type 0
  IsBits page i word = StepWasTold l m found n (Load (Alloc (alloc_word l page i))) word

  -- each slot that begins in an alloc word of the span is taken, as they were told
  abbrev pub IsFull : ℕ → SpanHead → Type 0
  IsFull page h = (i : ℕ) → i < 16 * h.pages → (word : ℕ) × IsBits page i word × (¬ LacksAt m page i word)

  -- the page was told, or it lies in the span of a head that was told
  abbrev pub IsMet : ℕ → Type 0
  IsMet page = (first word : ℕ) × StepWasTold l m found n (Load (Page first)) word × (first ≤ page) × (page < first + pages_gone (page_of word))

  -- the pages before this one were met, and a head of a wanted span that was told of one of them is of a full span
  pub record Passes (end : ℕ) : Type 0 where
    pub met : (page : ℕ) → page < end → IsMet page
    pub full : (page : ℕ) → page < end → (h : SpanHead) → IsHead page h → IsWanted m h → IsFull page h

  -- at this page stands a wanted span that is not full, and it is the first; its head word gets the seat as owner
  pub record Takes (page : ℕ) : Type 0 where
    pub head : SpanHead
    pub stands : IsHead page head
    pub wanted : IsWanted m head
    pub lacks : (i word : ℕ) × (i < 16 * head.pages) × IsBits page i word × LacksAt m page i word
    pub first : Passes page
    pub last : (other word : ℕ) → StepWasTold l m found n (Load (Page other)) word → other ≤ page
    pub store : asks l (told l m found n) ≡ Store (Page page) (head_word (owned_by (m.seat + 1) head))

-- what it gives if step n is its last
pub record TakesTheFirst (l : Layout) (m : Pass) (found : ℕ → ℕ) (n : ℕ) : Type 0 where
  pub some : (page : ℕ) → routine.GoesOn (steps_of l (listing l)) m found n → routine.EndsWith (steps_of l (listing l)) m found n (Some page) → Takes l m found n page
  pub none : routine.GoesOn (steps_of l (listing l)) m found n → routine.EndsWith (steps_of l (listing l)) m found n None → Passes l m found (suc n) l.pages

abbrev pub PassTakesTheFirst : Type 0
PassTakesTheFirst = (l : Layout) (seat generation : ℕ) (wanted : SpanClass) (found : ℕ → ℕ) (n : ℕ) → TakesTheFirst l (opening seat generation wanted) found n
