-- What the search where a collector runs has done where it says that there is no room.
use Rattle.std.specs.Prelude.{◌≡◌, ℕ, ◌+◌, ◌<◌, ◌≤◌, ◌⊎◌, true, Option, None}
use Rattle.gh_alloc.specs.Vocabulary.{Ask, CachedSpan, Cell, EndsWith, GoesOn, head_word, Large, Layout, NoRoom, Small, Sought, SpanClass, steps_of, Store, Swap, told}
use Rattle.gh_base.specs.Routines.{Listing}
use Rattle.gh_central.specs.Reclaim as reclaim
use Rattle.gh_central.specs.SweptPass as pass
use Rattle.gh_central.specs.UnsweptPass as unswept
use Rattle.gh_pages.specs.Listing as carve
use Rattle.gh_alloc.specs.Find.{given_head, span_for}
use Rattle.gh_alloc.specs.Locking.{holds}
use Rattle.gh_alloc.specs.Refusing.{since}
use Rattle.gh_alloc.specs.Search.{Seeking, asks, listing, opening}

-- step n asks for `asks n`, and is told `found n`
module _ (asks : ℕ → Ask) (found : ℕ → ℕ) where
  -- the steps from the first to the last are those of a routine that begins and ends with them, and it gives this
  pub record Runs {M Out : Type 0} (r : Listing M Out) (m : M) (first last : ℕ) (out : Out) : Type 0 where
    pub steps : ℕ
    pub is_last : first + steps ≡ last
    pub asked : (n : ℕ) → n ≤ steps → asks (first + n) ≡ r.asks (told r m (since found first) n)
    pub busy : GoesOn r m (since found first) steps
    pub gives : EndsWith r m (since found first) steps out

  module _ (l : Layout) (seat generation : ℕ) where
    -- of a size class a pass over the spans comes first, and ends with none
    abbrev pub Passed : Sought → (first from : ℕ) → Type 0
    Passed (Small c) first from = (last : ℕ) × Runs (steps_of l (pass.listing l)) (pass.opening seat generation c) first last None × (last + 1 ≡ from)
    Passed (Large pages noscan) first from = first ≡ from

    -- and behind it, in the first round, one over the spans that are not swept
    abbrev pub Swept : Sought → (first from : ℕ) → Type 0
    Swept (Small c) first from = (last : ℕ) × Runs (steps_of l (unswept.listing l)) (unswept.opening seat generation c) first last None × (last + 1 ≡ from)
    Swept (Large pages noscan) first from = first ≡ from

    -- from the first step to the last: no swept span is found, and then no fresh pages
    pub record FindsNone (wanted : Sought) (first last : ℕ) : Type 0 where
      pub from : ℕ
      pub passed : Passed wanted first from
      pub none : Runs (steps_of l (carve.listing l)) (carve.opening seat generation (span_for wanted)) from last None

    -- in the first round no unswept one with room either
    pub record FindsNoneFirst (wanted : Sought) (first last : ℕ) : Type 0 where
      pub behind : ℕ
      pub passed : Passed wanted first behind
      pub from : ℕ
      pub swept : Swept wanted behind from
      pub none : Runs (steps_of l (carve.listing l)) (carve.opening seat generation (span_for wanted)) from last None

    -- by this step a cached span of the class is given back, as a swept one that nobody owns
    pub record GivesBack (wanted : Sought) (step : ℕ) : Type 0 where
      pub class : SpanClass
      pub small : wanted ≡ Small class
      pub page : ℕ
      pub store : asks step ≡ Store (Cell.Page page) (head_word (given_head generation class))

    -- the first step of a search stands behind the lock, or behind the step that gives a cached span back
    abbrev pub Follows : (wanted : Sought) (lock first : ℕ) → Type 0
    Follows wanted lock first = (lock + 1 ≡ first) ⊎ (GivesBack wanted (lock + 1) × (lock + 2 ≡ first))

    -- from the first step to the last: the pages of empty spans are freed
    abbrev pub FreesSpans : (first last : ℕ) → Type 0
    FreesSpans first last = Runs (steps_of l (reclaim.listing l)) (reclaim.opening generation) first last tt

-- of the search, before its step of this number
module _ (s : Seeking) (found : ℕ → ℕ) (l : Layout) (seat generation : ℕ) (wanted : Sought) (step : ℕ) where
  abbrev asked : ℕ → Ask
  asked n = asks l (told (steps_of l (listing l)) s found n)

  pub record HasFoundNoneTwice : Type 0 where
    -- it took the lock
    pub lock : ℕ
    pub takes : asked lock ≡ Swap Cell.Lock 0 (seat + 1)
    pub free : found lock ≡ 0
    -- and gave a cached span back, if one was cached; then it found nothing,
    pub first : ℕ
    pub follows : Follows asked found l seat generation wanted lock first
    pub last : ℕ
    pub none : FindsNoneFirst asked found l seat generation wanted first last
    -- freed the pages of empty spans,
    pub freed : ℕ
    pub frees : FreesSpans asked found l seat generation (last + 1) freed
    -- and found nothing once more, up to the step before this one, which frees the lock
    pub last_again : ℕ
    pub none_again : FindsNone asked found l seat generation wanted (freed + 1) last_again
    pub next : last_again + 1 ≡ step
    pub frees_lock : asked step ≡ Store Cell.Lock 0
    -- all the while it had the lock
    pub held : (n : ℕ) → lock < n → n ≤ step → holds (steps_of l (listing l)) s found n ≡ true

abbrev pub NoRoomIsAfterReclaim : Type 0
NoRoomIsAfterReclaim = (l : Layout) (seat generation : ℕ) (wanted : Sought) (cached : Option CachedSpan) (found : ℕ → ℕ) (step : ℕ) →
    let s = opening seat generation wanted cached in
    GoesOn (steps_of l (listing l)) s found step → EndsWith (steps_of l (listing l)) s found step NoRoom → HasFoundNoneTwice s found l seat generation wanted step
