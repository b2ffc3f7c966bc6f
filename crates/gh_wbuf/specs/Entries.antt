-- What the taking of an entry does, whatever it is told.
use Rattle.std.specs.Prelude.{◌≡◌, ℕ, zero, suc, ◌+◌, ◌-◌, ◌<◌, ◌≤◌, ◌⊎◌, ◌↔◌, Option, Some, None}
use Rattle.gh_wbuf.specs.Vocabulary.{Ask, buffers_of, Cell, Entry, GoesOn, Held, Layout, Load, Store, Take, told}
use Rattle.gh_wbuf.specs.EntryTaking.{EntryTaking, asks, entry_of, held_at, opening, transitions, try_at}
use Rattle.gh_wbuf.specs.Tries.{EndsAt, Took}
use Rattle.gh_wbuf.specs.Trying as try

-- no buffer is held, or one without an entry
abbrev pub HasNoEntry : Option Held → Type 0
HasNoEntry None = Unit {0}
HasNoEntry (Some h) = h.count ≡ 0

-- What becomes of a held buffer with this step, after which this is held: it is held still; or its last entry is taken; or it has none, and its word is stored as 0.
pub data Becomes (ask : Ask) (kept : Option Held) (h : Held) : Type 0 where
  stays : kept ≡ Some h → Becomes ask kept h
  gives : ask ≡ Load (Cell.Entry h.index (h.count - 1)) → kept ≡ Some (record { index = h.index; count = h.count - 1 }) → Becomes ask kept h
  leaves : h.count ≡ 0 → ask ≡ Store (Cell.Buffer h.index) 0 → kept ≡ None → Becomes ask kept h

module _ (seat : ℕ) where
  -- the try of a buffer, with this held
  abbrev pub entry_try : (index : ℕ) → Option Held → try.Trying
  entry_try index held = try.opening seat Entry index held

  -- it tries this buffer next, and holds this
  abbrev pub trying : (index : ℕ) → Option Held → EntryTaking
  trying index held = record { seat = seat; stage = try_at seat index held }

  -- it takes the entry of this buffer next
  abbrev pub taking : Held → EntryTaking
  taking h = record { seat = seat; stage = Take h }

module _ (l : Layout) (seat : ℕ) where
  -- what is held once the try has ended with step n
  abbrev pub held_behind : (index : ℕ) → Option Held → (ℕ → ℕ) → ℕ → Option Held
  held_behind index held found n = (told (try.transitions l) (entry_try seat index held) found (suc n)).held

  -- Each of so many tries from this buffer on answers none, one behind the other, and they have so many steps.
  abbrev pub AreLost : (tries : ℕ) → (index : ℕ) → Option Held → (ℕ → ℕ) → (steps : ℕ) → Type 0
  AreLost zero index held found steps = steps ≡ 0
  AreLost (suc tries) index held found steps =
      (n : ℕ) × (rest : ℕ) × (EndsAt (try.transitions l) (entry_try seat index held) found n None) × (steps ≡ suc n + rest) × AreLost tries (suc index) (held_behind index held found n) (λ i. found (suc n + i)) rest

  -- It takes the steps of the try of one buffer, and goes on by what that answers: each buffer once.
  pub record TriesForEntry (index : ℕ) (held : Option Held) (found : ℕ → ℕ) : Type 0 where
    -- its steps are those of the try
    pub steps : (n : ℕ) → GoesOn (try.transitions l) (entry_try seat index held) found n → asks (told (transitions l) (trying seat index held) found n) ≡ try.asks (told (try.transitions l) (entry_try seat index held) found n)
    -- where that answers none it goes on with the buffer behind, with what the try has left held; behind the last it ends with none
    pub lost : (n : ℕ) → EndsAt (try.transitions l) (entry_try seat index held) found n None → suc index < buffers_of l → told (transitions l) (trying seat index held) found (suc n) ≡ trying seat (suc index) (held_behind index held found n)
    pub lost_last : (n : ℕ) → EndsAt (try.transitions l) (entry_try seat index held) found n None → buffers_of l ≤ suc index → EndsAt (transitions l) (trying seat index held) found n None
    -- where that answers with a buffer it takes an entry of it
    pub won : (n : ℕ) (h : Held) → EndsAt (try.transitions l) (entry_try seat index held) found n (Some h) → told (transitions l) (trying seat index held) found (suc n) ≡ taking seat h

module _ (l : Layout) (seat : ℕ) (held : Option Held) (found : ℕ → ℕ) where
  abbrev from : EntryTaking
  from = opening seat held

  abbrev after : ℕ → EntryTaking
  after n = told (transitions l) from found n

  -- The last step loads the entry at the lower count of a held buffer: that is what it ends with, and the count is lower then.
  pub record TakesLast (n : ℕ) (entry : ℕ) : Type 0 where
    pub own : Held
    pub some : 0 < own.count
    pub loads : asks (after n) ≡ Load (Cell.Entry own.index (own.count - 1))
    pub entry_is : entry ≡ entry_of l (found n)
    pub holds : held_at (after (suc n)).stage ≡ Some (record { index = own.index; count = own.count - 1 })
    -- it was held from the beginning on, or the Swap before wrote
    pub taken : ((n ≡ 0) × (held ≡ Some own)) ⊎ ((before : ℕ) × (n ≡ suc before) × Took seat (asks (after before)) (found before) own)

  pub record TakesEntry : Type 0 where
    -- a held buffer with an entry gives it with the first step; else the tries begin with buffer 0
    pub own : (h : Held) → held ≡ Some h → 0 < h.count → from ≡ taking seat h
    pub begins : HasNoEntry held → from ≡ trying seat 0 held
    pub tries : (index : ℕ) (kept : Option Held) → TriesForEntry l seat index kept found
    -- it answers none exactly where no buffer with an entry is held, and each of the tries of all buffers answered none
    pub none : (n : ℕ) → EndsAt (transitions l) from found n None ↔ (HasNoEntry held × AreLost l seat (buffers_of l) 0 held found (suc n))
    pub some : (n entry : ℕ) → EndsAt (transitions l) from found n (Some entry) → TakesLast n entry
    -- no buffer with an entry is dropped
    pub keeps : (n : ℕ) (h : Held) → held_at (after n).stage ≡ Some h → Becomes (asks (after n)) (held_at (after (suc n)).stage) h

abbrev pub EntriesAreTaken : Type 0
EntriesAreTaken = (l : Layout) (seat : ℕ) (held : Option Held) (found : ℕ → ℕ) → TakesEntry l seat held found
