-- A span is given back while any number of processors change the heap: what must be known, which move it is, and that it is on a word that there is.
use Rattle.std.specs.Prelude.{◌≡◌, ℕ, Bool, true, false, Option, None}
use Rattle.gh_central.specs.Vocabulary.{Arena, cell_of, Good, InRange, IsFull, KeepsObjects, Large, Laying, Others, owned_by, page_of, PageWord, Right, Shared, SpanHead, Steps, update, View, view, Write}
use Rattle.gh_central.specs.GiveBack.{SpanGiving, asks}
use Rattle.gh_central.specs.Owning.{WritesHead}

-- the head of the span, which the seat holds, is what is written but for its owner
pub record CanGiveBack (z : Arena) (a : ℕ) (v : View) (g : SpanGiving) : Type 0 where
  pub stage : g.stage ≡ Write
  pub h : SpanHead
  pub head : page_of (v.page g.page) ≡ PageWord.Head h
  pub same : owned_by 0 h ≡ owned_by 0 g.head
  pub held : v.holds a g.page ≡ true
  pub number : h.number ≡ v.generation

-- with the lock, the seat does not hold it any more
abbrev pub GivesBack : Type 0
GivesBack = (z : Arena) (a : ℕ) (s : Shared) (held : ℕ → Bool) (g : SpanGiving) → Good z (view s) → Right a (view s) true held None → CanGiveBack z a (view s) g →
    Steps z a s (asks g) (λ t. KeepsObjects (view s) (view t) × Right a (view t) true (update held g.page false) None)

-- and a large object's span without it, once the object is made
abbrev pub GivesLarge : Type 0
GivesLarge = (z : Arena) (a : ℕ) (s : Shared) (l : Bool) (held : ℕ → Bool) (y : Option Laying) (g : SpanGiving) → Good z (view s) → Right a (view s) l held y → (c : CanGiveBack z a (view s) g) → c.h.class ≡ Large → IsFull (view s).alloc g.page c.h →
    Steps z a s (asks g) (λ t. KeepsObjects (view s) (view t) × Right a (view t) l (update held g.page false) y)

-- what it writes is the word of a page at which a span begins
abbrev pub WritesHeads : Type 0
WritesHeads = (z : Arena) (a : ℕ) (v : View) (g : SpanGiving) → CanGiveBack z a v g → WritesHead v.page (asks g)

-- it is on a word that there is
abbrev pub Within : Type 0
Within = (z : Arena) (a : ℕ) (v : View) (g : SpanGiving) → Good z v → CanGiveBack z a v g → InRange z.layout (cell_of (asks g))

-- what must be known lasts, whatever others do
abbrev pub Lasts : Type 0
Lasts = (z : Arena) (a : ℕ) (v w : View) (g : SpanGiving) → Others z a v w → CanGiveBack z a v g → CanGiveBack z a w g

pub record GivesByItsRights : Type 0 where
  pub gives : GivesBack
  pub gives_large : GivesLarge
  pub within : Within
  pub heads : WritesHeads
  pub lasts : Lasts
