-- What the stores change that give a span back, take one and free its pages.
use Rattle.std.specs.Prelude.{◌≡◌, ◌≢◌, ℕ}
use Rattle.gh_central.specs.Vocabulary.{Ask, Cell, effect, FitsHead, Head, Load, Page, page_of, Row, SpanHead, Store, Words}
use Rattle.gh_central.specs.GiveBack as giving
use Rattle.gh_central.specs.SweptPass.{owned_by}

-- a step writes nothing, or the word of a page at which a span begins
abbrev pub WritesHead : Row → Ask → Type 0
WritesHead page_words (Load c) = Unit {0}
WritesHead page_words (Store (Page p) word) = (h : SpanHead) × (page_of (page_words p) ≡ Head h)
WritesHead page_words _ = ⊥

-- or it makes a page free
abbrev pub FreesPage : Ask → Type 0
FreesPage (Load c) = Unit {0}
FreesPage (Store (Page p) word) = word ≡ 0
FreesPage _ = ⊥

-- the step leaves this head with this owner on the page, and every other cell as it was
pub record ChangesTheOwner (page : ℕ) (h : SpanHead) (owner : ℕ) (step : Ask) (words : Words) : Type 0 where
  pub head : page_of (effect words step (Page page)) ≡ Head (owned_by owner h)
  pub others : (cell : Cell) → cell ≢ Page page → effect words step cell ≡ words cell

abbrev pub GivingChangesTheOwner : Type 0
GivingChangesTheOwner = (page : ℕ) (h : SpanHead) (words : Words) → FitsHead h → ChangesTheOwner page h 0 (giving.asks (giving.opening page h)) words
