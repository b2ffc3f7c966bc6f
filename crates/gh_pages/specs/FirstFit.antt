-- First fit: which pages the routine takes, by what it finds of each page.
use Rattle.std.specs.Prelude.{◌≡◌, ℕ, suc, ◌+◌, ◌<◌, ◌≤◌, ◌↔◌, IsTrue, None}
use Rattle.gh_pages.specs.Vocabulary.{Layout, Load, Page, page_of, Span, steps_of}
use Rattle.gh_base.specs.Routines as routine
use Rattle.gh_pages.specs.Listing.{Carving, asks, at_stage, first_store, is_free, listing, opening}

-- so many free pages stand from this one on, in an arena of so many pages where page p was found to be `found p`
pub record Fits (pages count : ℕ) (found : ℕ → ℕ) (first : ℕ) : Type 0 where
  pub within : first + count ≤ pages
  pub free : (p : ℕ) → first ≤ p → p < first + count → IsTrue (is_free (page_of (found p)))

-- and from no lesser page
pub record IsFirstFit (pages count : ℕ) (found : ℕ → ℕ) (first : ℕ) : Type 0 where
  pub fits : Fits pages count found first
  pub least : (other : ℕ) → Fits pages count found other → first ≤ other

module _ (l : Layout) (c : Carving) (found : ℕ → ℕ) where
  abbrev pub told : ℕ → Carving
  told = routine.told (steps_of l (listing l)) c found

  abbrev pub FitsAt : ℕ → Type 0
  FitsAt first = Fits l.pages c.span.pages found first

  -- after n loads its next step is the load of page n
  abbrev pub Loads : ℕ → Type 0
  Loads n = asks (told n) ≡ Load (Page n)

  -- by that load it goes on to its stores, from this page on
  abbrev pub GoesOnWith : ℕ → ℕ → Type 0
  GoesOnWith n first = Loads n × (told (suc n) ≡ at_stage c (first_store c.span first))

  -- by that load it ends with none
  abbrev pub EndsWithNone : ℕ → Type 0
  EndsWithNone n = Loads n × routine.EndsWith (steps_of l (listing l)) c found n None

  pub record FindsFirstFit : Type 0 where
    -- it loads page after page, as long as there is one and no row of free pages before it is long enough
    pub loads : (n : ℕ) → Loads n ↔ ((n < l.pages) × ((first : ℕ) → FitsAt first → n < first + c.span.pages))
    -- it goes on exactly with the first fit, right after the load of its last page
    pub goes_on : (n first : ℕ) → GoesOnWith n first ↔ (IsFirstFit l.pages c.span.pages found first × (n + 1 ≡ first + c.span.pages))
    -- it ends with none exactly where nothing fits, after the load of the last page
    pub none : (n : ℕ) → EndsWithNone n ↔ (((first : ℕ) → ¬ FitsAt first) × (n + 1 ≡ l.pages))

abbrev pub FirstFitIsFound : Type 0
FirstFitIsFound = (l : Layout) (seat generation : ℕ) (span : Span) (found : ℕ → ℕ) → 1 ≤ span.pages → FindsFirstFit l (opening seat generation span) found
