-- The store that gives a span back changes the head's owner alone.
use Rattle.std.proofs.Common.{ℕ, ◌<◌, ◌^◌, lit<, sym, ap, ◌∙◌}
use Rattle.gh_central.proofs.Vocabulary.{CellsAreTold, ChangesTheOwner, FitsHead, Head, head_word, owned_by, PackedWordsAreReadBack, Page, page_of, SpanHead, Store, Words}
use Rattle.gh_central.specs.GiveBack as giving

module _ (packed : PackedWordsAreReadBack) (told : CellsAreTold) where
  changes : (page : ℕ) (h : SpanHead) (owner : ℕ) (words : Words) → FitsHead h → owner < 2 ^ 8 → ChangesTheOwner page h owner (Store (Page page) (head_word (owned_by owner h))) words
  changes page h owner words f low = record {
    head = ap page_of (told.put_here words (Page page) (head_word (owned_by owner h))) ∙ packed.page (Head (owned_by owner h)) (record { class = f.class; some = f.some; pages = f.pages; owner = low; number = f.number });
    others = λ cell other. told.put_elsewhere words (Page page) cell (head_word (owned_by owner h)) (λ e. other (sym e));
  }

  pub giving_back : (page : ℕ) (h : SpanHead) (words : Words) → FitsHead h → ChangesTheOwner page h 0 (giving.asks (giving.opening page h)) words
  giving_back page h words f = changes page h 0 words f (lit< tt)
