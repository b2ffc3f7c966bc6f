-- Whatever a page word is, the pass goes past some pages, and past few.
use Rattle.std.proofs.Common.{◌≡◌, ℕ, ◌≤◌, arith}
use Rattle.gh_central.proofs.Vocabulary.{Head, page_of, pages_gone, SpanHead}

pub some_pages : (word : ℕ) (h : SpanHead) → page_of word ≡ Head h → 1 ≤ h.pages
some_pages word h e = grind arith

pub some_gone : (word : ℕ) → 1 ≤ pages_gone (page_of word)
some_gone word = grind arith
