-- What the pass finds out of a page word, and what a step of its sweep leaves.
use Rattle.std.proofs.Common.{◌≡◌, ◌≢◌, ℕ, ◌≤◌, true, arith}
use Rattle.gh_unswept.proofs.Vocabulary.{Head, is_unswept, IsWantedUnswept, Layout, Load, Page, page_of, pages_gone, SpanHead, Sweeping, Unswept}
use Rattle.gh_sweep.specs.Listing.{asks, goes}

-- A head is tested.

pub wanted_means : (m : Unswept) (h : SpanHead) → is_unswept m h ≡ true → IsWantedUnswept m h
wanted_means m h e = grind arith

pub wanted_is : (m : Unswept) (h : SpanHead) → IsWantedUnswept m h → is_unswept m h ≡ true
wanted_is m h w = grind arith

-- Whatever a page word is, the pass goes past some pages.

pub some_pages : (word : ℕ) (h : SpanHead) → page_of word ≡ Head h → 1 ≤ h.pages
some_pages word h e = grind arith

pub some_gone : (word : ℕ) → 1 ≤ pages_gone (page_of word)
some_gone word = grind arith

-- A sweep loads no page word, and stays with its span.

pub no_page_loaded : (l : Layout) (s : Sweeping) (page : ℕ) → asks l s ≢ Load (Page page)
no_page_loaded l s page = grind arith

pub stays : (s : Sweeping) (found : ℕ) → ((goes s found).page ≡ s.page) × ((goes s found).head ≡ s.head)
stays s found = grind arith
