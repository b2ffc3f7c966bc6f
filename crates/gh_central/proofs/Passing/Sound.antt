-- The page that the pass is at stays one of the arena, and its steps lie in the heap.
use Rattle.std.proofs.Common.{ℕ, ◌^◌, ◌<◌, arith, ℕ, ◌^◌, ◌<◌, arith}
use Rattle.gh_central.proofs.Vocabulary.{after_bits, after_page, FitsHead, FitsPage, goes_at, IsRoutine, IsStage, Layout, listing, mod-lt, nat_tests, PackedWordsAreReadBack, PageWord, Pass, PassStage, SpanHead}

module _ (l : Layout) (m : Pass) where
  page_kept : (page : ℕ) (w : PageWord) → page < l.pages → FitsPage w → IsStage l (after_page l m page w)
  page_kept page w here f = grind (arith, nat_tests)

  bits_kept : (page : ℕ) (h : SpanHead) (i found : ℕ) → page < l.pages → FitsHead h → IsStage l (after_bits l m page h i found)
  bits_kept page h i found here f = grind (arith, nat_tests)

  pub keeps_at : PackedWordsAreReadBack → (p : PassStage) (found : ℕ) → found < 2 ^ 64 → IsStage l p → IsStage l (goes_at l m p found)
  keeps_at packed p found w h = grind (arith, bits_kept, page_kept)

pub is_routine : PackedWordsAreReadBack → (l : Layout) → IsRoutine l (listing l)
is_routine packed l = let fit = l.limits.pages_fit.0 in grind (arith, keeps_at, mod-lt)
