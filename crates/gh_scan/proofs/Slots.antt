-- A slot has a word, whatever page word is found.
use Rattle.std.proofs.Common.{ℕ, ◌<◌, ◌≤◌, arith}
use Rattle.gh_scan.proofs.Vocabulary.{FitsPage, PageWord, slot_in, slot_of}

module _ (least : (c : ℕ) → c < 25 → 8 ≤ slot_of c) where
  pub some_word : (page : PageWord) → FitsPage page → 1 ≤ slot_in page
  some_word page fits = grind arith
