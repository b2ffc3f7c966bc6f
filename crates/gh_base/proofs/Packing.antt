-- What is packed is read back, and fits a word.
use Rattle.std.proofs.Common.{◌≡◌, ℕ, ◌^◌, ◌<◌, arith, refl}
use Rattle.gh_base.proofs.Vocabulary.{birth_word, buffer_of, buffer_word, FitsBuffer, FitsPage, name_of, nat_tests, PackedWordsAreReadBack, page_of, page_word, phase_of, phase_word, tally_of, tally_word}
use Rattle.gh_base.specs.declared.pack.PageWord.{PageWord}
use Rattle.gh_base.specs.declared.pack.PageWord.TheVariants.{Free, Head, Body}
use Rattle.gh_base.specs.declared.pack.BufferWord.{BufferWord}
use Rattle.gh_base.specs.declared.pack.PhaseWord.{PhaseWord}
use Rattle.gh_base.specs.declared.pack.TallyWord.{TallyWord}
use Rattle.gh_base.specs.declared.value.Name.{Name}

pub page_of-page_word : (p : PageWord) → FitsPage p → page_of (page_word p) ≡ p
page_of-page_word Free f = refl
page_of-page_word (Head h) f = grind (arith, nat_tests)
page_of-page_word (Body b) f = grind (arith, nat_tests)

pub buffer_of-buffer_word : (b : BufferWord) → FitsBuffer b → buffer_of (buffer_word b) ≡ b
buffer_of-buffer_word b f = grind (arith, nat_tests)

pub name_of-birth_word : (goroutines : ℕ) (n : Name) → n.g < goroutines → n.k < 2 ^ 32 → name_of goroutines (birth_word n) ≡ n
name_of-birth_word goroutines n g k = grind (arith, nat_tests)

pub phase_of-phase_word : (p : PhaseWord) → phase_of (phase_word p) ≡ p
phase_of-phase_word p = grind arith

pub tally_of-tally_word : (t : TallyWord) → t.marked < 2 ^ 32 → tally_of (tally_word t) ≡ t
tally_of-tally_word t m = grind (arith, nat_tests)

-- what is read of a page word fits
page_reads : (word : ℕ) → word < 2 ^ 64 → FitsPage (page_of word)
page_reads word h = grind arith

pub read_back : PackedWordsAreReadBack
read_back = grind (arith, buffer_of-buffer_word, name_of-birth_word, page_of-page_word, page_reads, phase_of-phase_word, tally_of-tally_word)
