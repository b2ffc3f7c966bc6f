-- The words that hold more than one number.
use Rattle.std.specs.Prelude.{◌≡◌, ℕ, ◌+◌, ◌-◌, ◌*◌, ◌/◌, ◌%◌, ◌^◌, ◌<◌, ◌≤◌, max, Bool, false, ◌==◌, nat_lt, nat_le, if◌then◌else◌}
use Rattle.gh_base.specs.declared.pack.SpanHead.{SpanHead}
use Rattle.gh_base.specs.declared.pack.SpanBody.{SpanBody}
use Rattle.gh_base.specs.declared.pack.PageWord.{PageWord}
use Rattle.gh_base.specs.declared.pack.PageWord.TheVariants.{Free, Head, Body}
use Rattle.gh_base.specs.declared.pack.BufferWord.{BufferWord}
use Rattle.gh_base.specs.declared.pack.Phase.{Phase}
use Rattle.gh_base.specs.declared.pack.Phase.TheVariants.{Off, Mark, Stop, Finished}
use Rattle.gh_base.specs.declared.pack.PhaseWord.{PhaseWord}
use Rattle.gh_base.specs.declared.pack.TallyWord.{TallyWord}
use Rattle.gh_base.specs.declared.value.Name.{Name}
use Rattle.gh_base.specs.declared.pack.TheConstants.{LARGE}
use Rattle.gh_class.specs.declared.class.SizeClass.{SizeClass}
use Rattle.gh_class.specs.declared.class.SizeClass.TheVariants.{Small, Large}
use Rattle.gh_class.specs.Classes.{IsSizeClass, slot_words_of}

abbrev pub bit : Bool → ℕ
bit b = if b then 1 else 0

-- the size class by its number, the first where there is none such
abbrev pub class_numbered : ℕ → SizeClass
class_numbered n = if n == LARGE then Large else if nat_lt n 25 then Small n else Small 0

-- the size class in a page word
abbrev pub class_in : ℕ → SizeClass
class_in word = class_numbered (word / 4 % 64)

-- the number of a size class in a page word
abbrev pub class_bits : SizeClass → ℕ
class_bits (Small c) = c
class_bits Large = LARGE

-- the pages or the distance in a page word, 1 at least
abbrev pub pages_in : ℕ → ℕ
pages_in word = max (word / 512 % 8192) 1

abbrev pub noscan_in : ℕ → Bool
noscan_in word = word / 256 % 2 == 1

abbrev pub head_of : ℕ → SpanHead
head_of word = record { class = class_in word; noscan = noscan_in word; pages = pages_in word; owner = word / 2 ^ 22 % 256; number = word / 2 ^ 30 }

abbrev pub body_of : ℕ → SpanBody
body_of word = record { class = class_in word; noscan = noscan_in word; distance = pages_in word }

-- what a page word says
abbrev pub page_of : ℕ → PageWord
page_of word = if word % 4 == 1 then Head (head_of word) else if word % 4 == 2 then Body (body_of word) else Free

abbrev pub head_word : SpanHead → ℕ
head_word h = 1 + 4 * class_bits h.class + 256 * bit h.noscan + 512 * h.pages + 2 ^ 22 * h.owner + 2 ^ 30 * h.number

abbrev pub body_word : SpanBody → ℕ
body_word b = 2 + 4 * class_bits b.class + 256 * bit b.noscan + 512 * b.distance

-- the word of a page; a free page's is 0
abbrev pub page_word : PageWord → ℕ
page_word Free = 0
page_word (Head h) = head_word h
page_word (Body b) = body_word b

pub record FitsHead (h : SpanHead) : Type 0 where
  pub class : IsSizeClass h.class
  pub some : 1 ≤ h.pages
  pub pages : h.pages < 2 ^ 13
  pub owner : h.owner < 2 ^ 8
  pub number : h.number < 2 ^ 34

pub record FitsBody (b : SpanBody) : Type 0 where
  pub class : IsSizeClass b.class
  pub some : 1 ≤ b.distance
  pub distance : b.distance < 2 ^ 13

-- each number fits its bits
abbrev pub FitsPage : PageWord → Type 0
FitsPage Free = Unit {0}
FitsPage (Head h) = FitsHead h
FitsPage (Body b) = FitsBody b

abbrev pub page_class : PageWord → SizeClass
page_class Free = Small 0
page_class (Head h) = h.class
page_class (Body b) = b.class

abbrev pub page_noscan : PageWord → Bool
page_noscan Free = false
page_noscan (Head h) = h.noscan
page_noscan (Body b) = b.noscan

abbrev pub page_pages : PageWord → ℕ
page_pages Free = 1
page_pages (Head h) = h.pages
page_pages (Body b) = 1

-- the words of the slots of a span of so many pages: of its class, or of the whole span
abbrev pub slot_for : SizeClass → (pages : ℕ) → ℕ
slot_for (Small c) pages = slot_words_of c
slot_for Large pages = 1024 * pages

-- the words of the slot of an object whose first word is in such a page
abbrev pub slot_in : PageWord → ℕ
slot_in page = slot_for (page_class page) (page_pages page)

-- what a buffer word says; a count above 253 is read as 0
abbrev pub buffer_of : ℕ → BufferWord
buffer_of word = record { count = (if nat_le (word % 256) 253 then word % 256 else 0); holder = word / 256 }

abbrev pub buffer_word : BufferWord → ℕ
buffer_word b = b.count + 256 * b.holder

pub record FitsBuffer (b : BufferWord) : Type 0 where
  pub count : b.count ≤ 253
  pub holder : b.holder < 2 ^ 56

-- the name in a birth word, of goroutine 0 where there is no such goroutine
abbrev pub name_of : ℕ → ℕ → Name
name_of goroutines word = let g = word / 2 ^ 32 - 1 in record { g = (if nat_lt g goroutines then g else 0); k = word % 2 ^ 32 }

abbrev pub birth_word : Name → ℕ
birth_word n = (n.g + 1) * 2 ^ 32 + n.k

abbrev pub kind_of_phase : Phase → ℕ
kind_of_phase Off = 0
kind_of_phase Mark = 1
kind_of_phase Stop = 2
kind_of_phase Finished = 3

abbrev pub phase_of_kind : ℕ → Phase
phase_of_kind kind = if kind == 0 then Off else if kind == 1 then Mark else if kind == 2 then Stop else Finished

abbrev pub phase_of : ℕ → PhaseWord
phase_of word = record { stops = word / 4; phase = phase_of_kind (word % 4) }

abbrev pub phase_word : PhaseWord → ℕ
phase_word p = 4 * p.stops + kind_of_phase p.phase

abbrev pub FitsPhase : PhaseWord → Type 0
FitsPhase p = p.stops < 2 ^ 62

abbrev pub tally_of : ℕ → TallyWord
tally_of word = record { marked = word % 2 ^ 32; freed = word / 2 ^ 32 }

abbrev pub tally_word : TallyWord → ℕ
tally_word t = t.marked + 2 ^ 32 * t.freed

-- what is packed is read back, where each number fits its bits; and what is read of a word fits
pub record PackedWordsAreReadBack : Type 0 where
  pub page : (p : PageWord) → FitsPage p → page_of (page_word p) ≡ p
  pub birth : (goroutines : ℕ) (n : Name) → n.g < goroutines → n.k < 2 ^ 32 → name_of goroutines (birth_word n) ≡ n
  pub buffer : (b : BufferWord) → FitsBuffer b → buffer_of (buffer_word b) ≡ b
  pub phase : (p : PhaseWord) → phase_of (phase_word p) ≡ p
  pub tally : (t : TallyWord) → t.marked < 2 ^ 32 → tally_of (tally_word t) ≡ t
  pub page_reads : (word : ℕ) → word < 2 ^ 64 → FitsPage (page_of word)
