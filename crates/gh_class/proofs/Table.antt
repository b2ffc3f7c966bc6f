-- What holds of the whole table: each law is a test that is computed at every class.
use Rattle.std.proofs.Common.{◌≡◌, ℕ, zero, suc, ◌+◌, ◌*◌, ◌/◌, ◌%◌, ◌<◌, ◌≤◌, ◌⊎◌, Bool, true, false, ◌&&◌, Option, Some, None, position, cond, nat_lt, nat_le, nat_eq, refl, sym, ap, ◌∙◌, inl, inr, arith}
use Rattle.std.proofs.lemmas.Bool.{cases_lt, ltb-true, ltb-false, leb-true, leb-false, eqb-true, le-leb, lt-leb}
use Rattle.std.proofs.lemmas.List.Sums.{fails_before_first, passes_at_first}
use Rattle.std.proofs.lemmas.List.Quantifiers.{position-Some}
use Rattle.std.specs.List.{position_or_len}
use Rattle.gh_class.specs.Classes.{slot_sizes, page_counts, slot_of, pages_of, slots_of, IsClassOf, class_number, large_pages, size_class_of, slot_words}
use Rattle.gh_class.specs.declared.class.SizeClass.TheVariants.{Small, Large}
use Rattle.gh_class.specs.declared.class.TheConstants.{MOST_TYPE_WORDS}

-- ---- a test of each number below another

abbrev below : ℕ → (ℕ → Bool) → Bool
below zero p = true
below (suc n) p = p n && below n p

and_left : (a b : Bool) → (a && b) ≡ true → a ≡ true
and_left true b e = refl
and_left false b e = e

and_right : (a b : Bool) → (a && b) ≡ true → b ≡ true
and_right true b e = e
and_right false b e = cc

at_step : (n c : ℕ) (p : ℕ → Bool) → p n ≡ true → ((d : ℕ) → d < n → p d ≡ true) → c < suc n → (c < n) ⊎ (n ≤ c) → p c ≡ true
at_step n c p here lower h (inl lt) = lower c lt
at_step n c p here lower h (inr ge) =
    let same : c ≡ n = omega arith in
    ap p same ∙ here

below_at : (n : ℕ) (p : ℕ → Bool) → below n p ≡ true → (c : ℕ) → c < n → p c ≡ true
below_at zero p e c h = absurd (omega arith)
below_at (suc n) p e c h =
    at_step n c p (and_left (p n) (below n p) e) (below_at n p (and_right (p n) (below n p) e)) h (cases_lt c n)

-- ---- the table

rises_tested : below 25 (λ d. below d (λ c. nat_lt (slot_of c) (slot_of d))) ≡ true
unfolding slot_of slot_sizes
rises_tested = refl

pub slots_rise : (c d : ℕ) → c < d → d < 25 → slot_of c < slot_of d
slots_rise c d h k =
    ltb-true _ _ (below_at d (λ c. nat_lt (slot_of c) (slot_of d)) (below_at 25 (λ d. below d (λ c. nat_lt (slot_of c) (slot_of d))) rises_tested d k) c h)

least_tested : below 25 (λ c. nat_le 8 (slot_of c)) ≡ true
unfolding slot_of slot_sizes
least_tested = refl

-- a slot has at least 8 bytes
pub slot_of-least : (c : ℕ) → c < 25 → 8 ≤ slot_of c
slot_of-least c h = leb-true _ _ (below_at 25 (λ c. nat_le 8 (slot_of c)) least_tested c h)

greatest_tested : below 25 (λ c. nat_le (slot_of c) 32768) ≡ true
unfolding slot_of slot_sizes
greatest_tested = refl

-- a slot has at most 32,768 bytes
pub slot_of-greatest : (c : ℕ) → c < 25 → slot_of c ≤ 32768
slot_of-greatest c h =
    leb-true _ _ (below_at 25 (λ c. nat_le (slot_of c) 32768) greatest_tested c h)

words_tested : below 25 (λ c. nat_eq (slot_of c % 8) 0) ≡ true
unfolding slot_of slot_sizes
words_tested = refl

-- a slot is whole words
pub slot_of-words : (c : ℕ) → c < 25 → slot_of c % 8 ≡ 0
slot_of-words c h = eqb-true _ _ (below_at 25 (λ c. nat_eq (slot_of c % 8) 0) words_tested c h)

pages_least_tested : below 25 (λ c. nat_le 1 (pages_of c)) ≡ true
unfolding pages_of page_counts
pages_least_tested = refl

-- a span has at least one page
pub pages_of-least : (c : ℕ) → c < 25 → 1 ≤ pages_of c
pages_of-least c h = leb-true _ _ (below_at 25 (λ c. nat_le 1 (pages_of c)) pages_least_tested c h)

pages_greatest_tested : below 25 (λ c. nat_le (pages_of c) 4) ≡ true
unfolding pages_of page_counts
pages_greatest_tested = refl

-- a span of a class has at most four pages
pub pages_of-greatest : (c : ℕ) → c < 25 → pages_of c ≤ 4
pages_of-greatest c h =
    leb-true _ _ (below_at 25 (λ c. nat_le (pages_of c) 4) pages_greatest_tested c h)

fit_tested : below 25 (λ c. nat_le (slots_of c * slot_of c) (8192 * pages_of c)) ≡ true
unfolding slots_of slot_of slot_sizes pages_of page_counts
fit_tested = refl

-- the slots fit the span
pub slots_fit : (c : ℕ) → c < 25 → slots_of c * slot_of c ≤ 8192 * pages_of c
slots_fit c h =
    leb-true _ _ (below_at 25 (λ c. nat_le (slots_of c * slot_of c) (8192 * pages_of c)) fit_tested c h)

full_tested : below 25 (λ c. nat_lt (8192 * pages_of c) ((slots_of c + 1) * slot_of c)) ≡ true
unfolding slots_of slot_of slot_sizes pages_of page_counts
full_tested = refl

-- no further slot fits the span
pub slots_full : (c : ℕ) → c < 25 → 8192 * pages_of c < (slots_of c + 1) * slot_of c
slots_full c h =
    ltb-true _ _ (below_at 25 (λ c. nat_lt (8192 * pages_of c) ((slots_of c + 1) * slot_of c)) full_tested c h)

slots_least_tested : below 25 (λ c. nat_le 1 (slots_of c)) ≡ true
unfolding slots_of slot_of slot_sizes pages_of page_counts
slots_least_tested = refl

-- a span has a slot
pub slots_of-least : (c : ℕ) → c < 25 → 1 ≤ slots_of c
slots_of-least c h = leb-true _ _ (below_at 25 (λ c. nat_le 1 (slots_of c)) slots_least_tested c h)

slots_greatest_tested : below 25 (λ c. nat_le (slots_of c) 1024) ≡ true
unfolding slots_of slot_of slot_sizes pages_of page_counts
slots_greatest_tested = refl

-- a span has at most 1024 slots
pub slots_of-greatest : (c : ℕ) → c < 25 → slots_of c ≤ 1024
slots_of-greatest c h =
    leb-true _ _ (below_at 25 (λ c. nat_le (slots_of c) 1024) slots_greatest_tested c h)

-- ---- the class of an object

-- the first class whose slot holds so many bytes
first_class : ℕ → ℕ
first_class bytes = position_or_len (λ slot. nat_le bytes slot) slot_sizes

is_first_class : (bytes : ℕ) → class_number bytes ≡ first_class bytes
unfolding class_number first_class
is_first_class bytes = refl

-- a small object's class is one of the table's, and a large one's is not
pub size_class_small : (words : ℕ) → 8 * words ≤ 32768 → size_class_of words ≡ Small (class_number (8 * words))
size_class_small words h =
    let test : nat_le (8 * words) 32768 ≡ true = le-leb (8 * words) 32768 h in
    rw test refl

pub size_class_large : (words : ℕ) → 32768 < 8 * words → size_class_of words ≡ Large
size_class_large words h =
    let test : nat_le (8 * words) 32768 ≡ false = lt-leb (8 * words) 32768 h in
    rw test refl

too_small : (bytes d : ℕ) → d < first_class bytes → slot_of d < bytes
unfolding first_class slot_of
too_small bytes d h = leb-false _ _ (fails_before_first (λ slot. nat_le bytes slot) slot_sizes d 0 h)

large_enough : (bytes : ℕ) → first_class bytes < 25 → bytes ≤ slot_of (first_class bytes)
unfolding first_class slot_of slot_sizes
large_enough bytes h = leb-true _ _ (passes_at_first (λ slot. nat_le bytes slot) slot_sizes 0 h)

last_slot : slot_of 24 ≡ 32768
unfolding slot_of slot_sizes
last_slot = refl

first_class-small : (bytes : ℕ) → bytes ≤ 32768 → (first_class bytes < 25) ⊎ (25 ≤ first_class bytes) → first_class bytes < 25
first_class-small bytes h (inl lt) = lt
first_class-small bytes h (inr ge) = absurd (omega (arith, too_small bytes 24 (omega arith), last_slot))

first_class-is : (bytes : ℕ) → bytes ≤ 32768 → IsClassOf bytes (first_class bytes)
first_class-is bytes h =
    let small = first_class-small bytes h (cases_lt (first_class bytes) 25) in
    record { among = small; holds = large_enough bytes small; least = too_small bytes }

pub class_number-is : (bytes : ℕ) → bytes ≤ 32768 → IsClassOf bytes (class_number bytes)
class_number-is bytes h = rw (is_first_class bytes) (first_class-is bytes h)

-- an object has one class
pub IsClassOf-unique : (bytes c d : ℕ) → IsClassOf bytes c → IsClassOf bytes d → c ≡ d
IsClassOf-unique bytes c d p q = by_order (cases_lt c d) (cases_lt d c) where
  by_order : (c < d) ⊎ (d ≤ c) → (d < c) ⊎ (c ≤ d) → c ≡ d
  by_order (inl lt) o = absurd (omega (arith, p.holds, q.least c lt))
  by_order (inr ge) (inl lt) = absurd (omega (arith, q.holds, p.least d lt))
  by_order (inr ge) (inr le) = omega arith

-- ---- the search for a class

place-Some : (bytes n : ℕ) → position (λ slot. nat_le bytes slot) slot_sizes ≡ Some n → IsClassOf bytes n
unfolding slot_of slot_sizes
place-Some bytes n e =
    let found = position-Some (λ slot. nat_le bytes slot) slot_sizes n 0 e in
    record {
      among = found.0;
      holds = leb-true _ _ found.1;
      least = λ d h. leb-false _ _ (found.2 d h);
    }

-- what the search found is the least class
pub place_is_class : (bytes n : ℕ) (r : Option ℕ) → r ≡ position (λ slot. nat_le bytes slot) slot_sizes → r ≡ Some n → IsClassOf bytes n
place_is_class bytes n r p e = place-Some bytes n (sym p ∙ e)

-- a class holds at most 32,768 bytes
pub IsClassOf-small : (bytes c : ℕ) → IsClassOf bytes c → bytes ≤ 32768
IsClassOf-small bytes c p = omega (arith, p.holds, slot_of-greatest c p.among)

pub IsClassOf-number : (bytes c : ℕ) → IsClassOf bytes c → c ≡ class_number bytes
IsClassOf-number bytes c p =
    IsClassOf-unique bytes c (class_number bytes) p (class_number-is bytes (IsClassOf-small bytes c p))

none_past : (b : Bool) (n : ℕ) → cond b (Some n) None ≡ None → b ≡ false
none_past true n e = cc
none_past false n e = refl

past_all : (bytes : ℕ) → position (λ slot. nat_le bytes slot) slot_sizes ≡ None → 25 ≤ first_class bytes
unfolding first_class slot_sizes
past_all bytes e = ltb-false _ _ (none_past _ _ e)

-- where the search finds nothing there are too many bytes
pub no_place : (bytes : ℕ) (r : Option ℕ) → r ≡ position (λ slot. nat_le bytes slot) slot_sizes → r ≡ None → 32768 < bytes
no_place bytes r p e =
    let past = past_all bytes (sym p ∙ e) in
    omega (arith, too_small bytes 24 (omega arith), last_slot)

-- ---- the slot of an object

pub slot_words_small : (words : ℕ) → 8 * words ≤ 32768 → slot_words words ≡ slot_of (class_number (8 * words)) / 8
unfolding slot_words
slot_words_small words h =
    let test : nat_le (8 * words) 32768 ≡ true = le-leb (8 * words) 32768 h in
    rw test refl

pub slot_words_large : (words : ℕ) → 32768 < 8 * words → slot_words words ≡ 1024 * large_pages words
unfolding slot_words
slot_words_large words h =
    let test : nat_le (8 * words) 32768 ≡ false = lt-leb (8 * words) 32768 h in
    rw test refl

pub large_pages_hold : (words : ℕ) → words ≤ 1024 * large_pages words
unfolding large_pages
large_pages_hold words = omega arith

pub large_pages-fewest : (words : ℕ) → 1024 * large_pages words ≤ words + 1023
unfolding large_pages
large_pages-fewest words = omega arith

holds_by : (words : ℕ) → (8 * words ≤ 32768) ⊎ (32768 < 8 * words) → words ≤ slot_words words
holds_by words (inl le) =
    omega (arith, slot_words_small words le, (class_number-is (8 * words) le).holds)
holds_by words (inr gt) = omega (arith, slot_words_large words gt, large_pages_hold words)

small_or_large : (m : ℕ) → (m ≤ 32768) ⊎ (32768 < m)
small_or_large m = swapped (cases_lt 32768 m) where
  swapped : (32768 < m) ⊎ (m ≤ 32768) → (m ≤ 32768) ⊎ (32768 < m)
  swapped (inl gt) = inr gt
  swapped (inr le) = inl le

-- an object fits its slot
pub slot_words_hold : (words : ℕ) → words ≤ slot_words words
slot_words_hold words = holds_by words (small_or_large (8 * words))

bound_by : (words : ℕ) → words ≤ MOST_TYPE_WORDS → (8 * words ≤ 32768) ⊎ (32768 < 8 * words) → slot_words words ≤ MOST_TYPE_WORDS
bound_by words h (inl le) =
    omega (arith, slot_words_small words le, slot_of-greatest _ (class_number-is (8 * words) le).among)
bound_by words h (inr gt) =
    omega (arith, slot_words_large words gt, large_pages-fewest words)

-- the slot of an object of at most 65,536 words has at most as many
pub slot_words-bound : (words : ℕ) → words ≤ MOST_TYPE_WORDS → slot_words words ≤ MOST_TYPE_WORDS
slot_words-bound words h = bound_by words h (small_or_large (8 * words))
