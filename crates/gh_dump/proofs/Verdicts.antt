-- Each text is accepted once or refused once, and never both.
use Rattle.std.proofs.Common.{◌≡◌, ℕ, zero, suc, ◌+◌, ◌<◌, ◌⊎◌, ◌==◌, ◌&&◌, Bool, true, false, cond, List, length, take, Option, Some, None, refl, sym, ap, ◌∙◌, arith, inl, inr}
use Rattle.std.proofs.lemmas.Bool.{cases_lt}
use Rattle.std.proofs.lemmas.Bool.Decides.{nat_tests}
use Rattle.std.proofs.lemmas.Option.{same_Some, slice_get_past}
use Rattle.gh_dump.specs.Causes.{cause_of, is_parent_fault, is_total_fault, is_twice_fault, is_unknown_fault, is_word_fault}
use Rattle.gh_dump.specs.Certificate.{CertifiesReach}
use Rattle.gh_dump.specs.Items.{items_of}
use Rattle.gh_dump.specs.Listing.{objects_listed}
use Rattle.gh_dump.specs.Verdict.{Accepts, cause_at, end_cause, Faults, line_cause, own_cause}
use Rattle.gh_dump.specs.Vocabulary.{DumpWhy, Item, option_and_then, option_or, slice_get}
use Rattle.gh_dump.specs.declared.fault.DumpWhy.TheVariants as why
use Rattle.gh_dump.proofs.Certified.{certifies, Right}

neither : (a b : Option DumpWhy) → option_or a b ≡ None → (a ≡ None) × (b ≡ None)
neither None b h = (refl, h)
neither (Some w) b h = absurd (cc)

none_of : (a b c d e : Bool) → cond a (Some why.Word) (cond b (Some why.Twice) (cond c (Some why.Unknown) (cond d (Some why.Parent) (cond e (Some why.Total) None)))) ≡ None
    → (b ≡ false) × (c ≡ false) × (d ≡ false)
none_of true b c d e h = absurd (cc)
none_of false true c d e h = absurd (cc)
none_of false false true d e h = absurd (cc)
none_of false false false true e h = absurd (cc)
none_of false false false false e h = (refl, refl, refl)

-- a line without a cause has none of the causes
line_right : (whole before : List (Option Item)) (line : Option Item) → cause_of whole before line ≡ None
    → (is_twice_fault before line ≡ false) × (is_unknown_fault whole line ≡ false) × (is_parent_fault whole line ≡ false)
unfolding cause_of
line_right whole before line h = none_of (is_word_fault before line) (is_twice_fault before line) (is_unknown_fault whole line) (is_parent_fault whole line) (is_total_fault whole line) h

line_none : (text : List ℕ) (i : ℕ) (line : Option Item) → cause_at text (suc i) ≡ None → slice_get (items_of text) i ≡ Some line → cause_of (items_of text) (take i (items_of text)) line ≡ None
unfolding cause_at own_cause
line_none text i line h e =
    let none : line_cause (items_of text) i ≡ None = (neither (line_cause (items_of text) i) (end_cause (items_of text) (suc i)) h).0 in
    sym (ap (option_and_then (cause_of (items_of text) (take i (items_of text)))) e) ∙ none

pub right_lines : (text : List ℕ) → ((line : ℕ) → cause_at text line ≡ None) → Right (items_of text)
right_lines text none = record {
  twice = λ i line e. (line_right (items_of text) (take i (items_of text)) line (line_none text i line (none (suc i)) e)).0;
  unknown = λ i line e. (line_right (items_of text) (take i (items_of text)) line (line_none text i line (none (suc i)) e)).1;
  parent = λ i line e. (line_right (items_of text) (take i (items_of text)) line (line_none text i line (none (suc i)) e)).2;
}

pub accepted_certifies : (text : List ℕ) (n : ℕ) → Accepts text n → CertifiesReach (items_of text) n
accepted_certifies text n a = certifies (items_of text) n (right_lines text a.right) a.count

-- ---- one verdict

-- behind the last line nothing has a cause
pub past : (text : List ℕ) (n : ℕ) → length (items_of text) < n → cause_at text n ≡ None
unfolding cause_at own_cause
past text zero h = absurd (omega arith)
past text (suc i) h =
    let none : slice_get (items_of text) i ≡ None = slice_get_past (items_of text) i (omega arith) in
    rw none (ends (suc i) (length (items_of text)) _ h) where
      ends : (n len : ℕ) (b : Bool) → len < n → cond ((n == len) && b) (Some why.Total) None ≡ None
      ends n len b lt = grind (arith, nat_tests)

-- below n nothing has a cause, or there is a first that has one
first_below : (f : ℕ → Option DumpWhy) (n : ℕ) → ((m : ℕ) → m < n → f m ≡ None) ⊎ ((m : ℕ) × (w : DumpWhy) × (f m ≡ Some w) × ((k : ℕ) → k < m → f k ≡ None))
first_below f zero = inl (λ m h. absurd (omega arith))
first_below f (suc n) = elim (first_below f n) [
  | inr r ↦ inr r
  | inl none ↦ go (f n) refl none
] where
  go : (o : Option DumpWhy) → f n ≡ o → ((m : ℕ) → m < n → f m ≡ None) → ((m : ℕ) → m < suc n → f m ≡ None) ⊎ ((m : ℕ) × (w : DumpWhy) × (f m ≡ Some w) × ((k : ℕ) → k < m → f k ≡ None))
  go (Some w) e none = inr (n, w, e, none)
  go None e none = inl (λ m h. elim (cases_lt m n) [ inl lt ↦ none m lt | inr le ↦ (let same : m ≡ n = omega arith in ap f same ∙ e) ])

pub some_verdict : (text : List ℕ) → ((n : ℕ) × Accepts text n) ⊎ ((line : ℕ) × (w : DumpWhy) × Faults text line w)
some_verdict text = elim (first_below (cause_at text) (length (items_of text) + 1)) [
  | inl none ↦ inl (objects_listed (items_of text), record { right = λ line. elim (cases_lt line (length (items_of text) + 1)) [ inl lt ↦ none line lt | inr le ↦ past text line (omega arith) ]; count = refl })
  | inr f ↦ inr (f.0, f.1, record { cause = f.2; first = f.3 })
]

pub not_both : (text : List ℕ) (n line : ℕ) (w : DumpWhy) → Accepts text n → Faults text line w → ⊥
not_both text n line w a f =
    let none : cause_at text line ≡ None = a.right line in
    let some : cause_at text line ≡ Some w = f.cause in
    cc

pub one_count : (text : List ℕ) (m n : ℕ) → Accepts text m → Accepts text n → m ≡ n
one_count text m n a b = a.count ∙ sym b.count

not_before : (text : List ℕ) (m n : ℕ) (v w : DumpWhy) → m < n → Faults text m v → Faults text n w → ⊥
not_before text m n v w lt f g =
    let none : cause_at text m ≡ None = g.first m lt in
    let some : cause_at text m ≡ Some v = f.cause in
    cc

one_line : (text : List ℕ) (m n : ℕ) (v w : DumpWhy) → Faults text m v → Faults text n w → m ≡ n
one_line text m n v w f g = elim (cases_lt m n) [
  | inl lt ↦ absurd (not_before text m n v w lt f g)
  | inr le ↦ elim (cases_lt n m) [
    | inl lt ↦ absurd (not_before text n m w v lt g f)
    | inr ge ↦ omega arith
  ]
]

pub one_fault : (text : List ℕ) (m n : ℕ) (v w : DumpWhy) → Faults text m v → Faults text n w → (m ≡ n) × (v ≡ w)
one_fault text m n v w f g =
    let same : m ≡ n = one_line text m n v w f g in
    (same, same_Some v w (sym f.cause ∙ ap (cause_at text) same ∙ g.cause))
