-- Where an object stands its slot lies in the arena, and the bytes of the slot are those that the page words say; and the names of the alloc bits that are set.
use Rattle.std.proofs.Common.{◌≡◌, ◌≢◌, ℕ, ◌+◌, ◌*◌, ◌<◌, ◌≤◌, ◌⊎◌, Bool, true, false, cond, refl, sym, ap, ◌∙◌, arith, ◌/◌, ◌%◌}
use Rattle.std.proofs.lemmas.Bool.{eqb-true}
use Rattle.gh_law.proofs.Vocabulary.{alloc_words, FitsClass, is_own_class, is_set, IsMade, IsPlacedAt, IsSizeClass, IsSlotOf, Name, number_of_class, pages_of, Row, row_bit, SizeClass, slot_bytes, slot_bytes_of, slot_count, slot_of, slot_row, slot_size, slots_of, SlotsAreRead, SpanHead, Words}

-- what the table of size classes says
pub record Classes : Type 0 where
  pub least_slot : (c : ℕ) → c < 25 → 8 ≤ slot_of c
  pub fit : (c : ℕ) → c < 25 → slots_of c * slot_of c ≤ 8192 * pages_of c
  pub whole_words : (c : ℕ) → c < 25 → slot_of c % 8 ≡ 0

-- as many slots as lie before, and one more, lie in the span
pub record Lies (pages i slot bytes : ℕ) : Type 0 where
  pub some : 1 ≤ slot
  pub within : i * slot + slot ≤ 1024 * pages
  pub bytes_are : bytes ≡ 8 * slot

slots_up : (i s z : ℕ) → i < s → i * z + z ≤ s * z
slots_up i s z lt = grind arith

module _ (classes : Classes) where
  small_lies : (c pages i : ℕ) → c < 25 → pages ≡ pages_of c → i < slots_of c → Lies pages i (slot_of c / 8) (slot_of c)
  small_lies c pages i lt is inside =
      let least = classes.least_slot c lt in
      let fit = classes.fit c lt in
      let whole = classes.whole_words c lt in
      let eight : slot_of c ≡ 8 * (slot_of c / 8) = omega (arith, whole) in
      let all : slots_of c * slot_of c ≡ 8 * (slots_of c * (slot_of c / 8)) = ap (λ (n : ℕ). slots_of c * n) eight ∙ turned (slots_of c) (slot_of c / 8) in
      let up = slots_up i (slots_of c) (slot_of c / 8) inside in
      record { some = omega (arith, least); within = omega (arith, fit, all, up, is); bytes_are = eight } where
        turned : (s z : ℕ) → s * (8 * z) ≡ 8 * (s * z)
        turned s z = grind arith

  large_lies : (pages i : ℕ) → 1 ≤ pages → i < 1 → Lies pages i (1024 * pages) (8192 * pages)
  large_lies pages i some lt = grind arith

  -- by its class
  lies_by : (class : SizeClass) (pages i : ℕ) → 1 ≤ pages → IsSizeClass class → (class ≢ SizeClass.Large → pages ≡ pages_of (number_of_class class)) → i < cond (is_own_class class) 1 (slots_of (number_of_class class)) →
      Lies pages i (cond (is_own_class class) (1024 * pages) (slot_of (number_of_class class) / 8)) (slot_bytes_of class pages)
  lies_by class pages i some fit small inside = grind (arith, large_lies, small_lies)

  lies : (h : SpanHead) (i : ℕ) → FitsClass h → i < slot_count h → Lies h.pages i (slot_size h) (slot_bytes h)
  lies h i fits inside = grind (arith, lies_by)

  pub record InArena (pages : ℕ) (page : Row) (a slot : ℕ) : Type 0 where
    pub some : 1 ≤ slot
    pub within : a < 1024 * pages
    pub bytes_are : slot_row page (a / 64) ≡ 8 * slot

  pub in_arena : SlotsAreRead → (pages : ℕ) (page : Row) (p : ℕ) (h : SpanHead) (i a slot : ℕ) → IsSlotOf pages page p h i a slot → InArena pages page a slot
  in_arena read pages page p h i a slot s =
      let y = lies h i s.span.fits s.inside in
      let size = s.size_is in
      let at : a ≡ 1024 * p + i * slot_size h = s.at ∙ ap (λ (n : ℕ). 1024 * p + i * n) size in
      let span = s.span.within in
      let some = y.some in
      let up = y.within in
      record {
        some = omega (arith, some, size);
        within = omega (arith, at, span, some, up);
        bytes_are = read pages page (a / 64) (record { p = p; h = h; head = s.span.head; from = omega (arith, at); below = omega (arith, at, up, some) }) s.span ∙ y.bytes_are ∙ ap (λ (n : ℕ). 8 * n) (sym size);
      }

-- ---- the name of each alloc bit that is set

-- each is that of an object
abbrev pub AreNamed : (made : ℕ → ℕ) → Words → Type 0
AreNamed made words = (x : ℕ) → row_bit (alloc_words words) x ≡ 1 → (n : Name) × IsMade made n × IsPlacedAt words n x

module _ (words : Words) (made : ℕ → ℕ) (named : AreNamed made words) where
  abbrev pick : (x : ℕ) (b : Bool) → is_set (alloc_words words) x ≡ b → Name
  pick x true e = (named x (eqb-true (row_bit (alloc_words words) x) 1 e)).0
  pick x false e = record { g = 0; k = 0 }

  abbrev pub name_at : ℕ → Name
  name_at x = pick x (is_set (alloc_words words) x) refl

  pub is_placed : (x : ℕ) → is_set (alloc_words words) x ≡ true → IsPlacedAt words (name_at x) x
  is_placed x set = grind arith

  pub is_made : (x : ℕ) → is_set (alloc_words words) x ≡ true → IsMade made (name_at x)
  is_made x set = grind arith

-- two names are one, or not
pub same_or_not : (n m : Name) → (n ≡ m) ⊎ (n ≢ m)
same_or_not n m = grind arith
