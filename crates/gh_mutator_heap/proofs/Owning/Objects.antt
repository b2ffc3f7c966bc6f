-- What the words tell of an object that a script reaches, and what a value is to its word. Of the heap it is known what the laws of gh_heap say.
use Rattle.std.proofs.Common.{◌≡◌, ℕ, ◌+◌, ◌-◌, ◌*◌, ◌/◌, ◌%◌, ◌^◌, ◌<◌, ◌≤◌, Bool, true, false, cond, eqb, Some, inl, inr, refl, sym, ap, subst, ◌∙◌, arith}
use Rattle.std.proofs.lemmas.Bool.{ne_eqb}
use Rattle.std.proofs.lemmas.Bool.Decides.{eqb_tells}
use Rattle.gh_mutator_heap.proofs.Vocabulary.{answer_of_value, Arena, bit, bit_at, Ever, EverValue, fits, Good, Holds, InSlot, is_number, is_own_class, is_pointer_by, IsMade, IsReached, IsSizeClass, Means, mod-eq_of_lt, Name, name_of, names, number_of_class, page_class, page_of, page_pages, Place, Placed, points, Reach, size_for, SizeClass, slot_count, slot_for, slot_in, slot_of, slot_size, takes_answer, Value, value_of, View, with_register, word_of_value}
use Rattle.gh_mutator_heap.proofs.Owning.Known.{Known}

-- ---- the words of an object

some_words : Known → (class : SizeClass) (pages : ℕ) → IsSizeClass class → 1 ≤ pages → 1 ≤ cond (is_own_class class) (1024 * pages) (slot_of (number_of_class class) / 8)
some_words laws class pages is some = grind arith

slot_for_is : (c : SizeClass) (n : ℕ) → slot_for c n ≡ cond (is_own_class c) (1024 * n) (slot_of (number_of_class c) / 8)
slot_for_is c n = grind arith

bit_is : (b : Bool) (n : ℕ) → n ≡ bit b → eqb n 1 ≡ b
bit_is b n e = grind arith

-- an object that a script reaches, and so is placed
module _ (laws : Known) (z : Arena) (v : View) (good : Good z v) (n : Name) (was_made : IsMade v.ever.made n) (reach : Reach v.ever n) where
  abbrev words : ℕ
  words = size_for z.shapes v.ever.type_of n

  stands : Placed v.alloc v.birth v.place n
  stands = good.reached n reach

  object : InSlot z.shapes z.layout.pages v.page v.place v.ever.type_of n
  object = good.slots n was_made stands

  some : 1 ≤ words
  some = subst (λ (x : ℕ). 1 ≤ x) (sym object.slot.size_is) (some_words laws object.h.class object.h.pages object.slot.span.fits.class object.slot.span.fits.some)

  inside : (k : ℕ) → k < words → (1024 * object.p ≤ v.place n + k) × (v.place n + k < 1024 * (object.p + object.h.pages))
  inside k few = (laws.apart z v good).inside object.p object.i (v.place n) words k object.h object.slot few

  -- each lies in the heap
  below : (k : ℕ) → k < words → v.place n + k < 1024 * z.layout.pages
  below k few = let i = inside k few in let within = object.slot.span.within in omega arith

  pub placed_below : v.place n < 1024 * z.layout.pages
  placed_below = let b = below 0 some in omega arith

  page_here : page_class (page_of (v.page (v.place n / 1024))) ≡ object.h.class
  page_here = elim (eqb_tells (v.place n / 1024) object.p) [
    | inl y ↦ ap (λ (x : ℕ). page_class (page_of (v.page x))) y.1 ∙ ap page_class object.slot.span.head
    | inr y ↦
        let i = inside 0 some in
        let far = y.1 in
        let at : v.place n / 1024 ≡ object.p + (v.place n / 1024 - object.p) = omega arith in
        ap (λ (x : ℕ). page_class (page_of (v.page x))) at ∙ ap page_class (object.slot.span.body (v.place n / 1024 - object.p) (omega arith) (omega arith))
  ]

  -- the page word of its first tells how many there are
  page_tells : (b : Bool) → is_own_class object.h.class ≡ b → slot_in (page_of (v.page (v.place n / 1024))) ≡ words
  page_tells true own =
      let count : slot_count object.h ≡ 1 = rw own refl in
      let first : object.i ≡ 0 = let few : object.i < 1 = subst (λ (x : ℕ). object.i < x) count object.slot.inside in omega arith in
      let at : v.place n ≡ 1024 * object.p = object.slot.at ∙ ap (λ (i : ℕ). 1024 * object.p + i * words) first ∙ omega arith in
      let q : v.place n / 1024 ≡ object.p = omega arith in
      ap (λ (x : ℕ). slot_in (page_of (v.page x))) q ∙ ap slot_in object.slot.span.head ∙ slot_for_is object.h.class object.h.pages ∙ sym object.slot.size_is
  page_tells false own =
      let sized : slot_size object.h ≡ slot_of (number_of_class object.h.class) / 8 = rw own refl in
      ap (λ (c : SizeClass). slot_for c (page_pages (page_of (v.page (v.place n / 1024))))) page_here ∙ slot_for_is object.h.class (page_pages (page_of (v.page (v.place n / 1024))))
      ∙ ap (λ (b : Bool). cond b (1024 * page_pages (page_of (v.page (v.place n / 1024)))) (slot_of (number_of_class object.h.class) / 8)) own ∙ sym (object.slot.size_is ∙ sized)

  -- What is found at the indices that a statement asks for, through a reference to it.
  module _ (at : ℕ) (here : at ≡ v.place n) where
    pub size_found : slot_in (page_of (v.page (at / 1024 % z.layout.pages))) ≡ words
    size_found = rw here (ap (λ (q : ℕ). slot_in (page_of (v.page q))) (mod-eq_of_lt (let b = placed_below in omega arith)) ∙ page_tells (is_own_class object.h.class) refl)

    pub word_is : (k : ℕ) → k < words → (at + k) % (1024 * z.layout.pages) ≡ v.place n + k
    word_is k few = rw here (mod-eq_of_lt (below k few))

    pub bit_found : (k : ℕ) → k < words → is_pointer_by z.layout (at + k) (v.bitmap ((at + k) / 64 % (16 * z.layout.pages))) ≡ points z.shapes v.ever.type_of n k
    bit_found k few = rw here (bit_is (points z.shapes v.ever.type_of n k) _
        (ap (λ (i : ℕ). bit_at (v.bitmap i) ((v.place n + k) % 64)) (mod-eq_of_lt (let b = below k few in omega arith))
        ∙ sym (laws.rows.bit_of v.bitmap ((v.place n + k) / 64) (v.place n + k) refl) ∙ good.pointers n k was_made stands few))

    pub field_found : (k : ℕ) → k < words → Holds v.place v.ever.made (points z.shapes v.ever.type_of n k) (v.ever.field n k) (v.field ((at + k) % (1024 * z.layout.pages)))
    field_found k few = subst (λ (i : ℕ). Holds v.place v.ever.made (points z.shapes v.ever.type_of n k) (v.ever.field n k) (v.field i)) (sym (word_is k few)) (good.fields n k was_made stands few)

    -- the name in its birth word
    pub name_found : name_of z.layout.goroutines (v.birth (at % (1024 * z.layout.pages))) ≡ n
    name_found = rw here (ap (λ (i : ℕ). name_of z.layout.goroutines (v.birth i)) (mod-eq_of_lt placed_below) ∙ ap (λ (w : ℕ). name_of z.layout.goroutines w) stands.says ∙ laws.packed.birth z.layout.goroutines n known few) where
      few : n.k < 2 ^ 32
      few = let f = good.names.few n.g in omega (arith, f, was_made)

      known : n.g < z.layout.goroutines
      known = grind arith

-- a value of a register, or of a field of what is reached, is reached
pub register_reached : (e : Ever) (g d : ℕ) → e.ended g ≡ false → (x : EverValue) → e.register g d ≡ x → IsReached e x
register_reached e g d goes_on x is n named = Reach.from_register g d n goes_on (ap names is ∙ named)

pub global_reached : (e : Ever) (k : ℕ) (v : EverValue) → e.global k ≡ v → IsReached e v
global_reached e k v is n named = Reach.from_global k n (ap names is ∙ named)

pub field_reached : (e : Ever) (n : Name) (k : ℕ) → Reach e n → (x : EverValue) → e.field n k ≡ x → IsReached e x
field_reached e n k reach x is r named = Reach.from_field n k r reach (ap names is ∙ named)

-- ---- values

-- a found word of a field means what the field holds
found_means : (pages : ℕ) (place : Place) (made : ℕ → ℕ) (p : Bool) (x : EverValue) (word : ℕ) → ((n : Name) → names x ≡ Some n → IsMade made n → place n < 1024 * pages) → Holds place made p x word → Means place made x (value_of pages p word)
found_means pages place made p EverValue.Nil word within h = rw (h.0, h.1) tt
found_means pages place made p (EverValue.Int i) word within h = rw (h.0) (sym h.1)
found_means pages place made p (EverValue.Ref n) word within h =
    let at : word ≡ place n + 1 = h.1 in
    rw (h.0, at)
    (let ne : eqb (place n + 1) 0 ≡ false = ne_eqb (place n + 1) 0 (λ q. omega arith) in
    let is : (place n + 1 - 1) % (1024 * pages) ≡ place n = ap (λ (y : ℕ). y % (1024 * pages)) (back (place n)) ∙ mod-eq_of_lt (within n refl h.2) in
    rw (ne, is) (refl, h.2)) where
      back : (a : ℕ) → a + 1 - 1 ≡ a
      back a = omega arith

-- the value that is found in field k of the object
pub value_means : (laws : Known) (z : Arena) (v : View) (good : Good z v) (n : Name) (was_made : IsMade v.ever.made n) (reach : Reach v.ever n) (at k : ℕ) (p : Bool) → at ≡ v.place n → k < size_for z.shapes v.ever.type_of n → p ≡ points z.shapes v.ever.type_of n k →
    Means v.place v.ever.made (v.ever.field n k) (value_of z.layout.pages p (v.field ((at + k) % (1024 * z.layout.pages))))
value_means laws z v good n was_made reach at k p here few kind =
    found_means z.layout.pages v.place v.ever.made p (v.ever.field n k) (v.field ((at + k) % (1024 * z.layout.pages)))
    (λ r is made. placed_below laws z v good r made (Reach.from_field n k r reach is))
    (subst (λ (q : Bool). Holds v.place v.ever.made q (v.ever.field n k) (v.field ((at + k) % (1024 * z.layout.pages)))) (sym kind) (field_found laws z v good n was_made reach at here k few))

-- a word that a global holds means what it holds
pub global_means : (laws : Known) (z : Arena) (v : View) → Good z v → (k : ℕ) → k < z.layout.globals → Means v.place v.ever.made (v.ever.global k) (value_of z.layout.pages true (v.global k))
global_means laws z v good k low = found_means z.layout.pages v.place v.ever.made true (v.ever.global k) (v.global k) (λ n is made. placed_below laws z v good n made (Reach.from_global k n is)) (good.globals k low)

-- the word of a value holds what a field of its kind is to hold
pub word_holds : (place : Place) (made : ℕ → ℕ) (p : Bool) (v : EverValue) (x : Value) → Means place made v x → fits p v ≡ true → Holds place made p v (word_of_value x)
word_holds place made p v x h f = grind arith

-- what is no number is a pointer's
pub fits_pointer : (x : EverValue) → is_number x ≡ false → fits true x ≡ true
fits_pointer x e = grind arith

pub takes_told : (e : Ever) (g d : ℕ) (x : EverValue) → takes_answer e g d (answer_of_value x) ≡ with_register e g d x
takes_told e g d x = grind arith
