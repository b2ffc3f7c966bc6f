-- The law of the scan of an object, put together.
use Rattle.std.proofs.Common.{◌≡◌, ◌≢◌, ◌↔◌, ℕ, zero, suc, ◌+◌, ◌*◌, ◌/◌, ◌%◌, ◌<◌, ◌≤◌, ltb, Bool, true, false, Option, refl, sym, ap, subst, ◌∙◌, arith, ltb-true, ltb-false}
use Rattle.gh_scan.proofs.Vocabulary.{after, AreTold, asks, asks_at, bit_at, bit_says_pointer, Bitmap, bitmap_words, Cell, CellsAreTold, Ended, EndsWith, Field, field_words, from, Held, InSlot, is_busy, Layout, LiesInHeap, Load, LoadBitmap, LoadField, mod-eq_of_lt, object_of, pointer_bit, row_bit, Scanning, ScansInOrder, ScansObject, ScanStage, ShadesAsTold, slot_told, Touch, transitions, WasLoaded, Words, words_told}
use Rattle.gh_scan.proofs.Covering.{covered, Has, IsCovered, pointer_at}
use Rattle.gh_scan.proofs.Ending.{at_once, rests}
use Rattle.gh_scan.proofs.Order.{end_is, in_order, slot_is}
use Rattle.gh_scan.proofs.Scanning.{all_begun, steps_at}
use Rattle.gh_scan.proofs.Told.{bitmap_once, bits_kept, fields_kept, fields_once}

bit_is : (words : Words) (x : ℕ) → pointer_bit words x ≡ bit_at (words (Bitmap (x / 64))) (x % 64)
unfolding row_bit
bit_is words x = refl

-- where a bitmap word is loaded, and where a field is
bits_asked : (l : Layout) (s : Scanning) (stage : ScanStage) (i : ℕ) → asks_at l s stage ≡ Load (Bitmap i) → (stage ≡ LoadBitmap) × (s.at / 64 % (16 * l.pages) ≡ i)
bits_asked l s stage i e = grind arith

field_asked : (l : Layout) (s : Scanning) (stage : ScanStage) (i : ℕ) → asks_at l s stage ≡ Load (Field i) → (stage ≡ LoadField) × (s.at % (1024 * l.pages) ≡ i)
field_asked l s stage i e = grind arith

module _ (l : Layout) (seat reference : ℕ) (held : Option Held) (found : ℕ → ℕ) (some : 1 ≤ slot_told l seat reference held found) where
  abbrev slot : ℕ
  slot = slot_told l seat reference held found

  abbrev state_n : ℕ → Scanning
  state_n n = after l seat reference held found n

  whole_bits : (x : ℕ) → x < 1024 * l.pages → x / 64 % (16 * l.pages) ≡ x / 64
  whole_bits x lt =
      let small : x / 64 < 16 * l.pages = omega arith in
      mod-eq_of_lt small

  -- the bit of a heap word, and the listing's test of it
  test_of : (words : Words) (x : ℕ) → x < 1024 * l.pages → pointer_bit words x ≡ 1 → bit_says_pointer (words (Bitmap (x / 64 % (16 * l.pages)))) x ≡ true
  test_of words x lt set = grind (arith, bit_is, whole_bits)

  bit_by : (words : Words) (x : ℕ) → x < 1024 * l.pages → bit_says_pointer (words (Bitmap (x / 64 % (16 * l.pages)))) x ≡ true → pointer_bit words x ≡ 1
  bit_by words x lt set = grind (arith, bit_is, whole_bits)

  -- where the slot lies in the heap, the words told make such rows
  module _ (cells : CellsAreTold) (lies : LiesInHeap l seat reference held found) where
    abbrev words_n : ℕ → Words
    words_n n = words_told l seat reference held found n

    order : ScansInOrder l seat reference held found
    order = in_order l seat reference held found some

    -- a step at which it asks for such a word comes before its end
    asks_before : (n k w : ℕ) (c : Cell) → EndsWith (transitions l) (from l seat reference held found) found n w → asks l (state_n k) ≡ Load c → c ≢ Touch → k < suc n
    asks_before n k w c e a other = by (ltb k (suc n)) refl where
      by : (b : Bool) → ltb k (suc n) ≡ b → k < suc n
      by true t = ltb-true _ _ t
      by false t =
          let le : suc n ≤ k = ltb-false _ _ t in
          let ended : (state_n k).stage ≡ Ended w = rests l seat reference held found n k w e (omega arith) in
          let idle : asks l (state_n k) ≡ Load Touch = ap (asks_at l (state_n k)) ended in
          let same : Load c ≡ Load Touch = sym a ∙ idle in
          absurd (other (cc))

    agree : (n w : ℕ) → EndsWith (transitions l) (from l seat reference held found) found n w → AreTold l seat reference held found (bitmap_words (words_n (suc n))) (field_words (words_n (suc n)))
    agree n w e = record { bits_are = bits_are; fields_are = fields_are } where
      bits_are : (k i : ℕ) → asks l (state_n k) ≡ Load (Bitmap i) → found k ≡ words_n (suc n) (Bitmap i)
      bits_are k i a =
          let other : Bitmap i ≢ Touch = λ (t : Bitmap i ≡ Touch). cc in
          bits_kept cells l seat reference held found order lies (suc n) k i (asks_before n k w (Bitmap i) e a other) a

      fields_are : (k i : ℕ) → asks l (state_n k) ≡ Load (Field i) → found k ≡ words_n (suc n) (Field i)
      fields_are k i a =
          let other : Field i ≢ Touch = λ (t : Field i ≡ Touch). cc in
          fields_kept cells l seat reference held found order lies (suc n) k i (asks_before n k w (Field i) e a other) a

    -- once it has ended with step n
    module _ (n w : ℕ) (e : EndsWith (transitions l) (from l seat reference held found) found n w) where
      covered_by : (x : ℕ) → object_of reference ≤ x → x < object_of reference + slot → IsCovered (bitmap_words (words_n (suc n))) (field_words (words_n (suc n))) l (Has l seat reference held found some (suc n)) x
      covered_by x low below = covered l seat reference held found some (bitmap_words (words_n (suc n))) (field_words (words_n (suc n))) (agree n w e) n w x e low below

      was_loaded : (c : Cell) → Has l seat reference held found some (suc n) c → WasLoaded l seat reference held found n c
      was_loaded c h =
          let lt : h.step_of < suc n = h.before in
          record { step = h.step_of; by_then = omega arith; loads = h.asked }

      -- a word of the slot is one of the heap, and so is its bitmap word
      in_heap : (x : ℕ) → x < object_of reference + slot → x < 1024 * l.pages
      in_heap x below =
          let heap : object_of reference + slot ≤ 1024 * l.pages = lies in
          omega arith

      -- the word that it is at with a step that is not its first
      record At (x : ℕ) : Type 0 where
        inside_heap : x < 1024 * l.pages
        in_slot : InSlot l seat reference held found x

      at_step : (k : ℕ) → is_busy (state_n (suc k)).stage ≡ true → At (state_n (suc k)).at
      at_step k busy =
          let below : (state_n (suc k)).at < object_of reference + slot = order.within k busy in
          record { inside_heap = in_heap (state_n (suc k)).at below; in_slot = record { from_first = order.from_first k; below = below } }

      bitmap_of : (k i : ℕ) → asks l (state_n k) ≡ Load (Bitmap i) → (x : ℕ) × InSlot l seat reference held found x × (x / 64 ≡ i)
      bitmap_of zero i a = absurd (cc)
      bitmap_of (suc k) i a =
          let at_bits = bits_asked l (state_n (suc k)) (state_n (suc k)).stage i a in
          let at = at_step k (ap is_busy at_bits.0) in
          let whole : (state_n (suc k)).at / 64 % (16 * l.pages) ≡ (state_n (suc k)).at / 64 = whole_bits (state_n (suc k)).at at.inside_heap in
          let index : (state_n (suc k)).at / 64 % (16 * l.pages) ≡ i = at_bits.1 in
          ((state_n (suc k)).at, at.in_slot, sym whole ∙ index)

      loads_bitmap : (i : ℕ) → WasLoaded l seat reference held found n (Bitmap i) ↔ ((x : ℕ) × InSlot l seat reference held found x × (x / 64 ≡ i))
      loads_bitmap i = (λ (was : WasLoaded l seat reference held found n (Bitmap i)). bitmap_of was.step i was.loads, λ (there : (x : ℕ) × InSlot l seat reference held found x × (x / 64 ≡ i)). back there.0 there.1 there.2) where
        back : (x : ℕ) → InSlot l seat reference held found x → x / 64 ≡ i → WasLoaded l seat reference held found n (Bitmap i)
        back x inside e = subst (λ (j : ℕ). WasLoaded l seat reference held found n (Bitmap j)) (whole_bits x (in_heap x inside.below) ∙ e) (was_loaded _ (covered_by x inside.from_first inside.below).bit)

      field_of : (k x : ℕ) → asks l (state_n k) ≡ Load (Field x) → InSlot l seat reference held found x × (pointer_bit (words_n (suc n)) x ≡ 1)
      field_of zero x a = absurd (cc)
      field_of (suc k) x a =
          let at_field = field_asked l (state_n (suc k)) (state_n (suc k)).stage x a in
          let at = at_step k (ap is_busy at_field.0) in
          let index : (state_n (suc k)).at % (1024 * l.pages) ≡ x = at_field.1 in
          let here : (state_n (suc k)).at ≡ x = sym (mod-eq_of_lt at.inside_heap) ∙ index in
          let set = pointer_at l seat reference held found some (bitmap_words (words_n (suc n))) (field_words (words_n (suc n))) (agree n w e) k at_field.0 in
          subst (λ (y : ℕ). InSlot l seat reference held found y × (pointer_bit (words_n (suc n)) y ≡ 1)) here (at.in_slot, bit_by (words_n (suc n)) (state_n (suc k)).at at.inside_heap set)

      loads_fields : (x : ℕ) → WasLoaded l seat reference held found n (Field x) ↔ (InSlot l seat reference held found x × (pointer_bit (words_n (suc n)) x ≡ 1))
      loads_fields x = (λ (was : WasLoaded l seat reference held found n (Field x)). field_of was.step x was.loads, λ (there : InSlot l seat reference held found x × (pointer_bit (words_n (suc n)) x ≡ 1)). back there.0 there.1) where
        back : InSlot l seat reference held found x → pointer_bit (words_n (suc n)) x ≡ 1 → WasLoaded l seat reference held found n (Field x)
        back inside set =
            subst (λ (i : ℕ). WasLoaded l seat reference held found n (Field i)) (mod-eq_of_lt (in_heap x inside.below)) (was_loaded _ ((covered_by x inside.from_first inside.below).field (test_of (words_n (suc n)) x (in_heap x inside.below) set)))

    as_told : ShadesAsTold l seat reference held found
    as_told = record {
      bitmap_once = bitmap_once cells l seat reference held found order lies;
      fields_once = fields_once cells l seat reference held found order lies;
      loads_bitmap = λ n w i e. loads_bitmap n w e i;
      loads_fields = λ n w x e. loads_fields n w e x;
      agree = agree;
      shades = λ n w e. all_begun l seat reference held found some (bitmap_words (words_n (suc n))) (field_words (words_n (suc n))) (agree n w e) n w e;
    }

  pub scans : CellsAreTold → ScansObject l seat reference held found
  scans cells = record {
    begins = refl;
    steps = λ n. steps_at l seat reference held found some (state_n n) (state_n n).stage refl;
    in_order = in_order l seat reference held found some;
    shades = all_begun l seat reference held found some;
    as_told = as_told cells;
    at_once = at_once l seat reference held found (slot_is l seat reference held found some) (end_is l seat reference held found some);
  }
