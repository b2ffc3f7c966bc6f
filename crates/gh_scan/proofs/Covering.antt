-- The scan of an object has loaded the bitmap word of each word of the slot and the field of each pointer once it ends, by rows that agree with what it was told.
use Rattle.std.proofs.Common.{◌≡◌, ℕ, zero, suc, ◌+◌, ◌-◌, ◌*◌, ◌/◌, ◌%◌, ◌<◌, ◌≤◌, ◌==◌, ◌||◌, ltb, Bool, true, false, cond, List, Option, Some, None, refl, sym, ap, subst, ◌∙◌, arith, eq-eqb, ltb-true, ltb-false}
use Rattle.gh_scan.proofs.Vocabulary.{after, after_room, after_shade, AreTold, asks, at_next, begun, behind, bit_says_pointer, Bitmap, bits_of, Cell, Done, Ended, EndsWith, Field, FindRoom, from, goes, Held, is_loaded, Layout, Load, LoadBitmap, LoadField, LoadPage, mul-mod_right, next_in, object_of, reference_in, Row, Scanning, ScanStage, Shaded, Shading, slot_told, transitions, WantsRoom}
use Rattle.gh_scan.proofs.Order.{in_order}
use Rattle.gh_scan.proofs.Ending.{has_ended}
use Rattle.gh_scan.proofs.Scanning.{AtField, Finds, Is, is_at, Knows}
use Rattle.gh_shade.specs.Listing as shade
use Rattle.gh_wbuf.specs.RoomFinding as room

neither : (a b : Bool) → (a || b) ≡ false → (a ≡ false) × (b ≡ false)
neither a b e = grind arith

never : {A : Type 0} (b : Bool) → b ≡ true → b ≡ false → A
never b on off = absurd (cc)

-- nothing is loaded for the words from y on and before the next for which something is
abbrev Gap : (w y above : ℕ) → Option ℕ → Type 0
Gap w y above None = (z : ℕ) → y ≤ z → z < above → is_loaded w z ≡ false
Gap w y above (Some x) = (y ≤ x) × ((z : ℕ) → y ≤ z → z < x → is_loaded w z ≡ false)

none_yet : (w y above : ℕ) (next : Option ℕ) → is_loaded w y ≡ false → Gap w (y + 1) above next → Gap w y above next
none_yet w y above next off gap = grind arith

gap_of : (w k y : ℕ) → Gap w y (y + k) (next_in w k y)
gap_of w zero y = λ z low high. absurd (omega arith)
gap_of w (suc k) y =
    let sum : (y + 1) + k ≡ y + suc k = omega arith in
    by (subst (λ (above : ℕ). Gap w (y + 1) above (next_in w k (y + 1))) sum (gap_of w k (y + 1))) (is_loaded w y) refl where
      by : Gap w (y + 1) (y + suc k) (next_in w k (y + 1)) → (b : Bool) → is_loaded w y ≡ b → Gap w y (y + suc k) (cond b (Some y) (next_in w k (y + 1)))
      by rest true e = (omega arith, λ z low high. absurd (omega arith))
      by rest false e = none_yet w y (y + suc k) (next_in w k (y + 1)) e rest

-- words between which none begins a bitmap word have the same one
same_bits : (x y : ℕ) → x ≤ y → ((z : ℕ) → x < z → z ≤ y → (z % 64 == 0) ≡ false) → y / 64 ≡ x / 64
same_bits x y le off = by (ltb (x / 64) (y / 64)) refl where
  by : (b : Bool) → ltb (x / 64) (y / 64) ≡ b → y / 64 ≡ x / 64
  by true e =
      let lt : x / 64 < y / 64 = ltb-true _ _ e in
      let first : 64 * (y / 64) % 64 ≡ 0 = mul-mod_right 64 (y / 64) in
      let on : (64 * (y / 64) % 64 == 0) ≡ true = eq-eqb _ _ first in
      let not_on : (64 * (y / 64) % 64 == 0) ≡ false = off (64 * (y / 64)) (omega arith) (omega arith) in
      absurd (cc)
  by false e =
      let ge : y / 64 ≤ x / 64 = ltb-false _ _ e in
      omega arith

module _ (bits fields : Row) (l : Layout) where
  abbrev bit_cell : (x : ℕ) → Cell
  bit_cell x = Bitmap (x / 64 % (16 * l.pages))

  abbrev field_cell : (x : ℕ) → Cell
  field_cell x = Field (x % (1024 * l.pages))

  -- heap word x is done with, where these cells were loaded
  pub record IsCovered (Has : Cell → Type 0) (x : ℕ) : Type 0 where
    pub bit : Has (bit_cell x)
    pub field : bit_says_pointer (bits_of bits fields l x) x ≡ true → Has (field_cell x)

  module _ (first above : ℕ) where
    abbrev Before : (Has : Cell → Type 0) (x : ℕ) → Type 0
    Before Has x = (y : ℕ) → first ≤ y → y < x → IsCovered Has y

    abbrev Covers : (Has : Cell → Type 0) (x : ℕ) → ScanStage → Type 0
    Covers Has x LoadPage = ⊥
    Covers Has x LoadBitmap = Before Has x
    Covers Has x LoadField = Before Has x × Has (bit_cell x)
    Covers Has x (Shading sh) = Before Has (x + 1)
    Covers Has x (FindRoom sh r) = Before Has (x + 1)
    Covers Has x (Ended words) = Before Has above

    with_this : (Has : Cell → Type 0) (x : ℕ) → Before Has x → IsCovered Has x → Before Has (x + 1)
    with_this Has x before this y low high = by (y == x) refl where
      by : (b : Bool) → (y == x) ≡ b → IsCovered Has y
      by b e = grind arith

    -- between x and the next for which something is loaded
    between : (Has : Cell → Type 0) (x w z : ℕ) → first ≤ x → w ≡ bits_of bits fields l x → Before Has (x + 1) → ((y : ℕ) → x + 1 ≤ y → y < z → is_loaded w y ≡ false) → Before Has z
    between Has x w z from_first word before off y low high = by (ltb x y) refl where
      by : (b : Bool) → ltb x y ≡ b → IsCovered Has y
      by false e =
          let le : y ≤ x = ltb-false _ _ e in
          before y low (omega arith)
      by true e =
          let lt : x < y = ltb-true _ _ e in
          let same : y / 64 ≡ x / 64 = same_bits x y (omega arith) (λ u above_x upto. (neither _ _ (off u (omega arith) (omega arith))).0) in
          let bit : Has (bit_cell x) = (before x from_first (omega arith)).bit in
          let no : bit_says_pointer w y ≡ false = (neither _ _ (off y (omega arith) high)).1 in
          let here : w ≡ bits_of bits fields l y = word ∙ ap (λ (q : ℕ). bits (q % (16 * l.pages))) (sym same) in
          let not_pointer : bit_says_pointer (bits_of bits fields l y) y ≡ false = ap (λ (u : ℕ). bit_says_pointer u y) (sym here) ∙ no in
          record { bit = subst (λ (q : ℕ). Has (Bitmap (q % (16 * l.pages)))) (sym same) bit; field = λ on. never _ on not_pointer }

  module _ (seat reference slot : ℕ) where
    abbrev high : ℕ
    high = object_of reference + slot

    abbrev CoversIn : (Has : Cell → Type 0) → Scanning → Type 0
    CoversIn Has s = Covers (object_of reference) high Has s.at s.stage

    abbrev state : Option Held → (x w : ℕ) → ScanStage → Scanning
    state h x w stage = record { seat = seat; reference = reference; held = h; slot = slot; at = x; bits = w; stage = stage }

    -- the next for which something is loaded, if it has the same bitmap word
    same_next : (w x z : ℕ) → x + 1 ≤ z → ((y : ℕ) → x + 1 ≤ y → y < z → is_loaded w y ≡ false) → (z % 64 == 0) ≡ false → z / 64 ≡ x / 64
    same_next w x z le off not_first = same_bits x z (omega arith) inside where
      inside : (u : ℕ) → x < u → u ≤ z → (u % 64 == 0) ≡ false
      inside u low upto = grind arith

    go : (Has : Cell → Type 0) (h : Option Held) (x w : ℕ) (stage : ScanStage) → object_of reference ≤ x → x < high → w ≡ bits_of bits fields l x →
        Before (object_of reference) high Has (x + 1) → CoversIn Has (behind (state h x w stage))
    go Has h x w stage low below word before = by (next_in w (high - (x + 1)) (x + 1)) (subst (λ (above : ℕ). Gap w (x + 1) above (next_in w (high - (x + 1)) (x + 1))) sum (gap_of w (high - (x + 1)) (x + 1))) where
      sum : (x + 1) + (high - (x + 1)) ≡ high
      sum = omega arith

      by : (next : Option ℕ) → Gap w (x + 1) high next → CoversIn Has (at_next (state h x w stage) next)
      by None gap = between (object_of reference) high Has x w high low word before gap
      by (Some z) gap = at_word (z % 64 == 0) refl where
        all_before : Before (object_of reference) high Has z
        all_before = between (object_of reference) high Has x w z low word before gap.1

        at_word : (b : Bool) → (z % 64 == 0) ≡ b → Covers (object_of reference) high Has z (cond b LoadBitmap LoadField)
        at_word true e = all_before
        at_word false e =
            let le : x < x + 1 = omega arith in
            (all_before, subst (λ (q : ℕ). Has (Bitmap (q % (16 * l.pages)))) (sym (same_next w x z gap.0 gap.1 e)) (before x low le).bit)

    module _ (Old New : Cell → Type 0) (more : (c : Cell) → Old c → New c) where
      grown : (x : ℕ) → Before (object_of reference) high Old x → Before (object_of reference) high New x
      grown x before y low below =
          let was = before y low below in
          record { bit = more _ was.bit; field = λ on. more _ (was.field on) }

      step : (v : ℕ) (h : Option Held) (x w : ℕ) (stage : ScanStage) (done : List ℕ) → Knows bits fields l seat reference slot x w done stage → Finds bits fields l seat reference slot v (state h x w stage) →
          object_of reference ≤ x → ((c : Cell) → asks l (state h x w stage) ≡ Load c → New c) → CoversIn Old (state h x w stage) → CoversIn New (goes l (state h x w stage) v)
      step v h x w LoadPage done k f low now before = absurd k
      step v h x w LoadBitmap done k f low now before = by (bit_says_pointer v x) refl where
        v_is : v ≡ bits_of bits fields l x
        v_is = f.bits_are (x / 64 % (16 * l.pages)) refl

        by : (b : Bool) → bit_says_pointer v x ≡ b → CoversIn New (cond b (state h x v LoadField) (behind (state h x v LoadBitmap)))
        by true e = (grown x before, now (bit_cell x) refl)
        by false e =
            let off : bit_says_pointer (bits_of bits fields l x) x ≡ false = ap (λ (u : ℕ). bit_says_pointer u x) (sym v_is) ∙ e in
            let this : IsCovered New x = record { bit = now (bit_cell x) refl; field = λ on. never _ on off } in
            go New h x v LoadBitmap low k.below v_is (with_this (object_of reference) high New x (grown x before) this)
      step v h x w LoadField done k f low now before = by (v == 0) where
        this : Before (object_of reference) high New (x + 1)
        this = with_this (object_of reference) high New x (grown x before.0) (record { bit = more _ before.1; field = λ on. now (field_cell x) refl })

        by : (b : Bool) → CoversIn New (cond b (behind (state h x w LoadField)) (state h x w (Shading (shade.opening (reference_in l v) h))))
        by true = go New h x w LoadField low k.below k.word this
        by false = this
      step v h x w (Shading sh) done k f low now before = by (shade.goes sh v) (shade.gives sh v) where
        by : (next : shade.Shading) (out : Option Shaded) → CoversIn New (after_shade (state h x w (Shading sh)) next out)
        by next None = grown (x + 1) before
        by next (Some Done) = go New next.held x w (Shading sh) low k.below k.word (grown (x + 1) before)
        by next (Some WantsRoom) = grown (x + 1) before
      step v h x w (FindRoom sh r) done k f low now before = by (room.goes l r v) (room.gives l r v) where
        by : (next : room.RoomFinding) (out : Option Held) → CoversIn New (after_room (state h x w (FindRoom sh r)) sh next out)
        by next None = grown (x + 1) before
        by next (Some own) = grown (x + 1) before
      step v h x w (Ended words) done k f low now before = grown high before

module _ (l : Layout) (seat reference : ℕ) (held : Option Held) (found : ℕ → ℕ) (some : 1 ≤ slot_told l seat reference held found) where
  abbrev slot : ℕ
  slot = slot_told l seat reference held found

  abbrev state_n : ℕ → Scanning
  state_n n = after l seat reference held found n

  abbrev begun_n : ℕ → List ℕ
  begun_n n = begun l seat reference held found n

  -- one of the first n steps is a load of this cell
  pub record Has (n : ℕ) (c : Cell) : Type 0 where
    pub step_of : ℕ
    pub before : step_of < n
    pub asked : asks l (state_n step_of) ≡ Load c

  module _ (bits fields : Row) (told_rows : AreTold l seat reference held found bits fields) where
    more : (n : ℕ) (c : Cell) → Has n c → Has (suc n) c
    more n c h =
        let lt : h.step_of < n = h.before in
        record { step_of = h.step_of; before = omega arith; asked = h.asked }

    now : (n : ℕ) (c : Cell) → asks l (state_n n) ≡ Load c → Has (suc n) c
    now n c e = record { step_of = n; before = omega arith; asked = e }

    on : (n : ℕ) (s : Scanning) (v : ℕ) → Is bits fields l seat reference slot s (begun_n (suc n)) → Finds bits fields l seat reference slot v s → object_of reference ≤ s.at →
        ((c : Cell) → asks l s ≡ Load c → Has (suc (suc n)) c) → CoversIn bits fields l seat reference slot (Has (suc n)) s → CoversIn bits fields l seat reference slot (Has (suc (suc n))) (goes l s v)
    on n s v i =
        subst (λ (t : Scanning). Finds bits fields l seat reference slot v t → object_of reference ≤ t.at → ((c : Cell) → asks l t ≡ Load c → Has (suc (suc n)) c) →
        CoversIn bits fields l seat reference slot (Has (suc n)) t → CoversIn bits fields l seat reference slot (Has (suc (suc n))) (goes l t v))
        (sym i.is) (step bits fields l seat reference slot (Has (suc n)) (Has (suc (suc n))) (more (suc n)) v i.held i.at i.word i.stage (begun_n (suc n)) i.knows)

    covers : (n : ℕ) → CoversIn bits fields l seat reference slot (Has (suc n)) (state_n (suc n))
    covers zero = λ y low below. absurd (omega arith)
    covers (suc n) = on n (state_n (suc n)) (found (suc n)) (is_at l seat reference held found some bits fields told_rows n)
        (record { bits_are = told_rows.bits_are (suc n); fields_are = told_rows.fields_are (suc n) })
        ((in_order l seat reference held found some).from_first n) (now (suc n)) (covers n)

    -- once it has ended, each word of the slot
    pub covered : (n w x : ℕ) → EndsWith (transitions l) (from l seat reference held found) found n w → object_of reference ≤ x → x < object_of reference + slot → IsCovered bits fields l (Has (suc n)) x
    covered n w x e low below =
        let ended : (state_n (suc n)).stage ≡ Ended w = has_ended (state_n (suc n)).stage w e in
        subst (λ (g : ScanStage). Covers bits fields l (object_of reference) (object_of reference + slot) (Has (suc n)) (state_n (suc n)).at g) ended (covers n) x low below

    -- a field that is loaded is that of a pointer
    pub pointer_at : (n : ℕ) → (state_n (suc n)).stage ≡ LoadField → bit_says_pointer (bits_of bits fields l (state_n (suc n)).at) (state_n (suc n)).at ≡ true
    pointer_at n e =
        let i = is_at l seat reference held found some bits fields told_rows n in
        let stage : i.stage ≡ LoadField = sym (ap (λ (t : Scanning). t.stage) i.is) ∙ e in
        let knows : AtField bits fields l seat reference slot i.at i.word (begun_n (suc n)) = subst (λ (g : ScanStage). Knows bits fields l seat reference slot i.at i.word (begun_n (suc n)) g) stage i.knows in
        let set : bit_says_pointer (bits_of bits fields l i.at) i.at ≡ true = ap (λ (u : ℕ). bit_says_pointer u i.at) (sym knows.word) ∙ knows.pointer in
        subst (λ (t : Scanning). bit_says_pointer (bits_of bits fields l t.at) t.at ≡ true) (sym i.is) set
