-- Its own steps are moves that the claim of the slot allows, and what it knows lasts. Of the heap it is known what the laws of gh_heap say.
use Rattle.std.proofs.Common.{◌≡◌, ℕ, ◌+◌, ◌-◌, ◌*◌, ◌/◌, ◌%◌, ◌^◌, ◌<◌, ◌≤◌, ◌⊎◌, Bool, true, false, cond, eqb, ltb, Option, refl, sym, ap, subst, ◌∙◌, arith, bit_and, bit_or, eqb-true, eq-eqb, ltb-true, ltb-false}
use Rattle.gh_bitmap.proofs.Vocabulary.{asks, at_stage, bit, bit_at, bitmap_words, Cell, cell_of, Clear, EachStepIsOnItsBits, Ended, FitsSlot, given, given_at, goes, is_pointer, IsHere, mod-lt, next_stage, pointer_bits, PointerSetting, put, Row, row_bit, Set, SetStage, slot_bits, StepsOn, Touches, word_at}
use Rattle.gh_heap.specs.Laws.{EachFactLasts, EachRightFollows, TheHeapIsApart}
use Rattle.gh_heap.specs.Moves.{KeepsOthers, Others, SetBits, Steps, moved}
use Rattle.gh_heap.specs.Rights.{Arena, Claims, Good, Right, Shared, View, view}
use Rattle.gh_heap.specs.Spans.{Laying}
use Rattle.gh_bitmap.specs.Facts.{ClearIn, Comes, Facts, FactsAt, Lasts, Opens, OwnStep, SetsByItsRights, ToldBelow, Within}

pub record Known : Type 0 where
  pub last : EachFactLasts
  pub follow : EachRightFollows
  pub apart : TheHeapIsApart
  pub bits : EachStepIsOnItsBits

opens : Opens
opens z a v s shape claim some stage = record {
  shape = shape;
  some = some;
  claim = claim;
  stage = subst (λ (q : SetStage). FactsAt s v.bitmap q) (sym stage) (record { begins = omega arith; ends = omega arith }, λ k few low. absurd (omega arith));
}

told-lasts : (z : Arena) (a : ℕ) (v w : View) (s : PointerSetting) (x : ℕ) → Others z a v w → Claims z v a s.at s.slot → ToldBelow s v.bitmap x → ToldBelow s w.bitmap x
told-lasts z a v w s x o claim told k few low = o.pointers s.at s.slot k claim few ∙ told k few low

stage-lasts : (z : Arena) (a : ℕ) (v w : View) (s : PointerSetting) (q : SetStage) → Others z a v w → Claims z v a s.at s.slot → FactsAt s v.bitmap q → FactsAt s w.bitmap q
stage-lasts z a v w s (Clear i) o claim x = (x.0, told-lasts z a v w s (64 * i) o claim x.1)
stage-lasts z a v w s (Set i) o claim x = (x.0, told-lasts z a v w s (64 * i) o claim x.1, λ k few here. o.pointers s.at s.slot k claim few ∙ x.2 k few here)
stage-lasts z a v w s Ended o claim x = x

lasts : Known → Lasts
lasts k z a v w s o x = record { shape = x.shape; some = x.some; claim = (k.last z a v w o).claim s.at s.slot x.claim; stage = stage-lasts z a v w s s.stage o x.claim x.stage }

-- heap words outside of the slot, and in a word before
not-here : (s : PointerSetting) (i x : ℕ) → (x < s.at) ⊎ (s.at + s.slot ≤ x) → IsHere s i x → ⊥
not-here s i x h h2 = grind arith

not-yet : (s : PointerSetting) (i x : ℕ) → x < 64 * i → IsHere s i x → ⊥
not-yet s i x lt h = omega (arith, lt, h.word)

is-here : (s : PointerSetting) (i k : ℕ) → k < s.slot → (s.at + k) / 64 ≡ i → IsHere s i (s.at + k)
is-here s i k few word = record { word = word; from = omega arith; below = omega arith }

-- the bits told so far, and those of word i
told-more : (s : PointerSetting) (bitmap : Row) (i : ℕ) → ToldBelow s bitmap (64 * i) → ((k : ℕ) → k < s.slot → (s.at + k) / 64 ≡ i → row_bit bitmap (s.at + k) ≡ bit (is_pointer s.shape (s.at + k - s.at))) → ToldBelow s bitmap (64 * (i + 1))
told-more s bitmap i below here k few lt = go (ltb (s.at + k) (64 * i)) refl where
  back : s.at + k - s.at ≡ k
  back = omega arith

  go : (b : Bool) → ltb (s.at + k) (64 * i) ≡ b → row_bit bitmap (s.at + k) ≡ bit (is_pointer s.shape k)
  go true t = below k few (ltb-true (s.at + k) (64 * i) t)
  go false t = let low : 64 * i ≤ s.at + k = ltb-false (s.at + k) (64 * i) t in here k few (omega arith) ∙ ap (λ (x : ℕ). bit (is_pointer s.shape x)) back

module _ (k : Known) (z : Arena) (a : ℕ) (s : Shared) (l : Bool) (held : ℕ → Bool) (y : Option Laying) (m : PointerSetting) where
  abbrev now : View
  now = view s

  -- once the word has this
  abbrev then_at : (i word : ℕ) → Shared
  then_at i word = moved z a s (SetBits m.at m.slot (word_at z.layout i) word)

  -- how it goes on behind word i
  goes-on : (i word : ℕ) → FitsSlot m.shape m.slot → 0 < m.slot → Claims z now a m.at m.slot → m.at / 64 ≤ i → ToldBelow m (view (then_at i word)).bitmap (64 * (i + 1)) →
      (b : Bool) → ltb (64 * (i + 1)) (m.at + m.slot) ≡ b → Comes z a (view (then_at i word)) (given_at (cond b (Clear (i + 1)) Ended)) (at_stage m (cond b (Clear (i + 1)) Ended))
  goes-on i word shape some claim begins told true t = record {
    shape = shape;
    some = some;
    claim = claim;
    stage = (record { begins = omega arith; ends = ltb-true (64 * (i + 1)) (m.at + m.slot) t }, told);
  }
  goes-on i word shape some claim begins told false t = (claim, λ j few low. told j few (omega (arith, ltb-false (64 * (i + 1)) (m.at + m.slot) t)))

  -- no bit of another slot is changed
  keeps : (i word : ℕ) → ((x : ℕ) → (IsHere m i x → ⊥) → row_bit (bitmap_words (put s.words (Cell.Bitmap (word_at z.layout i)) word)) x ≡ row_bit now.bitmap x) → KeepsOthers now.bitmap m.at m.slot (word_at z.layout i) word
  unfolding row_bit
  keeps i word others x at out = sym (ap (λ (b : Bool). bit_at (cond b word (s.words (Cell.Bitmap (x / 64)))) (x % 64)) (ap (λ (n : ℕ). eqb (word_at z.layout i) n) at ∙ eq-eqb (word_at z.layout i) (word_at z.layout i) refl)) ∙ others x (not-here m i x out)

  on-bits : (i : ℕ) → Good z now → FitsSlot m.shape m.slot → 0 < m.slot → Claims z now a m.at m.slot → Touches m.at m.slot i → StepsOn z.layout m i s.words
  on-bits i g shape some claim touches =
      let inside = (k.apart z now g).inside claim.p claim.i m.at m.slot (m.slot - 1) claim.h claim.slot (omega arith) in
      k.bits z.layout m i s.words (omega (arith, inside.1, claim.slot.span.within, some)) shape touches

  own-at : (q : SetStage) → Good z now → Right a now l held y → Facts z a now (at_stage m q) →
      Steps z a s (asks z.layout (at_stage m q)) (λ t. (view t ≡ record now { bitmap = (view t).bitmap }) × Right a (view t) l held y × Comes z a (view t) (given (goes (at_stage m q) (s.words (cell_of (asks z.layout (at_stage m q)))))) (goes (at_stage m q) (s.words (cell_of (asks z.layout (at_stage m q))))))
  own-at (Clear i) g right x = record {
    move = SetBits m.at m.slot (word_at z.layout i) word;
    may = (x.claim, keeps i word law.clears.others);
    words_are = refl;
    after = (refl, (k.follow z a s l held y right).pointed m.at m.slot (word_at z.layout i) word, go (eqb (pointer_bits m.shape m.at i) 0) refl);
  } where
    word : ℕ
    word = bit_and (s.words (Cell.Bitmap (word_at z.layout i))) (2 ^ 64 - 1 - slot_bits m.at m.slot i)

    law : StepsOn z.layout m i s.words
    law = on-bits i g x.shape x.some x.claim x.stage.0

    told : ToldBelow m (view (then_at i word)).bitmap (64 * i)
    told j few low = law.clears.others (m.at + j) (not-yet m i (m.at + j) low) ∙ x.stage.1 j few low

    bare : ClearIn m (view (then_at i word)).bitmap i
    bare j few at = law.clears.slot (m.at + j) (is-here m i j few at)

    none : pointer_bits m.shape m.at i ≡ 0 → (j : ℕ) → j < m.slot → (m.at + j) / 64 ≡ i → row_bit (view (then_at i word)).bitmap (m.at + j) ≡ bit (is_pointer m.shape (m.at + j - m.at))
    none e j few at = bare j few at ∙ sym (ap bit (law.none e (m.at + j) (is-here m i j few at)))

    go : (b : Bool) → eqb (pointer_bits m.shape m.at i) 0 ≡ b → Comes z a (view (then_at i word)) (given_at (cond b (next_stage m i) (Set i))) (at_stage m (cond b (next_stage m i) (Set i)))
    go true t = goes-on i word x.shape x.some x.claim x.stage.0.begins (told-more m (view (then_at i word)).bitmap i told (none (eqb-true (pointer_bits m.shape m.at i) 0 t))) (ltb (64 * (i + 1)) (m.at + m.slot)) refl
    go false t = record { shape = x.shape; some = x.some; claim = x.claim; stage = (x.stage.0, told, bare) }
  own-at (Set i) g right x = record {
    move = SetBits m.at m.slot (word_at z.layout i) word;
    may = (x.claim, keeps i word law.sets.others);
    words_are = refl;
    after = (refl, (k.follow z a s l held y right).pointed m.at m.slot (word_at z.layout i) word, goes-on i word x.shape x.some x.claim x.stage.0.begins (told-more m (view (then_at i word)).bitmap i told here) (ltb (64 * (i + 1)) (m.at + m.slot)) refl);
  } where
    word : ℕ
    word = bit_or (s.words (Cell.Bitmap (word_at z.layout i))) (pointer_bits m.shape m.at i)

    law : StepsOn z.layout m i s.words
    law = on-bits i g x.shape x.some x.claim x.stage.0

    told : ToldBelow m (view (then_at i word)).bitmap (64 * i)
    told j few low = law.sets.others (m.at + j) (not-yet m i (m.at + j) low) ∙ x.stage.1 j few low

    here : (j : ℕ) → j < m.slot → (m.at + j) / 64 ≡ i → row_bit (view (then_at i word)).bitmap (m.at + j) ≡ bit (is_pointer m.shape (m.at + j - m.at))
    here j few at = law.sets.slot (m.at + j) (is-here m i j few at) (x.stage.2 j few at)
  own-at Ended g right x = absurd x.stage

own : Known → OwnStep
own k z a s l held y m g right x = own-at k z a s l held y m m.stage g right x

within : Within
within z a v m x = let fit = z.layout.limits.pages_fit.0 in grind (arith, mod-lt)

pub sets_by_its_rights : Known → SetsByItsRights
sets_by_its_rights k = record { opens = opens; own_step = own k; within = within; lasts = lasts k }
