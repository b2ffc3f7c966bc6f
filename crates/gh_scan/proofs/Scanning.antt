-- The scan of an object, word by word: at each stage, what was shaded and what is left make the references of the slot.
use Rattle.std.proofs.Common.{◌≡◌, ℕ, zero, suc, ◌+◌, ◌-◌, ◌*◌, ◌/◌, ◌%◌, ◌<◌, ◌≤◌, ◌==◌, ◌||◌, Bool, true, false, cond, List, [], ◌∷◌, ◌++◌, Option, Some, None, refl, sym, ap, subst, ◌∙◌, arith}
use Rattle.std.proofs.lemmas.Grind.{common_steps}
use Rattle.gh_scan.proofs.Vocabulary.{after, after_room, after_shade, AreTold, asks, asks_at, at_next, begun, begun_between, behind, bit_says_pointer, Bitmap, bits_of, Done, Ended, EndsWith, Field, field_of, FindRoom, from, given, given_at, goes, goes_at, Held, Layout, Load, LoadBitmap, LoadField, LoadPage, next_in, object_of, Page, reference_in, references_at, references_in, Row, Scanning, ScanStage, Shaded, shaded_at, Shading, slot_told, StepsAt, Touch, transitions, WantsRoom}
use Rattle.gh_shade.specs.Listing as shade
use Rattle.gh_wbuf.specs.RoomFinding as room

append_nil : (xs : List ℕ) → xs ++ [] ≡ xs
append_nil [] = refl
append_nil (x ∷ xs) = ap (λ (ys : List ℕ). x ∷ ys) (append_nil xs)

append_one : (xs : List ℕ) (y : ℕ) (ys : List ℕ) → (xs ++ (y ∷ [])) ++ ys ≡ xs ++ (y ∷ ys)
append_one [] y ys = refl
append_one (x ∷ xs) y ys = ap (λ (zs : List ℕ). x ∷ zs) (append_one xs y ys)

same_word : (y : ℕ) → ((y + 1) % 64 == 0) ≡ false → (y + 1) / 64 ≡ y / 64
same_word y e = grind (arith, common_steps)

module _ (bits fields : Row) (l : Layout) where
  abbrev refs : (words x : ℕ) → List ℕ
  refs words x = references_in bits fields l words x

  abbrev refs_from : (end x : ℕ) → List ℕ
  refs_from end x = refs (end - x) x

  first : (end x : ℕ) → x < end → refs_from end x ≡ references_at bits fields l x ++ refs_from end (x + 1)
  first end x lt =
      let e : end - x ≡ suc (end - (x + 1)) = omega arith in
      ap (λ (n : ℕ). refs n x) e

  none_at : (x : ℕ) → bit_says_pointer (bits_of bits fields l x) x ≡ false → references_at bits fields l x ≡ []
  none_at x e = ap (λ (b : Bool). cond b (cond (field_of bits fields l x == 0) [] (reference_in l (field_of bits fields l x) ∷ [])) []) e

  field_at : (x : ℕ) (b : Bool) → bit_says_pointer (bits_of bits fields l x) x ≡ true → (field_of bits fields l x == 0) ≡ b → references_at bits fields l x ≡ cond b [] (reference_in l (field_of bits fields l x) ∷ [])
  field_at x b e z =
      ap (λ (c : Bool). cond c (cond (field_of bits fields l x == 0) [] (reference_in l (field_of bits fields l x) ∷ [])) []) e
      ∙ ap (λ (c : Bool). cond {A = List ℕ} c [] (reference_in l (field_of bits fields l x) ∷ [])) z

  -- the next word for which something is loaded, and no reference before it
  record Next (w end z : ℕ) (list : List ℕ) : Type 0 where
    below : z < end
    same : list ≡ refs_from end z
    word : (z % 64 == 0) ≡ false → w ≡ bits_of bits fields l z
    pointer : (z % 64 == 0) ≡ false → bit_says_pointer w z ≡ true

  abbrev Reaches : (w end : ℕ) → List ℕ → Option ℕ → Type 0
  Reaches w end list None = list ≡ []
  Reaches w end list (Some z) = Next w end z list

  reach : (w end k y : ℕ) → y + k ≡ end → ((y % 64 == 0) ≡ false → w ≡ bits_of bits fields l y) → Reaches w end (refs k y) (next_in w k y)
  reach w end zero y e h = refl
  reach w end (suc k) y e h =
      let sum : (y + 1) + k ≡ end = omega arith in
      by (λ later. reach w end k (y + 1) sum later) (y % 64 == 0) (bit_says_pointer w y) refl refl where
        here : refs (suc k) y ≡ refs_from end y
        here =
            let n : suc k ≡ end - y = omega arith in
            ap (λ (m : ℕ). refs m y) n

        by : ((((y + 1) % 64 == 0) ≡ false → w ≡ bits_of bits fields l (y + 1)) → Reaches w end (refs k (y + 1)) (next_in w k (y + 1))) → (z p : Bool) → (y % 64 == 0) ≡ z → bit_says_pointer w y ≡ p → Reaches w end (refs (suc k) y) (cond (z || p) (Some y) (next_in w k (y + 1)))
        by rest true p ez ep = record { below = omega arith; same = here; word = λ ne. absurd (cc); pointer = λ ne. absurd (cc) }
        by rest false true ez ep = record { below = omega arith; same = here; word = h; pointer = λ ne. ep }
        by rest false false ez ep =
            let w_is : w ≡ bits_of bits fields l y = h ez in
            let off : bit_says_pointer (bits_of bits fields l y) y ≡ false = ap (λ (v : ℕ). bit_says_pointer v y) (sym w_is) ∙ ep in
            let skip : refs (suc k) y ≡ refs k (y + 1) = ap (λ (ls : List ℕ). ls ++ refs k (y + 1)) (none_at y off) in
            let later : ((y + 1) % 64 == 0) ≡ false → w ≡ bits_of bits fields l (y + 1) = λ ne. w_is ∙ ap (λ (q : ℕ). bits (q % (16 * l.pages))) (sym (same_word y ne)) in
            subst (λ (ls : List ℕ). Reaches w end ls (next_in w k (y + 1))) (sym skip) (rest later)

  module _ (seat reference slot : ℕ) where
    abbrev stop : ℕ
    stop = object_of reference + slot

    abbrev all : List ℕ
    all = refs slot (object_of reference)

    abbrev state : Option Held → (x w : ℕ) → ScanStage → Scanning
    state h x w stage = record { seat = seat; reference = reference; held = h; slot = slot; at = x; bits = w; stage = stage }

    pub record AtBits (x : ℕ) (done : List ℕ) : Type 0 where
      pub below : x < stop
      pub left : done ++ refs_from stop x ≡ all

    pub record AtField (x w : ℕ) (done : List ℕ) : Type 0 where
      pub below : x < stop
      pub left : done ++ refs_from stop x ≡ all
      pub word : w ≡ bits_of bits fields l x
      pub pointer : bit_says_pointer w x ≡ true

    pub record AtShade (x w : ℕ) (done : List ℕ) : Type 0 where
      pub below : x < stop
      pub left : done ++ refs_from stop (x + 1) ≡ all
      pub word : w ≡ bits_of bits fields l x

    abbrev pub Knows : (x w : ℕ) → List ℕ → ScanStage → Type 0
    Knows x w done LoadPage = ⊥
    Knows x w done LoadBitmap = AtBits x done
    Knows x w done LoadField = AtField x w done
    Knows x w done (Shading sh) = AtShade x w done
    Knows x w done (FindRoom sh r) = AtShade x w done
    Knows x w done (Ended words) = done ≡ all

    pub record Is (s : Scanning) (done : List ℕ) : Type 0 where
      pub held : Option Held
      pub at : ℕ
      pub word : ℕ
      pub stage : ScanStage
      pub is : s ≡ state held at word stage
      pub knows : Knows at word done stage

    -- nothing was shaded with the step
    with_none : (s : Scanning) (done more : List ℕ) → more ≡ [] → Is s done → Is s (done ++ more)
    with_none s done more e i = grind (arith, append_nil)

    go : (h : Option Held) (x w : ℕ) (stage : ScanStage) (done : List ℕ) → AtShade x w done → Is (behind (state h x w stage)) done × (shaded_at (behind (state h x w stage)).stage ≡ [])
    go h x w stage done k = by (next_in w (stop - (x + 1)) (x + 1)) (reach w stop (stop - (x + 1)) (x + 1) sum later) where
      below : x < stop
      below = k.below

      sum : (x + 1) + (stop - (x + 1)) ≡ stop
      sum = omega arith

      later : ((x + 1) % 64 == 0) ≡ false → w ≡ bits_of bits fields l (x + 1)
      later ne = k.word ∙ ap (λ (q : ℕ). bits (q % (16 * l.pages))) (sym (same_word x ne))

      by : (next : Option ℕ) → Reaches w stop (refs_from stop (x + 1)) next → Is (at_next (state h x w stage) next) done × (shaded_at (at_next (state h x w stage) next).stage ≡ [])
      by None r = (record { held = h; at = x; word = w; stage = Ended slot; is = refl; knows = sym (append_nil done) ∙ ap (λ (ls : List ℕ). done ++ ls) (sym r) ∙ k.left }, refl)
      by (Some z) r = at_word (z % 64 == 0) refl where
        left : done ++ refs_from stop z ≡ all
        left = ap (λ (ls : List ℕ). done ++ ls) (sym r.same) ∙ k.left

        at_word : (b : Bool) → (z % 64 == 0) ≡ b → Is (state h z w (cond b LoadBitmap LoadField)) done × (shaded_at (cond b LoadBitmap LoadField) ≡ [])
        at_word true e = (record { held = h; at = z; word = w; stage = LoadBitmap; is = refl; knows = record { below = r.below; left = left } }, refl)
        at_word false e = (record { held = h; at = z; word = w; stage = LoadField; is = refl; knows = record { below = r.below; left = left; word = r.word e; pointer = r.pointer e } }, refl)

    module _ (v : ℕ) where
      -- the step finds a word of the row that it is on
      pub record Finds (s : Scanning) : Type 0 where
        pub bits_are : (i : ℕ) → asks l s ≡ Load (Bitmap i) → v ≡ bits i
        pub fields_are : (i : ℕ) → asks l s ≡ Load (Field i) → v ≡ fields i

      step : (h : Option Held) (x w : ℕ) (stage : ScanStage) (done : List ℕ) → Knows x w done stage → Finds (state h x w stage) →
          Is (goes l (state h x w stage) v) (done ++ begun_between stage (goes l (state h x w stage) v).stage)
      step h x w LoadPage done k f = absurd k
      step h x w LoadBitmap done k f = by (bit_says_pointer v x) refl where
        v_is : v ≡ bits_of bits fields l x
        v_is = f.bits_are (x / 64 % (16 * l.pages)) refl

        by : (b : Bool) → bit_says_pointer v x ≡ b → Is (cond b (state h x v LoadField) (behind (state h x v LoadBitmap))) (done ++ shaded_at (cond b (state h x v LoadField) (behind (state h x v LoadBitmap))).stage)
        by true e = with_none _ done [] refl (record { held = h; at = x; word = v; stage = LoadField; is = refl; knows = record { below = k.below; left = k.left; word = v_is; pointer = e } })
        by false e =
            let off : bit_says_pointer (bits_of bits fields l x) x ≡ false = ap (λ (u : ℕ). bit_says_pointer u x) (sym v_is) ∙ e in
            let skip : refs_from stop x ≡ refs_from stop (x + 1) = first stop x k.below ∙ ap (λ (ls : List ℕ). ls ++ refs_from stop (x + 1)) (none_at x off) in
            let on = go h x v LoadBitmap done (record { below = k.below; left = ap (λ (ls : List ℕ). done ++ ls) (sym skip) ∙ k.left; word = v_is }) in
            with_none _ done _ on.1 on.0
      step h x w LoadField done k f = by (v == 0) refl where
        v_is : v ≡ field_of bits fields l x
        v_is = f.fields_are (x % (1024 * l.pages)) refl

        on_bit : bit_says_pointer (bits_of bits fields l x) x ≡ true
        on_bit = ap (λ (u : ℕ). bit_says_pointer u x) (sym k.word) ∙ k.pointer

        by : (b : Bool) → (v == 0) ≡ b → Is (cond b (behind (state h x w LoadField)) (state h x w (Shading (shade.opening (reference_in l v) h)))) (done ++ shaded_at (cond b (behind (state h x w LoadField)) (state h x w (Shading (shade.opening (reference_in l v) h)))).stage)
        by true e =
            let nil : references_at bits fields l x ≡ [] = field_at x true on_bit (ap (λ (u : ℕ). u == 0) (sym v_is) ∙ e) in
            let skip : refs_from stop x ≡ refs_from stop (x + 1) = first stop x k.below ∙ ap (λ (ls : List ℕ). ls ++ refs_from stop (x + 1)) nil in
            let on = go h x w LoadField done (record { below = k.below; left = ap (λ (ls : List ℕ). done ++ ls) (sym skip) ∙ k.left; word = k.word }) in
            with_none _ done _ on.1 on.0
        by false e =
            let one : references_at bits fields l x ≡ reference_in l v ∷ [] = field_at x false on_bit (ap (λ (u : ℕ). u == 0) (sym v_is) ∙ e) ∙ ap (λ (u : ℕ). reference_in l u ∷ []) (sym v_is) in
            let more : refs_from stop x ≡ reference_in l v ∷ refs_from stop (x + 1) = first stop x k.below ∙ ap (λ (ls : List ℕ). ls ++ refs_from stop (x + 1)) one in
            let left : (done ++ (reference_in l v ∷ [])) ++ refs_from stop (x + 1) ≡ all = append_one done (reference_in l v) (refs_from stop (x + 1)) ∙ ap (λ (ls : List ℕ). done ++ ls) (sym more) ∙ k.left in
            record { held = h; at = x; word = w; stage = Shading (shade.opening (reference_in l v) h); is = refl; knows = record { below = k.below; left = left; word = k.word } }
      step h x w (Shading sh) done k f = with_none _ done [] refl (by (shade.goes sh v) (shade.gives sh v)) where
        by : (next : shade.Shading) (out : Option Shaded) → Is (after_shade (state h x w (Shading sh)) next out) done
        by next None = record { held = h; at = x; word = w; stage = Shading next; is = refl; knows = k }
        by next (Some Done) = (go next.held x w (Shading sh) done k).0
        by next (Some WantsRoom) = record { held = h; at = x; word = w; stage = FindRoom next (room.opening seat next.held); is = refl; knows = k }
      step h x w (FindRoom sh r) done k f = with_none _ done [] refl (by (room.goes l r v) (room.gives l r v)) where
        by : (next : room.RoomFinding) (out : Option Held) → Is (after_room (state h x w (FindRoom sh r)) sh next out) done
        by next None = record { held = h; at = x; word = w; stage = FindRoom sh next; is = refl; knows = k }
        by next (Some own) = record { held = h; at = x; word = w; stage = Shading (shade.told_room sh own); is = refl; knows = k }
      step h x w (Ended words) done k f = with_none _ done [] refl (record { held = h; at = x; word = w; stage = Ended words; is = refl; knows = k })

module _ (l : Layout) (seat reference : ℕ) (held : Option Held) (found : ℕ → ℕ) (some : 1 ≤ slot_told l seat reference held found) where
  abbrev slot : ℕ
  slot = slot_told l seat reference held found

  abbrev state_n : ℕ → Scanning
  state_n n = after l seat reference held found n

  abbrev begun_n : ℕ → List ℕ
  begun_n n = begun l seat reference held found n

  module _ (bits fields : Row) (told_rows : AreTold l seat reference held found bits fields) where
    step_of : (s : Scanning) (done : List ℕ) (v : ℕ) → Is bits fields l seat reference slot s done → Finds bits fields l seat reference slot v s →
        Is bits fields l seat reference slot (goes l s v) (done ++ begun_between s.stage (goes l s v).stage)
    step_of s done v i = grind (arith, step)

    pub is_at : (n : ℕ) → Is bits fields l seat reference slot (state_n (suc n)) (begun_n (suc n))
    is_at zero =
        let below : object_of reference < object_of reference + slot = omega arith in
        let words : (object_of reference + slot) - object_of reference ≡ slot = omega arith in
        record { held = held; at = object_of reference; word = 0; stage = LoadBitmap; is = refl; knows = record { below = below; left = ap (λ (m : ℕ). references_in bits fields l m (object_of reference)) words } }
    is_at (suc n) = step_of (state_n (suc n)) (begun_n (suc n)) (found (suc n)) (is_at n) (record { bits_are = told_rows.bits_are (suc n); fields_are = told_rows.fields_are (suc n) })

    ended : (x w : ℕ) (done : List ℕ) (stage : ScanStage) (out : ℕ) → Knows bits fields l seat reference slot x w done stage → given_at stage ≡ Some out → done ≡ all bits fields l seat reference slot
    ended x w done stage out k e = grind arith

    pub all_begun : (n w : ℕ) → EndsWith (transitions l) (from l seat reference held found) found n w → begun_n (suc n) ≡ all bits fields l seat reference slot
    all_begun n w e =
        let i = is_at n in
        ended i.at i.word (begun_n (suc n)) i.stage w i.knows (sym (ap given i.is) ∙ e)

  pub steps_at : (s : Scanning) (stage : ScanStage) → s.stage ≡ stage → StepsAt l s stage
  steps_at s LoadPage e = record { cell = Page (object_of s.reference / 1024); loads = ap (asks_at l s) e }
  steps_at s LoadBitmap e = record { cell = Bitmap (s.at / 64 % (16 * l.pages)); loads = ap (asks_at l s) e }
  steps_at s LoadField e = record { cell = Field (s.at % (1024 * l.pages)); loads = ap (asks_at l s) e }
  steps_at s (Ended words) e = record { cell = Touch; loads = ap (asks_at l s) e }
  steps_at s (Shading sh) e = record { asks_it = ap (asks_at l s) e; goes_on = goes_on; wants = wants } where
    goes_on : (v : ℕ) → shade.gives sh v ≡ None → (goes l s v).stage ≡ Shading (shade.goes sh v)
    goes_on v none = ap (λ (g : ScanStage). (goes_at l s g v).stage) e ∙ ap (λ (out : Option Shaded). (after_shade s (shade.goes sh v) out).stage) none

    wants : (v : ℕ) → shade.gives sh v ≡ Some WantsRoom → (goes l s v).stage ≡ FindRoom (shade.goes sh v) (room.opening s.seat (shade.goes sh v).held)
    wants v want = ap (λ (g : ScanStage). (goes_at l s g v).stage) e ∙ ap (λ (out : Option Shaded). (after_shade s (shade.goes sh v) out).stage) want
  steps_at s (FindRoom sh r) e = record { asks_it = ap (asks_at l s) e; goes_on = goes_on; tells = tells } where
    goes_on : (v : ℕ) → room.gives l r v ≡ None → (goes l s v).stage ≡ FindRoom sh (room.goes l r v)
    goes_on v none = ap (λ (g : ScanStage). (goes_at l s g v).stage) e ∙ ap (λ (out : Option Held). (after_room s sh (room.goes l r v) out).stage) none

    tells : (v : ℕ) (h : Held) → room.gives l r v ≡ Some h → (goes l s v).stage ≡ Shading (shade.told_room sh h)
    tells v h took = ap (λ (g : ScanStage). (goes_at l s g v).stage) e ∙ ap (λ (out : Option Held). (after_room s sh (room.goes l r v) out).stage) took
