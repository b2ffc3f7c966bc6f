-- The scan of an object ends exactly where nothing is left to be loaded, and rests then.
use Rattle.std.proofs.Common.{◌≡◌, ℕ, zero, suc, ◌+◌, ◌-◌, ◌<◌, ◌≤◌, ◌==◌, Bool, true, false, cond, Option, Some, None, refl, sym, ap, subst, ◌∙◌, arith, below_more}
use Rattle.std.proofs.lemmas.Bool.{eqb-true, eq-eqb}
use Rattle.gh_scan.proofs.Vocabulary.{after, after_room, after_shade, at_next, behind, bit_says_pointer, Done, DoneWith, end, Ended, EndsAtOnce, EndsWith, FindRoom, from, given, given_at, goes_at, GoesOn, Held, is_busy, is_loaded, IsDoneWithWord, Layout, LoadBitmap, LoadField, LoadPage, next_from, next_in, NoneLeft, object_of, reference_in, Scanning, ScanStage, Shaded, Shading, slot_told, transitions, WantsRoom}
use Rattle.gh_shade.specs.Listing as shade
use Rattle.gh_wbuf.specs.RoomFinding as room

-- among so many words from y on nothing is loaded for any
abbrev NoneIn : (w k y : ℕ) → Type 0
NoneIn w k y = (z : ℕ) → y ≤ z → z < y + k → is_loaded w z ≡ false

next_is_none : (w k y : ℕ) → NoneIn w k y → next_in w k y ≡ None
next_is_none w zero y none = refl
next_is_none w (suc k) y none =
    let le : y ≤ y = omega arith in
    let lt : y < y + suc k = omega arith in
    let here : is_loaded w y ≡ false = none y le lt in
    ap (λ (b : Bool). cond b (Some y) (next_in w k (y + 1))) here ∙ next_is_none w k (y + 1) (λ z low high. none z (omega arith) (omega arith))

none_is_next : (w k y : ℕ) → next_in w k y ≡ None → NoneIn w k y
none_is_next w zero y e z low high = absurd (omega arith)
none_is_next w (suc k) y e z low high = by (λ rest. none_is_next w k (y + 1) rest z) (is_loaded w y) refl e where
  by : ((next_in w k (y + 1) ≡ None) → y + 1 ≤ z → z < (y + 1) + k → is_loaded w z ≡ false) → (b : Bool) → is_loaded w y ≡ b → cond b (Some y) (next_in w k (y + 1)) ≡ None → is_loaded w z ≡ false
  by on b here never = grind arith

-- nothing is loaded behind the word that it is at, by this bitmap word
abbrev Quiet : (s : Scanning) (w : ℕ) → Type 0
Quiet s w = (y : ℕ) → s.at < y → y < end s → is_loaded w y ≡ false

bits_stay : (s : Scanning) (next : Option ℕ) → (at_next s next).bits ≡ s.bits
bits_stay s next = grind arith

gives_at_next : (s : Scanning) (next : Option ℕ) → next ≡ None → given (at_next s next) ≡ Some s.slot
gives_at_next s next e = ap (λ (o : Option ℕ). given (at_next s o)) e

next_gives : (s : Scanning) (next : Option ℕ) (out : ℕ) → given (at_next s next) ≡ Some out → next ≡ None
next_gives s next out e = grind arith

behind_ends : (s : Scanning) → Quiet s s.bits → given (behind s) ≡ Some s.slot
behind_ends s quiet = gives_at_next s (next_from s.bits (end s) (s.at + 1)) (next_is_none s.bits (end s - (s.at + 1)) (s.at + 1) none) where
  none : NoneIn s.bits (end s - (s.at + 1)) (s.at + 1)
  none z low high = quiet z (omega arith) (omega arith)

ends_behind : (s : Scanning) (out : ℕ) → given (behind s) ≡ Some out → Quiet s s.bits
ends_behind s out e y low high = none_is_next s.bits (end s - (s.at + 1)) (s.at + 1) (next_gives s (next_from s.bits (end s) (s.at + 1)) out e) y (omega arith) (omega arith)

-- by the bit that it found, and by whether the field is nil
abbrev on_bit : (s : Scanning) (v : ℕ) → Bool → Scanning
on_bit s v b = cond b (record s { bits = v; stage = LoadField }) (behind (record s { bits = v }))

abbrev on_field : Layout → (s : Scanning) (v : ℕ) → Bool → Scanning
on_field l s v b = cond b (behind s) (record s { stage = Shading (shade.opening (reference_in l v) s.held) })

-- it ends where it is done with the word that it is at, and nothing is left
ends_at : (l : Layout) (s : Scanning) (stage : ScanStage) (v : ℕ) → IsDoneWithWord stage s.at v → Quiet s (goes_at l s stage v).bits → given (goes_at l s stage v) ≡ Some s.slot
ends_at l s LoadBitmap v done quiet = by (bit_says_pointer v s.at) done quiet where
  by : (b : Bool) → b ≡ false → Quiet s (on_bit s v b).bits → given (on_bit s v b) ≡ Some s.slot
  by true never q = absurd (cc)
  by false e q = behind_ends (record s { bits = v }) (subst (λ (w : ℕ). Quiet s w) (bits_stay (record s { bits = v }) (next_from v (end s) (s.at + 1))) q)
ends_at l s LoadField v done quiet = by (v == 0) (eq-eqb _ _ done) quiet where
  by : (b : Bool) → b ≡ true → Quiet s (on_field l s v b).bits → given (on_field l s v b) ≡ Some s.slot
  by true e q = behind_ends s (subst (λ (w : ℕ). Quiet s w) (bits_stay s (next_from s.bits (end s) (s.at + 1))) q)
  by false never q = absurd (cc)
ends_at l s (Shading sh) v done quiet = by (shade.gives sh v) done quiet where
  by : (out : Option Shaded) → out ≡ Some Done → Quiet s (after_shade s (shade.goes sh v) out).bits → given (after_shade s (shade.goes sh v) out) ≡ Some s.slot
  by None never q = absurd (cc)
  by (Some Done) e q = behind_ends (record s { held = (shade.goes sh v).held }) (subst (λ (w : ℕ). Quiet s w) (bits_stay (record s { held = (shade.goes sh v).held }) (next_from s.bits (end s) (s.at + 1))) q)
  by (Some WantsRoom) never q = absurd (cc)
ends_at l s _ v done quiet = absurd done

-- and only there
only_at : (l : Layout) (s : Scanning) (stage : ScanStage) (v out : ℕ) → is_busy stage ≡ true → given (goes_at l s stage v) ≡ Some out → IsDoneWithWord stage s.at v × Quiet s (goes_at l s stage v).bits
only_at l s LoadPage v out busy e = absurd (cc)
only_at l s LoadBitmap v out busy e = by (bit_says_pointer v s.at) refl e where
  by : (b : Bool) → bit_says_pointer v s.at ≡ b → given (on_bit s v b) ≡ Some out → (b ≡ false) × Quiet s (on_bit s v b).bits
  by true z never = absurd (cc)
  by false z e = (refl, subst (λ (w : ℕ). Quiet s w) (sym (bits_stay (record s { bits = v }) (next_from v (end s) (s.at + 1)))) (ends_behind (record s { bits = v }) out e))
only_at l s LoadField v out busy e = by (v == 0) refl e where
  by : (b : Bool) → (v == 0) ≡ b → given (on_field l s v b) ≡ Some out → (v ≡ 0) × Quiet s (on_field l s v b).bits
  by true z e = (eqb-true _ _ z, subst (λ (w : ℕ). Quiet s w) (sym (bits_stay s (next_from s.bits (end s) (s.at + 1)))) (ends_behind s out e))
  by false z never = absurd (cc)
only_at l s (Shading sh) v out busy e = by (shade.gives sh v) e where
  by : (o : Option Shaded) → given (after_shade s (shade.goes sh v) o) ≡ Some out → (o ≡ Some Done) × Quiet s (after_shade s (shade.goes sh v) o).bits
  by None never = absurd (cc)
  by (Some Done) e = (refl, subst (λ (w : ℕ). Quiet s w) (sym (bits_stay (record s { held = (shade.goes sh v).held }) (next_from s.bits (end s) (s.at + 1)))) (ends_behind (record s { held = (shade.goes sh v).held }) out e))
  by (Some WantsRoom) never = absurd (cc)
only_at l s (FindRoom sh r) v out busy e = by (room.gives l r v) e where
  by : (o : Option Held) → given (after_room s sh (room.goes l r v) o) ≡ Some out → ⊥ × Quiet s (after_room s sh (room.goes l r v) o).bits
  by None never = absurd (cc)
  by (Some own) never = absurd (cc)
only_at l s (Ended words) v out busy e = absurd (cc)

-- once it has given something it has ended, and stays as it is
pub has_ended : (stage : ScanStage) (out : ℕ) → given_at stage ≡ Some out → stage ≡ Ended out
has_ended stage out e = grind arith

module _ (l : Layout) (seat reference : ℕ) (held : Option Held) (found : ℕ → ℕ) where
  abbrev state_n : ℕ → Scanning
  state_n n = after l seat reference held found n

  one_more : (n out : ℕ) → (state_n n).stage ≡ Ended out → (state_n (suc n)).stage ≡ Ended out
  one_more n out e = ap (λ (g : ScanStage). (goes_at l (state_n n) g (found n)).stage) e

  stays_ended : (n k out : ℕ) → (state_n n).stage ≡ Ended out → n ≤ k → (state_n k).stage ≡ Ended out
  stays_ended n zero out e le =
      let same : n ≡ 0 = omega arith in
      subst (λ (m : ℕ). (state_n m).stage ≡ Ended out) same e
  stays_ended n (suc k) out e le =
      let lt : n < suc k + 1 = omega arith in
      below_more (λ (m : ℕ). (state_n m).stage ≡ Ended out → (state_n (suc k)).stage ≡ Ended out) (suc k) (λ m less ended. one_more k out (stays_ended m k out ended (omega arith))) (λ ended. ended) n lt e

  -- from step n on there is nothing to be done
  pub rests : (n k out : ℕ) → EndsWith (transitions l) (from l seat reference held found) found n out → n < k → (state_n k).stage ≡ Ended out
  rests n k out e lt = stays_ended (suc n) k out (has_ended (state_n (suc n)).stage out e) (omega arith)

  abbrev slot : ℕ
  slot = slot_told l seat reference held found

  -- from its second step on it has the numbers of this slot
  module _ (slot_is : (n : ℕ) → (state_n (suc n)).slot ≡ slot) (end_is : (n : ℕ) → end (state_n (suc n)) ≡ object_of reference + slot) where
    ends : (n : ℕ) → DoneWith l seat reference held found n → NoneLeft l seat reference held found n → EndsWith (transitions l) (from l seat reference held found) found n slot
    ends zero done none = absurd done
    ends (suc n) done none =
        ends_at l (state_n (suc n)) (state_n (suc n)).stage (found (suc n)) done (λ y low high. none y low (subst (λ (x : ℕ). y < x) (end_is n) high)) ∙ ap (λ (x : ℕ). Some x) (slot_is n)

    ends_only : (n out : ℕ) → GoesOn (transitions l) (from l seat reference held found) found n → EndsWith (transitions l) (from l seat reference held found) found n out → DoneWith l seat reference held found n × NoneLeft l seat reference held found n
    ends_only zero out busy e = absurd (cc)
    ends_only (suc n) out busy e =
        let at = only_at l (state_n (suc n)) (state_n (suc n)).stage (found (suc n)) out busy e in
        (at.0, λ y low high. at.1 y low (subst (λ (x : ℕ). y < x) (sym (end_is n)) high))

    behind_last : (n : ℕ) → suc (state_n n).at ≡ object_of reference + slot → DoneWith l seat reference held found n → EndsWith (transitions l) (from l seat reference held found) found n slot
    behind_last n last done = grind (arith, ends)

    asks_no_more : (n out k : ℕ) → EndsWith (transitions l) (from l seat reference held found) found n out → n < k → ¬ GoesOn (transitions l) (from l seat reference held found) found k
    asks_no_more n out k e lt busy =
        let not_busy : is_busy (state_n k).stage ≡ false = ap is_busy (rests n k out e lt) in
        absurd (cc)

    pub at_once : EndsAtOnce l seat reference held found
    at_once = record { ends = ends; ends_only = ends_only; behind_last = behind_last; rests = asks_no_more }
