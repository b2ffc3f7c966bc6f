-- The scan of an object goes over the words of its slot in ascending order, whatever it is told.
use Rattle.std.proofs.Common.{◌≡◌, ℕ, zero, suc, ◌+◌, ◌-◌, ◌<◌, ◌≤◌, ◌==◌, Bool, true, false, cond, Option, Some, None, refl, sym, ap, subst, ◌∙◌, arith}
use Rattle.gh_scan.proofs.Vocabulary.{after, after_room, after_shade, at_next, behind, bit_says_pointer, Done, end, Ended, EndsWith, FindRoom, from, given, given_at, goes, GoesOn, Held, is_busy, is_loaded, Layout, LoadBitmap, LoadField, LoadPage, next_in, object_of, reference_in, Scanning, ScansInOrder, ScanStage, Shaded, Shading, slot_told, transitions, WantsRoom}
use Rattle.gh_shade.specs.Listing as shade
use Rattle.gh_wbuf.specs.RoomFinding as room

abbrev pub Between : (low above : ℕ) → Option ℕ → Type 0
Between low above None = Unit {0}
Between low above (Some z) = (low ≤ z) × (z < above)

pub next_between : (low w k y : ℕ) → low ≤ y → Between low (y + k) (next_in w k y)
next_between low w zero y le = tt
next_between low w (suc k) y le =
    let up : low ≤ y + 1 = omega arith in
    let sum : (y + 1) + k ≡ y + suc k = omega arith in
    by (subst (λ (end : ℕ). Between low end (next_in w k (y + 1))) sum (next_between low w k (y + 1) up)) (is_loaded w y) where
      by : Between low (y + suc k) (next_in w k (y + 1)) → (b : Bool) → Between low (y + suc k) (cond b (Some y) (next_in w k (y + 1)))
      by rest true = (le, omega arith)
      by rest false = rest

module _ (l : Layout) (seat reference slot : ℕ) where
  abbrev stop : ℕ
  stop = object_of reference + slot

  abbrev state : Option Held → (x w : ℕ) → ScanStage → Scanning
  state h x w stage = record { seat = seat; reference = reference; held = h; slot = slot; at = x; bits = w; stage = stage }

  abbrev Lies : (x : ℕ) → ScanStage → Type 0
  Lies x LoadPage = ⊥
  Lies x (Ended words) = words ≡ slot
  Lies x _ = x < stop

  -- it is at a word of the slot, and not before this one
  record Is (low : ℕ) (s : Scanning) : Type 0 where
    held : Option Held
    at : ℕ
    word : ℕ
    stage : ScanStage
    is : s ≡ state held at word stage
    lies : Lies at stage
    up : low ≤ at

  go : (h : Option Held) (x w : ℕ) (stage : ScanStage) → x < stop → Is x (behind (state h x w stage))
  go h x w stage lt = by (next_in w (stop - (x + 1)) (x + 1)) (subst (λ (end : ℕ). Between x end (next_in w (stop - (x + 1)) (x + 1))) sum (next_between x w (stop - (x + 1)) (x + 1) le)) where
    sum : (x + 1) + (stop - (x + 1)) ≡ stop
    sum = omega arith

    le : x ≤ x + 1
    le = omega arith

    by : (next : Option ℕ) → Between x stop next → Is x (at_next (state h x w stage) next)
    by next b = grind arith

  same : (x : ℕ) → x ≤ x
  same x = omega arith

  step : (v : ℕ) (h : Option Held) (x w : ℕ) (stage : ScanStage) → Lies x stage → Is x (goes l (state h x w stage) v)
  step v h x w LoadPage k = absurd k
  step v h x w LoadBitmap k = by (bit_says_pointer v x) where
    by : (b : Bool) → Is x (cond b (state h x v LoadField) (behind (state h x v LoadBitmap)))
    by true = record { held = h; at = x; word = v; stage = LoadField; is = refl; lies = k; up = same x }
    by false = go h x v LoadBitmap k
  step v h x w LoadField k = by (v == 0) where
    by : (b : Bool) → Is x (cond b (behind (state h x w LoadField)) (state h x w (Shading (shade.opening (reference_in l v) h))))
    by true = go h x w LoadField k
    by false = record { held = h; at = x; word = w; stage = Shading (shade.opening (reference_in l v) h); is = refl; lies = k; up = same x }
  step v h x w (Shading sh) k = by (shade.goes sh v) (shade.gives sh v) where
    by : (next : shade.Shading) (out : Option Shaded) → Is x (after_shade (state h x w (Shading sh)) next out)
    by next None = record { held = h; at = x; word = w; stage = Shading next; is = refl; lies = k; up = same x }
    by next (Some Done) = go next.held x w (Shading sh) k
    by next (Some WantsRoom) = record { held = h; at = x; word = w; stage = FindRoom next (room.opening seat next.held); is = refl; lies = k; up = same x }
  step v h x w (FindRoom sh r) k = by (room.goes l r v) (room.gives l r v) where
    by : (next : room.RoomFinding) (out : Option Held) → Is x (after_room (state h x w (FindRoom sh r)) sh next out)
    by next None = record { held = h; at = x; word = w; stage = FindRoom sh next; is = refl; lies = k; up = same x }
    by next (Some own) = record { held = h; at = x; word = w; stage = Shading (shade.told_room sh own); is = refl; lies = k; up = same x }
  step v h x w (Ended words) k = record { held = h; at = x; word = w; stage = Ended words; is = refl; lies = k; up = same x }

  goes_up : (s : Scanning) (v low : ℕ) → Is low s → Is s.at (goes l s v)
  goes_up s v low i = grind (arith, step)

  ended : (x : ℕ) (stage : ScanStage) (out : ℕ) → Lies x stage → given_at stage ≡ Some out → out ≡ slot
  ended x stage out k e = grind arith

  busy_below : (x : ℕ) (stage : ScanStage) → Lies x stage → is_busy stage ≡ true → x < stop
  busy_below x stage k e = grind arith

module _ (l : Layout) (seat reference : ℕ) (held : Option Held) (found : ℕ → ℕ) (some : 1 ≤ slot_told l seat reference held found) where
  abbrev slot : ℕ
  slot = slot_told l seat reference held found

  abbrev state_n : ℕ → Scanning
  state_n n = after l seat reference held found n

  record Lying (n : ℕ) : Type 0 where
    low : ℕ
    is : Is l seat reference slot low (state_n (suc n))
    from_object : object_of reference ≤ (state_n (suc n)).at

  lying : (n : ℕ) → Lying n
  lying zero =
      let below : object_of reference < object_of reference + slot = omega arith in
      let up : object_of reference ≤ object_of reference = omega arith in
      record { low = object_of reference; is = record { held = held; at = object_of reference; word = 0; stage = LoadBitmap; is = refl; lies = below; up = up }; from_object = up }
  lying (suc n) =
      let before = lying n in
      let i = goes_up l seat reference slot (state_n (suc n)) (found (suc n)) before.low before.is in
      let at_is : (state_n (suc (suc n))).at ≡ i.at = ap (λ (t : Scanning). t.at) i.is in
      let up : (state_n (suc n)).at ≤ i.at = i.up in
      let first : object_of reference ≤ (state_n (suc n)).at = before.from_object in
      record { low = (state_n (suc n)).at; is = i; from_object = subst (λ (x : ℕ). object_of reference ≤ x) (sym at_is) (omega arith) }

  -- it has these numbers throughout
  pub slot_is : (n : ℕ) → (state_n (suc n)).slot ≡ slot
  slot_is n = ap (λ (t : Scanning). t.slot) (lying n).is.is

  pub end_is : (n : ℕ) → end (state_n (suc n)) ≡ object_of reference + slot
  end_is n = ap (λ (t : Scanning). end t) (lying n).is.is

  pub in_order : ScansInOrder l seat reference held found
  in_order = record { gives_slot = gives_slot; within = within; from_first = λ n. (lying n).from_object; ascends = ascends } where
    gives_slot : (n w : ℕ) → EndsWith (transitions l) (from l seat reference held found) found n w → w ≡ slot
    gives_slot n w e =
        let i = (lying n).is in
        ended l seat reference slot i.at i.stage w i.lies (sym (ap given i.is) ∙ e)

    within : (n : ℕ) → GoesOn (transitions l) (from l seat reference held found) found (suc n) → (state_n (suc n)).at < object_of reference + slot
    within n e =
        let i = (lying n).is in
        subst (λ (t : Scanning). t.at < object_of reference + slot) (sym i.is) (busy_below l seat reference slot i.at i.stage i.lies (sym (ap (λ (t : Scanning). is_busy t.stage) i.is) ∙ e))

    ascends : (n : ℕ) → (state_n (suc n)).at ≤ (state_n (suc (suc n))).at
    ascends n =
        let i = goes_up l seat reference slot (state_n (suc n)) (found (suc n)) (lying n).low (lying n).is in
        subst (λ (t : Scanning). (state_n (suc n)).at ≤ t.at) (sym i.is) i.up
