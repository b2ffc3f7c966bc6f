-- In a slot that lies in the heap each bitmap word and each field is asked for once, so that what was told is what some rows hold.
use Rattle.std.proofs.Common.{◌≡◌, ◌≢◌, ℕ, zero, suc, ◌+◌, ◌-◌, ◌*◌, ◌/◌, ◌<◌, ◌≤◌, ◌==◌, Bool, true, false, cond, Option, Some, None, refl, sym, ap, ◌∙◌, arith, below_more}
use Rattle.gh_scan.proofs.Vocabulary.{after, after_room, after_shade, asks, asks_at, at_next, behind, bit_says_pointer, Bitmap, Cell, cell_of, CellsAreTold, Done, end, Ended, Field, FindRoom, goes_at, Held, is_busy, Layout, LiesInHeap, Load, LoadBitmap, LoadField, LoadPage, next_from, object_of, put, reference_in, Scanning, ScansInOrder, ScanStage, Shaded, Shading, slot_told, WantsRoom, Words, words_told}
use Rattle.gh_scan.proofs.Order.{Between, next_between}
use Rattle.gh_shade.specs.Listing as shade
use Rattle.gh_wbuf.specs.RoomFinding as room

-- Shading and the search for room are on no bitmap word, and on no field.

-- How far it has come: all that was asked for is below, and what it asks for at this stage is not.

abbrev bits_front : (x : ℕ) → ScanStage → ℕ
bits_front x LoadPage = 0
bits_front x LoadBitmap = x / 64
bits_front x _ = x / 64 + 1

abbrev fields_front : (x : ℕ) → ScanStage → ℕ
fields_front x LoadPage = 0
fields_front x LoadBitmap = x
fields_front x LoadField = x
fields_front x _ = x + 1

-- and after the step of this stage
abbrev bits_passed : (x : ℕ) → ScanStage → ℕ
bits_passed x LoadPage = 0
bits_passed x _ = x / 64 + 1

abbrev fields_passed : (x : ℕ) → ScanStage → ℕ
fields_passed x LoadPage = 0
fields_passed x LoadBitmap = x
fields_passed x _ = x + 1

record Passes (bits fields : ℕ) (s : Scanning) : Type 0 where
  bits_up : bits ≤ bits_front s.at s.stage
  fields_up : fields ≤ fields_front s.at s.stage

less : (bits fields fewer : ℕ) (s : Scanning) → fewer ≤ fields → Passes bits fields s → Passes bits fewer s
less bits fields fewer s le p =
    let up : fields ≤ fields_front s.at s.stage = p.fields_up in
    record { bits_up = p.bits_up; fields_up = omega arith }

same : (x : ℕ) → x ≤ x
same x = omega arith

one_more : (x : ℕ) → x ≤ x + 1
one_more x = omega arith

behind_passes : (s : Scanning) → Passes (s.at / 64 + 1) (s.at + 1) (behind s)
behind_passes s = by (next_from s.bits (end s) (s.at + 1)) (next_between (s.at + 1) s.bits (end s - (s.at + 1)) (s.at + 1) (same (s.at + 1))) where
  by : (next : Option ℕ) → Between (s.at + 1) ((s.at + 1) + (end s - (s.at + 1))) next → Passes (s.at / 64 + 1) (s.at + 1) (at_next s next)
  by next b = grind arith

passes_at : (l : Layout) (s : Scanning) (stage : ScanStage) (v : ℕ) → s.stage ≡ stage → Passes (bits_passed s.at stage) (fields_passed s.at stage) (goes_at l s stage v)
passes_at l s LoadPage v is = record { bits_up = omega arith; fields_up = omega arith }
passes_at l s LoadBitmap v is = by (bit_says_pointer v s.at) where
  by : (b : Bool) → Passes (s.at / 64 + 1) s.at (cond b (record s { bits = v; stage = LoadField }) (behind (record s { bits = v })))
  by true = record { bits_up = same (s.at / 64 + 1); fields_up = same s.at }
  by false = less (s.at / 64 + 1) (s.at + 1) s.at (behind (record s { bits = v })) (one_more s.at) (behind_passes (record s { bits = v }))
passes_at l s LoadField v is = by (v == 0) where
  by : (b : Bool) → Passes (s.at / 64 + 1) (s.at + 1) (cond b (behind s) (record s { stage = Shading (shade.opening (reference_in l v) s.held) }))
  by true = behind_passes s
  by false = record { bits_up = same (s.at / 64 + 1); fields_up = same (s.at + 1) }
passes_at l s (Shading sh) v is = by (shade.goes sh v) (shade.gives sh v) where
  by : (next : shade.Shading) (out : Option Shaded) → Passes (s.at / 64 + 1) (s.at + 1) (after_shade s next out)
  by next None = record { bits_up = same (s.at / 64 + 1); fields_up = same (s.at + 1) }
  by next (Some Done) = behind_passes (record s { held = next.held })
  by next (Some WantsRoom) = record { bits_up = same (s.at / 64 + 1); fields_up = same (s.at + 1) }
passes_at l s (FindRoom sh r) v is = by (room.goes l r v) (room.gives l r v) where
  by : (next : room.RoomFinding) (out : Option Held) → Passes (s.at / 64 + 1) (s.at + 1) (after_room s sh next out)
  by next None = record { bits_up = same (s.at / 64 + 1); fields_up = same (s.at + 1) }
  by next (Some own) = record { bits_up = same (s.at / 64 + 1); fields_up = same (s.at + 1) }
passes_at l s (Ended words) v is =
    let bits : bits_front s.at s.stage ≡ s.at / 64 + 1 = ap (λ (g : ScanStage). bits_front s.at g) is in
    let fields : fields_front s.at s.stage ≡ s.at + 1 = ap (λ (g : ScanStage). fields_front s.at g) is in
    record { bits_up = omega arith; fields_up = omega arith }

bits_rise : (x : ℕ) (stage : ScanStage) → bits_front x stage ≤ bits_passed x stage
bits_rise x stage = grind arith

fields_rise : (x : ℕ) (stage : ScanStage) → fields_front x stage ≤ fields_passed x stage
fields_rise x stage = grind arith

-- index i of a row is asked for here: it is not below the front, and is afterwards
record AtFront (front passed i : ℕ) : Type 0 where
  here : front ≤ i
  below : i < passed

module _ (l : Layout) (s : Scanning) where
  -- where it asks for a word of the slot that lies in the heap
  abbrev Inside : ScanStage → Type 0
  Inside stage = is_busy stage ≡ true → s.at < 1024 * l.pages

  bits_at : (stage : ScanStage) (i : ℕ) → Inside stage → cell_of (asks_at l s stage) ≡ Bitmap i → AtFront (bits_front s.at stage) (bits_passed s.at stage) i
  bits_at stage i inside e = grind arith

  fields_at : (stage : ScanStage) (i : ℕ) → Inside stage → cell_of (asks_at l s stage) ≡ Field i → AtFront (fields_front s.at stage) (fields_passed s.at stage) i
  fields_at stage i inside e = grind arith

module _ (cells : CellsAreTold) (l : Layout) (seat reference : ℕ) (held : Option Held) (found : ℕ → ℕ) where
  abbrev state_n : ℕ → Scanning
  state_n n = after l seat reference held found n

  abbrev words_n : ℕ → Words
  words_n n = words_told l seat reference held found n

  -- a row of which each word is asked for at a front that rises
  module _ (row : ℕ → Cell) (front : ℕ → ℕ) (rises : (n : ℕ) → front n ≤ front (suc n))
      (at_front : (n i : ℕ) → cell_of (asks l (state_n n)) ≡ row i → AtFront (front n) (front (suc n)) i) where
    record Kept (n k i : ℕ) : Type 0 where
      holds : found k ≡ words_n n (row i)
      below : i < front n

    abbrev KeptOf : (n k : ℕ) → Type 0
    KeptOf n k = (i : ℕ) → asks l (state_n k) ≡ Load (row i) → Kept n k i

    -- the step that asks for it
    kept_here : (n : ℕ) → KeptOf (suc n) n
    kept_here n i e =
        let cell : cell_of (asks l (state_n n)) ≡ row i = ap cell_of e in
        let wrote : put (words_n n) (row i) (found n) (row i) ≡ found n = cells.put_here (words_n n) (row i) (found n) in
        let holds : put (words_n n) (cell_of (asks l (state_n n))) (found n) (row i) ≡ found n = ap (λ (c : Cell). put (words_n n) c (found n) (row i)) cell ∙ wrote in
        record { holds = sym holds; below = (at_front n i cell).below }

    -- and each step after it
    kept_on : (n k i : ℕ) → Kept n k i → Kept (suc n) k i
    kept_on n k i was =
        let below : i < front n = was.below in
        let up : front n ≤ front (suc n) = rises n in
        let apart : cell_of (asks l (state_n n)) ≢ row i = λ e. (let here : front n ≤ i = (at_front n i e).here in omega arith) in
        let stays : put (words_n n) (cell_of (asks l (state_n n))) (found n) (row i) ≡ words_n n (row i) = cells.put_elsewhere (words_n n) (cell_of (asks l (state_n n))) (row i) (found n) apart in
        record { holds = was.holds ∙ sym stays; below = omega arith }

    kept : (n k : ℕ) → k < n → KeptOf n k
    kept zero k lt = absurd (omega arith)
    kept (suc n) k lt =
        let lt_more : k < n + 1 = omega arith in
        below_more (λ (j : ℕ). KeptOf (suc n) j) n (λ j below i e. kept_on n j i (kept n j below i e)) (kept_here n) k lt_more

    once : (k n i : ℕ) → k < n → asks l (state_n k) ≡ Load (row i) → asks l (state_n n) ≢ Load (row i)
    once k n i lt e again =
        let below : i < front n = (kept n k lt i e).below in
        let here : front n ≤ i = (at_front n i (ap cell_of again)).here in
        omega arith

  module _ (order : ScansInOrder l seat reference held found) (lies : LiesInHeap l seat reference held found) where
    abbrev bits_n : ℕ → ℕ
    bits_n n = bits_front (state_n n).at (state_n n).stage

    abbrev fields_n : ℕ → ℕ
    fields_n n = fields_front (state_n n).at (state_n n).stage

    passes : (n : ℕ) → Passes (bits_passed (state_n n).at (state_n n).stage) (fields_passed (state_n n).at (state_n n).stage) (state_n (suc n))
    passes n = passes_at l (state_n n) (state_n n).stage (found n) refl

    bits_rise_n : (n : ℕ) → bits_n n ≤ bits_n (suc n)
    bits_rise_n n = grind (arith, bits_rise, passes)

    fields_rise_n : (n : ℕ) → fields_n n ≤ fields_n (suc n)
    fields_rise_n n =
        let up : fields_n n ≤ fields_passed (state_n n).at (state_n n).stage = fields_rise (state_n n).at (state_n n).stage in
        let on : fields_passed (state_n n).at (state_n n).stage ≤ fields_n (suc n) = (passes n).fields_up in
        omega arith

    inside : (n : ℕ) → Inside l (state_n (suc n)) (state_n (suc n)).stage
    inside n busy =
        let within : (state_n (suc n)).at < object_of reference + slot_told l seat reference held found = order.within n busy in
        let heap : object_of reference + slot_told l seat reference held found ≤ 1024 * l.pages = lies in
        omega arith

    bits_ask : (n i : ℕ) → cell_of (asks l (state_n n)) ≡ Bitmap i → AtFront (bits_n n) (bits_n (suc n)) i
    bits_ask zero i e = absurd (cc)
    bits_ask (suc n) i e =
        let at = bits_at l (state_n (suc n)) (state_n (suc n)).stage i (inside n) e in
        let below : i < bits_passed (state_n (suc n)).at (state_n (suc n)).stage = at.below in
        let on : bits_passed (state_n (suc n)).at (state_n (suc n)).stage ≤ bits_n (suc (suc n)) = (passes (suc n)).bits_up in
        record { here = at.here; below = omega arith }

    fields_ask : (n i : ℕ) → cell_of (asks l (state_n n)) ≡ Field i → AtFront (fields_n n) (fields_n (suc n)) i
    fields_ask zero i e = absurd (cc)
    fields_ask (suc n) i e =
        let at = fields_at l (state_n (suc n)) (state_n (suc n)).stage i (inside n) e in
        let below : i < fields_passed (state_n (suc n)).at (state_n (suc n)).stage = at.below in
        let on : fields_passed (state_n (suc n)).at (state_n (suc n)).stage ≤ fields_n (suc (suc n)) = (passes (suc n)).fields_up in
        record { here = at.here; below = omega arith }

    pub bitmap_once : (k n i : ℕ) → k < n → asks l (state_n k) ≡ Load (Bitmap i) → asks l (state_n n) ≢ Load (Bitmap i)
    bitmap_once = once Bitmap bits_n bits_rise_n bits_ask

    pub fields_once : (k n i : ℕ) → k < n → asks l (state_n k) ≡ Load (Field i) → asks l (state_n n) ≢ Load (Field i)
    fields_once = once Field fields_n fields_rise_n fields_ask

    -- what was told in the first n steps is what the rows have then
    pub bits_kept : (n k i : ℕ) → k < n → asks l (state_n k) ≡ Load (Bitmap i) → found k ≡ words_n n (Bitmap i)
    bits_kept n k i lt e = (kept Bitmap bits_n bits_rise_n bits_ask n k lt i e).holds

    pub fields_kept : (n k i : ℕ) → k < n → asks l (state_n k) ≡ Load (Field i) → found k ≡ words_n n (Field i)
    fields_kept n k i lt e = (kept Field fields_n fields_rise_n fields_ask n k lt i e).holds
