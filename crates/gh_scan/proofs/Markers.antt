-- While marking is on the steps of the scan are moves that its seat may make. Of the moves, of shading and of the search for room it is known what their laws say.
use Rattle.std.proofs.Common.{◌≡◌, ◌≢◌, ℕ, ◌+◌, ◌-◌, ◌*◌, ◌/◌, ◌%◌, ◌<◌, ◌≤◌, Bool, true, false, cond, eqb, Option, Some, None, inl, inr, refl, sym, ap, subst, ◌∙◌, arith, eqb-true, eq-eqb}
use Rattle.gh_scan.proofs.Vocabulary.{after_room, after_shade, asks_at, at_stage, behind, besides, bit, bit_at, bit_says_pointer, bitmap_words, BitsAre, Cell, cell_of, Cycle, Done, EachHandLasts, EachStepGoesByMoves, effect, Ended, Facts, FindRoom, given_at, goes, goes_at, Good, Hands, Held, in_hand, InHand, IsAt, IsAtPointerField, IsClean, IsMarked, IsPointer, IsSince, Keeps, landing, landing_on, Lands, lands_still, Load, LoadBitmap, LoadField, LoadPage, mod-eq_of_lt, object_of, Others, reference_in, RowsAreWritten, Scanning, ScansByMoves, ScanStage, seen_field, seen_some, seen_word, Shaded, Shades, Shading, Shared, StageFacts, Steps, Taken, WantsRoom, Went, with_bits, with_found_field}
use Rattle.gh_base.specs.declared.cell.Ask.{Ask}
use Rattle.gh_marks.specs.Knows.{KnowsObject, KnowsObjects}
use Rattle.gh_shade.specs.Facts as shade_facts
use Rattle.gh_shade.specs.Listing as shade
use Rattle.gh_wbuf.specs.Facts as room_facts
use Rattle.gh_wbuf.specs.RoomFinding as room
use Rattle.gh_scan.proofs.MarkersAt.{IsDone, KnownOfFacts, at-kept, field-kept, goes-behind, shades-kept}

pub record Known : Type 0 where
  pub rows : RowsAreWritten
  pub marks : KnownOfFacts
  pub last : EachHandLasts
  pub steps : EachStepGoesByMoves
  pub shade : shade_facts.ShadesByMoves
  pub room : room_facts.BuffersPassByMoves

-- a reference that names an object of the cycle, and one that is marked
since-word : (s : Shared) (r : ℕ) → 1 ≤ r → s.since (s.extents.base (shade.object_of r)) ≡ true → IsSince s.since (seen_word s.extents.base r)
since-word s r some known o e = let is : o ≡ s.extents.base (shade.object_of r) = omega (arith, seen_some s.extents.base r some, e) in ap s.since is ∙ known

since-marked : (s : Shared) (r : ℕ) → 1 ≤ r → shade_facts.HasBoth s (shade.object_of r) → IsSince s.since (seen_word s.extents.base r)
since-marked s r some h = since-word s r some (ap s.since h.base ∙ h.known)

module _ (k : Known) (z : Cycle) (a : ℕ) (s : Shared) (rest : InHand) (g : Good z s) (objects : KnowsObjects z s) (m : Scanning) (seat_is : m.seat ≡ a) (known : s.since (object_of m.reference) ≡ true) where
  abbrev o : ℕ
  o = object_of m.reference

  abbrev Leads : Ask → Scanning → Type 0
  Leads ask n = Steps z a s ask (λ t. Keeps z a s t × Facts z a t rest n)

  object : KnowsObject z.arena.layout.pages (λ p. s.words (Cell.Page p)) (bitmap_words s.words) s.extents o
  object = objects o known

  stays : Keeps z a s s
  stays = (k.marks.go_on z a).stays s

  still : (c : Cell) (n : Scanning) → Facts z a s rest n → Leads (Load c) n
  still c n f = lands_still z a s s.words (λ t. Keeps z a s t × Facts z a t rest n) refl (stays, f)

  -- it goes on behind the word that it is done with
  passes : (c : Cell) (n : Scanning) → IsDone k.marks z a s rest g n → Leads (Load c) (behind n)
  passes c n d = goes-behind k.marks z a s rest g n d

  page : Hands a s (in_hand rest m.held (Some o)) → Leads (Load (Cell.Page (o / 1024))) (goes_at z.arena.layout m LoadPage (s.words (Cell.Page (o / 1024))))
  page x = still (Cell.Page (o / 1024)) (goes_at z.arena.layout m LoadPage (s.words (Cell.Page (o / 1024)))) (record {
    seat_is = seat_is;
    known = known;
    stage_is = (record { slot_is = object.size_is; from = omega arith; below = omega (arith, object.some); clean = λ j l lt. absurd (omega arith) }, x);
  })

  module _ (is_at : IsAt s o m.slot m.at) (x : Hands a s (in_hand rest m.held (Some o))) where
    taken : s.colour o ≡ Taken a
    taken = (x.has.is_taken o).0 refl

    scanned : s.extents.noscan o ≡ false
    scanned = g.objects.grey o (rw taken tt)

    in_heap : m.at < 1024 * z.arena.layout.pages
    in_heap = omega (arith, is_at.below, object.within)

    group : m.at / 64 % (16 * z.arena.layout.pages) ≡ m.at / 64
    group = let less : m.at / 64 < 16 * z.arena.layout.pages = omega (arith, in_heap) in mod-eq_of_lt less

    bit-one : (b : Bool) (n : ℕ) → n ≡ bit b → eqb n 1 ≡ b
    bit-one b n e = grind arith

    -- the word of the bitmap says which words are pointer fields
    bits-are : BitsAre s.extents o (s.words (Cell.Bitmap (m.at / 64 % (16 * z.arena.layout.pages)))) m.at
    bits-are j l e =
        let word : bit_at (s.words (Cell.Bitmap ((o + j) / 64))) ((o + j) % 64) ≡ bit (s.extents.pointer o j) = sym (k.rows.bit_of (bitmap_words s.words) ((o + j) / 64) (o + j) refl) ∙ object.pointers_are j l in
        bit-one (s.extents.pointer o j) (bit_at (s.words (Cell.Bitmap (m.at / 64 % (16 * z.arena.layout.pages)))) ((o + j) % 64)) (ap (λ (i : ℕ). bit_at (s.words (Cell.Bitmap i)) ((o + j) % 64)) (group ∙ sym e) ∙ word)

    bitmap : Leads (Load (Cell.Bitmap (m.at / 64 % (16 * z.arena.layout.pages)))) (with_bits m (s.words (Cell.Bitmap (m.at / 64 % (16 * z.arena.layout.pages)))))
    bitmap = by (bit_says_pointer f m.at) refl where
      f : ℕ
      f = s.words (Cell.Bitmap (m.at / 64 % (16 * z.arena.layout.pages)))

      index : m.at ≡ o + (m.at - o)
      index = omega (arith, is_at.from)

      less : m.at - o < s.extents.size o
      less = omega (arith, is_at.below, is_at.from)

      same : bit_says_pointer f m.at ≡ s.extents.pointer o (m.at - o)
      same = ap (bit_says_pointer f) index ∙ bits-are (m.at - o) less (ap (λ (n : ℕ). n / 64) (sym index))

      by : (b : Bool) → bit_says_pointer f m.at ≡ b → Leads (Load (Cell.Bitmap (m.at / 64 % (16 * z.arena.layout.pages)))) (cond b (record m { bits = f; stage = LoadField }) (behind (record m { bits = f })))
      by true e = still (Cell.Bitmap (m.at / 64 % (16 * z.arena.layout.pages))) (record m { bits = f; stage = LoadField }) (record {
        seat_is = seat_is;
        known = known;
        stage_is = (is_at, record { k = m.at - o; at_is = index; pointer = (less, sym same ∙ e, scanned); bits_are = bits-are }, x);
      })
      by false e = passes (Cell.Bitmap (m.at / 64 % (16 * z.arena.layout.pages))) (record m { bits = f }) (record {
        seat_is = seat_is;
        known = known;
        is_at = is_at;
        bits_are = bits-are;
        clean = λ j l at. absurd (none j l at e);
        hands = x;
      }) where
        none : (j : ℕ) → IsPointer s.extents o j → o + j ≡ m.at → bit_says_pointer f m.at ≡ false → ⊥
        none j l at e = let is : bit_says_pointer f (o + j) ≡ true = bits-are j l.0 (ap (λ (n : ℕ). n / 64) at) ∙ l.1 in
            let not : bit_says_pointer f (o + j) ≡ false = ap (bit_says_pointer f) at ∙ e in
            cc

    field : IsAtPointerField s o m.bits m.at → Leads (Load (Cell.Field (m.at % (1024 * z.arena.layout.pages)))) (with_found_field z.arena.layout m (s.words (Cell.Field (m.at % (1024 * z.arena.layout.pages)))))
    field h = subst (λ (i : ℕ). Leads (Load (Cell.Field i)) (with_found_field z.arena.layout m (s.words (Cell.Field i)))) (sym (mod-eq_of_lt in_heap)) (by (eqb v 0) refl) where
      v : ℕ
      v = s.words (Cell.Field m.at)

      is-v : seen_field s (o + h.k) ≡ seen_word s.extents.base v
      is-v = ap (seen_field s) (sym h.at_is)

      at-it : (j : ℕ) → o + j ≡ m.at → seen_field s (o + j) ≡ seen_word s.extents.base v
      at-it j e = ap (seen_field s) e

      by : (b : Bool) → eqb v 0 ≡ b → Leads (Load (Cell.Field m.at)) (cond b (behind m) (at_stage m (Shading (shade.opening (reference_in z.arena.layout v) m.held))))
      by true e = passes (Cell.Field m.at) m (record {
        seat_is = seat_is;
        known = known;
        is_at = is_at;
        bits_are = h.bits_are;
        clean = λ j l at p q. absurd (nil p (seen_field s (o + j)) (at-it j at) (eqb-true _ _ e) q);
        hands = x;
      }) where
        nil : (p w : ℕ) → w ≡ seen_word s.extents.base v → v ≡ 0 → w ≡ p + 1 → ⊥
        nil p w e f q = let none : seen_word s.extents.base v ≡ 0 = ap (seen_word s.extents.base) f in omega (arith, e, none, q)
      by false e =
          let some : v ≢ 0 = λ n. absurd (cc (e, eq-eqb _ _ n)) in
          let is : v ≡ (v - 1) + 1 = omega arith in
          let since : s.since (s.extents.base (v - 1)) ≡ true = g.values.fields o h.k known h.pointer (s.extents.base (v - 1)) (is-v ∙ seen_some s.extents.base v (omega (arith, some))) in
          let whole : v - 1 ≡ s.extents.base (v - 1) = (objects (s.extents.base (v - 1)) since).base_is (v - 1) refl in
          let there : KnowsObject z.arena.layout.pages (λ p. s.words (Cell.Page p)) (bitmap_words s.words) s.extents (v - 1) = objects (v - 1) (ap s.since whole ∙ since) in
          let within : v - 1 < 1024 * z.arena.layout.pages = omega (arith, there.within, there.some) in
          let reference : reference_in z.arena.layout v ≡ v = ap (λ (n : ℕ). n + 1) (mod-eq_of_lt within) ∙ sym is in
          still (Cell.Field m.at) (at_stage m (Shading (shade.opening (reference_in z.arena.layout v) m.held))) (record {
            seat_is = seat_is;
            known = known;
            stage_is = (
              record { is_at = is_at; is_field = h; stands = inl (ap (seen_word s.extents.base) (sym reference)) },
              k.shade.begins z a s (besides rest o) (reference_in z.arena.layout v) m.held (omega arith) (ap (λ (n : ℕ). s.since (s.extents.base (n - 1))) reference ∙ since) x,
            );
          })

  -- the steps of shading
  module _ (sh : shade.Shading) (of_cycle : IsSince s.since (seen_word s.extents.base sh.reference)) (sha : Shades s o m.slot m.at m.bits sh.reference) where
    -- what is known once they are made
    shades-then : (t : Shared) → Keeps z a s t → Shades t o m.slot m.at m.bits (shade.goes sh (s.words (cell_of (shade.asks sh)))).reference
    shades-then t keeps = subst (λ (r : ℕ). Shades t o m.slot m.at m.bits r) (sym (k.shade.same sh (s.words (cell_of (shade.asks sh))))) (shades-kept k.marks z a s t o known keeps m.slot m.at m.bits sh.reference of_cycle sha)

    module _ (t : Shared) (went : Went z a s t) (keeps : Keeps z a s t) where
      good-then : Good z t
      good-then = (k.steps z a s t g went).good

      known-then : t.since o ≡ true
      known-then = keeps.since o known

      -- it lands where it stands
      landed : (n : Scanning) → Facts z a t rest n → Lands z a t t.words (λ u. Keeps z a s u × Facts z a u rest n)
      landed n f = lands_still z a t t.words (λ u. Keeps z a s u × Facts z a u rest n) refl (keeps, f)

      after : (f : ℕ) (out : Option Shaded) → shade.gives sh f ≡ out → f ≡ s.words (cell_of (shade.asks sh)) → shade_facts.Facts z a t (besides rest o) (shade.goes sh f) → Lands z a t t.words (λ u. Keeps z a s u × Facts z a u rest (after_shade m (shade.goes sh f) out))
      after f None e is facts = landed (at_stage m (Shading (shade.goes sh f))) (record { seat_is = seat_is; known = known-then; stage_is = (subst (λ (n : ℕ). Shades t o m.slot m.at m.bits (shade.goes sh n).reference) (sym is) (shades-then t keeps), facts) })
      after f (Some Done) e is facts = landing z a t t.words (λ u. Keeps z a t u × Facts z a u rest (behind n)) (λ u. Keeps z a s u × Facts z a u rest (behind n)) (λ u w h. ((k.marks.go_on z a).then s t u keeps h.0, h.1)) (goes-behind k.marks z a t rest good-then n d) where
        n : Scanning
        n = record m { held = (shade.goes sh f).held }

        shaded : shade_facts.ObjectIsShaded a t (besides rest o) (shade.goes sh f)
        shaded = k.shade.ends z a t (besides rest o) sh f e facts

        at-then : Shades t o m.slot m.at m.bits (shade.goes sh f).reference
        at-then = subst (λ (i : ℕ). Shades t o m.slot m.at m.bits (shade.goes sh i).reference) (sym is) (shades-then t keeps)

        some : 1 ≤ (shade.goes sh f).reference
        some = facts.some

        clean : IsClean t.colour (seen_field t m.at)
        clean = elim at-then.stands [ inr c ↦ c | inl w ↦ named w ] where
          named : seen_field t m.at ≡ seen_word t.extents.base (shade.goes sh f).reference → IsClean t.colour (seen_field t m.at)
          named w p q =
              let same : t.extents.base (shade.object_of (shade.goes sh f).reference) ≡ p = omega (arith, seen_some t.extents.base (shade.goes sh f).reference some, w, q) in
              subst (λ (x : ℕ). IsMarked t.colour x) (sym shaded.marked.base ∙ same) shaded.marked.colour

        d : IsDone k.marks z a t rest good-then n
        d = record {
          seat_is = seat_is;
          known = known-then;
          is_at = at-then.is_at;
          bits_are = at-then.is_field.bits_are;
          clean = λ j l at. subst (λ (x : ℕ). IsClean t.colour (seen_field t x)) (sym at) clean;
          hands = shaded.hands;
        }
      after f (Some WantsRoom) e is facts = landed (at_stage m (FindRoom (shade.goes sh f) (room.opening m.seat (shade.goes sh f).held))) (record { seat_is = seat_is; known = known-then; stage_is = (subst (λ (i : ℕ). Shades t o m.slot m.at m.bits (shade.goes sh i).reference) (sym is) (shades-then t keeps), waits.some, waits.marked, found) }) where
        waits : shade_facts.WaitsForRoom a t (besides rest o) (shade.goes sh f)
        waits = k.shade.wants z a t (besides rest o) sh f e facts

        pending : InHand
        pending = record rest { pending = Some (shade.object_of (shade.goes sh f).reference); scanning = Some o }

        found : room_facts.RoomFacts z a t (record rest { pending = Some (shade.object_of (shade.goes sh f).reference); scanning = Some o }) (room.opening m.seat (shade.goes sh f).held)
        found = subst (λ (b : ℕ). room_facts.RoomFacts z a t (record rest { pending = Some (shade.object_of (shade.goes sh f).reference); scanning = Some o }) (room.opening b (shade.goes sh f).held)) (sym seat_is)
            (k.room.begin z a t (record rest { pending = Some (shade.object_of (shade.goes sh f).reference); scanning = Some o }) (shade.goes sh f).held waits.hands).finds

    shades : shade_facts.Facts z a s (besides rest o) sh → Leads (shade.asks sh) (goes_at z.arena.layout m (Shading sh) (s.words (cell_of (shade.asks sh))))
    shades facts =
        let f : ℕ = s.words (cell_of (shade.asks sh)) in
        landing_on z a s (effect s.words (shade.asks sh)) (λ t. Keeps z a s t × shade_facts.Facts z a t (besides rest o) (shade.goes sh f)) (λ u. Keeps z a s u × Facts z a u rest (after_shade m (shade.goes sh f) (shade.gives sh f)))
        (λ t w h. after t w h.0 f (shade.gives sh f) refl refl h.1)
        (k.shade.keeps.own_step z a s (besides rest o) sh g objects facts)

    -- the steps of the search for room
    module _ (r : room.RoomFinding) (some : 1 ≤ sh.reference) (marked : shade_facts.HasBoth s (shade.object_of sh.reference)) where
      abbrev with_pending : InHand
      with_pending = record rest { pending = Some (shade.object_of sh.reference); scanning = Some o }

      found-room : (t : Shared) (keeps : Keeps z a s t) (f : ℕ) (out : Option Held) → room.gives z.arena.layout r f ≡ out → room_facts.RoomFacts z a s with_pending r → room_facts.RoomFacts z a t with_pending (room.goes z.arena.layout r f) → Facts z a t rest (after_room m sh (room.goes z.arena.layout r f) out)
      found-room t keeps f None e was facts = record { seat_is = seat_is; known = keeps.since o known; stage_is = (shades-kept k.marks z a s t o known keeps m.slot m.at m.bits sh.reference of_cycle sha, some, k.shade.shaded z a s t (shade.object_of sh.reference) keeps marked, facts) }
      found-room t keeps f (Some h) e was facts = record {
        seat_is = seat_is;
        known = keeps.since o known;
        stage_is = (
          shades-kept k.marks z a s t o known keeps m.slot m.at m.bits sh.reference of_cycle sha,
          k.shade.told z a t (besides rest o) sh h some (k.shade.shaded z a s t (shade.object_of sh.reference) keeps marked) (omega (arith, k.room.room z.arena.layout a f r h was.knows e))
              (subst (λ (held : Option Held). Hands a t (room_facts.holding with_pending held)) (k.room.held z.arena.layout f r h e) facts.hands),
        );
      }

      finds : room_facts.RoomFacts z a s with_pending r → Leads (room.asks r) (goes_at z.arena.layout m (FindRoom sh r) (s.words (cell_of (room.asks r))))
      finds facts =
          let f : ℕ = s.words (cell_of (room.asks r)) in
          landing z a s (effect s.words (room.asks r)) (λ t. Keeps z a s t × room_facts.RoomFacts z a t with_pending (room.goes z.arena.layout r f)) (λ t. Keeps z a s t × Facts z a t rest (after_room m sh (room.goes z.arena.layout r f) (room.gives z.arena.layout r f)))
          (λ t w h. (h.0, found-room t h.0 f (room.gives z.arena.layout r f) refl facts h.1))
          (k.room.finds.own_step z a s with_pending r g objects facts)

  own-at : (p : ScanStage) → StageFacts z a s rest m p → Leads (asks_at z.arena.layout m p) (goes_at z.arena.layout m p (s.words (cell_of (asks_at z.arena.layout m p))))
  own-at LoadPage x = page x
  own-at LoadBitmap x = bitmap x.0 x.1
  own-at LoadField x = field x.0 x.2 x.1
  own-at (Shading sh) x = shades sh (since-word s sh.reference x.1.some (k.shade.known z a s (besides rest o) sh x.1)) x.0 x.1
  own-at (FindRoom sh r) x = finds sh (since-marked s sh.reference x.1 x.2) x.0 r x.1 x.2 x.3
  own-at (Ended words) x = still Cell.Touch (at_stage m (Ended words)) (record { seat_is = seat_is; known = known; stage_is = x })

stage-lasts : (k : Known) (z : Cycle) (a : ℕ) (s t : Shared) (rest : InHand) (m : Scanning) (p : ScanStage) → Others z a s t → s.since (object_of m.reference) ≡ true → StageFacts z a s rest m p → StageFacts z a t rest m p
stage-lasts k z a s t rest m LoadPage o known x = k.last z a s t (in_hand rest m.held (Some (object_of m.reference))) o x
stage-lasts k z a s t rest m LoadBitmap o known x = (at-kept k.marks z a s t (object_of m.reference) known o.keeps m.slot m.at x.0, k.last z a s t (in_hand rest m.held (Some (object_of m.reference))) o x.1)
stage-lasts k z a s t rest m LoadField o known x = (
  at-kept k.marks z a s t (object_of m.reference) known o.keeps m.slot m.at x.0,
  field-kept k.marks z a s t (object_of m.reference) known o.keeps m.bits m.at x.1,
  k.last z a s t (in_hand rest m.held (Some (object_of m.reference))) o x.2,
)
stage-lasts k z a s t rest m (Shading sh) o known x = (shades-kept k.marks z a s t (object_of m.reference) known o.keeps m.slot m.at m.bits sh.reference (since-word s sh.reference x.1.some (k.shade.known z a s (besides rest (object_of m.reference)) sh x.1)) x.0, k.shade.keeps.lasts z a s t (besides rest (object_of m.reference)) sh o x.1)
stage-lasts k z a s t rest m (FindRoom sh r) o known x = (
  shades-kept k.marks z a s t (object_of m.reference) known o.keeps m.slot m.at m.bits sh.reference (since-marked s sh.reference x.1 x.2) x.0,
  x.1,
  k.shade.shaded z a s t (shade.object_of sh.reference) o.keeps x.2,
  k.room.finds.lasts z a s t (record rest { pending = Some (shade.object_of sh.reference); scanning = Some (object_of m.reference) }) r o x.3,
)
stage-lasts k z a s t rest m (Ended words) o known x = k.last z a s t (in_hand rest m.held None) o x

ended-at : (z : Cycle) (a : ℕ) (s : Shared) (rest : InHand) (n : Scanning) (p : ScanStage) (words : ℕ) → given_at p ≡ Some words → StageFacts z a s rest n p → Hands a s (in_hand rest n.held None)
ended-at z a s rest n p words e x = grind arith

pub scans-by-moves : Known → ScansByMoves
scans-by-moves k = record {
  keeps = record {
    own_step = λ z a s rest m g objects f. own-at k z a s rest g objects m f.seat_is f.known m.stage f.stage_is;
    lasts = λ z a s t rest m o f. record { seat_is = f.seat_is; known = o.keeps.since (object_of m.reference) f.known; stage_is = stage-lasts k z a s t rest m m.stage o f.known f.stage_is };
  };
  begins = λ z a s rest reference held known x. record { seat_is = refl; known = known; stage_is = x };
  ends = λ z a s rest m found words e f. ended-at z a s rest (goes z.arena.layout m found) (goes z.arena.layout m found).stage words e f.stage_is;
}
