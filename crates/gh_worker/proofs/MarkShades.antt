-- While marking is on a worker shades the global that it has read; with its mark the global is scanned. Of the moves and of its routines it is known what their laws say.
use Rattle.std.proofs.Common.{◌≡◌, ℕ, ◌≤◌, Bool, true, false, cond, Option, Some, None, inl, inr, ◌+◌, refl, sym, ap, ◌∙◌, subst, arith, ◌<◌}
use Rattle.gh_worker.proofs.Vocabulary.{after_room, after_shade, cell_of, Claim, claim_at, Cycle, effect, Ended, Enter, Facts, goes_at, Good, Held, in_hand, InHand, IsClean, IsMarked, Keeps, KnowsObjects, landing, landing_on, Lands, lands_by, lands_still, Layout, moved, NoClaim, nothing, ReadOf, ScanGlobal, seats_of, SetMark, Shaded, Shared, Steps, WaitForRoom, WorkerStage, Working}
use Rattle.gh_marks.specs.Moves.{seen_some}
use Rattle.gh_marks.specs.Colours.{IsSince, seen_global, seen_word}
use Rattle.gh_marks.specs.Laws.{EachFactLasts, EachHandFollows, EachHandLasts, EachStepGoesByMoves, TheCursorIsSmall}
use Rattle.gh_scan.specs.Facts as scan_facts
use Rattle.gh_shade.specs.declared.shade.ShadeStage.TheVariants.{LoadPage}
use Rattle.gh_shade.specs.Facts as shade_facts
use Rattle.gh_shade.specs.Listing as shade
use Rattle.gh_wbuf.specs.Facts as buffer_facts
use Rattle.gh_wbuf.specs.RoomFinding as room
use Rattle.gh_shade.specs.declared.shade.ShadeStage.{ShadeStage}

pub record Known : Type 0 where
  pub facts : EachFactLasts
  pub last : EachHandLasts
  pub small : TheCursorIsSmall
  pub follow : EachHandFollows
  pub steps : EachStepGoesByMoves
  pub buffers : buffer_facts.BuffersPassByMoves
  pub shade : shade_facts.ShadesByMoves
  pub scan : scan_facts.ScansByMoves

-- what shading leaves to be known at its next stage, with the global that the worker has then
abbrev Shading : Cycle → (a : ℕ) → Shared → Claim → shade.Shading → Type 0
Shading z a t claim n = shade_facts.Facts z a t (in_hand None claim) n

-- what is seen of the reference stays
pub seen-lasts : (k : Known) (z : Cycle) (a : ℕ) (s t : Shared) (m : shade.Shading) (hand : InHand) (value : ℕ) → Keeps z a s t → shade_facts.Facts z a s hand m → value ≡ seen_word s.extents.base m.reference → value ≡ seen_word t.extents.base m.reference
seen-lasts k z a s t m hand value keeps f is = is ∙ sym ((k.facts z a s t keeps).seen m.reference known) where
  known : IsSince s.since (seen_word s.extents.base m.reference)
  known o e = let same : o ≡ s.extents.base (shade.object_of m.reference) = omega (arith, seen_some s.extents.base m.reference f.some, e) in ap s.since same ∙ k.shade.known z a s hand m f

-- that a global is scanned leaves what is known of the object
shaded-on : (z : Cycle) (a i value : ℕ) (t : Shared) (o : ℕ) → shade_facts.HasBoth t o → shade_facts.HasBoth (moved z a t (ScanGlobal i value)) o
shaded-on z a i value t o f = record { bit = f.bit; colour = f.colour; known = f.known; base = f.base }

stage-on : (z : Cycle) (a i value : ℕ) (t : Shared) (o : ℕ) (held : Option Held) (p : ShadeStage) → shade_facts.StageFacts t o held p → shade_facts.StageFacts (moved z a t (ScanGlobal i value)) o held p
stage-on z a i value t o held LoadPage f = f
stage-on z a i value t o held (SetMark noscan) f = f
stage-on z a i value t o held WaitForRoom f = shaded-on z a i value t o f
stage-on z a i value t o held Enter f = (shaded-on z a i value t o f.0, f.1)
stage-on z a i value t o held Ended f = shaded-on z a i value t o f

-- once the object is marked its global is scanned
scans-global : (k : Known) (z : Cycle) (a i value : ℕ) (t : Shared) (n : shade.Shading) → Good z t → value ≡ seen_word t.extents.base n.reference → Shading z a t (ReadOf i value) n → shade_facts.HasBoth t (shade.object_of n.reference) → Lands z a t t.words (λ u. (value ≡ seen_word u.extents.base n.reference) × Shading z a u NoClaim n)
scans-global k z a i value t n good is f marked = lands_by z a t t.words (λ u. (value ≡ seen_word u.extents.base n.reference) × Shading z a u NoClaim n) (ScanGlobal i value) ((f.hands.has.is_read i value).0 refl, clean) refl
    (is, record { some = f.some; stage_is = stage-on z a i value t (shade.object_of n.reference) n.held n.stage f.stage_is; hands = (k.follow z a t (shade_facts.in_hand (in_hand None (ReadOf i value)) n.held (shade_facts.pending_at (shade.object_of n.reference) n.stage)) good f.hands).scanned i value refl }) where
      clean : IsClean t.colour (seen_global t i)
      clean = elim (good.cursor.read i a value ((f.hands.has.is_read i value).0 refl)) [ inr c ↦ c | inl e ↦ named e ] where
        named : seen_global t i ≡ value → IsClean t.colour (seen_global t i)
        named e o p =
            let seen : seen_global t i ≡ t.extents.base (shade.object_of n.reference) + 1 = e ∙ is ∙ seen_some t.extents.base n.reference f.some in
            let same : t.extents.base (shade.object_of n.reference) ≡ o = omega (arith, seen, p) in
            subst (λ (x : ℕ). IsMarked t.colour x) (sym marked.base ∙ same) marked.colour

module _ (k : Known) (z : Cycle) (a : ℕ) (s : Shared) (g : Good z s) (objects : KnowsObjects z s) (w : Working) (seat_is : w.seat ≡ a) (seat_in : a < seats_of z.arena.layout) where
  abbrev l : Layout
  l = z.arena.layout

  -- behind the mark the global is scanned, at whichever stage that leads to
  behind-mark : (i value : ℕ) (t : Shared) (m : shade.Shading) (whole : Bool) → Good z t → value ≡ seen_word t.extents.base m.reference → Shading z a t (ReadOf i value) (shade.at_stage m (shade.follows_mark m.held whole)) →
      Lands z a t t.words (λ u. (value ≡ seen_word u.extents.base m.reference) × Shading z a u (claim_at i value (shade.follows_mark m.held whole)) (shade.at_stage m (shade.follows_mark m.held whole)))
  behind-mark i value t m true good is f = scans-global k z a i value t (shade.at_stage m Ended) good is f f.stage_is
  behind-mark i value t m false good is f = by (shade.has_place m.held) f where
    by : (b : Bool) → Shading z a t (ReadOf i value) (shade.at_stage m (cond b Enter WaitForRoom)) → Lands z a t t.words (λ u. (value ≡ seen_word u.extents.base m.reference) × Shading z a u (claim_at i value (cond b Enter WaitForRoom)) (shade.at_stage m (cond b Enter WaitForRoom)))
    by true f = scans-global k z a i value t (shade.at_stage m Enter) good is f f.stage_is.0
    by false f = scans-global k z a i value t (shade.at_stage m WaitForRoom) good is f f.stage_is

  -- after a step of shading
  claimed-then : (i value : ℕ) (t : Shared) (m : shade.Shading) (p : ShadeStage) (n : ℕ) → Good z t → value ≡ seen_word t.extents.base m.reference → Shading z a t (claim_at i value p) (shade.goes_at m p n) →
      Lands z a t t.words (λ u. (value ≡ seen_word u.extents.base m.reference) × Shading z a u (claim_at i value (shade.goes_at m p n).stage) (shade.goes_at m p n))
  claimed-then i value t m LoadPage n good is f = lands_still z a t t.words (λ u. (value ≡ seen_word u.extents.base m.reference) × Shading z a u (ReadOf i value) (shade.goes_at m LoadPage n)) refl (is, f)
  claimed-then i value t m (SetMark noscan) n good is f = behind-mark i value t m (shade.is_whole m noscan n) good is f
  claimed-then i value t m WaitForRoom n good is f = lands_still z a t t.words (λ u. (value ≡ seen_word u.extents.base m.reference) × Shading z a u (claim_at i value WaitForRoom) (shade.goes_at m WaitForRoom n)) refl (is, f)
  claimed-then i value t m Enter n good is f = lands_still z a t t.words (λ u. (value ≡ seen_word u.extents.base m.reference) × Shading z a u NoClaim (shade.goes_at m Enter n)) refl (is, f)
  claimed-then i value t m Ended n good is f = lands_still z a t t.words (λ u. (value ≡ seen_word u.extents.base m.reference) × Shading z a u (claim_at i value Ended) (shade.goes_at m Ended n)) refl (is, f)

  -- what is pending while room is looked for
  abbrev pending : (reference : ℕ) → InHand
  pending reference = record nothing { pending = Some (shade.object_of reference) }

  module _ (t : Shared) (sh : shade.Shading) (n : ℕ) where
    shaded-then : (i value : ℕ) (out : Option Shaded) → shade.gives sh n ≡ out → (value ≡ seen_word t.extents.base (shade.goes sh n).reference) × Shading z a t (claim_at i value (shade.goes sh n).stage) (shade.goes sh n) → Facts z a t (after_shade w (shade.goes sh n) out)
    shaded-then i value out e f = grind arith

  pub shades : (sh : shade.Shading) (i value : ℕ) → value ≡ seen_word s.extents.base sh.reference → Shading z a s (claim_at i value sh.stage) sh → Steps z a s (shade.asks sh) (λ t. Facts z a t (goes_at l w (WorkerStage.Shading sh) (s.words (cell_of (shade.asks sh)))))
  shades sh i value is f =
      let n : ℕ = s.words (cell_of (shade.asks sh)) in
      landing z a s (effect s.words (shade.asks sh)) (λ u. (value ≡ seen_word u.extents.base sh.reference) × Shading z a u (claim_at i value (shade.goes sh n).stage) (shade.goes sh n)) (λ u. Facts z a u (after_shade w (shade.goes sh n) (shade.gives sh n)))
      (λ u v h. shaded-then u sh n i value (shade.gives sh n) refl (h.0 ∙ ap (seen_word u.extents.base) (sym (k.shade.same sh n)), h.1))
      (landing_on z a s (effect s.words (shade.asks sh)) (λ t. Keeps z a s t × Shading z a t (claim_at i value sh.stage) (shade.goes sh n)) (λ u. (value ≡ seen_word u.extents.base sh.reference) × Shading z a u (claim_at i value (shade.goes sh n).stage) (shade.goes sh n))
      (λ t v h. claimed-then i value t sh sh.stage n (k.steps z a s t g v).good (seen-lasts k z a s t sh (in_hand None (claim_at i value sh.stage)) value h.0 f is) h.1)
      (k.shade.keeps.own_step z a s (in_hand None (claim_at i value sh.stage)) sh g objects f))

  -- the search for room
  found-then : (t : Shared) (sh : shade.Shading) (r : room.RoomFinding) (n : ℕ) (out : Option Held) → room.gives z.arena.layout r n ≡ out → 1 ≤ sh.reference → shade_facts.HasBoth t (shade.object_of sh.reference) → buffer_facts.RoomFacts z a s (pending sh.reference) r → buffer_facts.RoomFacts z a t (pending sh.reference) (room.goes z.arena.layout r n) →
      Facts z a t (after_room w sh (room.goes z.arena.layout r n) out)
  found-then t sh r n out e some marked was f = grind arith

  pub finds : (sh : shade.Shading) (r : room.RoomFinding) → 1 ≤ sh.reference → shade_facts.HasBoth s (shade.object_of sh.reference) → buffer_facts.RoomFacts z a s (pending sh.reference) r → Steps z a s (room.asks r) (λ t. Facts z a t (goes_at l w (WorkerStage.FindRoom sh r) (s.words (cell_of (room.asks r)))))
  finds sh r some marked f =
      let n : ℕ = s.words (cell_of (room.asks r)) in
      landing z a s (effect s.words (room.asks r)) (λ t. Keeps z a s t × buffer_facts.RoomFacts z a t (pending sh.reference) (room.goes z.arena.layout r n)) (λ t. Facts z a t (after_room w sh (room.goes z.arena.layout r n) (room.gives z.arena.layout r n)))
      (λ t v h. found-then t sh r n (room.gives z.arena.layout r n) refl some (k.shade.shaded z a s t (shade.object_of sh.reference) h.0 marked) f h.1)
      (k.buffers.finds.own_step z a s (pending sh.reference) r g objects f)
