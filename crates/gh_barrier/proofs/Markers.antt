-- While marking is on the steps of a write behind the barrier are moves that its seat may make. Of the moves and of shading it is known what their laws say.
use Rattle.std.proofs.Common.{◌≡◌, ◌≢◌, ℕ, ◌+◌, ◌-◌, ◌*◌, ◌%◌, ◌<◌, ◌≤◌, Bool, true, false, cond, eqb, Option, Some, None, inl, inr, ◌⊎◌, refl, sym, ap, subst, ◌∙◌, arith, eqb-true, eq-eqb, is_none}
use Rattle.std.proofs.Math.Nat.{mod-eq_of_lt}
use Rattle.gh_barrier.proofs.Vocabulary.{after_new, after_old, asks_at, at_stage, behind_old, cell_at, cell_of, Done, effect, Ended, given_at, goes, goes_at, HasPlace, HasTwo, Held, Layout, LoadOld, object_of, pointer_word, put, Shaded, ShadeNew, ShadeOld, shades_old, Store, WantsRoom, with_old, WriteStage, Writing}
use Rattle.gh_marks.specs.Colours.{Cycle, IsClean, IsMarked, IsSince, seen_word, Shared}
use Rattle.gh_marks.specs.Good.{Good}
use Rattle.gh_marks.specs.Knows.{KnowsObject, KnowsObjects}
use Rattle.gh_marks.specs.Laws.{EachFactLasts, EachHandFollows, EachHandLasts, EachOwnMoveLeaves, FactsLast, WhatIsKeptGoesOn}
use Rattle.gh_marks.specs.Moves as move
use Rattle.gh_marks.specs.Moves.{BehindBarrier, Keeps, Lands, Others, Steps, Went, landing, landing_on, lands_by, lands_still, moved, seen_some}
use Rattle.gh_marks.specs.Seats.{Hands, InHand}
use Rattle.gh_barrier.specs.Facts.{Facts, IsCell, IsKnownPointer, OldValueStands, put_of, seen_at, StageFacts, WritesByMoves}
use Rattle.gh_base.specs.declared.cell.Ask.{Ask}
use Rattle.gh_base.specs.Rows.{bitmap_words}
use Rattle.gh_base.specs.declared.cell.Cell.{Cell}
use Rattle.gh_barrier.specs.declared.pointer_cell.PointerCell.TheVariants.{Field, Global}
use Rattle.gh_shade.specs.Facts.{in_hand}
use Rattle.gh_barrier.specs.declared.pointer_cell.PointerCell.{PointerCell}
use Rattle.gh_barrier.proofs.Room.{held-stays, never-wants, place-of, place-then}
use Rattle.gh_shade.specs.Facts as shade_facts
use Rattle.gh_shade.specs.Listing as shade

pub record Known : Type 0 where
  pub facts : EachFactLasts
  pub last : EachHandLasts
  pub follow : EachHandFollows
  pub leave : EachOwnMoveLeaves
  pub go_on : WhatIsKeptGoesOn
  pub shade : shade_facts.ShadesByMoves

-- a reference that names an object of the cycle
since-word : (s : Shared) (r : ℕ) → 1 ≤ r → s.since (s.extents.base (object_of r)) ≡ true → IsSince s.since (seen_word s.extents.base r)
since-word s r some known o e = let is : o ≡ s.extents.base (object_of r) = omega (arith, seen_some s.extents.base r some, e) in ap s.since is ∙ known

since-pointer : (s : Shared) (pointer : Option ℕ) → IsKnownPointer s pointer → IsSince s.since (seen_word s.extents.base (pointer_word pointer))
since-pointer s None h o e = let none : 0 ≡ o + 1 = e in absurd (omega (arith, none))
since-pointer s (Some r) h o e = since-word s r h.0 h.1 o e

-- What lasts under what others leave, and under the seat's own shading.
module _ (k : Known) (z : Cycle) (a : ℕ) (s t : Shared) (keeps : Keeps z a s t) where
  last : FactsLast z a s t
  last = k.facts z a s t keeps

  cell-kept : (at : PointerCell) → IsCell s at → IsCell t at
  cell-kept at h = grind arith

  known-kept : (pointer : Option ℕ) → IsKnownPointer s pointer → IsKnownPointer t pointer
  known-kept None h = tt
  known-kept (Some r) h = (h.0, ap t.since (keeps.bases (object_of r) h.1) ∙ keeps.since (s.extents.base (object_of r)) h.1)

  -- what is seen of the cell stays, or it is clean then
  cell-stays : (at : PointerCell) → IsCell s at → (seen_at t (cell_at at) ≡ seen_at s (cell_at at)) ⊎ IsClean t.colour (seen_at t (cell_at at))
  cell-stays (Field x) h = subst (λ (y : ℕ). (seen_at t (Cell.Field y) ≡ seen_at s (Cell.Field y)) ⊎ IsClean t.colour (seen_at t (Cell.Field y))) (sym h.at_is) (keeps.fields h.o h.k h.known h.pointer)
  cell-stays (Global i) h = keeps.globals i

  clean-kept : (at : PointerCell) → IsCell s at → IsClean s.colour (seen_at s (cell_at at)) → IsClean t.colour (seen_at t (cell_at at))
  clean-kept at is c = elim (cell-stays at is) [ inl w ↦ (λ o e. keeps.colours o (c o (sym w ∙ e))) | inr d ↦ d ]

  stands-kept : (at : PointerCell) (reference : ℕ) → IsCell s at → 1 ≤ reference → s.since (s.extents.base (object_of reference)) ≡ true → OldValueStands s (cell_at at) reference → OldValueStands t (cell_at at) reference
  stands-kept at reference is some known (inl e) = elim (cell-stays at is) [ inl w ↦ inl (w ∙ e ∙ sym (last.seen reference (since-word s reference some known))) | inr d ↦ inr d ]
  stands-kept at reference is some known (inr c) = inr (clean-kept at is c)

-- nil names nothing
nil-clean : (s : Shared) (v : ℕ) → v ≡ 0 → IsClean s.colour (seen_word s.extents.base v)
nil-clean s v e o is = let none : seen_word s.extents.base v ≡ 0 = ap (seen_word s.extents.base) e in absurd (omega (arith, none, is))

-- a reference of a marked object
marked-clean : (s : Shared) (r : ℕ) → 1 ≤ r → IsMarked s.colour (s.extents.base (object_of r)) → IsClean s.colour (seen_word s.extents.base r)
marked-clean s r some m o is = let same : s.extents.base (object_of r) ≡ o = omega (arith, seen_some s.extents.base r some, is) in subst (λ (x : ℕ). IsMarked s.colour x) same m

-- the cell is clean once what was loaded is marked
shaded-clean : (s : Shared) (c : Cell) (r : ℕ) → 1 ≤ r → IsMarked s.colour (s.extents.base (object_of r)) → OldValueStands s c r → IsClean s.colour (seen_at s c)
shaded-clean s c r some m (inl e) = subst (λ (v : ℕ). IsClean s.colour v) (sym e) (marked-clean s r some m)
shaded-clean s c r some m (inr d) = d

-- what is shaded is marked, known by its base
based : (s : Shared) (o : ℕ) → shade_facts.HasBoth s o → IsMarked s.colour (s.extents.base o)
based s o h = subst (λ (x : ℕ). IsMarked s.colour x) (sym h.base) h.colour

module _ (k : Known) (z : Cycle) (a : ℕ) (s : Shared) (rest : InHand) where
  -- the old value is shaded, and the new one comes next
  new-facts : (w : Writing) → IsCell s w.at → IsKnownPointer s w.pointer → HasPlace w.held → IsClean s.colour (seen_at s (cell_at w.at)) → Hands a s (in_hand rest w.held None) → Facts z a s rest (behind_old w)
  new-facts w is known place clean x = grind arith

  -- the new value is shaded, and the store comes next
  store-facts : (w : Writing) (r : ℕ) → IsCell s w.at → IsKnownPointer s w.pointer → IsClean s.colour (seen_at s (cell_at w.at)) → w.pointer ≡ Some r → 1 ≤ r → IsMarked s.colour (s.extents.base (object_of r)) → Hands a s (in_hand rest w.held None) → Facts z a s rest (at_stage w Store)
  store-facts w r is known clean e some m x = record { is_cell = is; known = known; stage_is = (clean, subst (λ (v : ℕ). IsClean s.colour (seen_word s.extents.base v)) (sym (ap pointer_word e)) (marked-clean s r some m), x) }

  behind : (w : Writing) → IsKnownPointer s w.pointer → StageFacts z a s rest w Store → BehindBarrier s (seen_at s (cell_at w.at)) (seen_word s.extents.base (pointer_word w.pointer))
  behind w known f = record { old = f.0; new = f.1; since = since-pointer s w.pointer known }

  -- the store is this move
  stores-by : (at : PointerCell) (v : ℕ) → BehindBarrier s (seen_at s (cell_at at)) (seen_word s.extents.base v) → Lands z a s (put s.words (cell_at at) v) (λ t. t ≡ moved z a s (put_of at v))
  stores-by (Field x) v b = lands_by z a s (put s.words (Cell.Field x) v) (λ t. t ≡ moved z a s (move.PutField x v)) (move.PutField x v) b refl refl
  stores-by (Global i) v b = lands_by z a s (put s.words (Cell.Global i) v) (λ t. t ≡ moved z a s (move.PutGlobal i v)) (move.PutGlobal i v) b refl refl

module _ (k : Known) (z : Cycle) (a : ℕ) (s : Shared) (rest : InHand) (g : Good z s) (objects : KnowsObjects z s) (w : Writing) (is : IsCell s w.at) (known : IsKnownPointer s w.pointer) where
  abbrev c : Cell
  c = cell_at w.at

  abbrev Leads : Ask → Writing → Type 0
  Leads step n = Steps z a s step (λ t. Keeps z a s t × Facts z a t rest n)

  still : (d : Cell) (n : Writing) → Facts z a s rest n → Leads (Ask.Load d) n
  still d n f = lands_still z a s s.words (λ t. Keeps z a s t × Facts z a t rest n) refl ((k.go_on z a).stays s, f)

  -- what a pointer cell holds is of the cycle
  since-at : (at : PointerCell) → IsCell s at → IsSince s.since (seen_at s (cell_at at))
  since-at (Field x) h = subst (λ (y : ℕ). IsSince s.since (seen_at s (Cell.Field y))) (sym h.at_is) (g.values.fields h.o h.k h.known h.pointer)
  since-at (Global i) h = g.values.globals i

  loads : HasTwo w.held → Hands a s (in_hand rest w.held None) → Leads (Ask.Load c) (with_old z.arena.layout w (s.words c))
  loads two x = by (eqb v 0) refl where
    v : ℕ
    v = s.words c

    by : (b : Bool) → eqb v 0 ≡ b → Leads (Ask.Load c) (shades_old w (cond b None (Some ((v - 1) % (1024 * z.arena.layout.pages) + 1))))
    by true e = still c (behind_old w) (new-facts k z a s rest w is known (place-of w.held two) (nil-clean s v (eqb-true _ _ e)) x)
    by false e =
        let some : v ≢ 0 = λ n. absurd (cc (e, eq-eqb _ _ n)) in
        let plus : v ≡ (v - 1) + 1 = omega arith in
        let since : s.since (s.extents.base (v - 1)) ≡ true = since-at w.at is (s.extents.base (v - 1)) (seen_some s.extents.base v (omega (arith, some))) in
        let whole : v - 1 ≡ s.extents.base (v - 1) = (objects (s.extents.base (v - 1)) since).base_is (v - 1) refl in
        let there : KnowsObject z.arena.layout.pages (λ p. s.words (Cell.Page p)) (bitmap_words s.words) s.extents (v - 1) = objects (v - 1) (ap s.since whole ∙ since) in
        let within : v - 1 < 1024 * z.arena.layout.pages = omega (arith, there.within, there.some) in
        let reference : (v - 1) % (1024 * z.arena.layout.pages) + 1 ≡ v = ap (λ (n : ℕ). n + 1) (mod-eq_of_lt within) ∙ sym plus in
        still c (at_stage w (ShadeOld (shade.opening ((v - 1) % (1024 * z.arena.layout.pages) + 1) w.held))) (record {
          is_cell = is;
          known = known;
          stage_is = (two, inl (ap (seen_word s.extents.base) (sym reference)), k.shade.begins z a s rest ((v - 1) % (1024 * z.arena.layout.pages) + 1) w.held (omega arith) (ap (λ (n : ℕ). s.since (s.extents.base (n - 1))) reference ∙ since) x, refl);
        })

  -- a step of shading
  module _ (t : Shared) (went : Went z a s t) (keeps : Keeps z a s t) where
    is-then : IsCell t w.at
    is-then = cell-kept k z a s t keeps w.at is

    known-then : IsKnownPointer t w.pointer
    known-then = known-kept k z a s t keeps w.pointer known

    landed : (n : Writing) → Facts z a t rest n → Lands z a t t.words (λ u. Keeps z a s u × Facts z a u rest n)
    landed n f = lands_still z a t t.words (λ u. Keeps z a s u × Facts z a u rest n) refl (keeps, f)

    old-after : (sh : shade.Shading) (f : ℕ) (out : Option Shaded) → shade.gives sh f ≡ out → shade.is_busy sh.stage ≡ true → HasTwo sh.held → OldValueStands t c (shade.goes sh f).reference → shade_facts.Facts z a t rest (shade.goes sh f) →
        Lands z a t t.words (λ u. Keeps z a s u × Facts z a u rest (after_old w (shade.goes sh f) out))
    old-after sh f None e busy two stands facts =
        let two-then : HasTwo (shade.goes sh f).held = subst (λ (h : Option Held). HasTwo h) (sym (held-stays sh f e)) two in
        landed (at_stage w (ShadeOld (shade.goes sh f))) (record { is_cell = is-then; known = known-then; stage_is = (two-then, stands, facts, ap is_none e) })
    old-after sh f (Some Done) e busy two stands facts =
        let shaded : shade_facts.ObjectIsShaded a t rest (shade.goes sh f) = k.shade.ends z a t rest sh f e facts in
        landed (behind_old (record w { held = (shade.goes sh f).held })) (new-facts k z a t rest (record w { held = (shade.goes sh f).held }) is-then known-then (place-then sh f two) (shaded-clean t c (shade.goes sh f).reference facts.some (based t (object_of (shade.goes sh f).reference) shaded.marked) stands) shaded.hands)
    old-after sh f (Some WantsRoom) e busy two stands facts = absurd (never-wants sh f busy (place-of sh.held two) e)

    new-after : (sh : shade.Shading) (f : ℕ) (out : Option Shaded) → shade.gives sh f ≡ out → shade.is_busy sh.stage ≡ true → HasPlace sh.held → IsClean t.colour (seen_at t c) → w.pointer ≡ Some (shade.goes sh f).reference → shade_facts.Facts z a t rest (shade.goes sh f) →
        Lands z a t t.words (λ u. Keeps z a s u × Facts z a u rest (after_new w (shade.goes sh f) out))
    new-after sh f None e busy place clean same facts =
        let place-on : HasPlace (shade.goes sh f).held = subst (λ (h : Option Held). HasPlace h) (sym (held-stays sh f e)) place in
        landed (at_stage w (ShadeNew (shade.goes sh f))) (record { is_cell = is-then; known = known-then; stage_is = (place-on, clean, same, facts, ap is_none e) })
    new-after sh f (Some Done) e busy place clean same facts =
        let shaded : shade_facts.ObjectIsShaded a t rest (shade.goes sh f) = k.shade.ends z a t rest sh f e facts in
        landed (record w { held = (shade.goes sh f).held; stage = Store }) (store-facts k z a t rest (record w { held = (shade.goes sh f).held }) (shade.goes sh f).reference is-then known-then clean same facts.some (based t (object_of (shade.goes sh f).reference) shaded.marked) shaded.hands)
    new-after sh f (Some WantsRoom) e busy place clean same facts = absurd (never-wants sh f busy place e)

  shades-old : (sh : shade.Shading) → HasTwo sh.held → OldValueStands s c sh.reference → shade_facts.Facts z a s rest sh → shade.is_busy sh.stage ≡ true → Leads (shade.asks sh) (goes_at z.arena.layout w (ShadeOld sh) (s.words (cell_of (shade.asks sh))))
  shades-old sh two stands facts busy =
      let f : ℕ = s.words (cell_of (shade.asks sh)) in
      landing_on z a s (effect s.words (shade.asks sh)) (λ t. Keeps z a s t × shade_facts.Facts z a t rest (shade.goes sh f)) (λ u. Keeps z a s u × Facts z a u rest (after_old w (shade.goes sh f) (shade.gives sh f)))
      (λ t went h. old-after t went h.0 sh f (shade.gives sh f) refl busy two (subst (λ (r : ℕ). OldValueStands t c r) (sym (k.shade.same sh f)) (stands-kept k z a s t h.0 w.at sh.reference is facts.some (k.shade.known z a s rest sh facts) stands)) h.1)
      (k.shade.keeps.own_step z a s rest sh g objects facts)

  shades-new : (sh : shade.Shading) → HasPlace sh.held → IsClean s.colour (seen_at s c) → w.pointer ≡ Some sh.reference → shade_facts.Facts z a s rest sh → shade.is_busy sh.stage ≡ true → Leads (shade.asks sh) (goes_at z.arena.layout w (ShadeNew sh) (s.words (cell_of (shade.asks sh))))
  shades-new sh place clean same facts busy =
      let f : ℕ = s.words (cell_of (shade.asks sh)) in
      landing_on z a s (effect s.words (shade.asks sh)) (λ t. Keeps z a s t × shade_facts.Facts z a t rest (shade.goes sh f)) (λ u. Keeps z a s u × Facts z a u rest (after_new w (shade.goes sh f) (shade.gives sh f)))
      (λ t went h. new-after t went h.0 sh f (shade.gives sh f) refl busy place (clean-kept k z a s t h.0 w.at is clean) (same ∙ sym (ap (λ (r : ℕ). Some r) (k.shade.same sh f))) h.1)
      (k.shade.keeps.own_step z a s rest sh g objects facts)

  -- the store is a move behind the barrier
  puts : (at : PointerCell) (v : ℕ) (h : InHand) → BehindBarrier s (seen_at s (cell_at at)) (seen_word s.extents.base v) → Hands a s h → Lands z a s (put s.words (cell_at at) v) (λ t. Keeps z a s t × Hands a t h)
  puts (Field x) v h b hands = lands_by z a s (put s.words (Cell.Field x) v) (λ t. Keeps z a s t × Hands a t h) (move.PutField x v) b refl (k.leave z a s (move.PutField x v) g b tt, (k.follow z a s h g hands).put_field x v)
  puts (Global i) v h b hands = lands_by z a s (put s.words (Cell.Global i) v) (λ t. Keeps z a s t × Hands a t h) (move.PutGlobal i v) b refl (k.leave z a s (move.PutGlobal i v) g b tt, (k.follow z a s h g hands).put_global i v)

  stores : StageFacts z a s rest w Store → Leads (Ask.Store c (pointer_word w.pointer)) (at_stage w Ended)
  stores f = landing z a s (put s.words c (pointer_word w.pointer)) (λ t. Keeps z a s t × Hands a t (in_hand rest w.held None)) (λ t. Keeps z a s t × Facts z a t rest (at_stage w Ended))
      (λ t went h. (h.0, record { is_cell = cell-kept k z a s t h.0 w.at is; known = known-kept k z a s t h.0 w.pointer known; stage_is = h.1 }))
      (puts w.at (pointer_word w.pointer) (in_hand rest w.held None) (behind k z a s rest w known f) f.2)

  own-at : (p : WriteStage) → Facts z a s rest w → StageFacts z a s rest w p → Leads (asks_at w p) (goes_at z.arena.layout w p (s.words (cell_of (asks_at w p))))
  own-at LoadOld f x = loads x.0 x.1
  own-at (ShadeOld sh) f x = shades-old sh x.0 x.1 x.2 x.3
  own-at (ShadeNew sh) f x = shades-new sh x.0 x.1 x.2 x.3 x.4
  own-at Store f x = stores x
  own-at Ended f x = still Cell.Touch (at_stage w Ended) (record { is_cell = is; known = known; stage_is = x })

module _ (k : Known) (z : Cycle) (a : ℕ) (s t : Shared) (rest : InHand) (w : Writing) (o : Others z a s t) (is : IsCell s w.at) (known : IsKnownPointer s w.pointer) where
  stage-lasts : (p : WriteStage) → StageFacts z a s rest w p → StageFacts z a t rest w p
  stage-lasts LoadOld f = (f.0, k.last z a s t (in_hand rest w.held None) o f.1)
  stage-lasts (ShadeOld sh) f = (f.0, stands-kept k z a s t o.keeps w.at sh.reference is f.2.some (k.shade.known z a s rest sh f.2) f.1, k.shade.keeps.lasts z a s t rest sh o f.2, f.3)
  stage-lasts (ShadeNew sh) f = (f.0, clean-kept k z a s t o.keeps w.at is f.1, f.2, k.shade.keeps.lasts z a s t rest sh o f.3, f.4)
  stage-lasts Store f = (clean-kept k z a s t o.keeps w.at is f.0, (k.facts z a s t o.keeps).word (pointer_word w.pointer) (since-pointer s w.pointer known) f.1, k.last z a s t (in_hand rest w.held None) o f.2)
  stage-lasts Ended f = k.last z a s t (in_hand rest w.held None) o f

-- it writes the same pointer to the same cell
pub record Same (w n : Writing) : Type 0 where
  pub at : n.at ≡ w.at
  pub pointer : n.pointer ≡ w.pointer

pub same-at : (l : Layout) (w : Writing) (p : WriteStage) (found : ℕ) → Same w (goes_at l w p found)
same-at l w p found = grind arith

-- what it has in hand where it has ended
ended-then : (z : Cycle) (a : ℕ) (s : Shared) (rest : InHand) (w : Writing) (p : WriteStage) → given_at p ≡ Some tt → StageFacts z a s rest w p → Hands a s (in_hand rest w.held None)
ended-then z a s rest w p e f = grind arith

pub writes-by-moves : Known → WritesByMoves
writes-by-moves k = record {
  keeps = record {
    own_step = λ z a s rest w g objects f. own-at k z a s rest g objects w f.is_cell f.known w.stage f f.stage_is;
    lasts = λ z a s t rest w o f. record {
      is_cell = cell-kept k z a s t o.keeps w.at f.is_cell;
      known = known-kept k z a s t o.keeps w.pointer f.known;
      stage_is = stage-lasts k z a s t rest w o f.is_cell f.known w.stage f.stage_is;
    };
  };
  begins = λ z a s rest at pointer held is known two x. record { is_cell = is; known = known; stage_is = (two, x) };
  stores = λ z a s rest w e f. behind k z a s rest w f.known (subst (λ (p : WriteStage). StageFacts z a s rest w p) e f.stage_is);
  stores_by = λ z a s rest w e f. subst (λ (p : WriteStage). Steps z a s (asks_at w p) (λ t. t ≡ moved z a s (put_of w.at (pointer_word w.pointer)))) (sym e) (stores-by k z a s rest w.at (pointer_word w.pointer) (behind k z a s rest w f.known (subst (λ (p : WriteStage). StageFacts z a s rest w p) e f.stage_is)));
  ends = λ z a s rest w found e f. ended-then z a s rest (goes z.arena.layout w found) (goes z.arena.layout w found).stage e f.stage_is;
  same_cell = λ l w found. (same-at l w w.stage found).at;
  same_pointer = λ l w found. (same-at l w w.stage found).pointer;
}
