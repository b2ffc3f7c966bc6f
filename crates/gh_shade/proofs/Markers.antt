-- While marking is on the steps of shading are moves that its seat may make. Of the moves it is known what the laws of gh_marks say.
use Rattle.std.proofs.Common.{◌≡◌, ◌≢◌, ℕ, ◌+◌, ◌/◌, ◌%◌, ◌^◌, ◌<◌, ◌≤◌, Bool, true, false, cond, eqb, Option, Some, None, refl, sym, ap, subst, ◌∙◌, arith, inl, inr, ◌||◌, eqb-true, eq-eqb}
use Rattle.std.proofs.lemmas.Nat.Bits.{bit_at-lt}
use Rattle.std.specs.Int.{bit_at}
use Rattle.gh_shade.proofs.Vocabulary.{asks_at, at_stage, enters, follows_mark, given_at, goes, goes_at, has_place, HasPlace, Held, is_whole, object_of, raised, Shading}
use Rattle.gh_base.specs.declared.cell.Ask.TheVariants.{Load, Or}
use Rattle.gh_base.specs.Steps.{cell_of}
use Rattle.gh_marks.specs.Colours.{Cycle, HasMark, IsMarked, Shared}
use Rattle.std.proofs.lemmas.Bool.Decides.{eqb_tells}
use Rattle.gh_marks.specs.Good.{Good}
use Rattle.gh_marks.specs.Knows.{KnowsObjects}
use Rattle.gh_marks.specs.Laws.{EachHandFollows, EachHandLasts, EachOwnMoveLeaves, WhatIsKeptGoesOn}
use Rattle.gh_marks.specs.Moves as move
use Rattle.gh_marks.specs.Moves.{Keeps, MayEnter, Steps, lands_by, lands_still, moved, set_mark}
use Rattle.gh_marks.specs.Seats.{Hands, InHand}
use Rattle.gh_shade.specs.Facts.{Facts, HasBoth, ObjectIsShaded, ShadesByMoves, StageFacts, WaitsForRoom, in_hand, pending_at}
use Rattle.gh_base.specs.declared.cell.Cell.{Cell}
use Rattle.gh_shade.specs.declared.shade.Shaded.TheVariants.{Done, WantsRoom}
use Rattle.gh_shade.specs.declared.shade.ShadeStage.TheVariants.{Ended, Enter, LoadPage, SetMark, WaitForRoom}
use Rattle.gh_base.specs.declared.cell.Cell.TheVariants.{Entry, Mark, Page, Touch}
use Rattle.gh_base.specs.Rows.{mark_words, row_bit, RowsAreWritten}
use Rattle.gh_base.specs.Packing.{page_noscan, page_of}
use Rattle.gh_base.specs.Cells.{put}
use Rattle.gh_shade.specs.declared.shade.ShadeStage.{ShadeStage}
use Rattle.gh_shade.proofs.Knowing.{placed}

pub record Known : Type 0 where
  pub rows : RowsAreWritten
  pub last : EachHandLasts
  pub follow : EachHandFollows
  pub leave : EachOwnMoveLeaves
  pub go_on : WhatIsKeptGoesOn

module _ (k : Known) (z : Cycle) (a : ℕ) (s : Shared) (rest : InHand) (g : Good z s) (m : Shading) where
  abbrev o : ℕ
  o = object_of m.reference

  -- what a step leads to
  abbrev Leads : Shading → Shared → Type 0
  Leads n t = Keeps z a s t × Facts z a t rest n

  still : (c : Cell) (n : Shading) → Facts z a s rest n → Steps z a s (Load c) (Leads n)
  still c n f = lands_still z a s s.words (Leads n) refl ((k.go_on z a).stays s, f)

  -- today a reference is to the first word of an object
  page : KnowsObjects z s → 1 ≤ m.reference → s.since (s.extents.base o) ≡ true → Hands a s (in_hand rest m.held None) → Steps z a s (Load (Page (o / 1024))) (Leads (at_stage m (SetMark (page_noscan (page_of (s.words (Page (o / 1024))))))))
  page objects some since x =
      let is : o ≡ s.extents.base o = (objects (s.extents.base o) since).base_is o refl in
      let known : s.since o ≡ true = ap s.since is ∙ since in
      still (Page (o / 1024)) (at_stage m (SetMark (page_noscan (page_of (s.words (Page (o / 1024))))))) (record { some = some; stage_is = (known, sym (objects o known).noscan_is, sym is); hands = x })

  -- the mark
  sets : HasMark (mark_words (set_mark s.words o)) o
  sets = k.rows.sets_one (mark_words s.words) o

  -- a marked object is not white
  not-white : HasMark (mark_words s.words) o → IsMarked s.colour o
  not-white h e = let none : row_bit (mark_words s.words) o ≡ 0 = g.marks o ∙ rw e refl in omega (arith, h, none)

  -- nor is one that takes another colour
  took-flat : IsMarked (moved z a s (move.ShadeFlat o)).colour o
  took-flat = elim (eqb_tells o o) [ inl y ↦ rw (y.0) (λ e. cc) | inr n ↦ absurd (n.1 refl) ]

  took-shade : IsMarked (moved z a s (move.Shade o)).colour o
  took-shade = elim (eqb_tells o o) [ inl y ↦ rw (y.0) (λ e. cc) | inr n ↦ absurd (n.1 refl) ]

  took-enter : (b : ℕ) → IsMarked (moved z a s (move.Enter b o)).colour o
  took-enter b = elim (eqb_tells o o) [ inl y ↦ rw (y.0) (λ e. cc) | inr n ↦ absurd (n.1 refl) ]

  abbrev ToMark : ShadeStage → Type 0
  ToMark next = Steps z a s (Or (Mark (o / 64)) (2 ^ (o % 64))) (Leads (at_stage m next))

  again : 1 ≤ m.reference → HasMark (mark_words s.words) o → s.since o ≡ true → s.extents.base o ≡ o → Hands a s (in_hand rest m.held None) → ToMark Ended
  again some set known base x = lands_by z a s (set_mark s.words o) (Leads (at_stage m Ended)) (move.ShadeAgain o) set refl
      (k.leave z a s (move.ShadeAgain o) g set tt, record { some = some; stage_is = record { bit = sets; colour = not-white set; known = known; base = base }; hands = (k.follow z a s (in_hand rest m.held None) g x).again o })

  flat : 1 ≤ m.reference → row_bit (mark_words s.words) o ≡ 0 → s.since o ≡ true → s.extents.base o ≡ o → s.extents.noscan o ≡ true → Hands a s (in_hand rest m.held None) → ToMark Ended
  flat some clear known base none x =
      let may : move.May z a s (move.ShadeFlat o) = (record { white = clear; since = known }, none) in
      lands_by z a s (set_mark s.words o) (Leads (at_stage m Ended)) (move.ShadeFlat o) may refl
      (k.leave z a s (move.ShadeFlat o) g may tt, record { some = some; stage_is = record { bit = sets; colour = took-flat; known = known; base = base }; hands = (k.follow z a s (in_hand rest m.held None) g x).flat o may })

  shades : 1 ≤ m.reference → row_bit (mark_words s.words) o ≡ 0 → s.since o ≡ true → s.extents.base o ≡ o → s.extents.noscan o ≡ false → Hands a s (in_hand rest m.held None) →
      (next : ShadeStage) → ((t : Shared) → HasBoth t o → StageFacts t o m.held next) → pending_at o next ≡ Some o → ToMark next
  shades some clear known base scan x next stage pending =
      let may : move.May z a s (move.Shade o) = (record { white = clear; since = known }, scan) in
      let hands : Hands a (moved z a s (move.Shade o)) (in_hand rest m.held (Some o)) = (k.follow z a s (in_hand rest m.held None) g x).shaded o may refl in
      lands_by z a s (set_mark s.words o) (Leads (at_stage m next)) (move.Shade o) may refl
      (k.leave z a s (move.Shade o) g may tt, record { some = some; stage_is = stage (moved z a s (move.Shade o)) (record { bit = sets; colour = took-shade; known = known; base = base }); hands = subst (λ (p : Option ℕ). Hands a (moved z a s (move.Shade o)) (in_hand rest m.held p)) (sym pending) hands })

  -- it is entered, if its buffer has a place
  entry : 1 ≤ m.reference → row_bit (mark_words s.words) o ≡ 0 → s.since o ≡ true → s.extents.base o ≡ o → s.extents.noscan o ≡ false → Hands a s (in_hand rest m.held None) → (b : Bool) → has_place m.held ≡ b → ToMark (cond b Enter WaitForRoom)
  entry some clear known base scan x true e = shades some clear known base scan x Enter (λ t set. (set, placed m.held e)) refl
  entry some clear known base scan x false e = shades some clear known base scan x WaitForRoom (λ t set. set) refl

  -- the bit in the word is the object's mark
  bit-is : bit_at (s.words (Mark (o / 64))) (o % 64) ≡ row_bit (mark_words s.words) o
  bit-is = sym (k.rows.bit_of (mark_words s.words) (o / 64) o refl)

  marks : (noscan : Bool) → 1 ≤ m.reference → s.since o ≡ true → s.extents.base o ≡ o → s.extents.noscan o ≡ noscan → Hands a s (in_hand rest m.held None) → ToMark (follows_mark m.held (is_whole m noscan (s.words (Mark (o / 64)))))
  marks noscan some known base kind x = by (eqb (bit_at (s.words (Mark (o / 64))) (o % 64)) 1) refl where
    clear : (n : ℕ) → n < 2 → eqb n 1 ≡ false → n ≡ 0
    clear n few e = let other : n ≢ 1 = λ is. absurd (cc (e, eq-eqb n 1 is)) in omega arith

    kinds : (b : Bool) → noscan ≡ b → row_bit (mark_words s.words) o ≡ 0 → ToMark (follows_mark m.held b)
    kinds true e zero = flat some zero known base (kind ∙ e) x
    kinds false e zero = entry some zero known base (kind ∙ e) x (has_place m.held) refl

    by : (b : Bool) → eqb (bit_at (s.words (Mark (o / 64))) (o % 64)) 1 ≡ b → ToMark (follows_mark m.held (b || noscan))
    by true e = again some (sym bit-is ∙ eqb-true _ _ e) known base x
    by false e = kinds noscan refl (sym bit-is ∙ clear (bit_at (s.words (Mark (o / 64))) (o % 64)) (bit_at-lt (s.words (Mark (o / 64))) (o % 64)) e)

  -- the entry
  enters-it : 1 ≤ m.reference → HasBoth s o → (held : Option Held) → HasPlace held → Hands a s (in_hand rest held (Some o)) → Steps z a s (enters m.reference held) (Leads (record m { held = raised held; stage = Ended }))
  enters-it some set None place x = absurd place
  enters-it some set (Some h) place x =
      let count : s.filled h.index ≡ h.count = x.holds.count in
      let may : MayEnter a s h.index o = record { held = (x.holds.only h.index).1 refl; room = omega (arith, count, place); pending = (x.has.is_pending o).0 refl } in
      let is : o + 1 ≡ m.reference = omega (arith, some) in
      lands_by z a s (put s.words (Entry h.index h.count) m.reference) (Leads (record m { held = raised (Some h); stage = Ended })) (move.Enter h.index o) may
      (ap (λ (j : ℕ). put s.words (Entry h.index j) (o + 1)) count ∙ ap (λ (v : ℕ). put s.words (Entry h.index h.count) v) is)
      (k.leave z a s (move.Enter h.index o) g may tt, record { some = some; stage_is = record { bit = set.bit; colour = took-enter h.index; known = set.known; base = set.base }; hands = (k.follow z a s (in_hand rest (Some h) (Some o)) g x).entered h o may refl refl })

  own-at : (p : ShadeStage) → KnowsObjects z s → Facts z a s rest m → 1 ≤ m.reference → StageFacts s o m.held p → Hands a s (in_hand rest m.held (pending_at o p)) → Steps z a s (asks_at m p) (Leads (goes_at m p (s.words (cell_of (asks_at m p)))))
  own-at LoadPage objects f some stage x = page objects some stage x
  own-at (SetMark noscan) objects f some stage x = marks noscan some stage.0 stage.2 stage.1 x
  own-at WaitForRoom objects f some stage x = still Touch (at_stage m WaitForRoom) (record { some = some; stage_is = stage; hands = x })
  own-at Enter objects f some stage x = enters-it some stage.0 m.held stage.1 x
  own-at Ended objects f some stage x = still Touch (at_stage m Ended) (record { some = some; stage_is = stage; hands = x })

base-lasts : (z : Cycle) (a : ℕ) (s t : Shared) (o : ℕ) → Keeps z a s t → s.since o ≡ true → s.extents.base o ≡ o → t.extents.base o ≡ o
base-lasts z a s t o k known base = k.bases o (ap s.since base ∙ known) ∙ base

both : (z : Cycle) (a : ℕ) (s t : Shared) (o : ℕ) → Keeps z a s t → HasBoth s o → HasBoth t o
both z a s t o k f = record { bit = k.marks o f.bit; colour = k.colours o f.colour; known = k.since o f.known; base = base-lasts z a s t o k f.known f.base }

stage-lasts : (z : Cycle) (a : ℕ) (s t : Shared) (o : ℕ) (held : Option Held) (p : ShadeStage) → Keeps z a s t → StageFacts s o held p → StageFacts t o held p
stage-lasts z a s t o held LoadPage k f = ap t.since (k.bases o f) ∙ k.since (s.extents.base o) f
stage-lasts z a s t o held (SetMark noscan) k f = (k.since o f.0, (k.extents o f.0).noscan ∙ f.1, base-lasts z a s t o k f.0 f.2)
stage-lasts z a s t o held WaitForRoom k f = both z a s t o k f
stage-lasts z a s t o held Enter k f = (both z a s t o k f.0, f.1)
stage-lasts z a s t o held Ended k f = both z a s t o k f

-- the reference names an object of the cycle
known-at : (s : Shared) (o : ℕ) (held : Option Held) (p : ShadeStage) → StageFacts s o held p → s.since (s.extents.base o) ≡ true
known-at s o held LoadPage f = f
known-at s o held (SetMark noscan) f = ap s.since f.2 ∙ f.0
known-at s o held WaitForRoom f = ap s.since f.base ∙ f.known
known-at s o held Enter f = ap s.since f.0.base ∙ f.0.known
known-at s o held Ended f = ap s.since f.base ∙ f.known

-- what is given says at which stage it is
done-at : (q : ShadeStage) → given_at q ≡ Some Done → q ≡ Ended
done-at Ended e = refl
done-at _ e = absurd (cc)

wants-at : (q : ShadeStage) → given_at q ≡ Some WantsRoom → q ≡ WaitForRoom
wants-at WaitForRoom e = refl
wants-at _ e = absurd (cc)

same-at : (m : Shading) (p : ShadeStage) (f : ℕ) → (goes_at m p f).reference ≡ m.reference
same-at m LoadPage f = refl
same-at m _ f = refl

shaded-then : (z : Cycle) (a : ℕ) (s : Shared) (rest : InHand) (n : Shading) → n.stage ≡ Ended → Facts z a s rest n → ObjectIsShaded a s rest n
shaded-then z a s rest n e f = record {
  marked = subst (λ (r : ShadeStage). StageFacts s (object_of n.reference) n.held r) e f.stage_is;
  hands = subst (λ (r : ShadeStage). Hands a s (in_hand rest n.held (pending_at (object_of n.reference) r))) e f.hands;
}

waits-then : (z : Cycle) (a : ℕ) (s : Shared) (rest : InHand) (n : Shading) → n.stage ≡ WaitForRoom → Facts z a s rest n → WaitsForRoom a s rest n
waits-then z a s rest n e f = record {
  some = f.some;
  marked = subst (λ (r : ShadeStage). StageFacts s (object_of n.reference) n.held r) e f.stage_is;
  hands = subst (λ (r : ShadeStage). Hands a s (in_hand rest n.held (pending_at (object_of n.reference) r))) e f.hands;
}

pub shades-by-moves : Known → ShadesByMoves
shades-by-moves k = record {
  keeps = record {
    own_step = λ z a s rest m g objects f. own-at k z a s rest g m m.stage objects f f.some f.stage_is f.hands;
    lasts = λ z a s t rest m o f. record {
      some = f.some;
      stage_is = stage-lasts z a s t (object_of m.reference) m.held m.stage o.keeps f.stage_is;
      hands = k.last z a s t (in_hand rest m.held (pending_at (object_of m.reference) m.stage)) o f.hands;
    };
  };
  begins = λ z a s rest reference held some known x. record { some = some; stage_is = known; hands = x };
  told = λ z a s rest m h some set few x. record { some = some; stage_is = (set, few); hands = x };
  ends = λ z a s rest m found e f. shaded-then z a s rest (goes m found) (done-at (goes m found).stage e) f;
  wants = λ z a s rest m found e f. waits-then z a s rest (goes m found) (wants-at (goes m found).stage e) f;
  shaded = both;
  known = λ z a s rest m f. known-at s (object_of m.reference) m.held m.stage f.stage_is;
  same = λ m found. same-at m m.stage found;
  ended = λ m found e. done-at (goes m found).stage e;
  waiting = λ m found e. wants-at (goes m found).stage e;
}
