-- While marking is on the steps of a try, of the search for room and of giving back are moves that their seat may make. Of the moves it is known what the laws of gh_marks say.
use Rattle.std.proofs.Common.{◌≡◌, ℕ, ◌+◌, ◌%◌, ◌≤◌, Bool, true, false, cond, eqb, Option, Some, None, refl, sym, ap, subst, ◌∙◌, arith, eqb-true, eq-eqb}
use Rattle.gh_wbuf.proofs.Vocabulary.{AreBuffersOf, Buffer, buffer_of, buffer_word, buffers_as_held, BuffersAreHeld, BuffersAreKept, cell_of, Claim, Cycle, effect, Ended, ENTRIES, GiveBack, GiveBuffer, GiveFacts, GiveStage, Good, Hands, HasBuffer, Held, holder_in, holding, InHand, IsFreeAt, Keeps, landing, lands_by, lands_still, Load, Look, moved, nat_tests, put, RoomFacts, RoomStage, RoomStageKnows, Shared, SoundTryStage, Steps, Swap, TakeBuffer, Touch, TryFacts, Trying, TryKnows, TryStage}
use Rattle.gh_base.specs.declared.cell.Ask.{Ask}
use Rattle.gh_base.specs.declared.cell.Cell.{Cell}
use Rattle.gh_marks.specs.Laws.{EachHandFollows, EachHandLasts, EachOwnMoveLeaves, WhatIsKeptGoesOn}
use Rattle.gh_marks.specs.Routines.{KeepsItsFacts}
use Rattle.gh_wbuf.specs.BufferGiving as giving
use Rattle.gh_wbuf.specs.RoomFinding as finding
use Rattle.gh_wbuf.specs.Trying as try
use Rattle.gh_wbuf.proofs.Knowing.{given_held, lost_none, room_holds}
use Rattle.gh_wbuf.proofs.Tries.{open_yes}

pub record Known : Type 0 where
  pub held : BuffersAreHeld
  pub kept : BuffersAreKept
  pub last : EachHandLasts
  pub follow : EachHandFollows
  pub leave : EachOwnMoveLeaves
  pub go_on : WhatIsKeptGoesOn

count-of : (n : ℕ) → n ≤ ENTRIES → (buffer_of n).count ≡ n
count-of n few =
    let is : n % 256 ≡ n = omega arith in
    grind (arith, nat_tests, is)

module _ (k : Known) (z : Cycle) (a : ℕ) (s : Shared) (rest : InHand) (g : Good z s) where
  -- the step leaves what the caller knows, and this is held then
  abbrev pub Holding : Ask → Option Held → Type 0
  Holding ask held = Steps z a s ask (λ t. Keeps z a s t × Hands a t (holding rest held))

  pub shown : AreBuffersOf s.words (buffers_as_held s.words s.filled)
  shown = record { word_is = λ b. refl; entry_is = λ b j. refl }

  pub loads : (c : Cell) (held : Option Held) → Hands a s (holding rest held) → Holding (Load c) held
  loads c held x = lands_still z a s s.words (λ t. Keeps z a s t × Hands a t (holding rest held)) refl ((k.go_on z a).stays s, x)

  pub gives-back : (h : Held) → Hands a s (holding rest (Some h)) → Holding (try.gives_back h) None
  gives-back h x =
      let own : HasBuffer a s h.index = (x.holds.only h.index).1 refl in
      let count : s.filled h.index ≡ h.count = x.holds.count in
      let word : s.filled h.index ≡ try.free_word h.count = omega (arith, count) in
      lands_by z a s (effect s.words (try.gives_back h)) (λ t. Keeps z a s t × Hands a t (holding rest None)) (GiveBuffer h.index) own
      (ap (λ (v : ℕ). put s.words (Buffer h.index) v) word)
      (k.leave z a s (GiveBuffer h.index) g own tt, (k.follow z a s (holding rest (Some h)) g x).gives_buffer h refl)

  gives-any : (t : Trying) (held : Option Held) → Hands a s (holding rest held) → Holding (try.back_at t held) None
  gives-any t None x = loads Touch None x
  gives-any t (Some h) x = gives-back h x

  takes : (b word : ℕ) → Hands a s (holding rest None) → holder_in word ≡ 0 → s.words (Buffer b) ≡ word → Holding (Swap (Buffer b) word (try.taken_word a word)) (Some (try.taken b word))
  takes b word x free e =
      let may : holder_in (s.words (Buffer b)) ≡ 0 = ap holder_in e ∙ free in
      let is : word ≡ s.filled b = sym e ∙ g.counts.free b may in
      let few : word ≤ ENTRIES = omega (arith, is, g.counts.few b) in
      let count : s.filled b ≡ (buffer_of word).count = sym is ∙ sym (count-of word few) in
      lands_by z a s (effect s.words (Swap (Buffer b) word (try.taken_word a word))) (λ t. Keeps z a s t × Hands a t (holding rest (Some (try.taken b word)))) (TakeBuffer b) may
      (ap (λ (n : ℕ). put s.words (Buffer b) (buffer_word (record { count = n; holder = a + 1 }))) count ∙ ap (λ (t : Bool). cond t (put s.words (Buffer b) (try.taken_word a word)) s.words) (sym (eq-eqb _ _ e)))
      (k.leave z a s (TakeBuffer b) g may tt, subst (λ (n : ℕ). Hands a (moved z a s (TakeBuffer b)) (holding rest (Some (record { index = b; count = n })))) count ((k.follow z a s (holding rest None) g x).takes_buffer b may refl))

  misses : (b word new : ℕ) (held : Option Held) → Hands a s (holding rest held) → eqb (s.words (Buffer b)) word ≡ false → Holding (Swap (Buffer b) word new) held
  misses b word new held x e = lands_still z a s (effect s.words (Swap (Buffer b) word new)) (λ t. Keeps z a s t × Hands a t (holding rest held))
      (ap (λ (t : Bool). cond t (put s.words (Buffer b) new) s.words) (sym e)) ((k.go_on z a).stays s, x)

  tries-at : (t : Trying) (p : TryStage) → t.seat ≡ a → SoundTryStage t.wish p → IsFreeAt t.held p → Hands a s (holding rest t.held) → Holding (try.asks_at t p) (try.goes_at t p (s.words (cell_of (try.asks_at t p)))).held
  tries-at t Look is opened free x = loads (Buffer t.index) t.held x
  tries-at t (GiveBack word) is opened free x = gives-any t t.held x
  tries-at t (Claim word) is opened free x = by (eqb (s.words (Buffer t.index)) word) refl where
    by : (b : Bool) → eqb (s.words (Buffer t.index)) word ≡ b → Holding (Swap (Buffer t.index) word (try.taken_word t.seat word)) (try.claimed t word b).held
    by true e =
        subst (λ (seat : ℕ). Holding (Swap (Buffer t.index) word (try.taken_word seat word)) (Some (try.taken t.index word))) (sym is)
        (takes t.index word (subst (λ (held : Option Held). Hands a s (holding rest held)) free x) (open_yes t.wish word opened).free (eqb-true _ _ e))
    by false e = misses t.index word (try.taken_word t.seat word) t.held x e
  tries-at t (Ended out) is opened free x = loads Touch t.held x

  pub tries : (t : Trying) → TryKnows a t → Hands a s (holding rest t.held) → Holding (try.asks t) (try.goes t (s.words (cell_of (try.asks t)))).held
  tries t knows x = grind (arith, tries-at)

  finds-at : (r : finding.RoomFinding) (p : RoomStage) → RoomStageKnows a p → Hands a s (holding rest (finding.held_at p)) →
      Holding (finding.asks_at r p) (finding.held_at (finding.goes_at z.arena.layout r p (s.words (cell_of (finding.asks_at r p)))).stage)
  finds-at r (RoomStage.GiveBack h) knows x = gives-back h x
  finds-at r (RoomStage.Try t) knows x =
      let f : ℕ = s.words (cell_of (try.asks t)) in
      subst (Holding (try.asks t))
      (room_holds k.held a (buffers_as_held s.words s.filled) s.words g.counts shown z.arena.layout r (try.goes t f) t.index (try.gives t f) (lost_none t t.stage f knows.none) (λ h e. given_held t t.stage f h knows.busy e))
      (tries t knows.tries x)
  finds-at r (RoomStage.Ended h) knows x = loads Touch (Some h) x

  gives-at : (p : GiveStage) → Hands a s (holding rest (giving.held_at p)) → Holding (giving.asks_at p) None
  gives-at (GiveStage.Give h) x = gives-back h x
  gives-at GiveStage.Ended x = loads Touch None x

  -- The facts of the next stage: what it knows of itself is known of old.
  own-try : (t : Trying) → TryFacts z a s rest t → Steps z a s (try.asks t) (λ u. Keeps z a s u × TryFacts z a u rest (try.goes t (s.words (cell_of (try.asks t)))))
  own-try t f =
      let n : Trying = try.goes t (s.words (cell_of (try.asks t))) in
      let knows : TryKnows a n = ((k.kept.tries z.arena.layout).own_step (buffers_as_held s.words s.filled) a s.words t g.counts shown (record { knows = f.knows; holds = f.hands.holds })).knows in
      landing z a s (effect s.words (try.asks t)) (λ u. Keeps z a s u × Hands a u (holding rest n.held)) (λ u. Keeps z a s u × TryFacts z a u rest n)
      (λ u w h. (h.0, record { knows = knows; hands = h.1 }))
      (tries t f.knows f.hands)

  own-find : (r : finding.RoomFinding) → RoomFacts z a s rest r → Steps z a s (finding.asks r) (λ u. Keeps z a s u × RoomFacts z a u rest (finding.goes z.arena.layout r (s.words (cell_of (finding.asks r)))))
  own-find r f =
      let n : finding.RoomFinding = finding.goes z.arena.layout r (s.words (cell_of (finding.asks r))) in
      landing z a s (effect s.words (finding.asks r)) (λ u. Keeps z a s u × Hands a u (holding rest (finding.held_at n.stage))) (λ u. Keeps z a s u × RoomFacts z a u rest n)
      (λ u w h. (h.0, record { knows = ((k.kept.finds z.arena.layout).own_step (buffers_as_held s.words s.filled) a s.words r g.counts shown (record { knows = f.knows; holds = f.hands.holds })).knows; hands = h.1 }))
      (finds-at r r.stage f.knows.stage f.hands)

  own-give : (m : giving.BufferGiving) → GiveFacts z a s rest m → Steps z a s (giving.asks m) (λ u. Keeps z a s u × GiveFacts z a u rest (giving.goes m (s.words (cell_of (giving.asks m)))))
  own-give m f = landing z a s (effect s.words (giving.asks m)) (λ u. Keeps z a s u × Hands a u (holding rest None)) (λ u. Keeps z a s u × GiveFacts z a u rest (giving.goes m (s.words (cell_of (giving.asks m)))))
      (λ u w h. (h.0, record { hands = h.1 }))
      (gives-at m.stage f.hands)

pub keep-tries : Known → KeepsItsFacts try.listing TryFacts
keep-tries k = record {
  own_step = λ z a s rest t g objects f. own-try k z a s rest g t f;
  lasts = λ z a s u rest t o f. record { knows = f.knows; hands = k.last z a s u (holding rest t.held) o f.hands };
}

pub keep-finds : Known → KeepsItsFacts finding.listing RoomFacts
keep-finds k = record {
  own_step = λ z a s rest r g objects f. own-find k z a s rest g r f;
  lasts = λ z a s u rest r o f. record { knows = f.knows; hands = k.last z a s u (holding rest (finding.held_at r.stage)) o f.hands };
}

pub keep-gives : Known → KeepsItsFacts giving.listing GiveFacts
keep-gives k = record {
  own_step = λ z a s rest m g objects f. own-give k z a s rest g m f;
  lasts = λ z a s u rest m o f. record { hands = k.last z a s u (holding rest (giving.held_at m.stage)) o f.hands };
}
