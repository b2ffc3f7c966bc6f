-- Each step of the routines is a move, and leads to what the next stage knows.
use Rattle.std.proofs.Common.{◌≡◌, ◌≢◌, ℕ, ◌+◌, ◌<◌, ◌≤◌, Bool, true, false, eqb, Option, Some, None, refl, sym, ap, subst, ◌∙◌, eqb-true, eq-eqb, arith, is_none}
use Rattle.gh_wbuf.proofs.Vocabulary.{AreBuffersOf, AreCounted, Buffer, buffer_of, buffer_word, Buffers, BuffersAreHeld, BuffersAreKept, cell_of, Claim, Ended, ENTRIES, Entry, Facts, GiveBack, GiveKnows, GiveStage, Held, HoldsBuffer, IsFreeAt, KeepsItsBuffer, Layout, Listing, Look, May, Move, Moves, OwnStep, Room, RoomKnows, RoomStage, RoomStageKnows, RoomTryKnows, SoundTryStage, StepsAreMoves, Swap, TakeKnows, TakeStage, TakeStageKnows, Trying, TryKnows, TryStage, Words}
use Rattle.gh_base.specs.Holding.{moved}
use Rattle.gh_wbuf.specs.BufferGiving as giving
use Rattle.gh_wbuf.specs.EntryTaking as taking
use Rattle.gh_wbuf.specs.RoomFinding as finding
use Rattle.gh_wbuf.specs.Trying as try
use Rattle.gh_wbuf.proofs.Taking.{fine_try, took}
use Rattle.gh_wbuf.proofs.Tries.{open_yes}
use Rattle.gh_wbuf.proofs.Trying.{same_step}

-- what a try holds, by what it gives

pub given_held : (t : Trying) (p : TryStage) (f : ℕ) (h : Held) → try.is_busy p ≡ true → try.given (try.goes_at t p f) ≡ Some (Some h) → (try.goes_at t p f).held ≡ Some h
given_held t p f h busy e = grind arith

pub lost_none : (t : Trying) (p : TryStage) (f : ℕ) → t.held ≡ None → try.given (try.goes_at t p f) ≡ Some None → (try.goes_at t p f).held ≡ None
lost_none t p f none e = grind arith

pub still_none : (t : Trying) (p : TryStage) (f : ℕ) → t.held ≡ None → try.given (try.goes_at t p f) ≡ None → (try.goes_at t p f).held ≡ None
still_none t p f none e = grind arith

free_step : (t : Trying) (p : TryStage) (f : ℕ) → IsFreeAt (try.goes_at t p f).held (try.goes_at t p f).stage
free_step t p f = grind arith

try_next : (seat : ℕ) (t : Trying) (f : ℕ) → TryKnows seat t → TryKnows seat (try.goes t f)
try_next seat t f k =
    let fine = fine_try seat t.wish t f (record { seat_is = k.seat_is; wish_is = refl; stage_is = k.opened }) in
    record { seat_is = fine.seat_is; opened = fine.stage_is; free = free_step t t.stage f }

module _ (law : BuffersAreHeld) where
  module _ (seat : ℕ) (s : Buffers) (words : Words) (counted : AreCounted s) (shown : AreBuffersOf words s) where
    steps : StepsAreMoves seat s words
    steps = law.steps seat s words counted shown

    gives_any : (t : Trying) (held : Option Held) → HoldsBuffer s seat held → Moves seat s words (try.back_at t held) None
    gives_any t None holds = steps.loads _ None holds
    gives_any t (Some h) holds = steps.gives_back h holds

    try_moves : (t : Trying) (p : TryStage) → t.seat ≡ seat → SoundTryStage t.wish p → IsFreeAt t.held p → HoldsBuffer s seat t.held →
        Moves seat s words (try.asks_at t p) (try.goes_at t p (words (cell_of (try.asks_at t p)))).held
    try_moves t Look is opened free holds = steps.loads _ t.held holds
    try_moves t (GiveBack word) is opened free holds = gives_any t t.held holds
    try_moves t (Claim word) is opened free holds = by (eqb (words (Buffer t.index)) word) refl where
      by : (b : Bool) → eqb (words (Buffer t.index)) word ≡ b →
          Moves seat s words (Swap (Buffer t.index) word (buffer_word (record { count = (buffer_of word).count; holder = t.seat + 1 }))) (try.claimed t word b).held
      by true e =
          subst (λ (a : ℕ). Moves seat s words (Swap (Buffer t.index) word (buffer_word (record { count = (buffer_of word).count; holder = a + 1 }))) (Some (try.taken t.index word))) (sym is)
          (steps.takes_buffer t.index word (subst (HoldsBuffer s seat) free holds) (open_yes t.wish word opened).free (eqb-true _ _ e))
      by false e =
          let ne : words (Buffer t.index) ≢ word = λ z. absurd (cc (e, eq-eqb _ _ z)) in
          steps.swaps_nothing t.index word _ t.held holds ne
    try_moves t (Ended out) is opened free holds = steps.loads _ t.held holds

    try_own : (t : Trying) → TryKnows seat t → HoldsBuffer s seat t.held → Moves seat s words (try.asks t) (try.goes t (words (cell_of (try.asks t)))).held
    try_own t k holds = grind (arith, try_moves)

    -- the search for room

    pub room_holds : (l : Layout) (r : finding.RoomFinding) (t : Trying) (index : ℕ) (out : Option (Option Held)) → (out ≡ Some None → t.held ≡ None) → ((h : Held) → out ≡ Some (Some h) → t.held ≡ Some h) →
        t.held ≡ finding.held_at (finding.after_try l (finding.at_stage r (RoomStage.Try t)) index out).stage
    room_holds l r t index out lost won = grind arith

    room_moves : (l : Layout) (r : finding.RoomFinding) (p : RoomStage) → RoomStageKnows seat p → HoldsBuffer s seat (finding.held_at p) →
        Moves seat s words (finding.asks_at r p) (finding.held_at (finding.goes_at l r p (words (cell_of (finding.asks_at r p)))).stage)
    room_moves l r (RoomStage.GiveBack h) k holds = steps.gives_back h holds
    room_moves l r (RoomStage.Try t) k holds =
        let f : ℕ = words (cell_of (try.asks t)) in
        subst (Moves seat s words (try.asks t))
        (room_holds l r (try.goes t f) t.index (try.gives t f) (lost_none t t.stage f k.none) (λ h e. given_held t t.stage f h k.busy e))
        (try_own t k.tries holds)
    room_moves l r (RoomStage.Ended h) k holds = steps.loads _ _ holds

    -- the taking of an entry

    pub take_holds : (l : Layout) (r : taking.EntryTaking) (t : Trying) (index : ℕ) (out : Option (Option Held)) → ((h : Held) → out ≡ Some (Some h) → t.held ≡ Some h) →
        t.held ≡ taking.held_at (taking.after_try l (taking.at_stage r (TakeStage.Try t)) index t.held out).stage
    take_holds l r t index out won = grind arith

    take_moves : (l : Layout) (r : taking.EntryTaking) (p : TakeStage) → TakeStageKnows seat p → HoldsBuffer s seat (taking.held_at p) →
        Moves seat s words (taking.asks_at r p) (taking.held_at (taking.goes_at l r p (words (cell_of (taking.asks_at r p)))).stage)
    take_moves l r (TakeStage.Try t) k holds =
        let f : ℕ = words (cell_of (try.asks t)) in
        subst (Moves seat s words (try.asks t))
        (take_holds l r (try.goes t f) t.index (try.gives t f) (λ h e. given_held t t.stage f h k.busy e))
        (try_own t k.tries holds)
    take_moves l r (TakeStage.Take h) k holds = steps.takes_entry h holds k
    take_moves l r (TakeStage.Ended held entry) k holds = steps.loads _ _ holds

    give_moves : (g : giving.BufferGiving) (p : GiveStage) → HoldsBuffer s seat (giving.held_at p) → Moves seat s words (giving.asks_at p) None
    give_moves g (GiveStage.Give h) holds = steps.gives_back h holds
    give_moves g GiveStage.Ended holds = steps.loads _ None holds

  -- what the next stage knows

  room_fresh : (seat own index : ℕ) → own ≡ seat → RoomTryKnows seat (try.opening own Room index None)
  room_fresh seat own index e = record { tries = record { seat_is = e; opened = tt; free = tt }; wish_is = refl; none = refl; busy = refl }

  room_after : (l : Layout) (seat : ℕ) (r : finding.RoomFinding) (index : ℕ) (out : Option (Option Held)) → r.seat ≡ seat → (out ≡ None → RoomStageKnows seat r.stage) → ((h : Held) → out ≡ Some (Some h) → h.count + 2 ≤ ENTRIES) →
      RoomKnows seat (finding.after_try l r index out)
  room_after l seat r index out e here some = grind arith

  pub room_next : (l : Layout) (seat : ℕ) (r : finding.RoomFinding) (p : RoomStage) (f : ℕ) → RoomKnows seat r → RoomStageKnows seat p → RoomKnows seat (finding.goes_at l r p f)
  room_next l seat r (RoomStage.GiveBack h) f whole k = record { seat_is = whole.seat_is; stage = room_fresh seat r.seat 0 whole.seat_is }
  room_next l seat r (RoomStage.Try t) f whole k =
      room_after l seat (finding.at_stage r (RoomStage.Try (try.goes t f))) t.index (try.gives t f) whole.seat_is
      (λ e. record { tries = try_next seat t f k.tries; wish_is = (same_step t f).wish ∙ k.wish_is; none = still_none t t.stage f k.none e; busy = ap is_none e })
      (λ h e. (took seat Room t f h (record { seat_is = k.tries.seat_is; wish_is = k.wish_is; stage_is = k.tries.opened }) k.busy e).1)
  room_next l seat r (RoomStage.Ended h) f whole k = record { seat_is = whole.seat_is; stage = k }

  take_after : (l : Layout) (seat : ℕ) (r : taking.EntryTaking) (index : ℕ) (held : Option Held) (out : Option (Option Held)) → r.seat ≡ seat → (out ≡ None → TakeStageKnows seat r.stage) → ((h : Held) → out ≡ Some (Some h) → 0 < h.count) →
      TakeKnows seat (taking.after_try l r index held out)
  take_after l seat r index held out e here some = grind arith

  take_next : (l : Layout) (seat : ℕ) (r : taking.EntryTaking) (p : TakeStage) (f : ℕ) → TakeKnows seat r → TakeStageKnows seat p → TakeKnows seat (taking.goes_at l r p f)
  take_next l seat r (TakeStage.Try t) f whole k =
      take_after l seat (taking.at_stage r (TakeStage.Try (try.goes t f))) t.index (try.goes t f).held (try.gives t f) whole.seat_is
      (λ e. record { tries = try_next seat t f k.tries; wish_is = (same_step t f).wish ∙ k.wish_is; busy = ap is_none e })
      (λ h e. (took seat Entry t f h (record { seat_is = k.tries.seat_is; wish_is = k.wish_is; stage_is = k.tries.opened }) k.busy e).1)
  take_next l seat r (TakeStage.Take h) f whole k = record { seat_is = whole.seat_is; stage = tt }
  take_next l seat r (TakeStage.Ended held entry) f whole k = record { seat_is = whole.seat_is; stage = tt }

  -- the two laws of a routine, whose stage speaks of nothing shared
  module _ {M Out : Type 0} (r : Listing M Out) (held_of : M → Option Held) (Knows : (seat : ℕ) → M → Type 0) where
    lasts : (s : Buffers) (seat other : ℕ) (move : Move) (m : M) → AreCounted s → May other s move → seat ≢ other → Facts r held_of Knows s seat m → Facts r held_of Knows (moved other s move) seat m
    lasts s seat other move m counted may apart f = record { knows = f.knows; holds = (law.keep other s move counted may).others seat (held_of m) apart f.holds }

    pub keeps : ((s : Buffers) (seat : ℕ) (words : Words) (m : M) → AreCounted s → AreBuffersOf words s → Facts r held_of Knows s seat m → OwnStep r held_of Knows s seat words m) → KeepsItsBuffer r held_of Knows
    keeps own = record { own_step = own; lasts = lasts }

  finds_begin : (seat : ℕ) (held : Option Held) → RoomKnows seat (finding.opening seat held) × (finding.held_at (finding.begin seat held) ≡ held)
  finds_begin seat held = grind arith

  takes_begin : (seat : ℕ) (held : Option Held) → TakeKnows seat (taking.opening seat held) × (taking.held_at (taking.begin seat held) ≡ held)
  takes_begin seat held = grind arith

  pub kept : BuffersAreKept
  kept = record {
    tries = λ l. keeps (try.transitions l) (λ t. t.held) TryKnows (λ s seat words t counted shown f. record {
      moves = try_own seat s words counted shown t f.knows f.holds;
      knows = try_next seat t (words (cell_of (try.asks t))) f.knows;
    });
    finds = λ l. keeps (finding.transitions l) (λ r. finding.held_at r.stage) RoomKnows (λ s seat words r counted shown f. record {
      moves = room_moves seat s words counted shown l r r.stage f.knows.stage f.holds;
      knows = room_next l seat r r.stage (words (cell_of (finding.asks r))) f.knows f.knows.stage;
    });
    takes = λ l. keeps (taking.transitions l) (λ t. taking.held_at t.stage) TakeKnows (λ s seat words t counted shown f. record {
      moves = take_moves seat s words counted shown l t t.stage f.knows.stage f.holds;
      knows = take_next l seat t t.stage (words (cell_of (taking.asks t))) f.knows f.knows.stage;
    });
    gives = λ l. keeps (giving.transitions l) (λ g. giving.held_at g.stage) GiveKnows (λ s seat words g counted shown f. record {
      moves = give_moves seat s words counted shown g g.stage f.holds;
      knows = tt;
    });
    tries_begin = λ seat wish index held. record { seat_is = refl; opened = tt; free = tt };
    finds_begin = finds_begin;
    takes_begin = takes_begin;
  }
