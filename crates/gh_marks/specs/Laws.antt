-- What holds of the moves of marking.
use Rattle.std.specs.Prelude.{◌≡◌, ◌≢◌, ℕ, ◌+◌, ◌-◌, ◌^◌, ◌<◌, Bool, true, Some, None}
use Rattle.gh_marks.specs.Vocabulary.{AreWords, Ask, Cell, Held, IsOf, mark_words, opening_words, row_bit}
use Rattle.gh_base.specs.declared.layout.Layout.{Layout}
use Rattle.gh_marks.specs.Colours.{Cycle, IsClean, IsPointer, IsSince, seen_field, seen_global, seen_word, Shared}
use Rattle.gh_marks.specs.Ends.{EachReachedIsMarked, IsDone, IsFoundAtTheEnd, Opens}
use Rattle.gh_marks.specs.Good.{Good}
use Rattle.gh_marks.specs.Moves.{Blacken, ClaimGlobal, EndStack, Enter, GiveBuffer, IsDead, IsUnknown, Keeps, LeavesStacks, May, Move, Others, PassGlobals, Place, PutField, PutGlobal, Quiet, ReadGlobal, Reserve, ScanGlobal, ScanStack, SetRegister, Shade, ShadeAgain, ShadeFlat, TakeBuffer, TakeEntry, Went, moved}
use Rattle.gh_marks.specs.Seats.{ClaimOf, Hands, InHand, NoClaim, ReadOf, nothing}

-- what holds at every moment holds after each move that may be made
abbrev pub EachMoveKeeps : Type 0
EachMoveKeeps = (z : Cycle) (a : ℕ) (s : Shared) (m : Move) → Good z s → May z a s m → Good z (moved z a s m)

-- what another's move leaves to a seat
abbrev pub EachMoveLeaves : Type 0
EachMoveLeaves = (z : Cycle) (a b : ℕ) (s : Shared) (m : Move) → a ≢ b → Good z s → May z b s m → Others z a s (moved z b s m)

-- what was dead when the cycle began stays placed and dead, and what is placed and not known stays so
abbrev pub EachMoveLeavesTheDead : Type 0
EachMoveLeavesTheDead = (z : Cycle) (a : ℕ) (s : Shared) (m : Move) → Good z s → May z a s m → (o : ℕ) → (IsDead s o → IsDead (moved z a s m) o) × (IsUnknown s o → IsUnknown (moved z a s m) o)

-- the same of all moves that make up a step
pub record StepsGoByMoves (z : Cycle) (a : ℕ) (s t : Shared) : Type 0 where
  pub good : Good z t
  pub others : (b : ℕ) → b ≢ a → Others z b s t
  pub dead : (o : ℕ) → IsDead s o → IsDead t o
  pub unknown : (o : ℕ) → IsUnknown s o → IsUnknown t o

abbrev pub EachStepGoesByMoves : Type 0
EachStepGoesByMoves = (z : Cycle) (a : ℕ) (s t : Shared) → Good z s → Went z a s t → StepsGoByMoves z a s t

-- What a seat's own moves leave of what it knows.
abbrev pub EachOwnMoveLeaves : Type 0
EachOwnMoveLeaves = (z : Cycle) (a : ℕ) (s : Shared) (m : Move) → Good z s → May z a s m → LeavesStacks m → Keeps z a s (moved z a s m)

-- it is left where nothing is done, and by moves that follow on each other
pub record KeepsGoOn (z : Cycle) (a : ℕ) : Type 0 where
  pub stays : (s : Shared) → Keeps z a s s
  pub then : (s t u : Shared) → Keeps z a s t → Keeps z a t u → Keeps z a s u

abbrev pub WhatIsKeptGoesOn : Type 0
WhatIsKeptGoesOn = (z : Cycle) (a : ℕ) → KeepsGoOn z a

-- What a seat has in hand after its own move.
pub record HandsFollow (z : Cycle) (a : ℕ) (s : Shared) (h : InHand) : Type 0 where
  pub quiet : (step : Ask) → May z a s (Quiet step) → Hands a (moved z a s (Quiet step)) h
  pub shaded : (o : ℕ) → May z a s (Shade o) → h.pending ≡ None → Hands a (moved z a s (Shade o)) (record h { pending = Some o })
  pub flat : (o : ℕ) → May z a s (ShadeFlat o) → Hands a (moved z a s (ShadeFlat o)) h
  pub again : (o : ℕ) → Hands a (moved z a s (ShadeAgain o)) h
  pub takes_buffer : (b : ℕ) → May z a s (TakeBuffer b) → h.held ≡ None → Hands a (moved z a s (TakeBuffer b)) (record h { held = Some (record { index = b; count = s.filled b }) })
  pub gives_buffer : (own : Held) → h.held ≡ Some own → Hands a (moved z a s (GiveBuffer own.index)) (record h { held = None })
  pub entered : (own : Held) (o : ℕ) → May z a s (Enter own.index o) → h.held ≡ Some own → h.pending ≡ Some o → Hands a (moved z a s (Enter own.index o)) (record h { held = Some (record { index = own.index; count = own.count + 1 }); pending = None })
  pub takes_entry : (own : Held) (o : ℕ) → May z a s (TakeEntry own.index o) → h.held ≡ Some own → h.scanning ≡ None → Hands a (moved z a s (TakeEntry own.index o)) (record h { held = Some (record { index = own.index; count = own.count - 1 }); scanning = Some o })
  pub blackened : (o : ℕ) → h.scanning ≡ Some o → Hands a (moved z a s (Blacken o)) (record h { scanning = None })
  pub put_field : (x value : ℕ) → Hands a (moved z a s (PutField x value)) h
  pub put_global : (i value : ℕ) → Hands a (moved z a s (PutGlobal i value)) h
  pub claimed : (i : ℕ) → May z a s (ClaimGlobal i) → h.claim ≡ NoClaim → Hands a (moved z a s (ClaimGlobal i)) (record h { claim = ClaimOf i })
  pub passed : (i : ℕ) → Hands a (moved z a s (PassGlobals i)) h
  pub read : (i : ℕ) → h.claim ≡ ClaimOf i → Hands a (moved z a s (ReadGlobal i)) (record h { claim = ReadOf i (seen_global s i) })
  pub scanned : (i value : ℕ) → h.claim ≡ ReadOf i value → Hands a (moved z a s (ScanGlobal i value)) (record h { claim = NoClaim })
  pub set : (g d value : ℕ) → Hands a (moved z a s (SetRegister g d value)) h
  pub scanned_stack : (g : ℕ) → Hands a (moved z a s (ScanStack g)) h
  pub ended : (g : ℕ) → Hands a (moved z a s (EndStack g)) h
  pub reserved : (o : ℕ) → May z a s (Reserve o) → h.placing ≡ None → Hands a (moved z a s (Reserve o)) (record h { placing = Some o })
  pub placed : (o size : ℕ) (pointer : ℕ → Bool) (noscan : Bool) (g d : ℕ) → h.placing ≡ Some o → Hands a (moved z a s (Place o size pointer noscan g d)) (record h { placing = None })

abbrev pub EachHandFollows : Type 0
EachHandFollows = (z : Cycle) (a : ℕ) (s : Shared) (h : InHand) → Good z s → Hands a s h → HandsFollow z a s h

-- What a seat relies on lasts as long as others leave what they leave.
pub record FactsLast (z : Cycle) (a : ℕ) (s t : Shared) : Type 0 where
  pub clean : (value : ℕ) → IsClean s.colour value → IsClean t.colour value
  pub since : (value : ℕ) → IsSince s.since value → IsSince t.since value
  -- what is seen of a word
  pub seen : (w : ℕ) → IsSince s.since (seen_word s.extents.base w) → seen_word t.extents.base w ≡ seen_word s.extents.base w
  pub word : (w : ℕ) → IsSince s.since (seen_word s.extents.base w) → IsClean s.colour (seen_word s.extents.base w) → IsClean t.colour (seen_word t.extents.base w)
  pub word_since : (w : ℕ) → IsSince s.since (seen_word s.extents.base w) → IsSince t.since (seen_word t.extents.base w)
  -- a word that was clean, or held this and nothing else, is so still
  pub field : (o k : ℕ) → s.since o ≡ true → IsPointer s.extents o k → IsClean s.colour (seen_field s (o + k)) → IsClean t.colour (seen_field t (o + k))
  pub global : (i : ℕ) → IsClean s.colour (seen_global s i) → IsClean t.colour (seen_global t i)
  pub register : (g d : ℕ) → IsOf z.arena a g → IsClean s.colour (s.registers g d) → IsClean t.colour (t.registers g d)
  pub pointer : (o k : ℕ) → s.since o ≡ true → IsPointer s.extents o k → IsPointer t.extents o k
  pub pointer_was : (o k : ℕ) → s.since o ≡ true → IsPointer t.extents o k → IsPointer s.extents o k

abbrev pub EachFactLasts : Type 0
EachFactLasts = (z : Cycle) (a : ℕ) (s t : Shared) → Keeps z a s t → FactsLast z a s t

-- and so does what it has in hand, under the moves of others
abbrev pub EachHandLasts : Type 0
EachHandLasts = (z : Cycle) (a : ℕ) (s t : Shared) (h : InHand) → Others z a s t → Hands a s h → Hands a t h

-- the cursor's word does not begin anew
abbrev pub TheCursorIsSmall : Type 0
TheCursorIsSmall = (z : Cycle) (s : Shared) → Good z s → s.words Cell.Gcur + 1 < 2 ^ 64

-- As marking is switched on it holds, and no seat has anything in hand.
pub record Begins (z : Cycle) (s : Shared) : Type 0 where
  pub good : Good z s
  pub seats : (a : ℕ) → Hands a s nothing

abbrev pub MarkingBegins : Type 0
MarkingBegins = (z : Cycle) (s : Shared) → Opens z s → Begins z s

-- The end of marking. Where the coordinator finds all as it should be, nothing is left to be marked; and then each object that a path leads to is marked: so it is in the picture.
abbrev pub WhatIsFoundIsDone : Type 0
WhatIsFoundIsDone = (z : Cycle) (s : Shared) → Good z s → IsFoundAtTheEnd z s → IsDone z s

abbrev pub MarkingEndsClean : Type 0
MarkingEndsClean = (z : Cycle) (s : Shared) → Good z s → IsDone z s → EachReachedIsMarked z s

-- what was dead when the cycle began is not marked
abbrev pub TheDeadAreWhite : Type 0
TheDeadAreWhite = (z : Cycle) (s : Shared) → Good z s → (o : ℕ) → IsDead s o → row_bit (mark_words s.words) o ≡ 0

-- mark words are words where a heap opens, and behind each move of marking
pub record MarksStayWords : Type 0 where
  pub opening : (l : Layout) (trigger : ℕ) → AreWords (mark_words (opening_words l trigger))
  pub moves : (z : Cycle) (a : ℕ) (s : Shared) (m : Move) → May z a s m → AreWords (mark_words s.words) → AreWords (mark_words (moved z a s m).words)
