-- What the laws of the moves and of the routines say, and what a processor knows of its stacks after a scan.
use Rattle.std.proofs.Common.{◌≡◌, ◌≢◌, ℕ, ◌<◌, Bool, true, false, cond, eqb, List, length, refl, ◌∙◌, arith, slice_index, slice_set}
use Rattle.std.proofs.lemmas.Bool.{eqb-true}
use Rattle.std.proofs.lemmas.List.{get_or-set_other, get_or-set_same, length-set}
use Rattle.gh_poll.proofs.Vocabulary.{Ask, Cell, Cycle, effect, END, Good, Hands, InHand, IsOf, IsQuietInMarking, Keeps, KnowsStacks, lands_by, lands_still, Load, moved, nat_tests, Quiet, ScanStack, Shared, Steps, Value}
use Rattle.gh_marks.specs.Laws.{EachHandFollows, EachHandLasts, EachOwnMoveLeaves, EachStepGoesByMoves, WhatIsKeptGoesOn}
use Rattle.gh_shade.specs.Facts.{ShadesByMoves}
use Rattle.gh_stack.specs.Facts.{StacksAreScannedByMoves}
use Rattle.gh_wbuf.specs.Facts.{BuffersPassByMoves}

pub record Known : Type 0 where
  pub last : EachHandLasts
  pub follow : EachHandFollows
  pub leave : EachOwnMoveLeaves
  pub go_on : WhatIsKeptGoesOn
  pub steps : EachStepGoesByMoves
  pub buffers : BuffersPassByMoves
  pub shade : ShadesByMoves
  pub stacks : StacksAreScannedByMoves

-- a scan changes the word of its stack alone, and is noted
module _ (z : Cycle) (a : ℕ) (s : Shared) (g : ℕ) (stacks : List (List Value)) (notes : List ℕ) (own : IsOf z.arena a g) (goes_on : s.words (Cell.Scanned g) ≢ END) (f : KnowsStacks z a s stacks notes) where
  abbrev then : Shared
  then = moved z a s (ScanStack g)

  on_before : (h : ℕ) → then.words (Cell.Scanned h) ≢ END → s.words (Cell.Scanned h) ≢ END
  on_before h on = grind arith

  noted_then : (h : ℕ) → IsOf z.arena a h → slice_index (slice_set notes g z.number) h ≡ then.words (Cell.Scanned h)
  noted_then h mine = by (eqb g h) refl where
    there : g < length notes
    there = let few = f.places in let inside = own.0 in omega arith

    by : (b : Bool) → eqb g h ≡ b → slice_index (slice_set notes g z.number) h ≡ cond b z.number (s.words (Cell.Scanned h))
    by true e = rw (← eqb-true g h e) (get_or-set_same notes g z.number 0 there)
    by false e = get_or-set_other notes g h z.number 0 (let differs : h ≢ g = grind (arith, nat_tests) in differs) ∙ f.noted h mine

  pub stacks_scanned : KnowsStacks z a then stacks (slice_set notes g z.number)
  stacks_scanned = record {
    own = f.own;
    registers = λ h mine on. f.registers h mine (on_before h on);
    since = λ h mine on. f.since h mine (on_before h on);
    noted = noted_then;
    places = rw (length-set notes g z.number) f.places;
  }

-- A step on a word that marking does not read, and one that only loads.
module _ (k : Known) (z : Cycle) (a : ℕ) (s : Shared) (good : Good z s) where
  pub by_quiet : (step : Ask) (h : InHand) (Then : Shared → Type 0) → IsQuietInMarking s step → Hands a s h → ((t : Shared) → Keeps z a s t → Hands a t h → Then t) → Steps z a s step Then
  by_quiet step h Then may x f = lands_by z a s (effect s.words step) Then (Quiet step) may refl (f (moved z a s (Quiet step)) (k.leave z a s (Quiet step) good may tt) ((k.follow z a s h good x).quiet step may))

  pub by_load : (c : Cell) (Then : Shared → Type 0) → Then s → Steps z a s (Load c) Then
  by_load c Then h = lands_still z a s s.words Then refl h
