-- What a step of a poll leaves: its heap and its seat, what it knows of the stack that it scans, and the notes.
use Rattle.std.proofs.Common.{◌≡◌, ◌≢◌, ℕ, ◌+◌, ◌<◌, ◌⊎◌, Bool, true, false, eqb, ltb, List, [], ◌∷◌, length, Option, Some, None, inl, inr, refl, sym, ap, subst, ◌∙◌, arith, slice_index, slice_index_or, slice_set}
use Rattle.std.proofs.lemmas.Bool.{eqb-true, ltb-false, ltb-true}
use Rattle.std.proofs.lemmas.List.{get_or-set_other, get_or-set_same, set_past, length-set}
use Rattle.gh_mutator_writes.proofs.Vocabulary.{Ask, Cell, found_on, Held, Layout, Local, MarkStackStage, nat_tests, Polling, PollStage, ResumeStage, RunPhase, ScansItsOwn, shaded_on, ShadesByWish, SoundScanAt, Value, WritesOf}
use Rattle.gh_base.specs.declared.pack.TheConstants.{END}
use Rattle.gh_phase.specs.Listing as resume
use Rattle.gh_shade.specs.Listing as shade
use Rattle.gh_stack.specs.Listing as stack
use Rattle.gh_wbuf.specs.RoomFinding as room
use Rattle.gh_poll.specs.declared.mark_stack.MarkStackStage.TheVariants.{Shading, FindRoom, Store, Ended}
use Rattle.gh_poll.specs.Give as give
use Rattle.gh_poll.specs.MarkStack as mark
use Rattle.gh_poll.specs.Poll.{after_mark, after_resume, after_room, asks_at, at_stage, by_phase, counted, due, goes_at, marks_then, scanned, scans, stops_then}
use Rattle.gh_poll.specs.Collecting.{phase_of, Resumed, run_phase, Shaded}
use Rattle.gh_mutator.specs.MarkVocabulary.{StackStage}
use Rattle.gh_base.specs.declared.cell.Ask.TheVariants.{Store as Stores}
use Rattle.gh_poll.specs.Due.{due_scans}
use Rattle.gh_mutator_writes.proofs.Writing.Routines.{gives_write}
use Rattle.gh_mutator_writes.proofs.Writing.Rows.{buffer_writes, OfHeap, OfMarking, room_writes, shade_writes}

-- no stack's word
abbrev pub NotStack : Cell → Type 0
NotStack (Cell.Scanned g) = ⊥
NotStack _ = Unit {0}

pub heap_not : OfHeap NotStack
heap_not = record { lock = tt; page = λ i. tt; alloc = λ i. tt; bitmap = λ i. tt; birth = λ i. tt; field = λ i. tt; global = λ i. tt }

pub marking_not : OfMarking NotStack
marking_not = record { mark = λ i. tt; buffer = λ i. tt; entry = λ i j. tt }

pub gives_not : (g : give.Giving) → WritesOf NotStack (give.asks g)
gives_not g = gives_write NotStack heap_not g g.stage (λ b e. buffer_writes NotStack marking_not b b.stage)

-- what is noted behind a step
pub record Noted (step : Ask) (before after : List ℕ) : Type 0 where
  pub as_many : length after ≡ length before
  pub notes : (g number : ℕ) → step ≡ Stores (Cell.Scanned g) number → g < length before → slice_index after g ≡ number
  pub keeps : (g : ℕ) → ((number : ℕ) → step ≢ Stores (Cell.Scanned g) number) → slice_index after g ≡ slice_index before g

pub told_noted : (g n : ℕ) (before : List ℕ) → Noted (Stores (Cell.Scanned g) n) before (slice_set before g n)
told_noted g n before = record { as_many = length-set before g n; notes = notes; keeps = λ h spared. get_or-set_other before g h n 0 (λ e. spared n (ap (λ (x : ℕ). Stores (Cell.Scanned x) n) (sym e))) } where
  notes : (h number : ℕ) → Stores (Cell.Scanned g) n ≡ Stores (Cell.Scanned h) number → h < length before → slice_index (slice_set before g n) h ≡ number
  notes h number is lt =
      let same : g ≡ h = cc in
      let told : n ≡ number = cc in
      subst (λ (x : ℕ). slice_index (slice_set before g n) x ≡ number) same (get_or-set_same before g n 0 (subst (λ (x : ℕ). x < length before) (sym same) lt) ∙ told)

-- What a step leaves; and where it notes nothing.
pub record Goes (l : Layout) (step : Ask) (p to : Polling) : Type 0 where
  pub seat : to.seat ≡ p.seat
  pub noted : Noted step p.local.scanned to.local.scanned
  pub scan : SoundScanAt l to to.stage

pub record Stays (l : Layout) (p to : Polling) : Type 0 where
  pub seat : to.seat ≡ p.seat
  pub scanned : to.local.scanned ≡ p.local.scanned
  pub scan : SoundScanAt l to to.stage

pub goes_by : (l : Layout) (step : Ask) (p to : Polling) → WritesOf NotStack step → Stays l p to → Goes l step p to
goes_by l step p to w s = grind arith

-- its stage is the same, and so is what it knows of the phase; a note is as it was, or that of an end
pub carried : (l : Layout) (p : Polling) (local : Local) → local.view ≡ p.local.view → ((g : ℕ) → (slice_index local.scanned g ≡ END) ⊎ (slice_index local.scanned g ≡ slice_index p.local.scanned g)) → (q : PollStage) → SoundScanAt l p q → SoundScanAt l (record p { local = local }) q
carried l p local e noted q s = grind arith

-- a goroutine that ends is noted so, and no other note changes
pub ended_noted : (xs : List ℕ) (g h : ℕ) → (slice_index (slice_set xs g END) h ≡ END) ⊎ (slice_index (slice_set xs g END) h ≡ slice_index xs h)
ended_noted xs g h = by (eqb h g) (ltb g (length xs)) refl refl where
  by : (same there : Bool) → eqb h g ≡ same → ltb g (length xs) ≡ there → (slice_index (slice_set xs g END) h ≡ END) ⊎ (slice_index (slice_set xs g END) h ≡ slice_index xs h)
  by true true e f = inl (subst (λ (x : ℕ). slice_index (slice_set xs g END) x ≡ END) (sym (eqb-true h g e)) (get_or-set_same xs g END 0 (ltb-true _ _ f)))
  by true false e f = inr (ap (λ (ys : List ℕ). slice_index ys h) (set_past xs g END (ltb-false _ _ f)))
  by false there e f = let differs : h ≢ g = grind (arith, nat_tests) in inr (get_or-set_other xs g h END 0 differs)

pub stays_so : (l : Layout) (p : Polling) → SoundScanAt l p p.stage → Stays l p p
stays_so l p s = record { seat = refl; scanned = refl; scan = s }

-- What a scan of a stack shades is what it wishes for.
abbrev GoesOn : StackStage → Type 0
GoesOn StackStage.Ended = ⊥
GoesOn _ = Unit {0}

first_goes_on : (register : ℕ) (values : List Value) → GoesOn (stack.first_reference register values)
first_goes_on register [] = tt
first_goes_on register (Value.Ref reference ∷ values) = tt
first_goes_on register (Value.Nil ∷ values) = first_goes_on (register + 1) values
first_goes_on register (Value.Int n ∷ values) = first_goes_on (register + 1) values

shaded_goes_on : (registers : List Value) (q : StackStage) → stack.is_waiting q ≡ true → GoesOn (stack.after_shade registers q)
shaded_goes_on registers q waits = grind (arith, first_goes_on)

by_wish : (l : Layout) (held : Option Held) (q : StackStage) → GoesOn q → ShadesByWish q (mark.by_wish l held (stack.wish_of q))
by_wish l held q on = grind arith

counted_stays : (l : Layout) (p : Polling) → Stays l p (counted p)
counted_stays l p = grind arith

scans_stay : (l : Layout) (p : Polling) → p.local.view.phase ≡ RunPhase.Mark → (out : Option ℕ) → due l p ≡ out → Stays l p (scans l p out)
scans_stay l p on None is = counted_stays l p
scans_stay l p on (Some g) is =
    let d = due_scans l p.seat p.waits p.local g is in
    record { seat = refl; scanned = refl; scan = record { there = d.there; own = d.own; marking = on; of = refl; cycle_is = refl; unscanned = λ number. d.unscanned; by_wish = by_wish l p.local.held (stack.shade_stage_from (slice_index_or p.local.stacks g []) 0) (first_goes_on 0 (slice_index_or p.local.stacks g [])) } }

marks_stay : (l : Layout) (p : Polling) (phase : RunPhase) → p.local.view.phase ≡ phase → Stays l p (marks_then l p phase)
marks_stay l p phase e = grind (arith, scans_stay)

stops_stay : (l : Layout) (p : Polling) (g : give.Giving) (stops : ℕ) → Stays l p (stops_then p g stops)
stops_stay l p g stops = grind arith

phases_stay : (l : Layout) (p : Polling) (stops : ℕ) (phase : Option RunPhase) → Stays l p (by_phase l p stops phase)
phases_stay l p stops phase = grind (arith, marks_stay, stops_stay)

resume_stays : (l : Layout) (p : Polling) (r : resume.Resuming) (out : Option Resumed) → Stays l p (after_resume l p r out)
resume_stays l p r out = grind (arith, marks_stay)

resume_not : (r : resume.Resuming) (q : ResumeStage) → WritesOf NotStack (resume.asks_at r q)
resume_not r q = grind arith

room_stays : (l : Layout) (p : Polling) (r : room.RoomFinding) (out : Option Held) → Stays l p (after_room p r out)
room_stays l p r out = grind arith

-- a stack is scanned
module _ (l : Layout) (p : Polling) (g : ℕ) (m : mark.StackMarking) (s : ScansItsOwn l p g m) (found : ℕ) where
  marks_on : (n : mark.StackMarking) → n.scan.goroutine ≡ m.scan.goroutine → n.scan.cycle ≡ m.scan.cycle → ShadesByWish n.scan.stage n.stage → Stays l p (at_stage p (PollStage.Marking g n))
  marks_on n same now wish = grind arith

  shades_on : (sh : shade.Shading) (out : Option Shaded) → stack.is_waiting m.scan.stage ≡ true → Stays l p (at_stage p (PollStage.Marking g (mark.after_shade l m sh out)))
  shades_on sh out waits = grind (arith, by_wish, marks_on, shaded_goes_on)

  finds_on : (sh : shade.Shading) (r : room.RoomFinding) (out : Option Held) → stack.is_waiting m.scan.stage ≡ true → Stays l p (at_stage p (PollStage.Marking g (mark.after_room m sh r out)))
  finds_on sh r out waits = grind arith

  -- the step of the scan itself
  pub scan_asks : m.stage ≡ Store → stack.asks m.scan ≡ Stores (Cell.Scanned g) p.local.view.begun
  scan_asks e = grind arith

  scanned_goes : m.stage ≡ Store → Goes l (stack.asks m.scan) p (counted (scanned p g m.held))
  scanned_goes e =
      let c = counted_stays l (scanned p g m.held) in
      record { seat = c.seat; noted = subst (λ (x : Ask). Noted x p.local.scanned (slice_set p.local.scanned g p.local.view.begun)) (sym (scan_asks e)) (told_noted g p.local.view.begun p.local.scanned); scan = c.scan }

  on : (n : mark.StackMarking) → mark.given n.stage ≡ None → Stays l p (at_stage p (PollStage.Marking g n)) → Stays l p (after_mark p g n (mark.given n.stage))
  on n goes s = subst (λ (o : Option (Unit {0})). Stays l p (after_mark p g n o)) (sym goes) s

  mark_goes : (q : MarkStackStage) → m.stage ≡ q → Goes l (mark.asks_at m q) p (after_mark p g (mark.goes_at l m q found) (mark.given (mark.goes_at l m q found).stage))
  mark_goes (Shading sh) e = goes_by l (shade.asks sh) p _ (shade_writes NotStack marking_not sh) (on _ (shaded_on l m (shade.goes sh found) (shade.gives sh found)) (shades_on (shade.goes sh found) (shade.gives sh found) (subst (λ (q : MarkStackStage). ShadesByWish m.scan.stage q) e s.by_wish)))
  mark_goes (FindRoom sh r) e = goes_by l (room.asks r) p _ (room_writes NotStack marking_not r) (on _ (found_on m sh (room.goes l r found) (room.gives l r found)) (finds_on sh (room.goes l r found) (room.gives l r found) (subst (λ (q : MarkStackStage). ShadesByWish m.scan.stage q) e s.by_wish)))
  mark_goes Store e = scanned_goes e
  mark_goes Ended e = absurd (subst (λ (q : MarkStackStage). ShadesByWish m.scan.stage q) e s.by_wish)

pub poll_goes : (l : Layout) (p : Polling) (q : PollStage) (found : ℕ) → SoundScanAt l p q → Goes l (asks_at q) p (goes_at l p q found)
poll_goes l p PollStage.LoadPhase found s = goes_by l _ p _ tt (phases_stay l p (phase_of found).stops (run_phase (phase_of found).phase))
poll_goes l p (PollStage.Giving g stops) found s = goes_by l (give.asks g) p _ (gives_not g) (stops_stay l p (give.goes g found) stops)
poll_goes l p (PollStage.Resuming r) found s = goes_by l (resume.asks r) p _ (resume_not r r.stage) (resume_stays l p (resume.goes r found) (resume.gives r found))
poll_goes l p (PollStage.Marking g m) found s = mark_goes l p g m s found m.stage refl
poll_goes l p (PollStage.FindRoom r) found s = goes_by l (room.asks r) p _ (room_writes NotStack marking_not r) (room_stays l p (room.goes l r found) (room.gives l r found))
poll_goes l p PollStage.Ended found s = goes_by l _ p _ tt (record { seat = refl; scanned = refl; scan = tt })
