-- What holds after every legal list of all actors: while a cycle is marked there is a state of marking, and what is said of the heap goes with it.
use Rattle.std.proofs.Common.{◌≡◌, ◌+◌, ◌^◌, ◌<◌, ◌≤◌, List, ◌∷◌, refl, subst, arith}
use Rattle.gh_holds.proofs.Vocabulary.{acks_of, Cell, Coordinating, CoordStage, CycleIsDrawn, Done, Entry, Given, GlobalsAreCounted, goes_then, HasState, Holds, HoldsAfter, HoldsAt, InCycles, is_drawn, IsBeginning, IsEnding, IsInCycle, IsMarking, IsStartOf, IsTelling, LeavesTheReached, led_then, legal_start, ListsKnown, MarksToTheEnd, may_of, Op, setup_for, those, Wanted, whole, Words, words}
use Rattle.gh_coord.specs.Handshake as leading
use Rattle.gh_holds.proofs.AllActors.Begins.{is_ready}
use Rattle.gh_marked.proofs.OneStep.ForTypes.{for_types}
use Rattle.gh_holds.proofs.AllActors.LeadingLast.{left_now}
use Rattle.gh_holds.proofs.AllActors.Scanned.{few_scanned}
use Rattle.gh_holds.proofs.AllActors.Steps as steps
use Rattle.gh_holds.proofs.AllActors.Top as top
use Rattle.gh_holds.proofs.AllActors.Until.{so_far, until}
use Rattle.gh_holds.proofs.AllActors.WithinTwo.{within_two}
use Rattle.gh_holds.specs.HasAt.{has_at}
use Rattle.gh_holds.proofs.AllActors.Tied.{is_tied}
use Rattle.gh_marked.specs.EveryCycle.{EveryCycleIsMarked, EveryGlobalIsCounted}

module _ (given : Given) (wanted : Wanted) (lists : ListsKnown (setup_for given)) (marks : EveryCycleIsMarked) (counted : EveryGlobalIsCounted) where
  abbrev Lawful : List (Entry Op) → Type 0
  Lawful = steps.Lawful given wanted lists

  abbrev Led : List (Entry Op) → Coordinating → Type 0
  Led = steps.Led given wanted lists

  -- while a cycle is marked
  marked : (es : List (Entry Op)) (c : Coordinating) → Lawful es → Led es c → leading.Marks c.stage → MarksToTheEnd (steps.z given wanted lists) given.pacing (may_of given.shapes given.layout given.counts) es c
  marked es c legal led on = marks (steps.z given wanted lists) given.pacing (may_of given.shapes given.layout given.counts) lists.limits (steps.polls given wanted lists) (top.knows_heap given wanted lists) es c legal led on

  is_marking : (es : List (Entry Op)) (c : Coordinating) → Lawful es → Led es c → leading.Marks c.stage → IsMarking (setup_for given) es
  is_marking es c legal led on = let m = (marked es c legal led on).marking in record { cycle = m.cycle; shared = m.shared; known = m.known }

  -- and at each start where one was marked
  was_marked : (es : List (Entry Op)) → Lawful es → steps.Was given wanted lists es
  was_marked es legal start c of led on = marked start c (legal_start (those (setup_for given)) start es of legal) led on

  holds : (es : List (Entry Op)) → Lawful es → (c : Coordinating) → Led es c → Holds (setup_for given) es c
  holds es legal c led = top.holds given wanted lists es legal (was_marked es legal) c led

  has : (es : List (Entry Op)) → Lawful es → HasState (setup_for given) es
  has es legal =
      let x = led_then (setup_for given) es in
      has_at (setup_for given) es x.lead x.lead.stage (goes_then (setup_for given) es x.lead x.led_by) (λ on. is_marking es x.lead legal x.led_by on) (holds es legal x.lead x.led_by).at

  -- where the coordinator tells that a cycle is swept, it has begun
  cycle_at : (es : List (Entry Op)) (c : Coordinating) (p : CoordStage) → IsTelling p → HoldsAt (setup_for given) es c p → IsInCycle (setup_for given) es c.begun
  cycle_at es c p is h = grind arith

  in_cycles : InCycles (setup_for given)
  in_cycles es c legal led telling = cycle_at es c c.stage telling (holds es legal c led).at

  -- and what is left once all is over
  left : (es : List (Entry Op)) → Lawful es → (c : Coordinating) → Led es c → Holds (setup_for given) es c → c.stage ≡ Done → LeavesTheReached (setup_for given) es c
  left es legal c led h is = left_now (setup_for given) lists es legal c led is (subst (HoldsAt (setup_for given) es c) is h.at) h.was.ends

  -- The cursor of globals: its word does not begin anew while a cycle is marked; it is 0 where one begins, and past the globals where its marking ends.

  cursor_small : (es : List (Entry Op)) (c : Coordinating) → Lawful es → Led es c → leading.Marks c.stage → words (setup_for given) es Cell.Gcur + 1 < 2 ^ 64
  cursor_small es c legal led on = let m = (marked es c legal led on).marking in subst (λ (w : Words). w Cell.Gcur + 1 < 2 ^ 64) m.is.words_are (wanted.small m.cycle m.shared m.good)

  cursor_clear : (es : List (Entry Op)) (c : Coordinating) → Lawful es → Led es c → IsBeginning c.stage → words (setup_for given) es Cell.Gcur ≡ 0
  cursor_clear es c legal led at_first = (is_ready (setup_for given) lists es c legal led at_first c.stage at_first (holds es legal c led).at).1

  cursor_passed : (e : Entry Op) (es : List (Entry Op)) (c : Coordinating) → Lawful (e ∷ es) → Led es c → e.actor ≡ acks_of given.layout → IsEnding c.stage → given.layout.globals ≤ words (setup_for given) es Cell.Gcur
  cursor_passed e es c legal led seat ending =
      let x = led_then (setup_for given) (e ∷ es) in
      ((holds (e ∷ es) legal x.lead x.led_by).was.ends e es c.begun (whole (e ∷ es)) (record { lead = c; led = led; by = seat; stage = ending; cycle = refl })).cursor

  globals : (es : List (Entry Op)) → Lawful es → (c : Coordinating) → Led es c → GlobalsAreCounted (setup_for given) es c
  globals es legal c led = counted (setup_for given) lists.few (record { small = cursor_small; clear = cursor_clear; passed = cursor_passed }) es c legal led

  drawn : (es : List (Entry Op)) (c : Coordinating) → Lawful es → Led es c → leading.Marks c.stage → CycleIsDrawn (setup_for given) es c
  drawn es c legal led on =
      let m = marked es c legal led on in
      let k = m.marking in
      is_drawn (setup_for given) lists.known.drawn k.cycle es c k.shared k.is (is_tied (setup_for given) lists.known es c k) m.ends (k.known.drawn 0)

  pub held : (es : List (Entry Op)) → Lawful es → HoldsAfter (setup_for given) es
  held es legal =
      let x = led_then (setup_for given) es in
      let was = (holds es legal x.lead x.led_by).was in
      let states : (start : List (Entry Op)) → IsStartOf start es → HasState (setup_for given) start = λ start of. has start (legal_start (those (setup_for given)) start es of legal) in
      record {
        has = has es legal;
        holds = λ c led. holds es legal c led;
        begun = λ c led telling. in_cycles es c legal led telling;
        left = λ c led done. left es legal c led (holds es legal c led) done;
        marking = λ c led on. is_marking es c legal led on;
        drawn = λ c led on. drawn es c legal led on;
        so_far = λ c led on. so_far (setup_for given) lists es legal states c led on (marked es c legal led on);
        scanned = few_scanned (setup_for given) lists es legal (was_marked es legal);
        globals = globals es legal;
        until = until (setup_for given) lists es legal states was.ends;
        within_two = within_two given wanted lists has in_cycles es legal was.frees;
        types = for_types given wanted lists has es legal;
      }
