-- What every list says, by what holds after it: outside of marking by the coordinator's stage, and while a cycle is marked by what is known of the heap.
use Rattle.std.proofs.Common.{◌≡◌, ℕ, sym, ap, ◌∙◌, List, arith}
use Rattle.gh_law.proofs.Vocabulary.{AllStands, AllWereAsked, AllWereOpened, AnswersAsEver, Arena, arena, Awaits, Cell, Coordinating, CoordStage, Done, Entry, first_words, HasState, HeapIsCounted, HoldsAfter, HoldsAt, IsAsItShould, IsLed, IsTelling, ListsKnown, ListStands, named, NoneMeansNoRoom, Op, PhasesStand, processor_at, ScansOnce, Setup, SpansStand, stand_apart, stands_for, StepsWithin, SweepsStand, Tell, TellStage, those, TiesShowWhatThereIs, view, Words, words}
use Rattle.gh_holds.specs.Objects.{CountsAreSaid, IsTold}
use Rattle.gh_holds.specs.ActorsHold as hold
use Rattle.gh_lists.specs.Counts.{CountsPlainly}
use Rattle.gh_law.proofs.AllActors.Pending.{none_unacted}

-- What is shown of a list beside what holds after it.
pub record Shown (setup : Setup) (es : List (Entry Op)) : Type 0 where
  pub no_room : NoneMeansNoRoom setup es
  pub awaits : Awaits setup es
  pub within : StepsWithin setup es
  pub asked : AllWereAsked setup es
  pub opened : AllWereOpened setup es
  pub numbers : (c : Coordinating) → IsLed setup es c → CountsPlainly (those setup) setup.pacing.room es c
  pub scans : ScansOnce setup es
  pub sweeps : SweepsStand setup es
  pub spans : SpansStand setup.shapes setup.layout (words setup es)
  pub phases : PhasesStand setup es
  pub bytes : HeapIsCounted setup es

module _ (setup : Setup) (es : List (Entry Op)) (lists : ListsKnown setup) (now : HoldsAfter setup es) where
  abbrev z : Arena
  z = arena setup

  abbrev here : HasState setup es
  here = now.has

  answered : (a : ℕ) → IsAsItShould setup es here.state.heap a (processor_at setup es a) → AnswersAsEver z (first_words setup) a es
  answered a is = record {
    pending = is.pending;
    answers = is.answers;
    resting = λ idle. lists.known.runs.rests z a (view here.state.heap) (processor_at setup es a) is.pending idle is.fine;
    unacted = λ o to_act. none_unacted z a (view here.state.heap) (processor_at setup es a) is.pending (processor_at setup es a).task o to_act is.fine.task;
  }

  cleared : (k : HasState setup es) (at : Cell) → k.state.heap.words at ≡ 0 → words setup es at ≡ 0
  cleared k at none = ap (λ (w : Words). w at) (sym k.of_list.words_are) ∙ none

  module _ (c : Coordinating) (led : IsLed setup es c) where
    stands : ListStands z (first_words setup) es
    stands = record {
      stands = stands_for setup lists.limits lists.known es here;
      answers = λ a lt. answered a (here.of_list.processors a lt);
      full = (now.holds c led).was.full;
    }

    -- what the words of the counts say where a cycle is told
    live_so : hold.IsTold setup es c → words setup es Cell.Live ≡ c.live
    live_so k =
        let there = k.quiet.has.state in
        let all_told = lists.known.swept z there k.quiet.has.good k.quiet.over (lists.known.walkers.all z there k.quiet.has.good k.quiet.passed) in
        ap (λ (w : Words). w Cell.Live) (sym k.quiet.has.of_list.words_are) ∙ all_told.live ∙ sym k.live

    live_told : (p : TellStage) → IsTelling setup es c p → words setup es Cell.Live ≡ c.live
    live_told TellStage.StoreTrigger h = live_so h
    live_told TellStage.StoreSwept h = live_so h
    live_told TellStage.StorePhase h = live_so h
    live_told TellStage.Ended h = absurd h

    live_said : (p : CoordStage) → HoldsAt setup es c p → IsTold setup p → words setup es Cell.Live ≡ c.live
    live_said (Tell t) h told = live_told t.stage h
    live_said Done h told = live_so h
    live_said _ h told = absurd told

    said : CountsAreSaid setup es c
    said = grind (arith, cleared, live_said)

  pub all_stands : TiesShowWhatThereIs → (c : Coordinating) → IsLed setup es c → Shown setup es → AllStands setup es
  all_stands ties c led shown = record {
    stands = stands c led;
    no_room = shown.no_room;
    awaits = shown.awaits;
    within = shown.within;
    asked = shown.asked;
    opened = shown.opened;
    numbers = shown.numbers;
    objects = named setup lists.limits lists.known es here;
    apart = stand_apart setup lists.limits lists.known es here;
    frees = (now.holds c led).was.frees;
    frees_within_two = now.within_two;
    ends = (now.holds c led).was.ends;
    until = now.until;
    standing = now.so_far;
    scans = shown.scans;
    scanned = now.scanned;
    globals = now.globals;
    sweeps = shown.sweeps;
    spans = shown.spans;
    phases = shown.phases;
    drawn = now.drawn;
    shows = λ d too on. let is = now.drawn d too on in ties setup es is.cycle is.shared is.tied.of_heap;
    said = said;
    counts = λ d too. (now.holds d too).counted;
    heap_bytes = shown.bytes;
    last = now.left;
  }
