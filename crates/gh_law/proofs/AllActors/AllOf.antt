-- After every legal list of all actors all stands, by what holds after it.
use Rattle.std.proofs.Common.{List}
use Rattle.gh_law.proofs.Vocabulary.{AllStands, Coordinating, Entry, Given, HasState, Holds, HoldsAfter, InCycles, IsLed, IsMarking, led_then, Legal, ListsKnown, Op, setup_for, SlotsAreRead, SpansStand, those, TiesShowWhatThereIs, words}
use Rattle.gh_coord.specs.Handshake as leading
use Rattle.gh_law.proofs.AllActors.Asked.{all_asked, all_opened}
use Rattle.gh_law.proofs.AllActors.HeapBytes.{heap_bytes}
use Rattle.gh_law.proofs.AllActors.NoRoom.{none_means_no_room}
use Rattle.gh_law.proofs.AllActors.OwnedSpans.{one_of_each, owners_stand}
use Rattle.gh_law.proofs.AllActors.Phases.{phases_stand}
use Rattle.gh_law.proofs.AllActors.Saying.{all_stands}
use Rattle.gh_law.proofs.AllActors.Scans.{scans_once}
use Rattle.gh_law.proofs.AllActors.SweepMarks.{sweeps_stand}
use Rattle.gh_law.proofs.Awaited.Waited.{awaits}
use Rattle.gh_law.proofs.Within.Actors.{steps_within}

module _ (given : Given) (slots : SlotsAreRead) (ties : TiesShowWhatThereIs) (lists : ListsKnown (setup_for given))
    (held : (es : List (Entry Op)) → Legal (those (setup_for given)) es → HoldsAfter (setup_for given) es) where
  abbrev Lawful : List (Entry Op) → Type 0
  Lawful es = Legal (those (setup_for given)) es

  has : (es : List (Entry Op)) → Lawful es → HasState (setup_for given) es
  has es legal = (held es legal).has

  holds : (es : List (Entry Op)) → Lawful es → (c : Coordinating) → IsLed (setup_for given) es c → Holds (setup_for given) es c
  holds es legal c led = (held es legal).holds c led

  in_cycles : InCycles (setup_for given)
  in_cycles es c legal led telling = (held es legal).begun c led telling

  spans_stand : (es : List (Entry Op)) → Lawful es → SpansStand given.shapes given.layout (words (setup_for given) es)
  spans_stand es legal = record {
    types = (held es legal).types;
    owners = owners_stand (setup_for given) es (has es legal);
    owned = one_of_each (setup_for given) es (has es legal);
  }

  pub list_stands : (es : List (Entry Op)) → Lawful es → AllStands (setup_for given) es
  list_stands es legal =
      let x = led_then (setup_for given) es in
      let now = held es legal in
      let marking : leading.Marks x.lead.stage → IsMarking (setup_for given) es = λ on. now.marking x.lead x.led_by on in
      all_stands (setup_for given) es lists now ties x.lead x.led_by (record {
        no_room = none_means_no_room given lists has es legal;
        awaits = awaits (setup_for given) lists in_cycles es legal;
        within = steps_within given lists.good lists.limits lists.known es now.has;
        asked = all_asked (setup_for given) lists.known.writes lists.known.workers_write lists.keeps lists.wants es legal;
        opened = all_opened (setup_for given) lists.known.writes lists.known.workers_write lists.keeps lists.wants es legal;
        numbers = λ d led. lists.plainly es d legal led;
        scans = scans_once (setup_for given) lists has es legal;
        sweeps = sweeps_stand (setup_for given) lists.limits lists.known es x.lead legal x.led_by marking (now.holds x.lead x.led_by).at;
        spans = spans_stand es legal;
        phases = phases_stand (setup_for given) lists has holds es legal;
        bytes = heap_bytes (setup_for given) lists.known slots es now.has;
      })
