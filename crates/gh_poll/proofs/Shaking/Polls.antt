-- Each step of a poll is one of the handshake of a stop: by its stages.
use Rattle.std.proofs.Common.{◌≡◌, ℕ, ◌⊎◌, true, false, refl, ap, ◌∙◌, Option, Some, None, arith, is_none}
use Rattle.gh_poll.proofs.Vocabulary.{after_mark, after_resume, after_room, Ask, asks_at, Awake, by_phase, Cell, FindRoom, FromAwake, Gives, GivesSo, giving, GoesOnWithNothing, HasPlaces, Held, is_busy, IsPlace, IsQuietInHandshake, Layout, Load, LoadPhase, Marking, MarkingIsQuiet, marks_then, opening_fine, phase_of, poll_stage_of, poller_at, poller_of, Polling, polls_at, PollsInHandshake, PollsSoundAt, PollStage, Resumed, resumed, Resumes, Resuming, run_phase, RunPhase, SoundPoll, Stage, StageGoes, stops_then, WhatPollsRunIsQuiet}
use Rattle.gh_phase.specs.declared.resume.ResumeStage.TheVariants.{Acknowledge}
use Rattle.gh_phase.specs.Listing as resume
use Rattle.gh_phase.specs.ResumePlaces.{ResumesInHandshake}
use Rattle.gh_phase.specs.ResumePlaces as resumes
use Rattle.gh_phase.specs.Resumes.{IsStop}
use Rattle.gh_wbuf.specs.RoomFinding as room
use Rattle.gh_poll.specs.declared.poll.PollStage.TheVariants.{Giving, Ended}
use Rattle.gh_poll.specs.Give as give
use Rattle.gh_poll.specs.MarkStack as mark
use Rattle.gh_poll.specs.Poll.{goes, goes_at}
use Rattle.gh_poll.proofs.Giving.{goes_fine}

-- it is awake, of the same seat, and knows the same
record StaysAwake (p to : Polling) : Type 0 where
  sound : SoundPoll to
  seat : to.seat ≡ p.seat
  party : poller_of to ≡ record { seat = p.seat; view = p.local.view }
  stage : poll_stage_of to ≡ Awake

-- a step at this stage leads here
record Goes (found : ℕ) (p : Polling) (stage : PollStage) (to : Polling) : Type 0 where
  sound : SoundPoll to
  seat : to.seat ≡ p.seat
  goes : StageGoes found (poller_at p stage) (polls_at p stage) (asks_at stage) (poller_of to) (poll_stage_of to)

-- from one that is awake
record Awakes (found : ℕ) (ask : Ask) (p to : Polling) : Type 0 where
  sound : SoundPoll to
  seat : to.seat ≡ p.seat
  party : poller_of to ≡ record { seat = p.seat; view = p.local.view }
  leads : FromAwake found ask (poll_stage_of to)

stays_awake : (found : ℕ) (ask : Ask) (p to : Polling) → StaysAwake p to → Awakes found ask p to
stays_awake found ask p to a = record { sound = a.sound; seat = a.seat; party = a.party; leads = rw a.stage tt }

marks_awake : (l : Layout) (p : Polling) → HasPlaces p.local.cache → (phase : RunPhase) → p.local.view.phase ≡ phase → StaysAwake p (marks_then l p phase)
marks_awake l p has phase e = record { sound = grind arith; seat = grind arith; party = grind arith; stage = grind arith }

marked_awake : (p : Polling) → HasPlaces p.local.cache → p.local.view.phase ≡ RunPhase.Mark → (g : ℕ) (m : mark.StackMarking) (out : Option (Unit {0})) → StaysAwake p (after_mark p g m out)
marked_awake p has on g m out = grind arith

room_found : (p : Polling) → HasPlaces p.local.cache → p.local.view.phase ≡ RunPhase.Mark → (r : room.RoomFinding) (out : Option Held) → StaysAwake p (after_room p r out)
room_found p has on r out = grind arith

-- it goes on giving back, or acknowledges with nothing left
record Stops (p : Polling) (stops : ℕ) (to : Polling) : Type 0 where
  sound : SoundPoll to
  seat : to.seat ≡ p.seat
  party : poller_of to ≡ record { seat = p.seat; view = p.local.view }
  stage : (poll_stage_of to ≡ Gives stops) ⊎ (poll_stage_of to ≡ Resumes stops Acknowledge)

stops_so : (p : Polling) → HasPlaces p.local.cache → (g : give.Giving) (stops : ℕ) → GivesSo g g.stage → Stops p stops (stops_then p g stops)
stops_so p has g stops fine = grind arith

at_stop : (found stops : ℕ) (stage : Stage) → IsStop found stops → (stage ≡ Gives stops) ⊎ (stage ≡ Resumes stops Acknowledge) → FromAwake found (Load Cell.Phase) stage
at_stop found stops stage is h = grind arith

phases : (l : Layout) (found : ℕ) (p : Polling) → HasPlaces p.local.cache → (phase : Option RunPhase) → run_phase (phase_of found).phase ≡ phase → Awakes found (Load Cell.Phase) p (by_phase l p (phase_of found).stops phase)
phases l found p has None e =
    let s = stops_so p has (giving p) (phase_of found).stops (opening_fine p.seat p.local.view.generation p.local.cache p.local.held has) in
    record { sound = s.sound; seat = s.seat; party = s.party; leads = at_stop found (phase_of found).stops (poll_stage_of (stops_then p (giving p) (phase_of found).stops)) (record { stops = e; number_is = refl }) s.stage }
phases l found p has (Some phase) e = stays_awake found (Load Cell.Phase) p _ (marks_awake l p has p.local.view.phase refl)

awakes : (found : ℕ) (p : Polling) (stage : PollStage) (to : Polling) → poller_at p stage ≡ record { seat = p.seat; view = p.local.view } → polls_at p stage ≡ Awake → IsQuietInHandshake (asks_at stage) → Awakes found (asks_at stage) p to → Goes found p stage to
awakes found p stage to party awake q a = record { sound = a.sound; seat = a.seat; goes = rw (party, awake) (a.party, q, a.leads) }

-- it goes on after the stop
module _ (l : Layout) (h : ResumesInHandshake) (found : ℕ) (p : Polling) (has : HasPlaces p.local.cache) (r : resume.Resuming) (s : GoesOnWithNothing p.seat p.local r) where
  goes_so : StageGoes found (resumes.party_of r) (resumes.stage_of r) (resume.asks r) (resumes.party_of (resume.goes r found)) (resumes.stage_of (resume.goes r found))
  goes_so = (h.keeps l).goes r found tt s.busy

  seat_is : (resume.goes r found).seat ≡ p.seat
  seat_is = h.seat_stays r found ∙ s.seat_is

  ends_so : (out : Resumed) → resume.gives r found ≡ Some out → Goes found p (Resuming r) (marks_then l (resumed p out) out.view.phase)
  ends_so out e = record { sound = grind arith; seat = grind arith; goes = grind arith }

  resumes_so : (out : Option Resumed) → resume.gives r found ≡ out → Goes found p (Resuming r) (after_resume l p (resume.goes r found) out)
  resumes_so None e = record { sound = (has, record { seat_is = seat_is; busy = ap is_none e; no_span = s.no_span; no_buffer = s.no_buffer }); seat = refl; goes = goes_so }
  resumes_so (Some out) e = ends_so out e

module _ (q : WhatPollsRunIsQuiet) (m : MarkingIsQuiet) (h : ResumesInHandshake) (l : Layout) where
  gives_so : (found : ℕ) (p : Polling) → HasPlaces p.local.cache → (g : give.Giving) (stops : ℕ) → GivesSo g g.stage → Goes found p (Giving g stops) (stops_then p (give.goes g found) stops)
  gives_so found p has g stops fine =
      let s = stops_so p has (give.goes g found) stops (goes_fine g found fine) in
      record { sound = s.sound; seat = s.seat; goes = (s.party, q.gives_back g, s.stage) }

  goes_at_stage : (found : ℕ) (p : Polling) (stage : PollStage) → HasPlaces p.local.cache → PollsSoundAt p stage → is_busy stage ≡ true → Goes found p stage (goes_at l p stage found)
  goes_at_stage found p LoadPhase has s busy = awakes found p LoadPhase (goes_at l p LoadPhase found) refl refl tt (phases l found p has (run_phase (phase_of found).phase) refl)
  goes_at_stage found p (Giving g stops) has s busy = gives_so found p has g stops s
  goes_at_stage found p (Resuming r) has s busy = resumes_so l h found p has r s (resume.gives r found) refl
  goes_at_stage found p (Marking g x) has s busy = awakes found p (Marking g x) (goes_at l p (Marking g x) found) refl refl (q.marks_a_stack x) (stays_awake found (mark.asks x) p (goes_at l p (Marking g x) found) (marked_awake p has s g (mark.goes l x found) (mark.gives l x found)))
  goes_at_stage found p (FindRoom r) has s busy = awakes found p (FindRoom r) (goes_at l p (FindRoom r) found) refl refl (m.finds_room r) (stays_awake found (room.asks r) p (goes_at l p (FindRoom r) found) (room_found p has s (room.goes l r found) (room.gives l r found)))
  goes_at_stage found p Ended has s busy = absurd cc

  goes_on : (p : Polling) (found : ℕ) → SoundPoll p → is_busy p.stage ≡ true → Goes found p p.stage (goes l p found)
  goes_on p found s busy = goes_at_stage found p p.stage s.0 s.1 busy

ends_at : (p : Polling) (stage : PollStage) → is_busy stage ≡ false → IsPlace (poller_at p stage) (polls_at p stage) p.seat p.local
ends_at p stage e = grind arith

pub polls_in_handshake : WhatPollsRunIsQuiet → MarkingIsQuiet → ResumesInHandshake → PollsInHandshake
polls_in_handshake q m h = record {
  sound = λ seat local waits has. (has, tt);
  begins = λ seat local waits. (refl, refl);
  keeps = λ l. record { stays_sound = λ p found s busy. (goes_on q m h l p found s busy).sound; goes = λ p found s busy. (goes_on q m h l p found s busy).goes };
  seat_stays = λ l p found s busy. (goes_on q m h l p found s busy).seat;
  ends = λ p e. ends_at p p.stage e;
}
