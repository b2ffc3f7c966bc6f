-- One entry more, outside of the marking of a cycle: by a processor, by a worker and by the coordinator, what holds then. And where a cycle begins.
use Rattle.std.proofs.Common.{◌≡◌, ℕ, ◌<◌, ◌≤◌, Bool, List, [], ◌∷◌}
use Rattle.gh_holds.proofs.Vocabulary.{acks_of, Actor, actors_after, Arena, arena, Coordinating, Entry, Given, Holds, IsBeginning, IsLed, Legal, ListsKnown, may_of, MayBegin, Op, Processor, setup_for, StepsByMoves, those, Wanted, WasMarked}
use Rattle.gh_coord.specs.Listing as coord
use Rattle.gh_worker.specs.Listing as worker
use Rattle.gh_holds.proofs.AllActors.Begins as begins_by
use Rattle.gh_holds.proofs.AllActors.BesideThen as marked
use Rattle.gh_holds.proofs.AllActors.LeadingSteps as leads_by
use Rattle.gh_holds.proofs.AllActors.Opening as opening
use Rattle.gh_holds.proofs.AllActors.Processing as processing
use Rattle.gh_holds.proofs.AllActors.Workers as workers

module _ (given : Given) (wanted : Wanted) (lists : ListsKnown (setup_for given)) where
  abbrev pub may : ℕ → List (Entry Op) → Op → Bool
  may = may_of given.shapes given.layout given.counts

  abbrev pub z : Arena
  z = arena (setup_for given)

  abbrev pub Lawful : List (Entry Op) → Type 0
  Lawful es = Legal (those (setup_for given)) es

  abbrev pub Led : List (Entry Op) → Coordinating → Type 0
  Led es c = IsLed (setup_for given) es c

  abbrev pub at : List (Entry Op) → ℕ → Actor
  at es a = actors_after z given.pacing may es a

  abbrev pub H : List (Entry Op) → Coordinating → Type 0
  H es c = Holds (setup_for given) es c

  -- each start of the list where a cycle was marked is as the law of the end of marking says
  abbrev pub Was : List (Entry Op) → Type 0
  Was es = WasMarked z given.pacing may es

  -- before the first step
  pub opens : (c : Coordinating) → Led [] c → H [] c
  opens c led = opening.opens (setup_for given) lists.known c led

  module _ (e : Entry Op) (es : List (Entry Op)) (legal : Lawful (e ∷ es)) (was : Was es) where
    pub by_processor : (c : Coordinating) (m : Processor) → Led es c → e.actor < given.layout.procs → at es e.actor ≡ Actor.Runs m → H es c → H (e ∷ es) c
    by_processor c m led lt is h = processing.by_processor given wanted lists e es legal was c led lt h

    pub by_worker : (c : Coordinating) (w : worker.Working) → Led es c → given.layout.procs ≤ e.actor → e.actor < acks_of given.layout → at es e.actor ≡ Actor.Marks w → H es c → H (e ∷ es) c
    by_worker c w led ge lt is h = workers.holds_on (setup_for given) lists e es legal c led lt w ge is h

    pub by_lead : (c : Coordinating) → Led es c → e.actor ≡ acks_of given.layout → Led (e ∷ es) (coord.goes given.layout c e.found) → H es c → H (e ∷ es) (coord.goes given.layout c e.found)
    by_lead c led is then h = leads_by.leads (setup_for given) lists e es was (record { legal = legal; lead = c; led = led; seat = is }) h

  -- where a cycle is about to begin
  pub begins : (es : List (Entry Op)) (c : Coordinating) → Lawful es → Led es c → IsBeginning c.stage → H es c → MayBegin z given.pacing may es c
  begins es c legal led b h = let r = begins_by.is_ready (setup_for given) lists es c legal led b c.stage b h.at in begins_by.may_begin (setup_for given) lists es c legal led b r.0 r.1 r.2

  -- while a cycle is marked
  pub polls : StepsByMoves z given.pacing may
  polls = marked.marked given wanted lists
