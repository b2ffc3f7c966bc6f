-- Steps of a load beside marking. At its point its register takes what the field held.
use Rattle.std.proofs.Common.{◌≡◌, ℕ, ◌<◌, Bool, true, false, cond, Option, Some, None, inl, inr, refl, ap, ◌∙◌, arith}
use Rattle.std.proofs.lemmas.Bool.{lt-ltb}
use Rattle.gh_mutator_heap.proofs.Vocabulary.{acted, acting, Answer, answer_of_value, asks, at_task, Birth, Bits, Cycle, Deed, Ever, ever_by, EverValue, Fault, Field, FillsNone, follows, from_field, hand_behind, has_field, Heap, holding_only, InHand, IsBetween, Load, load_answer, Loads, LoadStage, Marking, MeetsByDeed, Name, names, NilBase, op_of, Page, Polling, Processor, Sets, size_for, Step, StepsOn, takes_answer, Task, TaskFacts, Together, view}
use Rattle.gh_cycle.specs.Deeds.{Rests}
use Rattle.gh_mutator.specs.Load.{at_stage, step}
use Rattle.gh_mutator.specs.declared.step.Then.TheVariants.{Ends, GoesOn}
use Rattle.gh_mutator.specs.declared.step.Then.{Then}
use Rattle.gh_mutator_heap.proofs.Going.Known.{by_deed, EndsNone, fills_none, found_there, heap_then, Known, processor_then, StepAt, StepOf}
use Rattle.gh_mutator_heap.proofs.Going.Values.{between_then, pointing_scans, Quits, quits_rests}
use Rattle.gh_mutator_heap.proofs.Owning.Objects.{takes_told}

follows_facts : (z : Cycle) (a : ℕ) (u : Marking) (p : Polling) (then : Then Load) → IsBetween z a u p.local → TaskFacts z a u p (follows Task.Load then)
follows_facts z a u p then b = grind arith

page_quits : (x : Load) (b : Bool) → Quits (cond b (record { then = GoesOn (at_stage x Bits); sets = None; acts = false }) (record { then = Ends (Answer.Fault Fault.Field); sets = None; acts = true }))
page_quits x b = grind arith

module _ (k : Known) (x : Load) (q : LoadStage) (z : Cycle) (a : ℕ) (h : Heap) (s : Marking) (m : Processor) (pending : Option Answer) where
  abbrev here : Processor
  here = at_task m (Task.Load (at_stage x q))

  module _ (t : Together z a h s here pending) (l : StepOf z a h here pending) where
    abbrev found : ℕ
    found = found_there k z a h s here pending t l

    abbrev now : Step Load
    now = step z.arena.layout (at_stage x q) found

    abbrev Goes : Type 0
    Goes = StepsOn z a (heap_then k z a h s here pending t l) s (processor_then k z a h s here pending t l)

    fills : FillsNone a s
    fills = fills_none a s (holding_only m.poll.local.held) refl t.facts.task_is.hands

    by : (d : Deed) → EndsNone d → ((hand : InHand) → hand_behind d hand ≡ hand) → acted z.arena.shapes h.ever (acting now.acts (op_of x) false) ≡ ever_by z.arena h.ever d → MeetsByDeed z a h s (asks z.arena.layout here) d → Goes
    by d on same is meets = by_deed k z a h s here pending t l d on is meets
        (λ u hands stacks. follows_facts z a u _ now.then (between_then z a u m.poll x.g x.d now.sets stacks t.facts.task_is.number (rw (← same (holding_only m.poll.local.held)) (hands (holding_only m.poll.local.held) t.facts.task_is.hands))))

    rests : pending ≡ None → Quits now → MeetsByDeed z a h s (asks z.arena.layout here) Rests → Goes
    rests none quits meets = by Rests tt (λ hand. refl) (quits_rests z.arena.shapes h.ever (op_of x) pending l.after.does.after now (λ f. refl) none l.after.does.answers quits) meets

load_found : (z : Cycle) (e : Ever) (v : EverValue) (n : Name) (k : ℕ) → names v ≡ Some n → k < size_for z.arena.shapes e.type_of n → load_answer z.arena.shapes e v k ≡ answer_of_value (e.field n k)
load_found z e EverValue.Nil n k is few = absurd (cc)
load_found z e (EverValue.Int i) n k is few = absurd (cc)
load_found z e (EverValue.Ref o) n k is few = let same : o ≡ n = cc in rw (same, lt-ltb k (size_for z.arena.shapes e.type_of n) few) refl

at : Known → (x : Load) (q : LoadStage) → StepAt (Task.Load (at_stage x q))
at k x Page z a h s m pending t kn l = rests k x Page z a h s m pending t l t.fine.task.unanswered (page_quits x (has_field x.k (found k x Page z a h s m pending t l))) (tt, fills k x Page z a h s m pending t l)
at k x Bits z a h s m pending t kn l = rests k x Bits z a h s m pending t l t.fine.task.0.unanswered (inl refl) (tt, fills k x Bits z a h s m pending t l)
at k x (Field p) z a h s m pending t kn l = by k x (Field p) z a h s m pending t l (Sets x.g x.d (h.ever.field f.n x.k)) tt (λ hand. refl)
    (ap (λ (y : Answer). takes_answer h.ever x.g x.d y) (load_found z h.ever (h.ever.register x.g x.b) f.n x.k f.through.names t.fine.task.1) ∙ takes_told h.ever x.g x.d (h.ever.field f.n x.k)) (
      tt,
      fills k x (Field p) z a h s m pending t l,
      f.through.runs,
      f.register,
      from_field x.b f.n x.k f.through.register f.through.names t.fine.task.1 (pointing_scans z.arena.shapes t.shapes (h.ever.type_of f.n) x.k),
    ) where
      f : Loads z.arena a (view h) (at_stage x (Field p)) pending
      f = t.fine.task.0
at k x (Birth i) z a h s m pending t kn l = by k x (Birth i) z a h s m pending t l Rests tt (λ hand. refl) refl (tt, fills k x (Birth i) z a h s m pending t l)
at k x NilBase z a h s m pending t kn l = rests k x NilBase z a h s m pending t l t.fine.task.3 (inr (Fault.NilBase, refl, refl)) (tt, fills k x NilBase z a h s m pending t l)

pub load_step : Known → (x : Load) → StepAt (Task.Load x)
load_step k x = at k x x.stage
