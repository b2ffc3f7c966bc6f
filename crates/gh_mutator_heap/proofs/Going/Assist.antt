-- Steps of an assist beside marking: they are made of moves of marking alone, which change no stack. No slot is being filled.
use Rattle.std.proofs.Common.{◌≡◌, ℕ, Option, refl, subst, arith}
use Rattle.gh_mutator_heap.proofs.Vocabulary.{after_assist, Answer, Assisting, assists, at_task, cell_of, Cycle, FillsNone, Heap, Held, Keeps, KnowsStacks, MarkFacts, Marking, Name, Processor, stacks_last, StageFacts, Together, Wanted, Words}
use Rattle.gh_assist.specs.declared.assist.AssistStage.{AssistStage}
use Rattle.gh_assist.specs.Facts.{Facts}
use Rattle.gh_assist.specs.Listing as assist
use Rattle.gh_mutator.specs.MarkVocabulary.{Steps}
use Rattle.gh_mutator_heap.proofs.Going.Known.{by_keeping, Known, StepAt}

-- No slot is being filled.
module _ (z : Cycle) (a : ℕ) (u : Marking) where
  fills_at : (held : Option Held) (q : AssistStage) → StageFacts z a u held q → FillsNone a u
  fills_at held q x = grind arith

module _ (k : Known) (w : Wanted) (n : Name) (x : Assisting) (z : Cycle) (a : ℕ) (h : Heap) (s : Marking) (m : Processor) (pending : Option Answer) (t : Together z a h s (at_task m (assists w n x)) pending) where
  abbrev me : Processor
  me = at_task m (assists w n x)

  abbrev next : Assisting
  next = assist.goes z.arena.layout x (h.words (cell_of (assist.asks z.arena.layout x)))

  land : Steps z a s (assist.asks z.arena.layout x) (λ u. Keeps z a s u × Facts z a u next)
  land = subst (λ (v : Words). Steps z a s (assist.asks z.arena.layout x) (λ u. Keeps z a s u × Facts z a u (assist.goes z.arena.layout x (v (cell_of (assist.asks z.arena.layout x)))))) t.beside.words
      ((k.assists.own_step z a s x t.marking (k.objects z h s t.heap t.marking t.beside) t.facts.task_is.assists))

  -- the processor behind the step, by whether that ends the assist
  facts_by : (u : Marking) → KnowsStacks z a u m.poll.local.stacks m.poll.local.scanned → Facts z a u next → (out : Option (Unit {0})) → assist.given next ≡ out → MarkFacts z a u (after_assist me w n next out)
  facts_by u stacks f out e = grind arith

pub assist_step : Known → (w : Wanted) (n : Name) (x : Assisting) → StepAt (assists w n x)
assist_step k w n x z a h s m pending t kn l =
    let land = land k w n x z a h s m pending t in
    by_keeping k z a h s (at_task m (assists w n x)) pending t l refl land.then land.went land.words_are
    (λ o e. absurd (fills_at z a land.then (next k w n x z a h s m pending t).held (next k w n x z a h s m pending t).stage land.after.1.stage_is o e)) land.after.0
    (facts_by k w n x z a h s m pending t land.then (stacks_last z a s land.then m.poll.local.stacks m.poll.local.scanned land.after.0 t.facts.stacks) land.after.1 (assist.given (next k w n x z a h s m pending t)) refl)
