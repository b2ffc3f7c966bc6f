-- Steps of the search for a slot beside marking: they are on the lock and on page words, or load. A slot that is found is to be marked before its object is made.
use Rattle.std.proofs.Common.{◌≡◌, ℕ, Bool, true, false, Option, Some, None, refl, sym, ap, subst, ◌∙◌, arith}
use Rattle.gh_mutator_heap.proofs.Vocabulary.{acted, acting, after_search, Answer, At, at_task, cache_span, cell_of, Cycle, EverValue, FillsNone, Found, from_nil, Hands, Heap, holding_only, is_mark, IsQuietInMarking, KnowsStacks, Layout, Mark, Marking, NoRoom, Op, Processor, refuses_behind_wait, searches, Seeking, Sets, StepsOn, TaskFacts, Together, Wanted}
use Rattle.gh_alloc.specs.Search as search
use Rattle.gh_cycle.specs.Deeds.{Rests}
use Rattle.gh_mutator_heap.proofs.Going.Known.{by_deed, fills_none, found_there, heap_then, Known, processor_then, StepAt, StepOf}

-- where it sweeps no span it writes no word which marking reads
quiet_at : (s : Marking) (l : Layout) (y : Seeking) → search.sweep_in y ≡ None → IsQuietInMarking s (search.asks l y)
quiet_at s l y none = grind arith

module _ (k : Known) (v : Wanted) (waited : Bool) (y : Seeking) (z : Cycle) (a : ℕ) (h : Heap) (s : Marking) (m : Processor) (pending : Option Answer) where
  abbrev here : Processor
  here = at_task m (searches v waited y)

  module _ (t : Together z a h s here pending) (l : StepOf z a h here pending) (on : m.poll.local.view.phase ≡ Mark) where
    abbrev n : ℕ
    n = found_there k z a h s here pending t l

    abbrev op_now : Op
    op_now = Op.New v.g v.d v.t

    abbrev Goes : Type 0
    Goes = StepsOn z a (heap_then k z a h s here pending t l) s (processor_then k z a h s here pending t l)

    -- the processor with what is cached, and behind the search, by what that has found
    abbrev cached : Processor
    cached = cache_span here v.sought (search.goes z.arena.layout y n).find.cached

    abbrev then : Option Found → Processor
    then o = after_search z.arena.shapes cached v waited (search.goes z.arena.layout y n) o

    abbrev Knows : Option Found → Type 0
    Knows o = (u : Marking) → Hands a u (holding_only m.poll.local.held) → KnowsStacks z a u (then o).poll.local.stacks (then o).poll.local.scanned → TaskFacts z a u (then o).poll (then o).task

    quiet : IsQuietInMarking s (search.asks z.arena.layout y)
    quiet = quiet_at s z.arena.layout y t.sweeps

    fills : FillsNone a s
    fills = fills_none a s (holding_only m.poll.local.held) refl t.facts.task_is.hands

    knows_at : (o : Option Found) → search.gives z.arena.layout y n ≡ o → Knows o → Knows (search.gives z.arena.layout y n)
    knows_at o e f = subst Knows (sym e) f

    rests : (o : Option Found) → search.gives z.arena.layout y n ≡ o → refuses_behind_wait waited o ≡ false → Knows o → Goes
    rests o e none f = by_deed k z a h s here pending t l Rests tt
        (ap (λ (x : Option Found). acted z.arena.shapes h.ever (acting (refuses_behind_wait waited x) op_now true)) e ∙ ap (λ (b : Bool). acted z.arena.shapes h.ever (acting b op_now true)) none)
        (quiet, fills) (λ u hands stacks. knows_at o e f u (hands (holding_only m.poll.local.held) t.facts.task_is.hands) stacks)

    refused : search.gives z.arena.layout y n ≡ Some NoRoom → waited ≡ true → Goes
    refused e last = by_deed k z a h s here pending t l (Sets v.g v.d EverValue.Nil) tt
        (ap (λ (x : Option Found). acted z.arena.shapes h.ever (acting (refuses_behind_wait waited x) op_now true)) e ∙ ap (λ (b : Bool). acted z.arena.shapes h.ever (acting (refuses_behind_wait b (Some NoRoom)) op_now true)) last)
        (quiet, fills, t.fine.task.wants.runs, t.fine.task.wants.register, from_nil)
        (λ u hands stacks. knows_at (Some NoRoom) e (nil waited last) u (hands (holding_only m.poll.local.held) t.facts.task_is.hands) stacks) where
          nil : (b : Bool) → b ≡ true → (u : Marking) → Hands a u (holding_only m.poll.local.held) → KnowsStacks z a u (after_search z.arena.shapes cached v b (search.goes z.arena.layout y n) (Some NoRoom)).poll.local.stacks (after_search z.arena.shapes cached v b (search.goes z.arena.layout y n) (Some NoRoom)).poll.local.scanned →
              TaskFacts z a u (after_search z.arena.shapes cached v b (search.goes z.arena.layout y n) (Some NoRoom)).poll (after_search z.arena.shapes cached v b (search.goes z.arena.layout y n) (Some NoRoom)).task
          nil b e u hands stacks = grind arith

    -- no cycle was waited for yet
    waits : (b : Bool) → b ≡ false → (u : Marking) → Hands a u (holding_only m.poll.local.held) → KnowsStacks z a u (after_search z.arena.shapes cached v b (search.goes z.arena.layout y n) (Some NoRoom)).poll.local.stacks (after_search z.arena.shapes cached v b (search.goes z.arena.layout y n) (Some NoRoom)).poll.local.scanned →
        TaskFacts z a u (after_search z.arena.shapes cached v b (search.goes z.arena.layout y n) (Some NoRoom)).poll (after_search z.arena.shapes cached v b (search.goes z.arena.layout y n) (Some NoRoom)).task
    waits false e u hands stacks = record { seat_is = t.facts.seat_is; between = record { stacks = stacks; number = t.facts.task_is.number; hands = hands } }
    waits true e u hands stacks = absurd (cc)

    no_room : search.gives z.arena.layout y n ≡ Some NoRoom → (b : Bool) → waited ≡ b → Goes
    no_room e true last = refused e last
    no_room e false first = rests (Some NoRoom) e (ap (λ (b : Bool). refuses_behind_wait b (Some NoRoom)) first) (waits waited first)

    refuses_at : (b : Bool) (at : ℕ) → refuses_behind_wait b (Some (At at)) ≡ false
    refuses_at true at = refl
    refuses_at false at = refl

    refuses_none : (b : Bool) → refuses_behind_wait b None ≡ false
    refuses_none true = refl
    refuses_none false = refl

    by : (o : Option Found) → search.gives z.arena.layout y n ≡ o → Goes
    by None e = rests None e (refuses_none waited) (λ u hands stacks. record { stacks = stacks; number = t.facts.task_is.number; hands = hands })
    by (Some (At at)) e = rests (Some (At at)) e (refuses_at waited at) (λ u hands stacks. record { marking = ap is_mark on; stacks = stacks; number = t.facts.task_is.number; hands = hands })
    by (Some NoRoom) e = no_room e waited refl

pub search_step : Known → (v : Wanted) (waited : Bool) (y : Seeking) → StepAt (searches v waited y)
search_step k v waited y z a h s m pending t kn l = by k v waited y z a h s m pending t l (kn refl) (search.gives z.arena.layout y (h.words (cell_of (search.asks z.arena.layout y)))) refl
