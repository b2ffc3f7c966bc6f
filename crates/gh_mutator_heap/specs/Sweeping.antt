-- A processor sweeps a span where its search for a slot does, and begins a sweep where it finds the head of an unswept span.
use Rattle.std.specs.Prelude.{◌≡◌, ℕ, true, List, Option, Some, None}
use Rattle.gh_mutator_heap.specs.Vocabulary.{Answer, Arena, asks, is_busy, Layout, Op, opening_processor, Processor, processor_kind, Shape, sweep_in, Sweeping, takes, View}
use Rattle.gh_sweep.specs.Running.{BeginsSweep, SweepsOn}
use Rattle.gh_mutator_heap.specs.Facts.{ProcessorFacts}

pub record ProcessorsRunSweeps : Type 0 where
  -- before its first step it runs none, and no operation begins with one
  pub at_first : (seat : ℕ) → sweep_in (opening_processor seat) ≡ None
  pub begun : (shapes : List Shape) (l : Layout) (m : Processor) (o : Op) → sweep_in m ≡ None → sweep_in ((processor_kind shapes l).begins m o) ≡ None
  -- while it runs a sweep its step is the sweep's, and it runs that on until it has ended
  pub on : (l : Layout) (shapes : List Shape) (m : Processor) (sw : Sweeping) → sweep_in m ≡ Some sw → is_busy sw.stage ≡ true → SweepsOn l (asks l) (takes l shapes) sweep_in m sw
  -- it begins one where it finds the head of a span with the number before the sweep generation
  pub begins : (z : Arena) (a : ℕ) (v : View) (m : Processor) (pending : Option Answer) (found : ℕ) (sw : Sweeping) → ProcessorFacts z a v m pending → sweep_in m ≡ None → sweep_in (takes z.layout z.shapes m found) ≡ Some sw → BeginsSweep v.generation (asks z.layout m) found sw
