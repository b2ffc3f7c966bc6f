-- Where an entry of a processor says `full`, there was no room: a search that finds none does so by its rights, behind its wait; polls, waits and leaves say nothing of it, and in a stopped world nobody does.
use Rattle.std.proofs.Common.{◌≡◌, ◌<◌, true, sym, ap, subst, ◌∙◌, List, ◌∷◌, Option, Some, None}
use Rattle.gh_holds.proofs.Vocabulary.{Act, Actor, actors, acts, Arena, arena, Ask, asks, asks_by, cell_of, deeds, done_at, Entry, FullAt, HasState, Heap, IsFullFor, IsHeapOf, Kind, Known, Legal, Op, Processor, processor_at, processor_kind, run_started, runs_are, Setup, started, state_of, those, view, Words, words}
use Rattle.gh_marked.proofs.OneStep.Refusals.{full_for, full_searches, goes_on, IsSearchedAgain, point_is}
use Rattle.gh_holds.proofs.AllActors.Still.{IsStill}

module _ (setup : Setup) (e : Entry Op) (es : List (Entry Op)) where
  abbrev z : Arena
  z = arena setup

  abbrev k : Kind Processor Op
  k = processor_kind setup.shapes setup.layout

  abbrev all : Kind Actor Op
  all = actors setup

  -- the point of the entry, if it is one
  abbrev point : Option Act
  point = done_at k (deeds setup.layout setup.shapes) es e

  -- where it says that there was no room, there was none
  abbrev pub RefusesRightly : Type 0
  RefusesRightly = (x : Act) → point ≡ Some x → x.full ≡ true → IsFullFor z e.actor (words setup es) x.op

  pub no_point_refuses : point ≡ None → RefusesRightly
  no_point_refuses none x is full = absurd (let no : None ≡ Some x = sym none ∙ is in cc)

  pub still_refuses : IsStill setup e es → RefusesRightly
  still_refuses still = no_point_refuses still.no_point

  module _ (legal : Legal (those setup) (e ∷ es)) where
    module _ (lt : e.actor < setup.layout.procs) where
      abbrev m : Processor
      m = processor_at setup es e.actor

      abbrev now : Processor
      now = started k e.begun m

      here : started all e.begun (state_of all e.actor es) ≡ Actor.Runs now
      here = ap (started all e.begun) (runs_are setup es e.actor lt) ∙ run_started setup e.begun m

      searched : (x : Act) → point ≡ Some x → x.full ≡ true → IsSearchedAgain now.task
      searched x is full = full_searches setup.layout now now.task e.found x (point_is (acts setup.layout now e.found) x is) full

      -- and a search sees what there is, whoever sweeps meanwhile
      module _ (known : Known) (has : HasState setup es) (sees : (y : Act) → acts setup.layout now (has.state.heap.words (cell_of (asks setup.layout now))) ≡ Some y → y.full ≡ true → FullAt z e.actor (view has.state.heap) now y.op) where
        abbrev h : Heap
        h = has.state.heap

        abbrev of : IsHeapOf setup es has.state.heap
        of = has.of_list

        pub heap_refuses : RefusesRightly
        heap_refuses x is full = subst (λ (w : Words). IsFullFor z e.actor w x.op) of.words_are (full_for z h has.good.heap of.others e.actor m x.op (subst (λ (p : Processor). FullAt z e.actor (view h) p x.op) now_is (sees x act full))) where
          now_is : now ≡ m
          now_is = ap (λ (o : Option Op). started k o m) (goes_on setup.shapes setup.layout e.begun m (searched x is full))

          asked : e.ask ≡ asks setup.layout now
          asked = legal.1.asks ∙ ap (asks_by setup.layout) here

          found : e.found ≡ h.words (cell_of (asks setup.layout now))
          found = legal.1.found ∙ (ap (λ (q : Ask). words setup es (cell_of q)) asked ∙ ap (λ (w : Words). w (cell_of (asks setup.layout now))) (sym of.words_are))

          act : acts setup.layout now (h.words (cell_of (asks setup.layout now))) ≡ Some x
          act = ap (acts setup.layout now) (sym found) ∙ point_is (acts setup.layout now e.found) x is
