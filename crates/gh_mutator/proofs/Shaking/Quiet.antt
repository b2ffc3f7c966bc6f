-- What a processor runs while it is awake writes no word of the handshake: by its stages.
use Rattle.std.proofs.Common.{arith}
use Rattle.gh_mutator.proofs.Vocabulary.{Global, GlobalStage, IsQuietInHandshake, Layout, Load, LoadStage, MarkingIsQuiet, ProcessorIsQuiet, Store, StoreStage, Value}
use Rattle.gh_alloc.specs.Quiet.{AllocationIsQuiet}
use Rattle.gh_assist.specs.Quiet.{AssistsAreQuiet}
use Rattle.gh_mutator.specs.Global as global
use Rattle.gh_mutator.specs.Load as load
use Rattle.gh_mutator.specs.Store as store
use Rattle.gh_poll.specs.Quiet.{WhatPollsRunIsQuiet}

loads : (l : Layout) (x : Load) (stage : LoadStage) → IsQuietInHandshake (load.asks_at l x stage)
loads l x stage = grind arith

module _ (p : WhatPollsRunIsQuiet) (q : MarkingIsQuiet) (a : AllocationIsQuiet) (b : AssistsAreQuiet) where
  stores : (l : Layout) (held : Value) (x : Store) (stage : StoreStage) → IsQuietInHandshake (store.asks_at l held x stage)
  stores l held x stage = grind arith

  globals : (l : Layout) (held : Value) (x : Global) (stage : GlobalStage) → IsQuietInHandshake (global.asks_at l held x stage)
  globals l held x stage = grind arith

  pub is_quiet : ProcessorIsQuiet
  is_quiet = record { gives_back = p.gives_back; marks_a_stack = p.marks_a_stack; loads = grind arith; stores = grind arith; globals = grind arith; registers = grind arith; searches = grind arith; makes = grind arith; assists = grind arith }
