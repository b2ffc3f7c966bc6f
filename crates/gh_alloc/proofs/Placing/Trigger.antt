-- Where the making of an object tells that a cycle is to be asked for: by its stages.
use Rattle.std.proofs.Common.{arith}
use Rattle.gh_alloc.specs.Trigger.{AnObjectAsksAtTheTrigger}

pub asks_at_the_trigger : AnObjectAsksAtTheTrigger
asks_at_the_trigger = record { asks_there = grind arith; compares = grind arith; asks_then = grind arith; compares_then = grind arith }
