-- The scan of a stack goes on until its step.
use Rattle.std.proofs.Common.{◌≡◌, ℕ, ◌+◌, true, List, [], ◌∷◌, Some, None, refl, arith}
use Rattle.gh_poll.proofs.Vocabulary.{after_shade, first_reference, goes_on, is_waiting, opening, StackScan, StackStage, told_shaded, Value, wish_of}
use Rattle.gh_stack.specs.Listing.{is_busy}

pub first_going : (i : ℕ) (values : List Value) → goes_on (first_reference i values) ≡ true
first_going i [] = refl
first_going i (Value.Ref r ∷ values) = refl
first_going i (Value.Nil ∷ values) = first_going (i + 1) values
first_going i (Value.Int n ∷ values) = first_going (i + 1) values

pub begins_going : (goroutine cycle : ℕ) (registers : List Value) → goes_on (opening goroutine cycle registers).stage ≡ true
begins_going goroutine cycle registers = grind (arith, first_going)

told_at : (registers : List Value) (stage : StackStage) → is_waiting stage ≡ true → goes_on (after_shade registers stage) ≡ true
told_at registers stage e = grind (arith, first_going)

pub told_going : (s : StackScan) → is_waiting s.stage ≡ true → goes_on (told_shaded s).stage ≡ true
told_going s e = grind (arith, told_at)

pub stores_then : (stage : StackStage) → goes_on stage ≡ true → wish_of stage ≡ None → is_busy stage ≡ true
stores_then stage e f = grind arith

pub waits_then : (stage : StackStage) (r : ℕ) → wish_of stage ≡ Some r → is_waiting stage ≡ true
waits_then stage r f = grind arith
