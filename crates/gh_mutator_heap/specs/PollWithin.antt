-- The scan of a stack asks for words that there are: what is known of its numbers, whatever it is told.
use Rattle.std.specs.Prelude.{◌<◌}
use Rattle.gh_mutator_heap.specs.Vocabulary.{IsHeld, Layout, seats_of, SoundRoomFinding}
use Rattle.gh_shade.specs.Sound.{SoundShading}
use Rattle.gh_poll.specs.declared.mark_stack.MarkStackStage.{MarkStackStage}
use Rattle.gh_poll.specs.declared.mark_stack.MarkStackStage.TheVariants.{Shading, FindRoom}
use Rattle.gh_poll.specs.MarkStack.{StackMarking}

abbrev pub MarkStackStageWithin : Layout → MarkStackStage → Type 0
MarkStackStageWithin l (Shading s) = SoundShading l s
MarkStackStageWithin l (FindRoom s r) = SoundShading l s × SoundRoomFinding l r
MarkStackStageWithin l _ = Unit {0}

pub record ScansWithin (l : Layout) (m : StackMarking) : Type 0 where
  pub seat : m.seat < seats_of l
  pub goroutine : m.scan.goroutine < l.goroutines
  pub held : IsHeld l m.held
  pub stage : MarkStackStageWithin l m.stage
