use Rattle.std.proofs.Common.{◌<◌, arith}
use Rattle.gh_world.proofs.Vocabulary.{Ask, cell_of, InRange, Layout, length_of, request, target}
use Rattle.gh_world.proofs.runner.Runner.advance.Goals as goal

target_below : (l : Layout) (a : Ask) → InRange l (cell_of a) → target (request l a) < length_of l
target_below l a h = grind arith

pub step-found-requires : goal.step-found-requires
step-found-requires c = rw (c.next.ensures.same, c.requires.long) (target_below c.args.layout.now _ c.next.ensures.within)
