use Rattle.std.proofs.Common.{◌≡◌, ◌<◌, ◌≤◌, length}
use Rattle.gh_replay.proofs.Vocabulary.{actors_of, answered_of, KnowsThoseGoing, layout_of, script_of, standing_at, total_of, vec_capacity}
use Rattle.gh_replay.proofs.Running.{Midway}
use Rattle.gh_replay.proofs.turns.run.Given as goal

abbrev pub invariant-loop-left : goal.invariant-loop-left
invariant-loop-left l = record {
  script : script_of l.world ≡ script_of l.initial.world;
  layout : layout_of l.world ≡ layout_of l.initial.world;
  midway : Midway l.world l.fn.schedule l.budget l.left (standing_at l.place) l.answers.items;
  within : l.place.at ≤ length l.place.list.items;
  few : answered_of l.world ≤ total_of (script_of l.world);
  next : l.place.next < actors_of l.world;
  kept : KnowsThoseGoing l.place l.kept.items l.world;
  room : total_of (script_of l.world) ≤ vec_capacity l.answers;
}

abbrev pub decreases-loop-left : goal.decreases-loop-left
decreases-loop-left l = l.left
