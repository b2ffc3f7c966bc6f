-- The names that several files of specs/ share.
pub use Rattle.std.specs.List.{concat, filter, flat_map, position_or_len, range_with_len, slice_split}
pub use Rattle.gh_base.specs.declared.layout.Layout.{Layout}
pub use Rattle.gh_base.specs.declared.machine.Entry.{Entry}
pub use Rattle.gh_base.specs.declared.operation.Op.{Op}
pub use Rattle.gh_base.specs.declared.value.Answer.{Answer}
pub use Rattle.gh_ever.specs.Lists.{counts_of, ever_of, Lists}
pub use Rattle.gh_lines.specs.Text.{agrees_line, answers_by, has_line, Outcome, outcome_lines}
pub use Rattle.gh_replay.specs.declared.schedule.Turn.{Turn}
pub use Rattle.gh_replay.specs.declared.schedule.Until.{Until}
pub use Rattle.gh_replay.specs.declared.schedule.Until.TheVariants.{Marks, Steps, Without}
pub use Rattle.gh_script.specs.Program.{Program, WellFormed}
pub use Rattle.gh_world.specs.Runs.{acted_by, answers_given, IsExplained, IsRunSoFar}
pub use Rattle.gh_world.specs.Schedule.{behind, ended_after, IsInTurn, turn_from}
pub use Rattle.gh_world.specs.World.{actor_after, actors_of, AllDone, is_done, layout_of, LaysOut, marks_at, marks_by, marks_of, script_of, setting_of, State}
