-- The names that several files of proofs/ share.
pub use Rattle.std.proofs.lemmas.Bool.{cases_lt}
pub use Rattle.std.specs.List.{AllByRecursion, filter, list_any}
unfoldable pub use Rattle.std.specs.List.{IsDistinct}
pub use Rattle.gh_base.specs.declared.layout.Layout.{Layout}
pub use Rattle.gh_base.specs.declared.machine.Entry.{Entry}
pub use Rattle.gh_base.specs.declared.operation.Op.{Op}
pub use Rattle.gh_base.specs.declared.shape.Shape.{Shape}
pub use Rattle.gh_class.specs.Classes.{IsClassOf, size_class_of, slot_words}
unfoldable pub use Rattle.gh_class.specs.Classes.{class_number, page_counts, pages_of, slot_of, slot_sizes, slots_of}
pub use Rattle.gh_class.specs.declared.class.SizeClass.TheVariants.{Large, Small}
pub use Rattle.gh_lines.specs.Text.{Outcome}
pub use Rattle.gh_lists.specs.Order.{acted_in, Answered, answered, before_step, ever_of, goroutine_is_over, has_left, in_range, order_of}
pub use Rattle.gh_lists.specs.Processors.{arena_of, has_more, is_of, IsAnothers, IsFullFor, IsPlacedAt, may_leave, may_run, NoRoomFor}
pub use Rattle.gh_lists.specs.Wants.{total}
pub use Rattle.gh_model.specs.Ever.{answer_of, Ever, ever_after, makes_object, sets_global, stores_value, takes_answer}
pub use Rattle.gh_mutator.specs.Deeds.{acted, deeds, meaning, OnlyPointsChange, processor_kind}
pub use Rattle.gh_mutator.specs.New.{sought_by, sought_for}
pub use Rattle.gh_plenty.specs.Plenty.{all_objects, HasPlenty, is_new_statement, NeverFull, objects_of}
pub use Rattle.gh_script.specs.Program.{Program, statement_as_op, statements_of, WellFormed}
pub use Rattle.gh_world.specs.Below.{AllStands}
pub use Rattle.gh_world.specs.Runs.{acted_by, Awaited, EveryListOfAScriptStands, FoundNoRoom, IsExplained, words_in}
pub use Rattle.gh_world.specs.World.{LaysOut, may_begin_of, setting_of, setup_of}
