-- The names that several files of proofs/ share.
pub use Rattle.std.proofs.lemmas.Bool.{cases_lt}
pub use Rattle.gh_base.specs.Routines.{EndsWith, GoesOn, told}
pub use Rattle.gh_base.specs.declared.pack.PageWord.{PageWord}
pub use Rattle.gh_base.specs.declared.pack.PageWord.TheVariants.{Free}
pub use Rattle.gh_central.specs.UnsweptPass.{is_unswept, sweep_in, Unswept}
pub use Rattle.gh_unswept.specs.FirstUnswept.{HasClear, HasNoneClear, IsWantedUnswept, Passes, Takes, TakesFirstUnswept}
pub use Rattle.gh_unswept.specs.Vocabulary.{Ask, Head, Layout, Load, Lost, once_swept, Page, page_of, pages_gone, SpanHead, steps_of, SweepEnd, Sweeping, Swept}
