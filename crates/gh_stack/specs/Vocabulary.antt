-- The names that several files of specs/ share.
pub use Rattle.gh_base.specs.declared.cell.Cell.TheVariants.{Scanned, Touch}
pub use Rattle.gh_base.specs.declared.layout.Layout.{Layout}
pub use Rattle.gh_base.specs.declared.limits.TheConstants.{REGISTERS}
pub use Rattle.gh_base.specs.declared.value.Value.{Value}
pub use Rattle.gh_stack.specs.declared.scan_stack.ScanStack.{ScanStack}
pub use Rattle.gh_stack.specs.declared.scan_stack.StackStage.{StackStage}
pub use Rattle.gh_stack.specs.declared.scan_stack.StackStage.TheVariants.{Ended, Shade, Store}
