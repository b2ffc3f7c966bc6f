pub mod Acting
pub mod ActingActs
pub mod ActingRuns
pub mod Counting
pub mod Machines
pub mod MachinesAct
pub mod Plans
pub mod Vocabulary
