-- Who waits for a cycle goes on once one that began later is swept.
pub mod Waiting
pub mod Swept
pub mod Waited
