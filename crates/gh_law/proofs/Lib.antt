pub mod Vocabulary
pub mod Awaited
pub mod AllActors
pub mod HavingRoom
pub mod Crediting
pub mod Within
pub mod Named
