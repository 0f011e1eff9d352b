-- What the entry points promise, and the words that a making writes.
pub mod Admitted
pub mod Called
pub mod Fresh
