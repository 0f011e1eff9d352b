-- The calls on pages: laws behind their functions' proofs.
pub mod Killing
pub mod Answers
pub mod Looking
pub mod Wording
pub mod Erasing
pub mod Searching
pub mod Placing
pub mod Giving
