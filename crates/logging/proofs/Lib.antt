-- Laws that the proofs of the calls on the log and the free list use.
pub mod Births
pub mod NextRun
pub mod Told
pub mod Listing
pub mod Answers
