-- Laws of T: how many blocks it frees, what it lists and logs, what its stages make of the tables, what it answers and leaves.
pub mod Turns
pub mod Listing
pub mod Logging
pub mod Ending
pub mod Answers
