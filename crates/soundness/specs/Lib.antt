-- Tests that ask less than the model's, and say the same of all records together.
pub mod Pairs
pub mod Pages
pub mod Waiting
pub mod Queue
