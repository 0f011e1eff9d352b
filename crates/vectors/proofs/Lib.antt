-- What the loop over parts keeps.
pub mod Running
