-- What the parts of K and of S do.
pub mod Verdicts
pub mod Lines
pub mod Deletes
pub mod Closing
