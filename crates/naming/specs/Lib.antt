-- What the parts of N, U and M do.
pub mod Rows
pub mod Verdicts
