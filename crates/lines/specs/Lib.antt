-- What the parts of B and F do, and the part of S that seals.
pub mod Verdicts
pub mod Growing
