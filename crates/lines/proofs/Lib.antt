-- Laws of B and F, and of the seal of S.
pub mod Verdicts
pub mod Growing
pub mod Answers
