-- What the stages of a T do.
pub mod Stages
