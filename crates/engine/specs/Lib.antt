-- The calls that only look.
pub mod Looks
