-- What the stages of a deletion make of the state, and the verdict.
pub mod Stages
pub mod Verdict
