-- Laws of answers, and the case distinctions that every crate's proofs use.
pub mod Cases
pub mod Decided
