-- Numbers as arguments spell them.
pub mod Spelling
