-- Laws of letters, codes and counts.
pub mod Letters
pub mod Coding
pub mod Codes
