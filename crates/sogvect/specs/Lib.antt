-- What the functions for C and Rust promise: which call a letter asks for, and a reply of the store as a code and a count.
pub mod Letters
pub mod Coded
