-- Answers and refusals, as the rules count them (7.1).
pub mod Number
pub mod Reply
pub mod Refusal
