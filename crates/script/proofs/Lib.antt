-- Laws of scripts: for the functions' proofs, then the theorems over the definitions.
pub mod Runs
pub mod Letters
pub mod Names
pub mod Reading
pub mod Opening
pub mod Decimals
pub mod Printing
pub mod Digits
pub mod Saying
pub mod Commands
pub mod OneSpelling
pub mod LinesFacts
pub mod OnePass
pub mod Placed
pub mod Replies
pub mod Examples
