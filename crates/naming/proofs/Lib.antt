-- Laws of names: their letters, the rows that hold them, the verdicts, what the calls answer and leave.
pub mod Spelling
pub mod Searching
pub mod Verdicts
pub mod Replies
pub mod Attaching
pub mod Finding
