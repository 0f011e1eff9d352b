-- What the runner keeps from part to part and from read to read, and that it prints the transcript.
pub mod Waiting
pub mod Feeds
pub mod Answering
pub mod PrintedProof
pub mod Handing
pub mod Running
pub mod Uses
